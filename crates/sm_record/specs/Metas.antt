-- What a body of a fragment shows in front.
use Rattle.std.specs.Prelude.{◌≡◌, ℕ, ◌&&◌, ◌||◌, ◌==◌, nat_le, List, length, slice_index, Option, Some, None, if◌then◌else◌}
use Rattle.sm_model.specs.declared.track.Track.{Track}
use Rattle.sm_model.specs.declared.fragment.Fragment.{Fragment}
use Rattle.sm_model.specs.Entries.{address_of}
use Rattle.sm_record.specs.Places.{IsPlaceOf}
use Rattle.sm_model.specs.Numbers.{number32_at, number64_at}
use Rattle.sm_record.specs.declared.meta.Meta.{Meta}

-- the numbers behind the first byte, where that is a fragment's in either version and they are all there
unfoldable pub meta_of : List ℕ → Option Meta
meta_of body =
    if nat_le 21 (length body) && (slice_index body 0 == 0x02 || slice_index body 0 == 0x12)
    then Some (record { track = number32_at 1 body; time = number64_at 5 body; duration = number64_at 13 body })
    else None

-- it is the fragment's, whose track stands at that place of the channel
pub record IsMetaOf (channel : List Track) (f : Fragment) (m : Meta) : Type 0 where
  pub of : IsPlaceOf channel (address_of f) m.track
  pub time : m.time ≡ f.time
  pub duration : m.duration ≡ f.duration
