-- Of which track of a channel an entry is, and which entries are valid.
use Rattle.std.specs.Prelude.{◌≡◌, ℕ, List, Option, None, Some, slice_get}
use Rattle.sm_model.specs.declared.track.Track.{Track}
use Rattle.sm_model.specs.declared.address.Address.{Address}
use Rattle.sm_model.specs.declared.entry.Entry.{Entry}
use Rattle.sm_model.specs.declared.entry.Entry.TheVariants.{Declare, Keep}
use Rattle.sm_model.specs.Fragments.{IsValid}
use Rattle.sm_model.specs.Channels.{IsChannel}
use Rattle.sm_model.specs.Entries.{address_of}

-- the track at a place of a channel is the address's
pub record IsPlaceOf (channel : List Track) (a : Address) (place : ℕ) : Type 0 where
  pub track : Track
  pub there : slice_get channel place ≡ Some track
  pub stream : track.name ≡ a.stream
  pub bitrate : track.bitrate ≡ a.bitrate

-- a valid channel, or a valid fragment
abbrev pub IsValidEntry : Entry → Type 0
IsValidEntry (Declare tracks) = IsChannel tracks
IsValidEntry (Keep f) = IsValid f

-- a fragment is of a track of the channel
abbrev pub HasPlace : Option (List Track) → Entry → Type 0
HasPlace channel (Declare tracks) = Unit {0}
HasPlace None (Keep f) = ⊥
HasPlace (Some channel) (Keep f) = (place : ℕ) × IsPlaceOf channel (address_of f) place
