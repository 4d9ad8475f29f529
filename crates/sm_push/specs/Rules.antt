-- What the boxes at the top of a push body mean, each by the boxes before it: which one is read, which one is passed over,
-- and which one is refused, where and why. There is no state here: every rule looks back over the whole boxes that came.
use Rattle.std.specs.Prelude.{◌≡◌, ℕ, ◌+◌, ◌-◌, ◌^◌, min, Bool, true, false, not, ◌&&◌, ◌||◌, ◌==◌, nat_lt, nat_le, List, [], ◌∷◌, ◌++◌, length, take, find}
use Rattle.std.specs.Prelude.{codes, decimal, Option, Some, None, is_some, option_and_then}
use Rattle.std.specs.Prelude.{Result, Ok, Err, if◌then◌else◌}
use Rattle.std.specs.Option.{option_map, option_to_list}
use Rattle.sm_model.specs.declared.cause.Cause.{Cause}
use Rattle.sm_model.specs.declared.cause.Cause.TheVariants.{OpenEnded, BadBox, NoMdat, NoHeader, BoxTooLarge, UnknownTrack}
use Rattle.sm_model.specs.declared.cause.Refusal.{Refusal}
use Rattle.sm_model.specs.declared.run.Run.{Run}
use Rattle.sm_model.specs.declared.run.RawFragment.{RawFragment}
use Rattle.sm_model.specs.declared.header.Header.{Header}
use Rattle.sm_model.specs.declared.header.HeaderTrack.{HeaderTrack}
use Rattle.sm_push.specs.declared.state.TopBox.{TopBox}
use Rattle.sm_push.specs.declared.state.TopBox.TheVariants.{Moof, Mdat, Moov, Manifest}
use Rattle.sm_model.specs.Numbers.{number32_at}
use Rattle.sm_model.specs.Boxes.{box_of, head_len, box_len}
use Rattle.sm_model.specs.Frag.{Line, first_cause, moof_run, frag}
use Rattle.sm_model.specs.TrackId.{track_id}
use Rattle.sm_model.specs.Moov.{no_defaults}
use Rattle.sm_push.specs.Header.{header_of, track_with}
use Rattle.sm_model.specs.Items.{Given}
use Rattle.sm_model.specs.Items as items
use Rattle.sm_push.specs.PushHeads.{is, kind_sort, user_sort}
use Rattle.sm_push.specs.PushBoxes.{manifest_text, named}
use Rattle.sm_push.specs.Body.{Outcome}
use Rattle.sm_push.specs.Boxes.{bytes_of}

-- ---- sorts of boxes

-- a uuid box with room for a user type
abbrev pub has_user : List ℕ → Bool
has_user box = is (box_of box).kind (codes "uuid") && nat_le 16 ((box_of box).size - (box_of box).head)

-- a uuid box is of the sort of its user type, any other of that of its kind
unfoldable pub sort_of : List ℕ → TopBox
sort_of box = if has_user box then user_sort (take 16 (box_of box).body) else kind_sort (box_of box).kind

abbrev pub is_moof : TopBox → Bool
is_moof Moof = true
is_moof _ = false

abbrev pub is_mdat : TopBox → Bool
is_mdat Mdat = true
is_mdat _ = false

abbrev pub is_moov : TopBox → Bool
is_moov Moov = true
is_moov _ = false

abbrev pub is_manifest : TopBox → Bool
is_manifest Manifest = true
is_manifest _ = false

-- ---- the boxes before

-- the place behind them; 2^64 - 1 stands for all above
abbrev pub place_behind : List (List ℕ) → ℕ
place_behind before = min (length (bytes_of before)) (2 ^ 64 - 1)

-- the last of them, where it is a moof
unfoldable pub last_moof : List (List ℕ) → Option (List ℕ)
last_moof [] = None
last_moof (box ∷ []) = if is_moof (sort_of box) then Some box else None
last_moof (box ∷ other ∷ boxes) = last_moof (other ∷ boxes)

-- its place
abbrev pub place_of_last : List (List ℕ) → List ℕ → ℕ
place_of_last before moof = min (length (bytes_of before) - length moof) (2 ^ 64 - 1)

-- the first live server manifest box, and the first moov
unfoldable pub first_manifest : List (List ℕ) → Option (List ℕ)
first_manifest before = find (λ box. is_manifest (sort_of box)) before

unfoldable pub first_moov : List (List ℕ) → Option (List ℕ)
first_moov before = find (λ box. is_moov (sort_of box)) before

-- the header, once both are there
abbrev pub header_by_both : Option (List ℕ) → Option (List ℕ) → Option (Result Header Cause)
header_by_both (Some manifest) (Some moov) = Some (header_of (manifest_text manifest) (box_of moov).body)
header_by_both _ _ = None

abbrev pub header_said : List (List ℕ) → Option (Result Header Cause)
header_said before = header_by_both (first_manifest before) (first_moov before)

-- its tracks
abbrev pub tracks_said : Option (Result Header Cause) → List HeaderTrack
tracks_said None = []
tracks_said (Some (Ok header)) = header.tracks
tracks_said (Some (Err cause)) = []

-- the track that a number stands for before there is a header
abbrev pub numbered : ℕ → HeaderTrack
numbered id = record { id = id; stream = decimal id; bitrate = id; defaults = no_defaults }

-- the track of a track_ID: one of the header, and before there is a header the one that the number stands for
abbrev pub track_named : Option (Result Header Cause) → ℕ → Option HeaderTrack
track_named None id = Some (numbered id)
track_named (Some (Ok header)) id = track_with id header.tracks
track_named (Some (Err cause)) id = None

-- the track of a moof
abbrev pub track_of : List (List ℕ) → List ℕ → Option HeaderTrack
track_of before moof = option_and_then (track_named (header_said before)) (track_id moof)

-- ---- what the head of a box shows

-- a moof is read, and of the boxes of a header the first of each
abbrev pub is_read : List (List ℕ) → TopBox → Bool
is_read before Moof = true
is_read before Moov = not (is_some (first_moov before))
is_read before Manifest = not (is_some (first_manifest before))
is_read before _ = false

abbrev pub most_of_sort : TopBox → ℕ
most_of_sort Moof = 2097152
most_of_sort _ = 1048576

-- the limits are on boxes that are read; that on an mdat behind a moof counts its body
abbrev pub is_too_large : Bool → List (List ℕ) → TopBox → ℕ → ℕ → Bool
is_too_large true before sort head size = nat_lt 67108864 (size - head)
is_too_large false before sort head size = is_read before sort && nat_lt (most_of_sort sort) size

-- the causes that a head shows, by whether a moof stands before it, its sort, and what it says of its lengths
abbrev pub head_lines : Bool → Bool → List (List ℕ) → TopBox → ℕ → ℕ → List Line
head_lines behind headerless before sort head size =
    (behind && not (is_mdat sort), NoMdat)
    ∷ (not behind && (is_moof sort && not (is_some (header_said before) || headerless)), NoHeader)
    ∷ (is_too_large behind before sort head size, BoxTooLarge)
    ∷ []

-- the first cause that the head of the box in front shows; of a box that is cut its head is needed
abbrev pub head_cause : Bool → List (List ℕ) → List ℕ → Option Cause
head_cause headerless before bytes =
    first_cause (
    (number32_at 0 bytes == 0, OpenEnded)
    ∷ (nat_lt (box_len bytes) (head_len bytes), BadBox)
    ∷ head_lines (is_some (last_moof before)) headerless before (sort_of bytes) (head_len bytes) (box_len bytes)
    )

-- ---- what a whole box gives

abbrev pub refused_at : ℕ → Cause → Result (Option Given) Refusal
refused_at at cause = Err (record { at = at; cause = cause })

-- what a moof shows by itself, and then whether its track is known
abbrev pub moof_gives : ℕ → Result Run Cause → Option HeaderTrack → Result (Option Given) Refusal
moof_gives at (Err cause) track = refused_at at cause
moof_gives at (Ok run) None = refused_at at UnknownTrack
moof_gives at (Ok run) (Some track) = Ok None

-- the header, at the later of its two boxes
abbrev pub header_gives : ℕ → Option (Result Header Cause) → Result (Option Given) Refusal
header_gives at None = Ok None
header_gives at (Some (Err cause)) = refused_at at cause
header_gives at (Some (Ok header)) = Ok (Some (items.Header header.channel))

-- the fragment of a track; the place of a cause is that of the moof
abbrev pub fragment_of : ℕ → HeaderTrack → Result RawFragment Cause → Result (Option Given) Refusal
fragment_of at track (Err cause) = refused_at at cause
fragment_of at track (Ok raw) = Ok (Some (items.Frag raw.id (named track raw)))

abbrev pub fragment_gives : ℕ → List ℕ → List ℕ → Option HeaderTrack → Result (Option Given) Refusal
fragment_gives at moof mdat None = refused_at at UnknownTrack
fragment_gives at moof mdat (Some track) = fragment_of at track (frag track.defaults moof mdat)

-- a box that no moof stands before; one that is not read is passed over
abbrev pub top_gives : List (List ℕ) → List ℕ → TopBox → Result (Option Given) Refusal
top_gives before box Moof = moof_gives (place_behind before) (moof_run no_defaults box) (track_of before box)
top_gives before box sort = if is_read before sort then header_gives (place_behind before) (header_said (before ++ box ∷ [])) else Ok None

abbrev pub whole_gives : List (List ℕ) → List ℕ → Option (List ℕ) → Result (Option Given) Refusal
whole_gives before box None = top_gives before box (sort_of box)
whole_gives before box (Some moof) = fragment_gives (place_of_last before moof) moof box (track_of before moof)

-- what the head shows comes first
abbrev pub unless_head : ℕ → Option Cause → Result (Option Given) Refusal → Result (Option Given) Refusal
unless_head at (Some cause) gives = refused_at at cause
unless_head at None gives = gives

-- what a whole box gives behind these boxes: an item, nothing, or a refusal
abbrev pub box_means : Bool → List (List ℕ) → List ℕ → Result (Option Given) Refusal
box_means headerless before box = unless_head (place_behind before) (head_cause headerless before box) (whole_gives before box (last_moof before))

-- ---- a box that is cut

-- the head is there, and where the box has room for a user type that too
abbrev pub has_head : List ℕ → Bool
has_head bytes =
    nat_le 8 (length bytes)
    && (number32_at 0 bytes == 0 || (nat_le (head_len bytes) (length bytes) && (not (has_user bytes) || nat_le (head_len bytes + 16) (length bytes))))

abbrev pub refusal_at : ℕ → Option Cause → Option Refusal
refusal_at at cause = option_map (λ c. record { at = at; cause = c }) cause

-- the refusal of a box that is cut
abbrev pub cut_means : Bool → List (List ℕ) → List ℕ → Option Refusal
cut_means headerless before rest = if has_head rest then refusal_at (place_behind before) (head_cause headerless before rest) else None

-- ---- one body and the next

abbrev pub items_in : Result (Option Given) Refusal → List Given
items_in (Ok item) = option_to_list item
items_in (Err refusal) = []

abbrev pub refusal_in : Result (Option Given) Refusal → Option Refusal
refusal_in (Ok item) = None
refusal_in (Err refusal) = Some refusal

-- the new bytes give the items of the old ones, then this item, or this refusal
pub record Adds (old new : Outcome) (means : Result (Option Given) Refusal) : Type 0 where
  pub items : new.items ≡ old.items ++ items_in means
  pub refusal : new.refusal ≡ refusal_in means

-- the new bytes give the items of the old ones and no more, and this refusal, if it is one
pub record Stops (old new : Outcome) (means : Option Refusal) : Type 0 where
  pub items : new.items ≡ old.items
  pub refusal : new.refusal ≡ means
