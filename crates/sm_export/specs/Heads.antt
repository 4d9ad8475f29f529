-- The header of an input: its shortest front that has one.
use Rattle.std.specs.Prelude.{◌≡◌, ◌<◌, ◌≤◌, ℕ, Bool, true, false, List, ◌∷◌, [], ◌++◌, length, take, Option, Some, None, IsSome}
use Rattle.sm_model.specs.declared.cause.Cause.TheVariants.{NoHeader}
use Rattle.sm_model.specs.declared.cause.Refusal.{Refusal}
use Rattle.sm_model.specs.declared.track.Track.{Track}
use Rattle.sm_model.specs.declared.item.Item.{Item}
use Rattle.sm_model.specs.declared.item.Item.TheVariants as items
use Rattle.sm_model.specs.Items.{Given, Header, Frag}
use Rattle.sm_push.specs.Body.{body, body_end}
use Rattle.sm_push.specs.Header.{id_for}
use Rattle.sm_export.specs.declared.head.Head.{Head as HeadRead}

abbrev pub is_header : Item → Bool
is_header (items.Header channel) = true
is_header (items.Frag fragment) = false

-- the channel of what was found
abbrev pub channel_in : Option Item → Option (List Track)
channel_in None = None
channel_in (Some (items.Header channel)) = Some channel
channel_in (Some (items.Frag fragment)) = None

-- the channel of the first header among the items
abbrev pub header_given : List Given → Option (List Track)
header_given [] = None
header_given (Header channel ∷ more) = Some channel
header_given (Frag id fragment ∷ more) = header_given more

-- ---- what an input is refused for

abbrev pub refusal_or : Option Refusal → Option (List Track) → ℕ → Option Refusal
refusal_or (Some r) header size = Some r
refusal_or None (Some channel) size = None
refusal_or None None size = Some (record { at = size; cause = NoHeader })

-- the refusal of a whole input: the push's own, else that it has no header, at its length
abbrev pub input_refusal : List ℕ → Option Refusal
input_refusal b = refusal_or (body_end false b) (header_given (body false b).items) (length b)

-- ---- where the header stands

-- The shortest front that has a header, which is of this channel and gives the quality this track_ID, if it has it.
pub record IsHead (b front : List ℕ) (channel : List Track) (name : List ℕ) (bitrate : ℕ) (id : Option ℕ) : Type 0 where
  pub rest : List ℕ
  pub joined : b ≡ front ++ rest
  pub gives : header_given (body false front).items ≡ Some channel
  pub shortest : (p q : List ℕ) → front ≡ p ++ q → 0 < length q → header_given (body false p).items ≡ None
  pub id_is : id ≡ id_for name bitrate (body false front).header

abbrev pub HeadAt : List ℕ → List ℕ → ℕ → HeadRead → Type 0
HeadAt b name bitrate h = IsHead b (take h.len b) h.channel name bitrate h.id

-- ---- in which piece it comes

abbrev pub seen_by : Option (List Track) → ℕ → Option ℕ
seen_by None at = None
seen_by (Some channel) at = Some at

-- the piece that has the first header is the one before, else the one at this place, if these items of it have one
abbrev pub seen_after : Option ℕ → List Given → ℕ → Option ℕ
seen_after (Some from) given at = Some from
seen_after None given at = seen_by (header_given given) at

-- among so many bytes there is no header, or none before this place, and one behind it
abbrev pub SeenAt : List ℕ → ℕ → Option ℕ → Type 0
SeenAt b n None = header_given (body false (take n b)).items ≡ None
SeenAt b n (Some from) = (from ≤ n) × (header_given (body false (take from b)).items ≡ None) × IsSome (header_given (body false (take n b)).items)
