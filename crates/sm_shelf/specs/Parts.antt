-- What a shelf holds, as the digest that contracts see.
use Rattle.std.specs.Prelude.{◌≡◌, ◌≤◌, ◌<◌, ◌+◌, ◌-◌, ◌^◌, ℕ, suc, List, [], ◌∷◌, length, map, drop, All, Option, None, Some, slice_get}
use Rattle.std.specs.Option.{option_map}
use Rattle.std.specs.Arc.{arc_value}
use Rattle.std.specs.declared.alloc.Global.{Global}
use Rattle.std.specs.declared.sync.Arc.{Arc}
use Rattle.sm_model.specs.declared.address.Address.{Address}
use Rattle.sm_model.specs.declared.fragment.Fragment.{Fragment}
use Rattle.sm_model.specs.declared.track.Track.{Track}
use Rattle.sm_model.specs.Entries.{address_of}
use Rattle.sm_model.specs.Fragments.{IsValid}
use Rattle.sm_log.specs.Adds.{Add, place_of}
use Rattle.sm_log.specs.Digests.{bytes_of}
use Rattle.sm_catalog.specs.Content.{Content}

-- what was added, each with its place in the log, where the first has that place
abbrev pub placed : ℕ → List (Address × ℕ) → List Add
placed place [] = []
placed place (x ∷ xs) = (record { address = x.0; duration = x.1; place = place }) ∷ placed (suc place) xs

-- the same without its place
abbrev pub stripped : Add → Address × ℕ
stripped a = (a.address, a.duration)

abbrev pub channel_in : Option Content → Option (List Track)
channel_in o = option_map (λ c. c.channel) o

abbrev pub added_in : Option Content → List Add
added_in None = []
added_in (Some c) = c.adds

abbrev pub told_in : Option Content → List (Address × ℕ)
told_in o = map stripped (added_in o)

-- the fragments of blocks that have several owners
abbrev pub held_in : List (Arc Fragment Global) → List Fragment
held_in blocks = map arc_value blocks

-- the second list is the end of the first
abbrev pub IsEnd : List Address → List Address → Type 0
IsEnd all last = last ≡ drop (length all - length last) all

abbrev pub addresses_in : List Add → List Address
addresses_in adds = map (λ (a : Add). a.address) adds

-- What was added stands at the places from 1 on, since the channel stands at 0; each is found at its own; and the next place still has 32 bits.
pub record IsListing (adds : List Add) : Type 0 where
  pub places : adds ≡ placed 1 (map stripped adds)
  pub found : (index : ℕ) (a : Add) → slice_get adds index ≡ Some a → place_of a.address adds ≡ Some a.place
  pub few : length adds + 1 < 2 ^ 32

-- valid fragments with so many bytes of samples, at most 67,108,864
pub record IsWindow (fragments : List Fragment) (bytes : ℕ) : Type 0 where
  pub bytes_is : bytes ≡ bytes_of fragments
  pub short : bytes ≤ 67108864
  pub valid : All IsValid fragments

-- the window has the last ones that were added
pub record IsStocked (catalog : Option Content) (window : List Fragment) : Type 0 where
  pub listing : IsListing (added_in catalog)
  pub within : length window ≤ length (added_in catalog)
  pub last : IsEnd (addresses_in (added_in catalog)) (map address_of window)
