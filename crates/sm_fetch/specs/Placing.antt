-- A fragment that is read with the sequence number that it was sent with, which is its place in the origin's log.
use Rattle.std.specs.Prelude.{◌≡◌, ◌⊎◌, ℕ, List, ◌++◌, Option, None, Some}
use Rattle.sm_model.specs.declared.address.Address.{Address}
use Rattle.sm_model.specs.declared.entry.Entry.{Entry}
use Rattle.sm_model.specs.declared.run.RawFragment.{RawFragment}
use Rattle.sm_model.specs.declared.target.Target.TheVariants as target
use Rattle.sm_moof.specs.Sequence.{sequence_in}
use Rattle.sm_log.specs.Logs.{kept_at}
use Rattle.sm_addr.specs.Targets.{target_of}
use Rattle.sm_fetch.specs.declared.dial.Answer.{Answer}
use Rattle.sm_fetch.specs.declared.dial.Answer.TheVariants as answers
use Rattle.sm_fetch.specs.declared.dial.Exchange.{Exchange}
use Rattle.sm_fetch.specs.declared.place.Place.{Place}
use Rattle.sm_fetch.specs.declared.placed.Placed.{Placed}
use Rattle.sm_fetch.specs.declared.placed.Placed.TheVariants as placed
use Rattle.sm_fetch.specs.Answered.{IsWholeReply, IsCutReply, IsNoReply}
use Rattle.sm_fetch.specs.Exchanges.{logged, IsWithin}
use Rattle.sm_fetch.specs.Origins.{MayBeAsked}
use Rattle.sm_fetch.specs.Requests.{fragment_target, fragment_request, fragment_limit}
use Rattle.sm_fetch.specs.Spelt.{IsFragmentAt, IsOther, given}

-- the fragment of a body, and the number in its `moof`
abbrev pub IsNumberedAt : ℕ → List ℕ → ℕ → RawFragment → Type 0
IsNumberedAt time body number raw = (f : IsFragmentAt time body raw) × (sequence_in f.moof ≡ Some number)

-- a body that is no fragment, or one without a number
abbrev pub HasNoNumbered : ℕ → List ℕ → Type 0
HasNoNumbered time body = (raw : RawFragment) (f : IsFragmentAt time body raw) → sequence_in f.moof ≡ None

abbrev pub SpellsNumbered : ℕ → List ℕ → Placed → Type 0
SpellsNumbered time bytes (placed.Fragment number raw) = (at : ℕ) × (body : List ℕ) × IsWholeReply bytes 200 at body × IsNumberedAt time body number raw
SpellsNumbered time bytes (placed.Status status) = IsOther bytes status
SpellsNumbered time bytes placed.Cut = IsCutReply bytes
SpellsNumbered time bytes (placed.Unreadable at) = IsNoReply bytes at ⊎ ((body : List ℕ) × IsWholeReply bytes 200 at body × HasNoNumbered time body)
SpellsNumbered time bytes placed.Lost = ⊥
SpellsNumbered time bytes placed.NoMemory = Unit {0}

-- what the answer to a request for a fragment of this time spells
abbrev pub SpellsPlaced : ℕ → Answer → Placed → Type 0
SpellsPlaced time (answers.Bytes bytes) p = SpellsNumbered time bytes p
SpellsPlaced time answers.Lost p = p ≡ placed.Lost
SpellsPlaced time answers.NoMemory p = p ≡ placed.NoMemory

-- the fragment was asked for once, and this is what the answer spells
pub record FetchedPlaced (place : Place) (url : List ℕ) (address : Address) (old new : Option (List Exchange)) (p : Placed) : Type 0 where
  pub answer : Answer
  pub log : new ≡ logged old (fragment_request place url address) fragment_limit answer
  pub within : IsWithin fragment_limit answer
  pub spells : SpellsPlaced address.time answer p

-- a fragment that was read is the one that this log keeps at the address which the target names, and its number is its place there
abbrev pub IsPlacedAt : Place → List ℕ → Address → List Entry → Placed → Type 0
IsPlacedAt place url address log (placed.Fragment number raw) =
    MayBeAsked place.host place.port (fragment_target place url address) → (a : Address) → target_of (fragment_target place url address) ≡ target.Fragment a
    → kept_at log a ≡ Some (number, given a.stream a.bitrate raw)
IsPlacedAt place url address log (placed.Status status) = Unit {0}
IsPlacedAt place url address log placed.Cut = Unit {0}
IsPlacedAt place url address log (placed.Unreadable at) = Unit {0}
IsPlacedAt place url address log placed.Lost = Unit {0}
IsPlacedAt place url address log placed.NoMemory = Unit {0}

-- for each log that is told before, one is told now that goes on from it and has the fragment at that place
abbrev pub GrowsPlaced : Place → List ℕ → Address → (List Entry → Type 0) → (List Entry → Type 0) → Placed → Type 0
GrowsPlaced place url address old now p =
    (log : List Entry) → old log → (more : List Entry) × now (log ++ more) × IsPlacedAt place url address (log ++ more) p
