-- What one call makes of one exchange.
use Rattle.std.specs.Prelude.{◌≡◌, ◌<◌, ℕ, List, ◌++◌, length, All, Option, Some}
use Rattle.sm_model.specs.declared.address.Address.{Address}
use Rattle.sm_model.specs.declared.entry.Entry.{Entry}
use Rattle.sm_log.specs.Logs.{kept_at}
use Rattle.sm_model.specs.declared.target.Target.TheVariants as target
use Rattle.sm_manin.specs.declared.listing.Listing.{Listing}
use Rattle.sm_manin.specs.declared.listing.StreamListing.{StreamListing}
use Rattle.sm_addr.specs.Targets.{target_of}
use Rattle.sm_fetch.specs.declared.dial.Answer.{Answer}
use Rattle.sm_fetch.specs.declared.dial.Exchange.{Exchange}
use Rattle.sm_fetch.specs.declared.place.Place.{Place}
use Rattle.sm_fetch.specs.declared.got.Got.{Got}
use Rattle.sm_fetch.specs.declared.got.Got.TheVariants as got
use Rattle.sm_fetch.specs.declared.push.Pushed.{Pushed}
use Rattle.sm_fetch.specs.Exchanges.{logged, answer_len, IsWithin}
use Rattle.sm_fetch.specs.Origins.{MayBeAsked}
use Rattle.sm_fetch.specs.Requests.{manifest_request, manifest_limit, fragment_target, fragment_request, fragment_limit, push_request, push_limit}
use Rattle.sm_fetch.specs.Spelt.{SpellsManifest, SpellsFragment, SpellsPush, given}

-- the manifest was asked for once, and this is what the answer spells
pub record FetchedManifest (place : Place) (old new : Option (List Exchange)) (g : Got) : Type 0 where
  pub answer : Answer
  pub log : new ≡ logged old (manifest_request place) manifest_limit answer
  pub within : IsWithin manifest_limit answer
  pub spells : SpellsManifest answer g

-- the fragment was asked for once, this is what the answer spells, and so many bytes came
pub record FetchedFragment (place : Place) (url : List ℕ) (address : Address) (old new : Option (List Exchange)) (g : Got) (bytes : ℕ) : Type 0 where
  pub answer : Answer
  pub log : new ≡ logged old (fragment_request place url address) fragment_limit answer
  pub within : IsWithin fragment_limit answer
  pub spells : SpellsFragment address.time answer g
  pub length_is : bytes ≡ answer_len answer

-- the whole body was pushed once, and this is what the answer spells
pub record PushedBody (place : Place) (id body : List ℕ) (old new : Option (List Exchange)) (p : Pushed) : Type 0 where
  pub answer : Answer
  pub log : new ≡ logged old (push_request place id body) push_limit answer
  pub within : IsWithin push_limit answer
  pub spells : SpellsPush answer p

-- a fragment that was read is kept in this log, at some place and at the address that the target which was asked for names
abbrev pub IsKeptAt : Place → List ℕ → Address → List Entry → Got → Type 0
IsKeptAt place url address log (got.Fragment raw) =
    MayBeAsked place.host place.port (fragment_target place url address) → (a : Address) → target_of (fragment_target place url address) ≡ target.Fragment a
    → (at : ℕ) × (kept_at log a ≡ Some (at, given a.stream a.bitrate raw))
IsKeptAt place url address log (got.Manifest listing) = Unit {0}
IsKeptAt place url address log (got.Status status) = Unit {0}
IsKeptAt place url address log got.Cut = Unit {0}
IsKeptAt place url address log (got.Unreadable at) = Unit {0}
IsKeptAt place url address log got.Lost = Unit {0}
IsKeptAt place url address log got.NoMemory = Unit {0}

-- for each log that is told before, one is told now that goes on from it and keeps the fragment that was read
abbrev pub GrowsWith : Place → List ℕ → Address → (List Entry → Type 0) → (List Entry → Type 0) → Got → Type 0
GrowsWith place url address old now g =
    (log : List Entry) → old log → (more : List Entry) × now (log ++ more) × IsKeptAt place url address (log ++ more) g

-- each stream that is listed has a quality
abbrev pub StreamsHaveLevels : Listing → Type 0
StreamsHaveLevels listing = All (λ (s : StreamListing). 0 < length s.levels) listing.streams

abbrev pub HasLevels : Got → Type 0
HasLevels (got.Manifest listing) = StreamsHaveLevels listing
HasLevels (got.Fragment raw) = Unit {0}
HasLevels (got.Status status) = Unit {0}
HasLevels got.Cut = Unit {0}
HasLevels (got.Unreadable at) = Unit {0}
HasLevels got.Lost = Unit {0}
HasLevels got.NoMemory = Unit {0}
