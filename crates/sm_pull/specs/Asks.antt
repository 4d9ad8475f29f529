-- Exchanges for one thing, and what they leave of a dial.
use Rattle.std.specs.Prelude.{◌≡◌, ◌<◌, ◌≤◌, ℕ, List, [], ◌∷◌, ◌++◌, length, Option, Some, Contains}
use Rattle.std.specs.List.{AllByRecursion}
use Rattle.sm_model.specs.declared.address.Address.{Address}
use Rattle.sm_model.specs.declared.entry.Entry.{Entry}
use Rattle.sm_fetch.specs.declared.dial.Answer.{Answer}
use Rattle.sm_fetch.specs.declared.dial.Answer.TheVariants as answers
use Rattle.sm_fetch.specs.declared.dial.Exchange.{Exchange}
use Rattle.sm_fetch.specs.declared.got.Got.{Got}
use Rattle.sm_fetch.specs.declared.got.Got.TheVariants as got
use Rattle.sm_fetch.specs.declared.place.Place.{Place}
use Rattle.sm_fetch.specs.Exchanges.{Peer, Rose, with_all}
use Rattle.sm_fetch.specs.Origins.{DialAlone}
use Rattle.sm_fetch.specs.Requests.{manifest_request, manifest_limit, fragment_request, fragment_limit}
use Rattle.sm_fetch.specs.Spelt.{SpellsManifest, SpellsFragment}
use Rattle.sm_client.specs.declared.report.Miss.{Miss}
use Rattle.sm_client.specs.Stands.{miss_of}
use Rattle.sm_pull.specs.declared.listing.Manifest.{Manifest}
use Rattle.sm_pull.specs.declared.listing.Manifest.TheVariants as manifest

-- ---- the dial

-- These exchanges were made, in this order, and nothing else; one is lost only where the count of faults rose.
pub record Asks {C : Type 0} (log : C → Option (List Exchange)) (store : C → List Entry → Type 0) (later : C → C → Type 0)
    (faults : C → ℕ) (chosen : C → Option Peer) (old new : C) (made : List Exchange) : Type 0 where
  pub told_is : log new ≡ with_all (log old) made
  pub alone : DialAlone log store later faults chosen old new
  pub lost : (x : Exchange) → Contains made x → x.answer ≡ answers.Lost → Rose (faults old) (faults new)

-- ---- one exchange

-- this was asked for, with a reply of at most so many bytes, and this is what its answer spells
pub record IsTry {G : Type 0} (request : List ℕ) (limit : ℕ) (spells : Answer → G → Type 0) (x : Exchange) (g : G) : Type 0 where
  pub request_is : x.request ≡ request
  pub limit_is : x.limit ≡ limit
  pub spelled : spells x.answer g

-- for the manifest of a place
abbrev pub AsksManifest : Place → Exchange → Got → Type 0
AsksManifest place = IsTry (manifest_request place) manifest_limit SpellsManifest

-- for the fragment at an address, by that Url
abbrev pub AsksFragment : Place → List ℕ → Address → Exchange → Got → Type 0
AsksFragment place url address = IsTry (fragment_request place url address) fragment_limit (SpellsFragment address.time)

-- ---- tries

-- Each of these was a try, and in place of what was asked this came of it.
abbrev pub Misses : {G : Type 0} → (Exchange → G → Type 0) → (G → Option Miss) → List Exchange → List Miss → Type 0
Misses asks miss [] [] = Unit {0}
Misses asks miss [] (m ∷ ms) = ⊥
Misses asks miss (x ∷ xs) [] = ⊥
Misses {G} asks miss (x ∷ xs) (m ∷ ms) = ((g : G) × asks x g × (miss g ≡ Some m)) × Misses asks miss xs ms

-- fewer than so many tries missed, and the next one gave this
pub record Gives {G : Type 0} (asks : Exchange → G → Type 0) (miss : G → Option Miss) (tries : ℕ) (made : List Exchange) (g : G) : Type 0 where
  pub missed : List Exchange
  pub outcomes : List Miss
  pub misses : Misses asks miss missed outcomes
  pub few : length missed < tries
  pub last : Exchange
  pub gave : asks last g
  pub made_is : made ≡ missed ++ last ∷ []

-- so many tries missed, and this came of them
pub record GivesNone {G : Type 0} (asks : Exchange → G → Type 0) (miss : G → Option Miss) (tries : ℕ) (made : List Exchange) (outcomes : List Miss) : Type 0 where
  pub misses : Misses asks miss made outcomes
  pub all : length made ≡ tries

-- at most so many tries
pub record Tries {G : Type 0} (asks : Exchange → G → Type 0) (tries : ℕ) (made : List Exchange) : Type 0 where
  pub each : AllByRecursion (λ x. (g : G) × asks x g) made
  pub few : length made ≤ tries

-- ---- a manifest

abbrev pub ReadsListing : Place → ℕ → List Exchange → Manifest → Type 0
ReadsListing place tries made (manifest.Read listing) = Gives (AsksManifest place) miss_of tries made (got.Manifest listing)
ReadsListing place tries made (manifest.GaveUp outcomes) = GivesNone (AsksManifest place) miss_of tries made outcomes
ReadsListing place tries made manifest.NoMemory = Tries (AsksManifest place) tries made
