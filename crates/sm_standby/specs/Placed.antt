-- A log that has the entries of another at their places.
use Rattle.std.specs.Prelude.{◌≡◌, ◌<◌, ℕ, List, ◌∷◌, ◌++◌, length, Option, Some, IsSome}
use Rattle.std.specs.List.{AllByRecursion}
use Rattle.sm_model.specs.declared.address.Address.{Address}
use Rattle.sm_model.specs.declared.entry.Entry.{Entry}
use Rattle.sm_model.specs.declared.track.Track.{Track}
use Rattle.sm_model.specs.declared.target.Target.TheVariants as target
use Rattle.sm_log.specs.Logs.{channel_of}
use Rattle.sm_addr.specs.Targets.{target_of}
use Rattle.sm_site.specs.Image.{Image}
use Rattle.sm_site.specs.Meanings.{Seen}
use Rattle.sm_site.specs.Clauses.{Throughout}
use Rattle.sm_archive.specs.declared.archive.Archive.{Archive}
use Rattle.sm_archive.specs.Store.{IsStore}
use Rattle.sm_manin.specs.declared.listing.Listing.{Listing}
use Rattle.sm_fetch.specs.declared.dial.Exchange.{Exchange}
use Rattle.sm_fetch.specs.declared.place.Place.{Place}
use Rattle.sm_fetch.specs.Exchanges.{Peer}
use Rattle.sm_fetch.specs.Origins.{MayBeAsked}
use Rattle.sm_fetch.specs.Requests.{fragment_target}
use Rattle.sm_pull.specs.declared.plan.PullPlan.{PullPlan}
use Rattle.sm_pull.specs.Below.{Places}
use Rattle.sm_standby.specs.Turns.{url_of, address_for, Turn, passed, asked, kept_in}
use Rattle.sm_standby.specs.declared.report.FollowReport.{FollowReport}
use Rattle.sm_standby.specs.Rounds.{Round, Part, kept_by, Called}
use Rattle.sm_standby.specs.Served.{IsServed, moment_of, LeadsToAll, LeavesStart, Reaches, EndsRounds, EndsWell}
use Rattle.sm_pull.specs.Patience.{IsPatient}

-- ---- what a target names

-- the target that was asked for may be asked, and names the address itself
pub record NamesItself (place : Place) (url : List ℕ) (a : Address) : Type 0 where
  pub may : MayBeAsked place.host place.port (fragment_target place url a)
  pub names : target_of (fragment_target place url a) ≡ target.Fragment a

abbrev pub Names : Place → Listing → Turn → Type 0
Names place listing (passed a) = Unit {0}
Names place listing (asked who made came) = NamesItself place (url_of listing (address_for who)) (address_for who)

abbrev pub AllName : Place → Listing → List Turn → Type 0
AllName place listing turns = AllByRecursion (Names place listing) turns

-- each target of these rounds names the address that it was asked for
abbrev pub RoundsName : Place → List Round → Type 0
RoundsName place rounds = AllByRecursion (λ r. AllName place r.listing r.turns) rounds

abbrev pub PartNames : Place → Part → Type 0
PartNames place p = AllName place p.listing (p.turns ++ p.tried)

-- ---- what a crash leaves

-- at a moment a crash leaves a store whose entries stand at their places in this log
abbrev pub LeavesPlaces : List Entry → ℕ → Image → Type 0
LeavesPlaces up t c = (after : List Entry) × IsStore after c × Places after up

-- ---- a whole call

-- Where the opening log has its entries at their places in a log of the primary, so has each store that a crash may leave at any moment, in
-- one that goes on from it: provided that the targets name the addresses that they were asked for.
abbrev pub StaysPlaced : {D C : Type 0} → Seen D → (C → List Entry → Type 0) → D → D → C → C → Place → List Entry → List Round → Part
    → Type 0
StaysPlaced site store disk disk' dial dial' place before rounds part =
    (up : List Entry) → store dial up → (more : List Entry) × store dial' (up ++ more)
    × (RoundsName place rounds → PartNames place part → Places before up → IsSome (site.view disk).contents
    → Throughout site disk disk' (LeavesPlaces (up ++ more)))

-- What a call did, how many fragments were kept, and that these stand at their places; and what it comes to over a primary that keeps a log.
pub record Followed {D C : Type 0} (site : Seen D) (told : C → Option (List Exchange)) (store : C → List Entry → Type 0)
    (goes_on : C → C → Type 0) (faults : C → ℕ) (chosen : C → Option Peer) (disk disk' : D) (dial dial' : C) (plan : PullPlan) (channel : List Track)
    (old new : Archive) (before : List Entry) (report : FollowReport) : Type 0 where
  pub called : Called site told store goes_on faults chosen disk disk' dial dial' plan channel old new before report.end
  pub kept : report.kept ≡ length (kept_by called.rounds ++ kept_in called.part.turns)
  pub placed : StaysPlaced site store disk disk' dial dial' plan.place before called.rounds called.part
  -- Where the primary's log has the store's entries at their places, it has those of each store that a crash may leave.
  pub stays : (up : List Track) (first last : List Entry) (made : List Exchange) → IsServed told dial dial' plan.place up first last made → Places before first
      → IsSome (site.view disk).contents → Throughout site disk disk' (LeavesPlaces last)
  -- And where the primary's channel is the store's, each such store is a front of the primary's log;
  pub starts : (first last : List Entry) (made : List Exchange) → IsServed told dial dial' plan.place channel first last made → channel_of first ≡ Some channel
      → Places before first → IsSome (site.view disk).contents → Throughout site disk disk' (LeavesStart last)
  -- where it answers each request, no answer of it ends the call;
  pub well : (first last : List Entry) (made : List Exchange) → IsServed told dial dial' plan.place channel first last made → Places before first
      → 0 < plan.tries → IsPatient made → EndsWell report.end
  -- and once all rounds have ended, the store has as many entries as the primary had at its first manifest, if that led to each of them.
  pub reaches : (first last : List Entry) (x : Exchange) (made : List Exchange) → (s : IsServed told dial dial' plan.place channel first last (x ∷ made))
      → Places before first → IsPatient (x ∷ made) → LeadsToAll channel (moment_of s) → EndsRounds report.end
      → Reaches (site.may_leave disk') new last (length (moment_of s))
