-- What a relay into a store comes to.
use Rattle.std.specs.Prelude.{◌≡◌, ℕ, List, ◌++◌, length, Option, Some, IsSome}
use Rattle.std.specs.List.{AllByRecursion}
use Rattle.sm_model.specs.declared.entry.Entry.{Entry}
use Rattle.sm_model.specs.declared.track.Track.{Track}
use Rattle.sm_site.specs.Meanings.{Chosen, Seen}
use Rattle.sm_site.specs.Clauses.{Rose, Throughout}
use Rattle.sm_archive.specs.declared.archive.Archive.{Archive}
use Rattle.sm_fetch.specs.declared.dial.Exchange.{Exchange}
use Rattle.sm_fetch.specs.Exchanges.{Peer, IsTurnedTo}
use Rattle.sm_fetch.specs.Origins.{DialGoesOn}
use Rattle.sm_pull.specs.declared.plan.PullPlan.{PullPlan}
use Rattle.sm_pull.specs.Adds.{keeps_of}
use Rattle.sm_pull.specs.Below.{Below}
use Rattle.sm_relay.specs.declared.report.RelayReport.{RelayReport}
use Rattle.sm_relay.specs.declared.report.RelayEnd.TheVariants as ends
use Rattle.sm_relay.specs.Rounds.{kept_in}
use Rattle.sm_relay.specs.Ends.{Relayed, KeepsListed}
use Rattle.sm_relay.specs.Served.{Serves, IsOffered, LeavesBelow, EndsWell}
use Rattle.sm_pull.specs.Patience.{IsPatient}
use Rattle.sm_edge.specs.Opening.{IsEdge}
use Rattle.sm_ends.specs.Ended.{End}

-- The store was opened, no exchange was made before it was, and then a relay pulled into it from the origin that the dial was turned to.
pub record HasRelayed {S C : Type 0} (site : Seen S) (told : C → Option (List Exchange))
    (store : C → List Entry → Type 0) (later : C → C → Type 0) (faults : C → ℕ) (chosen : C → Option Peer) (input input' : End) (selection : Chosen)
    (host : List ℕ) (plan : PullPlan)
    (old new : S) (dial dial' : C) (channel : List Track) (report : RelayReport) : Type 0 where
  pub archive : Archive
  pub after : Archive
  pub opened : S
  pub turned : C
  pub edge : IsEdge site input input' archive channel selection old opened
  pub turned_to : IsTurnedTo (chosen turned) host plan.place.port
  pub quiet : told turned ≡ told dial
  pub turns : DialGoesOn store later faults dial turned
  pub relayed : Relayed site told store later faults chosen plan channel opened new turned dial' archive after edge.store.log report.end
  pub kept : report.kept ≡ length (kept_in relayed.rounds ++ relayed.added)
  pub listed : AllByRecursion (KeepsListed channel (edge.store.log ++ keeps_of (kept_in relayed.rounds ++ relayed.added))) relayed.rounds
  pub below : (up : List Track) (first last : List Entry) (before made : List Exchange) → told turned ≡ Some before → told dial' ≡ Some (before ++ made)
      → Serves plan.place up first last made → Below edge.store.log first → IsSome (site.view opened).contents → Throughout site opened new (LeavesBelow last)
  pub well : (up : List Track) (first last : List Entry) (before made : List Exchange) → told turned ≡ Some before → told dial' ≡ Some (before ++ made)
      → Serves plan.place up first last made → Below edge.store.log first → IsPatient made → AllByRecursion (IsOffered up) channel → EndsWell report.end
  pub fault : report.end ≡ ends.DiskFault → Rose (site.view opened).disk_faults (site.view new).disk_faults
