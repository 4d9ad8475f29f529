-- What a follower in a store comes to.
use Rattle.std.specs.Prelude.{◌≡◌, ℕ, List, Option}
use Rattle.sm_model.specs.declared.entry.Entry.{Entry}
use Rattle.sm_model.specs.declared.track.Track.{Track}
use Rattle.sm_site.specs.Meanings.{Chosen, Seen}
use Rattle.sm_archive.specs.declared.archive.Archive.{Archive}
use Rattle.sm_fetch.specs.declared.dial.Exchange.{Exchange}
use Rattle.sm_fetch.specs.Exchanges.{Peer, IsTurnedTo}
use Rattle.sm_fetch.specs.Origins.{DialGoesOn}
use Rattle.sm_pull.specs.declared.plan.PullPlan.{PullPlan}
use Rattle.sm_standby.specs.declared.report.FollowReport.{FollowReport}
use Rattle.sm_standby.specs.Placed.{Followed}
use Rattle.sm_edge.specs.Opening.{IsEdge}
use Rattle.sm_ends.specs.Ended.{End}

-- The store was opened, no exchange was made before it was, and then the log of the primary that the dial was turned to was rebuilt in it.
pub record HasFollowed {S C : Type 0} (site : Seen S)
    (told : C → Option (List Exchange)) (store : C → List Entry → Type 0) (later : C → C → Type 0) (faults : C → ℕ) (chosen : C → Option Peer)
    (input input' : End) (selection : Chosen)
    (host : List ℕ) (plan : PullPlan)
    (old new : S) (dial dial' : C) (channel : List Track) (report : FollowReport) : Type 0 where
  pub archive : Archive
  pub after : Archive
  pub opened : S
  pub turned : C
  pub edge : IsEdge site input input' archive channel selection old opened
  pub turned_to : IsTurnedTo (chosen turned) host plan.place.port
  pub quiet : told turned ≡ told dial
  pub turns : DialGoesOn store later faults dial turned
  -- what was kept, how often, and that it stands at its places
  pub followed : Followed site told store later faults chosen opened new turned dial' plan channel archive after edge.store.log report
