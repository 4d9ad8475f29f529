-- What serving a store beside players comes to.
use Rattle.std.specs.Prelude.{◌≡◌, ◌⊎◌, ℕ, Bool, List, [], Option, Some, None, IsSome, Result, Ok, Err}
use Rattle.sm_model.specs.declared.entry.Entry.{Entry}
use Rattle.sm_site.specs.Meanings.{Chosen, View, Item, Seen, asked}
use Rattle.sm_origin.specs.Opening.{HasOneStore}
use Rattle.sm_serve.specs.declared.state.State.{State}
use Rattle.sm_serve.specs.declared.outcome.Served.{Served as Outcome}
use Rattle.sm_serve.specs.Standing.{History}
use Rattle.sm_serve.specs.Serving.{Begins, Serves, Served}
use Rattle.sm_command.specs.Lasting.{NoFewer}
use Rattle.sm_command.specs.Serving.{Found, HasRun, IsBegun, PrepareMeans, RunsFrom, StopsFrom, WhyUnready}
use Rattle.sm_shelf.specs.Shelf.{Desk, bare}
use Rattle.sm_show.specs.Marks.{HasShown}
use Rattle.sm_show.specs.Recalling.{Recalls}
use Rattle.sm_players.specs.Wiring.{Wires}
use Rattle.sm_run.specs.declared.fault.ShowFault.{ShowFault}
use Rattle.sm_run.specs.declared.fault.ShowFault.TheVariants as fault
use Rattle.sm_run.specs.declared.showing.Ended.{Ended}
use Rattle.sm_run.specs.Staff.{IsUnstaffed, Staff}
use Rattle.sm_ends.specs.Ended.{End}

-- the loop served from here to its end, and behind each turn this was published beside it, on a shelf that was made for it and was this in the end
abbrev pub ShowsRun : {D : Type 0} (site : Seen D) → Desk → History → Outcome
    → ℕ → D → Type 0
ShowsRun site shelf h end turns d =
    (state : State) × (served : Served site h end turns state d) × HasShown h end served.later (bare shelf.table) shelf

-- ---- from a state that was just opened

-- The loop ran; and from wherever a run began it is one, with the ladder's step in front, beside which this was published.
pub record ShownFrom {D : Type 0} (site : Seen D) (shelf : Desk) (ladder : Bool)
    (told told' : Option (List ℕ)) (turns : ℕ) (state : State) (d d' : D) (end : Outcome) : Type 0 where
  pub from : RunsFrom site ladder told told' turns state d d' end
  pub shown : IsSome (site.view d').contents → (b : History) → Serves site b state d → b.items ≡ [] → b.steps ≡ []
      → (h : History) × (h.begin ≡ b.begin) × IsBegun b.found.disk_faults b.first from.channel b.base h × ShowsRun site shelf h end turns d'

-- no ladder was read or it was refused, and nothing was asked of the spawner; or what was asked of a ladder was done, what is to be shown was read back,
-- and players are lacking
abbrev pub StopsShort : {D : Type 0} (site : Seen D) → Bool → Wires
    → End → End
    → Staff → Staff → State → D → D → ShowFault → Type 0
StopsShort {D} site ladder wires input input' staff staff' state d d' (fault.Store why) =
    StopsFrom site ladder input input' state d d' why × (staff' ≡ staff)
StopsShort {D} site ladder wires input input' staff staff' state d d' (fault.Spawn why) =
    ((after : State) × (mid : D) × PrepareMeans site ladder input input' state d after mid (Ok tt) × Recalls site after mid d')
    × IsUnstaffed wires staff staff' why

-- ---- the whole

-- The loop ran beside the players, as it does alone. Where the disk tells its contents, what was published was the digest of a front of the log before
-- the first event and behind each turn, and the turns are counted behind which it wasn't that of the whole log. All that was published is told turn by
-- turn, each digest before the next event was taken. Where each image that a crash might leave was one store, so it is along the run of the whole call.
pub record RunsShown {D : Type 0} (site : Seen D) (shelf : Desk) (ladder : Bool)
    (told told' : Option (List ℕ)) (turns : ℕ) (old new : D) (end : Outcome) : Type 0 where
  pub run : HasRun site ladder told told' turns old new end
  pub shown : IsSome (site.view new).contents → (base : List Item) → (site.view old).transcript ≡ Some base
      → (h : History) × (h.begin ≡ (site.view run.opened).moment) × IsBegun (site.view old).disk_faults run.found.machine run.channel base h
      × ShowsRun site shelf h end turns new
  pub whole : IsSome (site.view old).contents → IsSome (site.view new).contents → (log : List Entry) → HasOneStore log (site.may_leave old) → (base : List Item)
      → (site.view old).transcript ≡ Some base → (h : History) × (h.begin ≡ (site.view old).moment)
      × IsBegun (site.view old).disk_faults run.found.machine run.channel base h × ShowsRun site shelf h end turns new

-- The store was opened, what was asked of a ladder was done, and at most what is to be shown was read back. Nothing was taken from the link, and
-- nothing was sent.
pub record IsReady {D : Type 0} (site : Seen D) (ladder : Bool) (input input' : End)
    (old new : D) : Type 0 where
  pub state : State
  pub opened : D
  pub found : Found site state old opened
  pub begins : Begins site state opened
  pub after : State
  pub prepared : D
  pub means : PrepareMeans site ladder input input' state opened after prepared (Ok tt)
  pub reads : Recalls site after prepared new
  pub silent : (site.view new).transcript ≡ (site.view old).transcript
  pub no_fewer : NoFewer (site.view old) (site.view new)

-- Why no event was waited for: the store isn't ready, and nothing was asked of the spawner; or it is, and players are lacking.
abbrev pub WhyUnshown : {D : Type 0} (site : Seen D) → Bool → Wires
    → End → End
    → Staff → Staff → D → D → ShowFault → Type 0
WhyUnshown site ladder wires input input' staff staff' old new (fault.Store why) =
    WhyUnready site ladder input input' old new why × (staff' ≡ staff)
WhyUnshown site ladder wires input input' staff staff' old new (fault.Spawn why) =
    IsReady site ladder input input' old new × IsUnstaffed wires staff staff' why

-- The site was asked once to be selected, and is with this; where the store isn't ready, with nothing else than this.
abbrev pub IsSelectedWith : Result Ended ShowFault → Chosen → View → View → Type 0
IsSelectedWith (Ok e) chosen old new = new.chosen ≡ asked old.chosen (Some chosen)
IsSelectedWith (Err (fault.Spawn why)) chosen old new = new.chosen ≡ asked old.chosen (Some chosen)
IsSelectedWith (Err (fault.Store why)) chosen old new = (new.chosen ≡ asked old.chosen (Some chosen)) ⊎ (new.chosen ≡ asked old.chosen None)
