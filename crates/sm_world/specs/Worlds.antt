-- What stands behind a dial.
use Rattle.std.specs.Prelude.{◌≡◌, List, [], ◌∷◌, ◌++◌, Option, Some, None, IfSome}
use Rattle.sm_model.specs.declared.entry.Entry.{Entry}
use Rattle.sm_site.specs.Meanings.{Item, Seen}
use Rattle.sm_origin.specs.Opening.{HasOneStore}
use Rattle.sm_serve.specs.declared.state.State.{State}
use Rattle.sm_serve.specs.Standing.{History}
use Rattle.sm_serve.specs.Serving.{Serves}
use Rattle.sm_world.specs.Pushed.{ComesOf}

-- the log when the dial was made, the transcripts of the openings before the last crash, and the log now
pub record World : Type 0 where
  pub first : List Entry
  pub past : List (List Item)
  pub log : List Entry

-- The store isn't open: each image that a crash may leave is the log, which comes of what was pushed.
pub record IsClosed {D : Type 0} (site : Seen D) (w : World) (d : D) : Type 0 where
  pub one : HasOneStore w.log (site.may_leave d)
  pub items : List Item
  pub told : (site.view d).transcript ≡ Some items
  pub comes : ComesOf w.first w.past items w.log

-- The store is open: the state is where a run is, that began with a log which comes of what was pushed, and now has this log.
pub record IsOpen {D : Type 0} (site : Seen D) (w : World)
    (state : State) (d : D) : Type 0 where
  pub run : History
  pub serves : Serves site run state d
  pub settled : run.first.doubt ≡ None
  pub found : ComesOf w.first w.past run.base run.first.log
  pub log_is : run.point.machine.log ≡ w.log

abbrev pub Stands : {D : Type 0} (site : Seen D) → World → Option State → D
    → Type 0
Stands site w None d = IsClosed site w d
Stands site w (Some state) d = IsOpen site w state d

-- the log goes on
pub record Grows (old new : World) : Type 0 where
  pub first : new.first ≡ old.first
  pub past : new.past ≡ old.past
  pub more : List Entry
  pub log : new.log ≡ old.log ++ more

-- the log goes on, and the transcript of the opening joins the others
pub record Crashes (items : Option (List Item)) (old new : World) : Type 0 where
  pub first : new.first ≡ old.first
  pub past : IfSome items (λ now. new.past ≡ old.past ++ now ∷ [])
  pub more : List Entry
  pub log : new.log ≡ old.log ++ more

-- wherever it stood, it stands at a log that goes on
abbrev pub GoesOn : {D : Type 0} (site : Seen D) → Option State → D
    → Option State → D → Type 0
GoesOn site state d state' d' =
    (w : World) → Stands site w state d → (now : World) × Stands site now state' d' × Grows w now
