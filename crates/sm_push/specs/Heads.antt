-- What is done with a box, by what was read of its head.
use Rattle.std.specs.Prelude.{ℕ, ◌≤◌, ◌<◌, List}
use Rattle.sm_box.specs.declared.head.Head.{Head}
use Rattle.sm_box.specs.declared.head.Head.TheVariants as heads
use Rattle.sm_model.specs.declared.cause.Cause.TheVariants as causes
use Rattle.sm_push.specs.declared.state.PushState.{PushState}
use Rattle.sm_push.specs.declared.state.BoxDecision.{BoxDecision}
use Rattle.sm_push.specs.declared.state.BoxDecision.TheVariants.{Wait, Refuse, Pass, Take}
use Rattle.sm_push.specs.PushHeads.{by_kind}

abbrev pub by_head : PushState → List ℕ → Head → BoxDecision
by_head s b heads.Short = Wait
by_head s b heads.Bad = Refuse causes.BadBox
by_head s b heads.OpenEnded = Refuse causes.OpenEnded
by_head s b (heads.Whole kind head size) = by_kind s b kind head size

-- so many bytes are not beyond the end of the box
abbrev pub FitsIn : ℕ → BoxDecision → Type 0
FitsIn count Wait = Unit {0}
FitsIn count (Refuse cause) = Unit {0}
FitsIn count (Pass size) = count ≤ size
FitsIn count (Take sort size) = count ≤ size

-- so many bytes are too few to do something with the box
abbrev pub IsOpen : ℕ → BoxDecision → Type 0
IsOpen count Wait = Unit {0}
IsOpen count (Refuse cause) = ⊥
IsOpen count (Pass size) = ⊥
IsOpen count (Take sort size) = count < size
