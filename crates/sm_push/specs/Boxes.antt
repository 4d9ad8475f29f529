-- The same over whole boxes and a rest: one box after the other, up to the first refusal.
use Rattle.std.specs.Prelude.{◌≡◌, ℕ, Bool, true, false, List, [], ◌∷◌, ◌++◌, is_some, Ok, Err}
use Rattle.std.specs.Option.{option_to_list}
use Rattle.std.specs.List.{flat_map, AllByRecursion}
use Rattle.sm_push.specs.declared.state.PushState.{PushState}
use Rattle.sm_push.specs.declared.state.BoxDecision.{BoxDecision}
use Rattle.sm_push.specs.declared.state.BoxDecision.TheVariants.{Wait, Refuse, Pass, Take}
use Rattle.sm_model.specs.Boxes.{IsOneBox, starts_whole}
use Rattle.sm_push.specs.PushHeads.{decision}
use Rattle.sm_push.specs.PushBoxes.{Step, taken, passed}
use Rattle.sm_push.specs.Body.{Outcome, ended, refused, led_by, header_in}

abbrev pub bytes_of : List (List ℕ) → List ℕ
bytes_of boxes = flat_map (λ box. box) boxes

-- the bytes are these whole boxes and a rest in which no whole box stands in front
pub record Splits (bytes : List ℕ) (boxes : List (List ℕ)) (rest : List ℕ) : Type 0 where
  pub whole : bytes ≡ bytes_of boxes ++ rest
  pub each : AllByRecursion IsOneBox boxes
  pub last : starts_whole rest ≡ false

abbrev pub rest_gives : PushState → BoxDecision → Bool → Outcome
rest_gives s (Refuse cause) inside = refused (header_in s.stage) (record { at = s.at; cause = cause })
rest_gives s _ inside = ended s inside

abbrev pub rest_inside : List ℕ → Bool → Bool
rest_inside [] moof = moof
rest_inside (x ∷ rest) moof = true

abbrev pub step_gives : PushState → Step → (PushState → Outcome) → Outcome
step_gives s (Err r) go = refused (header_in s.stage) r
step_gives s (Ok step) go = led_by (option_to_list step.0) (go step.1)

abbrev pub box_gives : PushState → List ℕ → BoxDecision → (PushState → Outcome) → Outcome
box_gives s box Wait go = ended s true
box_gives s box (Refuse cause) go = refused (header_in s.stage) (record { at = s.at; cause = cause })
box_gives s box (Pass size) go = go (passed s size)
box_gives s box (Take sort size) go = step_gives s (taken s sort box) go

-- one box after the other, up to the first refusal; then the head of the rest
abbrev pub boxes_give : PushState → List (List ℕ) → List ℕ → Outcome
boxes_give s [] rest = rest_gives s (decision s rest) (rest_inside rest (is_some s.moof))
boxes_give s (box ∷ boxes) rest = box_gives s box (decision s box) (λ next. boxes_give next boxes rest)
