-- How many items bytes give.
use Rattle.std.proofs.Common.{ℕ, zero, suc, ◌+◌, ◌-◌, ◌≤◌, ltb, List, [], ◌∷◌, ◌++◌, length, take, Option, Some, None, Ok, Err, arith}
use Rattle.std.proofs.lemmas.Bool.{cond_both}
use Rattle.std.specs.Option.{option_to_list}
use Rattle.sm_push.specs.declared.state.PushState.{PushState}
use Rattle.sm_push.specs.declared.state.BoxDecision.{BoxDecision}
use Rattle.sm_push.specs.declared.state.BoxDecision.TheVariants.{Wait, Refuse, Pass, Take}
use Rattle.sm_model.specs.Items.{Given}
use Rattle.sm_push.specs.PushHeads.{decision}
use Rattle.sm_push.specs.PushBoxes.{Step, taken, passed}
use Rattle.sm_push.specs.Body.{Outcome, stepped, at_box, walk}

-- a box gives one item at most
stepped_few : (s : PushState) (step : Step) (size most : ℕ) (go : PushState → ℕ → Outcome) → ((next : PushState) (k : ℕ) → length (go next k).items ≤ most) → length (stepped s step size go).items ≤ most + 1
stepped_few s (Err r) size most go few = omega arith
stepped_few s (Ok step) size most go few = by_item step.0
  where
    by_item : (item : Option Given) → length (option_to_list item ++ (go step.1 size).items) ≤ most + 1
    by_item None = omega (arith, few step.1 size)
    by_item (Some g) = omega (arith, few step.1 size)

box_few : (s : PushState) (b : List ℕ) (d : BoxDecision) (most : ℕ) (go : PushState → ℕ → Outcome) → ((next : PushState) (k : ℕ) → length (go next k).items ≤ most) → length (at_box s b d go).items ≤ most + 1
box_few s b Wait most go few = omega arith
box_few s b (Refuse cause) most go few = omega arith
box_few s b (Pass size) most go few = omega (arith, few (passed s size) size)
box_few s b (Take sort size) most go few =
    cond_both (ltb (length b) size) _ _ (λ (o : Outcome). length o.items ≤ most + 1) (λ _. omega arith) (λ _. stepped_few s (taken s sort (take size b)) size most go few)

pub walk_few : (s : PushState) (k : ℕ) (b : List ℕ) → length (walk s k b).items ≤ length b
unfolding walk
walk_few s k [] = omega arith
walk_few s (suc k) (x ∷ b) = omega (arith, walk_few s k b)
walk_few s zero (x ∷ b) =
    omega (arith, box_few s (x ∷ b) (decision s (x ∷ b)) (length b) (λ next size. walk next (size - 1) b) (λ next k. walk_few next (k - 1) b))
