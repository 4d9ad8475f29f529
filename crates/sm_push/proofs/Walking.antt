-- Walking over bytes in pieces.
use Rattle.std.proofs.Common.{◌≡◌, ℕ, zero, suc, ◌-◌, ◌≤◌, Bool, true, false, ltb, List, [], ◌∷◌, ◌++◌, length, take, refl, sym, ap, ◌∙◌, arith, inl, inr}
use Rattle.sm_push.specs.declared.state.PushState.{PushState}
use Rattle.std.specs.Prelude.{Ok, Err}
use Rattle.std.specs.Option.{option_to_list}
use Rattle.std.proofs.lemmas.Bool.{cases_Bool, ltb-false, le-ltb}
use Rattle.std.proofs.lemmas.List.{take-append-le, take_at, length-append, append_assoc}
use Rattle.sm_model.specs.declared.cause.Cause.{Cause}
use Rattle.sm_model.specs.declared.cause.Refusal.{Refusal}
use Rattle.sm_model.specs.Items.{Given}
use Rattle.sm_push.specs.declared.state.TopBox.{TopBox}
use Rattle.sm_push.specs.declared.state.BoxDecision.{BoxDecision}
use Rattle.sm_push.specs.declared.state.BoxDecision.TheVariants.{Wait, Refuse, Pass, Take}
use Rattle.sm_push.specs.PushHeads.{decision}
use Rattle.sm_push.specs.PushBoxes.{Step, taken, passed}
use Rattle.sm_model.specs.declared.header.HeaderTrack.{HeaderTrack}
use Rattle.sm_push.specs.Body.{Outcome, ended, refused, header_in, led_by, stepped, at_box, walk, IsFrontOf}
use Rattle.sm_push.proofs.Stable.{IsMade, stable, decision-nil}

pub walk-over : (s : PushState) (k : ℕ) (xs ys : List ℕ) → length xs ≤ k → walk s k (xs ++ ys) ≡ walk s (k - length xs) ys
unfolding walk
walk-over s k [] ys h = ap (λ (n : ℕ). walk s n ys) (omega arith)
walk-over s zero (x ∷ xs) ys h = absurd (omega arith)
walk-over s (suc k) (x ∷ xs) ys h = walk-over s k xs ys (omega arith) ∙ ap (λ (n : ℕ). walk s n ys) (omega arith)

-- ---- the box that begins in h, whatever comes behind h

wait_not_nil : (s : PushState) (d : BoxDecision) → decision s [] ≡ d → IsMade d → ⊥
wait_not_nil s d e made = let wait : IsMade Wait = rw (sym e ∙ decision-nil s) at made in wait

-- a box that is passed
pub passes : (s : PushState) (h more : List ℕ) (size : ℕ) → decision s h ≡ Pass size → length h ≤ size → walk s 0 (h ++ more) ≡ walk (passed s size) (size - length h) more
unfolding walk
passes s [] more size e fits = absurd (wait_not_nil s (Pass size) e tt)
passes s (x ∷ h) more size e fits =
    let same : decision s (x ∷ (h ++ more)) ≡ Pass size = stable s (x ∷ h) more (rw e tt) ∙ e in
    rw same (walk-over (passed s size) (size - 1) h more (omega arith) ∙ ap (λ (n : ℕ). walk (passed s size) n more) (omega arith))

-- a box that is refused
pub refuses : (s : PushState) (h more : List ℕ) (cause : Cause) → decision s h ≡ Refuse cause → walk s 0 (h ++ more) ≡ refused (header_in s.stage) (record { at = s.at; cause = cause })
unfolding walk
refuses s [] more cause e = absurd (wait_not_nil s (Refuse cause) e tt)
refuses s (x ∷ h) more cause e =
    let same : decision s (x ∷ (h ++ more)) ≡ Refuse cause = stable s (x ∷ h) more (rw e tt) ∙ e in
    rw same refl

-- a box that is whole and read
pub takes : (s : PushState) (h more : List ℕ) (sort : TopBox) (size : ℕ) → decision s h ≡ Take sort size → length h ≡ size → walk s 0 (h ++ more) ≡ stepped s (taken s sort h) size (λ next _. walk next 0 more)
unfolding walk
takes s [] more sort size e whole = absurd (wait_not_nil s (Take sort size) e tt)
takes s (x ∷ h) more sort size e whole =
    let same : decision s (x ∷ (h ++ more)) ≡ Take sort size = stable s (x ∷ h) more (rw e tt) ∙ e in
    let long : ltb (length (x ∷ (h ++ more))) size ≡ false = le-ltb _ _ (omega (arith, length-append h more)) in
    let box : take size (x ∷ (h ++ more)) ≡ x ∷ h = take_at (x ∷ h) more size whole in
    rw (same, long, box) (goes_on (taken s sort (x ∷ h)))
  where
    goes_on : (step : Step) → stepped s step size (λ next size. walk next (size - 1) (h ++ more)) ≡ stepped s step size (λ next _. walk next 0 more)
    goes_on (Err r) = refl
    goes_on (Ok step) = ap (led_by (option_to_list step.0)) (walk-over step.1 (size - 1) h more (omega arith) ∙ ap (λ (n : ℕ). walk step.1 n more) (omega arith))

-- ---- the law (front)

nothing_front : (s : PushState) (inside : Bool) (o : Outcome) → IsFrontOf (ended s inside) o
nothing_front s inside o = record { items = (o.items, refl); refusal = λ r e. absurd cc }

behind_front : (items : List Given) (p b : Outcome) → IsFrontOf p b → IsFrontOf (led_by items p) (led_by items b)
behind_front items p b f = record {
  items = (f.items.0, ap (λ (xs : List Given). items ++ xs) f.items.1 ∙ sym (append_assoc items p.items f.items.0));
  refusal = λ r e. (ap (λ (xs : List Given). items ++ xs) (f.refusal r e).0, (f.refusal r e).1);
}

same_front : (header : List HeaderTrack) (r : Refusal) → IsFrontOf (refused header r) (refused header r)
same_front header r = record { items = ([], refl); refusal = λ r' e. (refl, e) }

step_front : (s : PushState) (step : Step) (size : ℕ) (go go' : PushState → ℕ → Outcome) → ((next : PushState) (k : ℕ) → IsFrontOf (go next k) (go' next k)) → IsFrontOf (stepped s step size go) (stepped s step size go')
step_front s (Err r) size go go' h = same_front _ r
step_front s (Ok step) size go go' h = behind_front (option_to_list step.0) (go step.1 size) (go' step.1 size) (h step.1 size)

box_front : (s : PushState) (h t : List ℕ) (d : BoxDecision) → decision s h ≡ d → (go go' : PushState → ℕ → Outcome) → ((next : PushState) (k : ℕ) → IsFrontOf (go next k) (go' next k))
    → IsFrontOf (at_box s h d go) (at_box s (h ++ t) (decision s (h ++ t)) go')
box_front s h t Wait e go go' rest = nothing_front s true _
box_front s h t (Refuse cause) e go go' rest = rw (stable s h t (rw e tt) ∙ e) (same_front _ _)
box_front s h t (Pass size) e go go' rest = rw (stable s h t (rw e tt) ∙ e) (rest (passed s size) size)
box_front s h t (Take sort size) e go go' rest =
    rw (stable s h t (rw e tt) ∙ e) (elim (cases_Bool (ltb (length h) size)) [
      | inl lt ↦ rw lt (nothing_front s true _)
      | inr ge ↦
          let le : size ≤ length h = ltb-false _ _ ge in
          let long : ltb (length (h ++ t)) size ≡ false = le-ltb _ _ (omega (arith, length-append h t)) in
          rw (ge, long, take-append-le size h t le) (step_front s (taken s sort (take size h)) size go go' rest)
    ])

-- what a front of the bytes gives is a front of what they give
pub walk_front : (s : PushState) (k : ℕ) (p q : List ℕ) → IsFrontOf (walk s k p) (walk s k (p ++ q))
unfolding walk
walk_front s k [] q = nothing_front s _ _
walk_front s (suc k) (x ∷ p) q = walk_front s k p q
walk_front s zero (x ∷ p) q =
    box_front s (x ∷ p) q (decision s (x ∷ p)) refl (λ next size. walk next (size - 1) p) (λ next size. walk next (size - 1) (p ++ q)) (λ next k. walk_front next (k - 1) p q)
