-- Whether something was done since the last crash, and what is so where nothing was.
use Rattle.std.proofs.Common.{◌≡◌, ℕ, zero, suc, ◌+◌, Bool, true, false, not, if◌then◌else◌, IsTrue, List, [], ◌∷◌, ◌++◌, length, get_or, refl, subst, arith}
use Rattle.sm_site.specs.declared.step.Step.{Step}
use Rattle.sm_site.specs.declared.step.Step.TheVariants.{Sized, Read, Wrote, Synced, Took, Sent, Shut, Crashed}
use Rattle.sm_site.specs.Meanings.{DiskCall, Item, IsLive}
use Rattle.sm_site.specs.Past.{State, after, after_step, is_crash, is_open, open_on, item_of, items_on, items_from, call_of, calls_on, calls_from}

pub open_at : (was : Bool) (xs : List Step) (i : ℕ) (d : Step) → i + 1 ≡ length xs → open_on was xs ≡ not (is_crash (get_or xs i d))
open_at was [] i d is = absurd (omega (arith, is))
open_at was (x ∷ []) zero d is = refl
open_at was (x ∷ y ∷ xs) zero d is = absurd (omega (arith, is))
open_at was (x ∷ []) (suc i) d is = absurd (omega (arith, is))
open_at was (x ∷ y ∷ xs) (suc i) d is = open_at (not (is_crash x)) (y ∷ xs) i d (omega (arith, is))

pub open_push : (was : Bool) (steps : List Step) (step : Step) → open_on was (steps ++ step ∷ []) ≡ not (is_crash step)
open_push was [] step = refl
open_push was (x ∷ steps) step = open_push (not (is_crash x)) steps step

-- nothing is pending
pub record IsAtRest (s : State) : Type 0 where
  pub same : s.base ≡ s.contents
  pub none : s.ranges ≡ []

rest_step : (s : State) (step : Step) → not (is_crash step) ≡ false → IsAtRest (after_step s step)
rest_step s (Sized file failed) is = absurd (cc)
rest_step s (Read file at n failed) is = absurd (cc)
rest_step s (Wrote file at bytes failed reached) is = absurd (cc)
rest_step s (Synced file failed) is = absurd (cc)
rest_step s (Took event) is = absurd (cc)
rest_step s (Sent conn bytes failed) is = absurd (cc)
rest_step s (Shut conn) is = absurd (cc)
rest_step s (Crashed choice) is = record { same = refl; none = refl }

pub at_rest : (was : Bool) (s : State) (steps : List Step) → open_on was steps ≡ false → (was ≡ false → IsAtRest s) → IsAtRest (after s steps)
at_rest was s [] is rest = rest is
at_rest was s (step ∷ steps) is rest = at_rest (not (is_crash step)) (after_step s step) steps is (rest_step s step)

cleared : {A : Type 0} (b : Bool) (xs : List A) → not b ≡ false → (if b then [] else xs) ≡ []
cleared true xs is = refl
cleared false xs is = absurd (cc)

no_items_on : (was : Bool) (n : ℕ) (items : List Item) (steps : List Step) → open_on was steps ≡ false → (was ≡ false → items ≡ []) → items_on n items steps ≡ []
no_items_on was n items [] is none = none is
no_items_on was n items (step ∷ steps) is none =
    no_items_on (not (is_crash step)) (n + 1) (if is_crash step then [] else items ++ item_of (n + 1) step) steps is (cleared (is_crash step) (items ++ item_of (n + 1) step))

pub no_items : (steps : List Step) → is_open steps ≡ false → items_from 0 steps ≡ []
no_items steps is = no_items_on false 0 [] steps is (λ _. refl)

no_calls_on : (was : Bool) (n : ℕ) (calls : List DiskCall) (steps : List Step) → open_on was steps ≡ false → (was ≡ false → calls ≡ []) → calls_on n calls steps ≡ []
no_calls_on was n calls [] is none = none is
no_calls_on was n calls (step ∷ steps) is none =
    no_calls_on (not (is_crash step)) (n + 1) (if is_crash step then [] else calls ++ call_of (n + 1) step) steps is (cleared (is_crash step) (calls ++ call_of (n + 1) step))

pub no_calls : (steps : List Step) → is_open steps ≡ false → calls_from 0 steps ≡ []
no_calls steps is = no_calls_on false 0 [] steps is (λ _. refl)

-- a connection that is open was opened since the last crash
pub live_open : (conn : ℕ) (steps : List Step) → IsLive conn (items_from 0 steps) → IsTrue (is_open steps)
live_open conn steps live = go (is_open steps) refl
  where
    go : (b : Bool) → is_open steps ≡ b → IsTrue b
    go true is = refl
    go false is = absurd (not_live (subst (λ (l : List Item). IsLive conn l) (no_items steps is) live))
      where
        not_live : IsLive conn [] → ⊥
        not_live l = absurd (cc)
