-- The state after a crash.
use Rattle.std.proofs.Common.{◌≡◌, ◌⊎◌, inl, inr, ℕ, zero, suc, Bool, true, false, IsTrue, List, [], ◌∷◌, ◌++◌, refl, sym, ◌∙◌, ap, subst, ◌+◌, if◌then◌else◌}
use Rattle.sm_site.specs.declared.step.FileBytes.{FileBytes}
use Rattle.sm_site.specs.declared.step.Step.{Step}
use Rattle.sm_site.specs.declared.step.Step.TheVariants.{Crashed}
use Rattle.sm_site.specs.Image.{Image, bytes_of}
use Rattle.sm_site.specs.Meanings.{Item}
use Rattle.sm_site.specs.Clauses.{Kept}
use Rattle.sm_site.specs.Past.{Agrees, openings_of, openings_on, with_items, is_crash, is_open, item_of, items_on, State, Range, after, after_step, start, chosen, filled, IsOutcome, Patched, calls_from, items_from, numbers_of}
use Rattle.sm_site.proofs.Steps.{after_push, calls_push, items_push}
use Rattle.sm_site.proofs.Given.{numbers_push}
use Rattle.sm_site.proofs.Opens.{IsAtRest, at_rest, no_items, no_calls}
use Rattle.sm_site.proofs.Outcomes.{settled_start, old_outcome}
use Rattle.sm_site.proofs.Filled.{filled_is_outcome}

openings_on_push : (n : ℕ) (kept : List (List Item)) (items : List Item) (steps : List Step) (choice : ℕ)
    → openings_on n kept items (steps ++ Crashed choice ∷ []) ≡ with_items (items_on n items steps) (openings_on n kept items steps)
openings_on_push n kept items [] choice = refl
openings_on_push n kept items (x ∷ steps) choice =
    openings_on_push (n + 1) (if is_crash x then with_items items kept else kept) (if is_crash x then [] else items ++ item_of (n + 1) x) steps choice

kept_is : (items : List Item) (old new : List (List Item)) → new ≡ with_items items old → Kept items old new
kept_is [] old new is = is
kept_is (item ∷ items) old new is = is

-- each choice is an outcome
pub chosen_outcome : (choice : ℕ) (s : State) → Agrees s → IsOutcome s (chosen choice s)
chosen_outcome zero s agrees = old_outcome s
chosen_outcome (suc zero) s agrees = λ file. inl refl
chosen_outcome (suc (suc n)) s agrees = filled_is_outcome (suc (suc n)) s agrees

-- where nothing is pending each choice keeps the contents
pub chosen_rest : (choice : ℕ) (s : State) → IsAtRest s → chosen choice s ≡ s.contents
chosen_rest zero s rest = rest.same
chosen_rest (suc zero) s rest = refl
chosen_rest (suc (suc n)) s rest = ap (λ (rs : List Range). filled (suc (suc n)) s.contents rs) rest.none

settled_rest : (s : State) (c : Image) → IsAtRest s → IsOutcome s c → (file : ℕ) → bytes_of c file ≡ bytes_of s.contents file
settled_rest s c rest left = settled_start s.contents c (subst (λ (b : Image). IsOutcome (record { contents = s.contents; base = b; ranges = [] }) c) rest.same
    (subst (λ (rs : List Range). IsOutcome (record { contents = s.contents; base = s.base; ranges = rs }) c) rest.none left))

module _ (first : List FileBytes) (past later : List Step) (choice : ℕ) (crashed : IsTrue (is_open past) → later ≡ past ++ Crashed choice ∷ []) (same : is_open past ≡ false → later ≡ past) where
  cases : (b : Bool) → is_open past ≡ b → (later ≡ past ++ Crashed choice ∷ []) ⊎ ((later ≡ past) × IsAtRest (after (start first) past))
  cases true is = inl (crashed is)
  cases false is = inr (same is, at_rest false (start first) past is (λ _. record { same = refl; none = refl }))

  state : later ≡ past ++ Crashed choice ∷ [] → after (start first) later ≡ after_step (after (start first) past) (Crashed choice)
  state is = ap (λ (l : List Step). after (start first) l) is ∙ after_push (start first) past (Crashed choice)

  pub crash_kept : (file : ℕ) → bytes_of (after (start first) later).contents file ≡ bytes_of (chosen choice (after (start first) past)) file
  crash_kept file = elim (cases (is_open past) refl) [
    | inl is ↦ ap (λ (s : State). bytes_of s.contents file) (state is)
    | inr (is, rest) ↦ ap (λ (l : List Step). bytes_of (after (start first) l).contents file) is ∙ sym (ap (λ (c : Image). bytes_of c file) (chosen_rest choice (after (start first) past) rest))
  ]

  pub crash_outcome : Agrees (after (start first) past) → IsOutcome (after (start first) past) (after (start first) later).contents
  crash_outcome agrees file =
      let s = after (start first) past in
      subst (λ (l : List ℕ). (l ≡ bytes_of s.contents file) ⊎ Patched file s l) (sym (crash_kept file)) (chosen_outcome choice s agrees file)

  pub crash_settled : (c : Image) → IsOutcome (after (start first) later) c → (file : ℕ) → bytes_of c file ≡ bytes_of (after (start first) later).contents file
  crash_settled c left = elim (cases (is_open past) refl) [
    | inl is ↦ settled_rest (after (start first) later) c (subst (λ (s : State). IsAtRest s) (sym (state is)) (record { same = refl; none = refl })) left
    | inr (is, rest) ↦ settled_rest (after (start first) later) c (subst (λ (l : List Step). IsAtRest (after (start first) l)) (sym is) rest) left
  ]

  pub crash_transcript : items_from 0 later ≡ []
  crash_transcript = go (is_open past) refl
    where
      go : (b : Bool) → is_open past ≡ b → items_from 0 later ≡ []
      go true is = ap (λ (l : List Step). items_from 0 l) (crashed is) ∙ items_push 0 past (Crashed choice)
      go false is = ap (λ (l : List Step). items_from 0 l) (same is) ∙ no_items past is

  pub crash_calls : calls_from 0 later ≡ []
  crash_calls = go (is_open past) refl
    where
      go : (b : Bool) → is_open past ≡ b → calls_from 0 later ≡ []
      go true is = ap (λ (l : List Step). calls_from 0 l) (crashed is) ∙ calls_push 0 past (Crashed choice)
      go false is = ap (λ (l : List Step). calls_from 0 l) (same is) ∙ no_calls past is

  pub crash_numbers : numbers_of later ≡ numbers_of past
  crash_numbers = go (is_open past) refl
    where
      go : (b : Bool) → is_open past ≡ b → numbers_of later ≡ numbers_of past
      go true is = ap (λ (l : List Step). numbers_of l) (crashed is) ∙ numbers_push 0 past (Crashed choice)
      go false is = ap (λ (l : List Step). numbers_of l) (same is)

  pub crash_openings : Kept (items_from 0 past) (openings_of past) (openings_of later)
  crash_openings = go (is_open past) refl
    where
      go : (b : Bool) → is_open past ≡ b → Kept (items_from 0 past) (openings_of past) (openings_of later)
      go true is = kept_is (items_from 0 past) (openings_of past) (openings_of later) (ap (λ (l : List Step). openings_of l) (crashed is) ∙ openings_on_push 0 [] [] past choice)
      go false is = subst (λ (l : List Item). Kept l (openings_of past) (openings_of later)) (sym (no_items past is)) (ap (λ (l : List Step). openings_of l) (same is))
