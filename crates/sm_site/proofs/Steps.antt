-- One step more.
use Rattle.std.proofs.Common.{◌≡◌, inr, ℕ, Bool, false, if◌then◌else◌, ◌+◌, ◌≤◌, ◌<◌, List, [], ◌∷◌, ◌++◌, length, take, refl, sym, ◌∙◌, ap, subst, arith, Some}
use Rattle.std.proofs.lemmas.List.{take_all, take-append-le, length_push, append-nil}
use Rattle.sm_site.specs.declared.step.FileBytes.{FileBytes}
use Rattle.sm_site.specs.declared.step.Step.{Step}
use Rattle.sm_site.specs.Image.{Image}
use Rattle.sm_site.specs.Meanings.{View, DiskCall, Item, Deal}
use Rattle.sm_site.specs.Clauses.{Elapses, LinkAlone}
use Rattle.sm_site.specs.declared.memory.MemorySite.{MemorySite}
use Rattle.sm_site.specs.Memory.{site_seen, site_view}
use Rattle.sm_site.proofs.Given.{numbers_push}
use Rattle.sm_site.specs.Past.{State, after, after_step, start, IsOutcome, LeftAt, is_crash, call_of, calls_on, calls_from, item_of, items_on, items_from}

pub after_push : (s : State) (steps : List Step) (step : Step) → after s (steps ++ step ∷ []) ≡ after_step (after s steps) step
after_push s [] step = refl
after_push s (x ∷ steps) step = after_push (after_step s x) steps step

calls_on_push : (n : ℕ) (calls : List DiskCall) (steps : List Step) (step : Step) → calls_on n calls (steps ++ step ∷ []) ≡ (if is_crash step then [] else calls_on n calls steps ++ call_of (n + length steps + 1) step)
calls_on_push n calls [] step = ap (λ (m : ℕ). if is_crash step then [] else calls ++ call_of m step) (omega arith)
calls_on_push n calls (x ∷ steps) step =
    calls_on_push (n + 1) (if is_crash x then [] else calls ++ call_of (n + 1) x) steps step
    ∙ ap (λ (m : ℕ). if is_crash step then [] else calls_on (n + 1) (if is_crash x then [] else calls ++ call_of (n + 1) x) steps ++ call_of m step) (omega arith)

pub calls_push : (n : ℕ) (steps : List Step) (step : Step) → calls_from n (steps ++ step ∷ []) ≡ (if is_crash step then [] else calls_from n steps ++ call_of (n + length steps + 1) step)
calls_push n steps step = calls_on_push n [] steps step

items_on_push : (n : ℕ) (items : List Item) (steps : List Step) (step : Step) → items_on n items (steps ++ step ∷ []) ≡ (if is_crash step then [] else items_on n items steps ++ item_of (n + length steps + 1) step)
items_on_push n items [] step = ap (λ (m : ℕ). if is_crash step then [] else items ++ item_of m step) (omega arith)
items_on_push n items (x ∷ steps) step =
    items_on_push (n + 1) (if is_crash x then [] else items ++ item_of (n + 1) x) steps step
    ∙ ap (λ (m : ℕ). if is_crash step then [] else items_on (n + 1) (if is_crash x then [] else items ++ item_of (n + 1) x) steps ++ item_of m step) (omega arith)

pub items_push : (n : ℕ) (steps : List Step) (step : Step) → items_from n (steps ++ step ∷ []) ≡ (if is_crash step then [] else items_from n steps ++ item_of (n + length steps + 1) step)
items_push n steps step = items_on_push n [] steps step

module _ (first : List FileBytes) where
  abbrev now : List Step → Image → Type 0
  now past = IsOutcome (after (start first) past)

  -- nothing happened
  pub elapses_none : (old new : View) (past : List Step) → old.moment ≡ length past → new.moment ≡ length past
      → Elapses old new (LeftAt first past) (LeftAt first past) (IsOutcome (after (start first) past)) (IsOutcome (after (start first) past))
  elapses_none old new past is was = record {
    later = omega arith;
    keeps = λ t c le. (λ l. l, λ l. l);
    within = λ t c after left. absurd (omega (arith, left.0));
  }

  pub elapses_step : (old new : View) (past later : List Step) (step : Step) → later ≡ past ++ step ∷ [] → old.moment ≡ length past → new.moment ≡ length later
      → Elapses old new (LeftAt first past) (LeftAt first later) (IsOutcome (after (start first) past)) (IsOutcome (after (start first) later))
  elapses_step old new past later step is was at = record {
    later = omega (arith, ap length is, length_push past step);
    keeps = λ t c le.
        let same : take t later ≡ take t past = ap (λ (l : List Step). take t l) is ∙ take-append-le t past (step ∷ []) (omega arith) in
        let long : length later ≡ length past + 1 = ap length is ∙ length_push past step in
        (λ l. (omega arith, subst (λ (p : List Step). IsOutcome (after (start first) p) c) same l.1), λ l. (omega (arith, l.0), subst (λ (p : List Step). IsOutcome (after (start first) p) c) (sym same) l.1));
    within = λ t c since left.
        let long : length later ≡ length past + 1 = ap length is ∙ length_push past step in
        inr (subst (λ (p : List Step). IsOutcome (after (start first) p) c) (take_all t later (omega arith)) left.1);
  }

-- a step of the link alone
pub link_step : (old new : MemorySite) (step : Step) → new.first.items ≡ old.first.items → new.past.items ≡ old.past.items ++ step ∷ []
    → ((s : State) → after_step s step ≡ s) → is_crash step ≡ false → ((m : ℕ) → call_of m step ≡ [])
    → new.reads ≡ old.reads → new.disk_faults ≡ old.disk_faults → (site_view new).chosen ≡ (site_view old).chosen → LinkAlone site_seen old new
link_step old new step first past still quiet uncalled reads faults chosen =
    let s = after (start old.first.items) old.past.items in
    let state : after (start new.first.items) new.past.items ≡ s =
    ap (λ (f : List FileBytes). after (start f) new.past.items) first
    ∙ ap (λ (l : List Step). after (start old.first.items) l) past ∙ after_push (start old.first.items) old.past.items step ∙ still s in
    let calls : calls_from 0 new.past.items ≡ calls_from 0 old.past.items =
    ap (λ (l : List Step). calls_from 0 l) past ∙ calls_push 0 old.past.items step
    ∙ ap (λ (b : Bool). if b then [] else calls_from 0 old.past.items ++ call_of (0 + length old.past.items + 1) step) quiet
    ∙ ap (λ (l : List DiskCall). calls_from 0 old.past.items ++ l) (uncalled (0 + length old.past.items + 1)) ∙ append-nil (calls_from 0 old.past.items) in
    record {
      disk = record { contents = ap (λ (x : State). Some x.contents) state; calls = ap (λ (l : List DiskCall). Some l) calls; reads = reads; disk_faults = faults; chosen = chosen };
      crash = λ c. (λ now. subst (λ (x : State). IsOutcome x c) state now, λ was. subst (λ (x : State). IsOutcome x c) (sym state) was);
      time = subst (λ (f : List FileBytes). Elapses (site_view old) (site_view new) (LeftAt old.first.items old.past.items) (LeftAt f new.past.items) (IsOutcome s) (IsOutcome (after (start f) new.past.items)))
          (sym first) (elapses_step old.first.items (site_view old) (site_view new) old.past.items new.past.items step past refl refl);
    }

pub ruleset stepping = (after_push, calls_push, items_push, numbers_push, append-nil)

-- an entry more in the transcript
pub adds_item : (past later : List Step) (step : Step) (deal : Deal) → is_crash step ≡ false → later ≡ past ++ step ∷ [] → item_of (0 + length past + 1) step ≡ (record { moment = 0 + length past + 1; deal = deal }) ∷ []
    → (m : ℕ) × (length past < m) × (m ≤ length later) × (items_from 0 later ≡ items_from 0 past ++ (record { moment = m; deal = deal }) ∷ [])
adds_item past later step deal quiet is one = (
  0 + length past + 1,
  omega arith,
  omega (arith, ap length is, length_push past step),
  ap (λ (l : List Step). items_from 0 l) is ∙ items_push 0 past step ∙ ap (λ (b : Bool). if b then [] else items_from 0 past ++ item_of (0 + length past + 1) step) quiet ∙ ap (λ (l : List Item). items_from 0 past ++ l) one,
)
