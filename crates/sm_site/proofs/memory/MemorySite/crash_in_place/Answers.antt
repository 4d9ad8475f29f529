use Rattle.std.proofs.Common.{rules, ◌≡◌, false, ◌++◌, ◌∷◌, [], ℕ, List, refl, sym, ap, ◌∙◌, subst}
use Rattle.sm_site.specs.declared.step.Step.{Step}
use Rattle.sm_site.specs.declared.step.Step.TheVariants.{Crashed}
use Rattle.sm_site.specs.declared.step.Pending.{Pending}
use Rattle.sm_site.specs.Image.{bytes_of}
use Rattle.sm_site.specs.Meanings.{Item, IsLive}
use Rattle.sm_site.specs.Past.{State, Undoes, Agrees, after, after_step, start, image_of, chosen, is_open, ranges_from, items_from}
use Rattle.sm_site.proofs.Steps.{after_push, items_push}
use Rattle.sm_site.proofs.Kept.{crashed_files}
use Rattle.sm_site.proofs.Opens.{IsAtRest, at_rest, no_items, open_push}
use Rattle.sm_site.proofs.Ordered.{ordered_step}
use Rattle.sm_site.proofs.Crashes.{chosen_rest}
use Rattle.sm_site.proofs.Outcomes.{agrees_start}
use Rattle.sm_site.proofs.memory.MemorySite.crash_in_place.Goals as goal

no_live : (conn : ℕ) → IsLive conn [] → ⊥
no_live conn live = absurd (cc)

pub invariant_of-self-clause-cached : goal.invariant_of-self-clause-cached
invariant_of-self-clause-cached c =
    let self = c.args.self.now in
    let first = start self.first.items in
    let old = after first self.past.items in
    let later : c.push.new.self.items ≡ self.past.items ++ Crashed c.args.choice ∷ [] = search rules in
    let is : after first c.push.new.self.items ≡ after_step old (Crashed c.args.choice) = ap (λ (l : List Step). after first l) later ∙ after_push first self.past.items (Crashed c.args.choice) in
    let files : (k : ℕ) → bytes_of (image_of c.crash_files.new.files.items) k ≡ bytes_of (chosen c.args.choice old) k =
    crashed_files c.args.choice old (image_of self.files.items)
    (image_of c.crash_files.new.files.items) self.pending.items self.cached self.ranges self.undoes c.crash_files.ensures.old c.crash_files.ensures.new c.crash_files.ensures.filled in
    λ k. files k ∙ ap (λ (s : State). bytes_of s.contents k) (sym is)

pub invariant_of-self-clause-ranges : goal.invariant_of-self-clause-ranges
invariant_of-self-clause-ranges c =
    let self = c.args.self.now in
    let first = start self.first.items in
    let later : c.push.new.self.items ≡ self.past.items ++ Crashed c.args.choice ∷ [] = search rules in
    let is : after first c.push.new.self.items ≡ after_step (after first self.past.items) (Crashed c.args.choice) = ap (λ (l : List Step). after first l) later ∙ after_push first self.past.items (Crashed c.args.choice) in
    ap (λ (s : State). s.ranges) is ∙ ap (λ (l : List Pending). ranges_from [] l) (sym c.crash_files.ensures.none)

pub invariant_of-self-clause-undoes : goal.invariant_of-self-clause-undoes
invariant_of-self-clause-undoes c =
    let self = c.args.self.now in
    let first = start self.first.items in
    let old = after first self.past.items in
    let later : c.push.new.self.items ≡ self.past.items ++ Crashed c.args.choice ∷ [] = search rules in
    let is : after first c.push.new.self.items ≡ after_step old (Crashed c.args.choice) = ap (λ (l : List Step). after first l) later ∙ after_push first self.past.items (Crashed c.args.choice) in
    let files : (k : ℕ) → bytes_of (image_of c.crash_files.new.files.items) k ≡ bytes_of (chosen c.args.choice old) k =
    crashed_files c.args.choice old (image_of self.files.items)
    (image_of c.crash_files.new.files.items) self.pending.items self.cached self.ranges self.undoes c.crash_files.ensures.old c.crash_files.ensures.new c.crash_files.ensures.filled in
    subst (λ (l : List Pending). Undoes l (image_of c.crash_files.new.files.items) (after first c.push.new.self.items).base) (sym c.crash_files.ensures.none) (λ k. files k ∙ ap (λ (s : State). bytes_of s.base k) (sym is))

pub invariant_of-self-clause-agrees : goal.invariant_of-self-clause-agrees
invariant_of-self-clause-agrees c =
    let self = c.args.self.now in
    let first = start self.first.items in
    let old = after first self.past.items in
    let later : c.push.new.self.items ≡ self.past.items ++ Crashed c.args.choice ∷ [] = search rules in
    let is : after first c.push.new.self.items ≡ after_step old (Crashed c.args.choice) = ap (λ (l : List Step). after first l) later ∙ after_push first self.past.items (Crashed c.args.choice) in
    subst (λ (s : State). Agrees s) (sym is) (agrees_start (chosen c.args.choice old))

pub invariant_of-self-clause-tracked : goal.invariant_of-self-clause-tracked
invariant_of-self-clause-tracked c =
    let self = c.args.self.now in
    let later : c.push.new.self.items ≡ self.past.items ++ Crashed c.args.choice ∷ [] = search rules in
    let none : items_from 0 c.push.new.self.items ≡ [] = ap (λ (l : List Step). items_from 0 l) later ∙ items_push 0 self.past.items (Crashed c.args.choice) in
    λ conn live. absurd (no_live conn (subst (λ (l : List Item). IsLive conn l) none live))

pub invariant_of-self-clause-spare : goal.invariant_of-self-clause-spare
invariant_of-self-clause-spare c = λ opened.
    let self = c.args.self.now in
    let later : c.push.new.self.items ≡ self.past.items ++ Crashed c.args.choice ∷ [] = search rules in
    let shut : is_open c.push.new.self.items ≡ false = ap (λ (l : List Step). is_open l) later ∙ open_push false self.past.items (Crashed c.args.choice) in
    absurd (cc)

at_rest_now : (first : State) (past : List Step) → first.base ≡ first.contents → first.ranges ≡ [] → is_open past ≡ false → IsAtRest (after first past)
at_rest_now first past same none is = at_rest false first past is (λ _. record { same = same; none = none })

pub invariant_of-self-else-has_begun-clause-cached : goal.invariant_of-self-else-has_begun-clause-cached
invariant_of-self-else-has_begun-clause-cached c =
    let self = c.args.self.now in
    let first = start self.first.items in
    let old = after first self.past.items in
    let shut : is_open self.past.items ≡ false = search rules in
    let rest = at_rest_now first self.past.items refl refl shut in
    λ k. crashed_files c.args.choice old (image_of self.files.items)
    (image_of c.crash_files.new.files.items) self.pending.items self.cached self.ranges self.undoes c.crash_files.ensures.old c.crash_files.ensures.new c.crash_files.ensures.filled k
    ∙ ap (λ i. bytes_of i k) (chosen_rest c.args.choice old rest)

pub invariant_of-self-else-has_begun-clause-ranges : goal.invariant_of-self-else-has_begun-clause-ranges
invariant_of-self-else-has_begun-clause-ranges c =
    let self = c.args.self.now in
    let shut : is_open self.past.items ≡ false = search rules in
    (at_rest_now (start self.first.items) self.past.items refl refl shut).none ∙ ap (λ (l : List Pending). ranges_from [] l) (sym c.crash_files.ensures.none)

pub invariant_of-self-else-has_begun-clause-undoes : goal.invariant_of-self-else-has_begun-clause-undoes
invariant_of-self-else-has_begun-clause-undoes c =
    let self = c.args.self.now in
    let first = start self.first.items in
    let old = after first self.past.items in
    let shut : is_open self.past.items ≡ false = search rules in
    let rest = at_rest_now first self.past.items refl refl shut in
    subst (λ (l : List Pending). Undoes l (image_of c.crash_files.new.files.items) old.base) (sym c.crash_files.ensures.none)
    (λ k. crashed_files c.args.choice old (image_of self.files.items)
    (image_of c.crash_files.new.files.items) self.pending.items self.cached self.ranges self.undoes c.crash_files.ensures.old c.crash_files.ensures.new c.crash_files.ensures.filled k
    ∙ ap (λ i. bytes_of i k) (chosen_rest c.args.choice old rest ∙ sym rest.same))

pub invariant_of-self-else-has_begun-clause-tracked : goal.invariant_of-self-else-has_begun-clause-tracked
invariant_of-self-else-has_begun-clause-tracked c =
    let self = c.args.self.now in
    let shut : is_open self.past.items ≡ false = search rules in
    λ conn live. absurd (no_live conn (subst (λ (l : List Item). IsLive conn l) (no_items self.past.items shut) live))

pub invariant_of-self-clause-ordered : goal.invariant_of-self-clause-ordered
invariant_of-self-clause-ordered c =
    let self = c.args.self.now in
    let later : c.push.new.self.items ≡ self.past.items ++ Crashed c.args.choice ∷ [] = search rules in
    ordered_step self.past.items c.push.new.self.items (Crashed c.args.choice) later refl self.ordered
