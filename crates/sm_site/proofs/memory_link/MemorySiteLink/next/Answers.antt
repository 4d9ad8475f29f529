use Rattle.std.proofs.Common.{rules, refl, subst, sym, ap, ◌∙◌, ◌≡◌, ◌≤◌, ℕ, IsTrue, List, drop, length}
use Rattle.sm_site.specs.declared.event.Event.{Event}
use Rattle.sm_site.specs.declared.step.Step.{Step}
use Rattle.sm_site.specs.declared.step.Step.TheVariants.{Took}
use Rattle.sm_site.specs.Event.{deal_of}
use Rattle.sm_site.specs.Image.{bytes_of}
use Rattle.sm_site.specs.Past.{Agrees, State, after, numbers_of, start}
use Rattle.sm_site.specs.Scripts.{IsTaken, is_script, number_after}
use Rattle.sm_site.proofs.Given.{numbers_push, taken_good, rising}
use Rattle.sm_site.proofs.Ordered.{new_event, ordered_step}
use Rattle.sm_site.proofs.Steps.{adds_item, after_push, link_step}
use Rattle.sm_site.proofs.memory_link.MemorySiteLink.next.Goals as goal

pub returns-in-Ok-clause-taken : goal.returns-in-Ok-clause-taken
returns-in-Ok-clause-taken c =
    let past = c.args.self.now.past.items in
    adds_item past c.take_event-next.new.past.items (Took c.in-Ok.event) (deal_of c.in-Ok.event) refl c.in-Ok.ensures.past refl

pub returns-in-Ok-clause-rising : goal.returns-in-Ok-clause-rising
returns-in-Ok-clause-rising c =
    let self = c.args.self.now in
    let event = c.in-Ok.event in
    let lent : c.deref.result.now ≡ self.script.items = search rules in
    let next : IsTaken event (drop self.taken self.script.items) (drop c.take_event-next.new.taken self.script.items) =
    subst (λ (l : List Event). IsTaken event (drop self.taken l) (drop c.take_event-next.new.taken l)) lent c.in-Ok.ensures.next in
    let good = taken_good (numbers_of self.past.items) event _ _ next self.scripted in
    rising self.past.items (number_after (numbers_of self.past.items) (deal_of event)) event good.gives

pub invariant_of-self-in-Ok-1 : goal.invariant_of-self-in-Ok-1
invariant_of-self-in-Ok-1 c =
    let self = c.args.self.now in
    let event = c.in-Ok.event in
    let later = c.take_event-next.new.past.items in
    let taken = c.take_event-next.new.taken in
    let n = numbers_of self.past.items in
    let lent : c.deref.result.now ≡ self.script.items = search rules in
    let is : after (start self.first.items) later ≡ after (start self.first.items) self.past.items =
    ap (λ (l : List Step). after (start self.first.items) l) c.in-Ok.ensures.past ∙ after_push (start self.first.items) self.past.items (Took event) in
    let next : IsTaken event (drop self.taken self.script.items) (drop taken self.script.items) =
    subst (λ (l : List Event). IsTaken event (drop self.taken l) (drop taken l)) lent c.in-Ok.ensures.next in
    let good = taken_good n event (drop self.taken self.script.items) (drop taken self.script.items) next self.scripted in
    let given : numbers_of later ≡ number_after n (deal_of event) = ap numbers_of c.in-Ok.ensures.past ∙ numbers_push 0 self.past.items (Took event) in
    record {
      cached = λ k. self.cached k ∙ ap (λ (s : State). bytes_of s.contents k) (sym is);
      ranges = ap (λ (s : State). s.ranges) is ∙ self.ranges;
      undoes = λ k. self.undoes k ∙ ap (λ (s : State). bytes_of s.base k) (sym is);
      agrees = subst (λ (s : State). Agrees s) (sym is) self.agrees;
      tracked = c.in-Ok.ensures.tracked self.tracked;
      spare = c.in-Ok.ensures.spare self.spare;
      within = subst (λ (l : List Event). taken ≤ length l) lent c.in-Ok.ensures.within;
      scripted = subst (λ (m : ℕ). IsTrue (is_script m (drop taken self.script.items))) (sym given) good.script;
      ordered = ordered_step self.past.items later (Took event) c.in-Ok.ensures.past (new_event n (number_after n (deal_of event)) event good.gives) self.ordered;
    }

pub returns-in-Ok-clause-link_alone : goal.returns-in-Ok-clause-link_alone
returns-in-Ok-clause-link_alone c = link_step _ _ (Took c.in-Ok.event) refl c.in-Ok.ensures.past (λ s. refl) refl (λ m. refl) refl refl refl
