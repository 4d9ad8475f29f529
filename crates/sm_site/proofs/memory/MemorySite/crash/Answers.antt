use Rattle.std.proofs.Common.{◌≡◌, ℕ, Some, IsTrue, List, drop, sym, ap, ◌∙◌, subst}
use Rattle.sm_site.specs.declared.step.FileBytes.{FileBytes}
use Rattle.sm_site.specs.declared.event.Event.{Event}
use Rattle.sm_site.specs.Image.{bytes_of}
use Rattle.sm_site.specs.Meanings.{DiskCall, Item}
use Rattle.sm_site.specs.Past.{after, numbers_of, start, IsOutcome}
use Rattle.sm_site.specs.Scripts.{is_script}
use Rattle.sm_site.proofs.Crashes.{crash_calls, crash_kept, crash_numbers, crash_outcome, crash_settled, crash_transcript}
use Rattle.sm_site.proofs.memory.MemorySite.crash.Goals as goal

pub returns-clause-kept : goal.returns-clause-kept
returns-clause-kept c = λ file.
    let old = c.args.self in
    let new = c.crash_in_place.new.self in
    ap (λ (l : List FileBytes). bytes_of (after (start l) new.past.items).contents file) c.crash_in_place.ensures.first
    ∙ crash_kept old.first.items old.past.items new.past.items c.args.choice c.crash_in_place.ensures.crashed c.crash_in_place.ensures.same file

pub returns-clause-image : goal.returns-clause-image
returns-clause-image c =
    let old = c.args.self in
    let new = c.crash_in_place.new.self in
    let is : new.first.items ≡ old.first.items = c.crash_in_place.ensures.first in
    subst (λ (l : List FileBytes). IsOutcome (after (start old.first.items) old.past.items) (after (start l) new.past.items).contents) (sym is)
    (crash_outcome old.first.items old.past.items new.past.items c.args.choice c.crash_in_place.ensures.crashed c.crash_in_place.ensures.same old.agrees)

pub returns-clause-settled : goal.returns-clause-settled
returns-clause-settled c = λ x left file.
    let old = c.args.self in
    let new = c.crash_in_place.new.self in
    let left' : IsOutcome (after (start old.first.items) new.past.items) x = subst (λ (l : List FileBytes). IsOutcome (after (start l) new.past.items) x) c.crash_in_place.ensures.first left in
    crash_settled old.first.items old.past.items new.past.items c.args.choice c.crash_in_place.ensures.crashed c.crash_in_place.ensures.same x left' file
    ∙ ap (λ (l : List FileBytes). bytes_of (after (start l) new.past.items).contents file) (sym c.crash_in_place.ensures.first)

pub returns-clause-transcript : goal.returns-clause-transcript
returns-clause-transcript c =
    let old = c.args.self in
    ap (λ (l : List Item). Some l) (crash_transcript old.first.items old.past.items c.crash_in_place.new.self.past.items c.args.choice c.crash_in_place.ensures.crashed c.crash_in_place.ensures.same)

pub returns-clause-calls : goal.returns-clause-calls
returns-clause-calls c =
    let old = c.args.self in
    ap (λ (l : List DiskCall). Some l) (crash_calls old.first.items old.past.items c.crash_in_place.new.self.past.items c.args.choice c.crash_in_place.ensures.crashed c.crash_in_place.ensures.same)

pub returns-clause-numbers : goal.returns-clause-numbers
returns-clause-numbers c =
    let old = c.args.self in
    crash_numbers old.first.items old.past.items c.crash_in_place.new.self.past.items c.args.choice c.crash_in_place.ensures.crashed c.crash_in_place.ensures.same

pub invariant_of-self-clause-scripted : goal.invariant_of-self-clause-scripted
invariant_of-self-clause-scripted c =
    let old = c.args.self in
    let new = c.crash_in_place.new.self in
    let numbers : numbers_of new.past.items ≡ numbers_of old.past.items =
    crash_numbers old.first.items old.past.items new.past.items c.args.choice c.crash_in_place.ensures.crashed c.crash_in_place.ensures.same in
    let script : IsTrue (is_script (numbers_of old.past.items) c.into_vec.result.items) =
    subst (λ (l : List Event). IsTrue (is_script (numbers_of old.past.items) l)) (sym c.into_vec.ensures) c.requires.script in
    subst (λ (n : ℕ). IsTrue (is_script (numbers_of new.past.items) (drop n c.into_vec.result.items))) (sym c.crash_in_place.ensures.taken)
    (subst (λ (n : ℕ). IsTrue (is_script n c.into_vec.result.items)) (sym numbers) script)
