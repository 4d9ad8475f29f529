use Rattle.std.proofs.Common.{◌≡◌, List, sym, ap, ◌∙◌, subst}
use Rattle.sm_site.specs.declared.step.FileBytes.{FileBytes}
use Rattle.sm_site.specs.Image.{bytes_of}
use Rattle.sm_site.specs.Past.{after, start, IsOutcome}
use Rattle.sm_site.proofs.Crashes.{crash_kept, crash_numbers, crash_openings, crash_outcome, crash_settled, crash_transcript}
use Rattle.sm_site.proofs.memory_crash.MemorySiteCrashing.crash_here.Goals as goal

pub returns-clause-kept : goal.returns-clause-kept
returns-clause-kept c = λ file.
    let old = c.args.self.now in
    let new = c.crash_in_place.new.self in
    ap (λ (l : List FileBytes). bytes_of (after (start l) new.past.items).contents file) c.crash_in_place.ensures.first
    ∙ crash_kept old.first.items old.past.items new.past.items c.args.choice c.crash_in_place.ensures.crashed c.crash_in_place.ensures.same file

pub returns-clause-image : goal.returns-clause-image
returns-clause-image c =
    let old = c.args.self.now in
    let new = c.crash_in_place.new.self in
    let is : new.first.items ≡ old.first.items = c.crash_in_place.ensures.first in
    subst (λ (l : List FileBytes). IsOutcome (after (start old.first.items) old.past.items) (after (start l) new.past.items).contents) (sym is)
    (crash_outcome old.first.items old.past.items new.past.items c.args.choice c.crash_in_place.ensures.crashed c.crash_in_place.ensures.same old.agrees)

pub returns-clause-settled : goal.returns-clause-settled
returns-clause-settled c = λ x left file.
    let old = c.args.self.now in
    let new = c.crash_in_place.new.self in
    let left' : IsOutcome (after (start old.first.items) new.past.items) x = subst (λ (l : List FileBytes). IsOutcome (after (start l) new.past.items) x) c.crash_in_place.ensures.first left in
    crash_settled old.first.items old.past.items new.past.items c.args.choice c.crash_in_place.ensures.crashed c.crash_in_place.ensures.same x left' file
    ∙ ap (λ (l : List FileBytes). bytes_of (after (start l) new.past.items).contents file) (sym c.crash_in_place.ensures.first)

pub returns-clause-transcript : goal.returns-clause-transcript
returns-clause-transcript c =
    let old = c.args.self.now in
    crash_transcript old.first.items old.past.items c.crash_in_place.new.self.past.items c.args.choice c.crash_in_place.ensures.crashed c.crash_in_place.ensures.same

pub returns-clause-openings : goal.returns-clause-openings
returns-clause-openings c =
    let old = c.args.self.now in
    crash_openings old.first.items old.past.items c.crash_in_place.new.self.past.items c.args.choice c.crash_in_place.ensures.crashed c.crash_in_place.ensures.same

pub returns-clause-numbers : goal.returns-clause-numbers
returns-clause-numbers c =
    let old = c.args.self.now in
    crash_numbers old.first.items old.past.items c.crash_in_place.new.self.past.items c.args.choice c.crash_in_place.ensures.crashed c.crash_in_place.ensures.same
