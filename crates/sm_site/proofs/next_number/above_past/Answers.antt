use Rattle.std.proofs.Common.{arith, ◌≡◌, ◌+◌, ◌<◌, ◌^◌, ℕ, Option, None, Some, subst, sym, ◌∙◌}
use Rattle.std.specs.Option.{SomeIff}
use Rattle.sm_site.specs.NextNumber.{IsNumber}
use Rattle.sm_site.specs.Past.{numbers_of, opened_in}
use Rattle.sm_site.proofs.Ordered.{front_number, front_quiet}
use Rattle.sm_site.proofs.next_number.above_past.Goals as goal

checked : (r : Option ℕ) (n : ℕ) → SomeIff r (n < 2 ^ 64) n → IsNumber r n
checked None n is = omega (arith, is)
checked (Some m) n is = omega (arith, is)

pub returns-in-Some : goal.returns-in-Some
returns-in-Some c =
    let past = c.args.past.now in
    let opened : opened_in c.index-past-at.result ≡ Some c.in-Some.number = sym c.opened_in.ensures ∙ c.in-Some.is in
    let last : numbers_of past ≡ c.in-Some.number + 1 =
    c.loop-at.invariant.last ∙ front_number past c.loop-at.at c.index-past-at.result c.loop-at-test.true c.loop-at.invariant.within c.index-past-at.is c.in-Some.number c.requires opened in
    subst (IsNumber c.checked_add.result) (sym last) (checked c.checked_add.result (c.in-Some.number + 1) c.checked_add.ensures)

pub loop-at-preserved : goal.loop-at-preserved
loop-at-preserved c =
    let past = c.args.past.now in
    let none : opened_in c.index-past-at.result ≡ None = sym c.opened_in.ensures ∙ c.in_default.is in
    record {
      within = omega (arith, c.loop-at.invariant.within);
      last = c.loop-at.invariant.last ∙ front_quiet past c.loop-at.at c.index-past-at.result c.loop-at-test.true c.loop-at.invariant.within c.index-past-at.is none;
    }
