use Rattle.std.proofs.Common.{sym, arith, below_more, eq-eqb}
use Rattle.std.specs.Prelude.{◌==◌}
use Rattle.std.proofs.lemmas.Bool.Decides.{nat_tests}
use Rattle.std.proofs.lemmas.List.Sums.{position_or_len_is}
use Rattle.sm_addr.proofs.cut.first.Goals as goal

pub loop-at-preserved : goal.loop-at-preserved
loop-at-preserved c = below_more _ _ c.loop-at.invariant (grind (arith, nat_tests, c.if-b-byte.false))

pub returns-then-b-byte-clause-is : goal.returns-then-b-byte-clause-is
returns-then-b-byte-clause-is c =
    sym (position_or_len_is (λ b. b == c.args.byte) c.args.text.now c.loop-at.at 0 (omega arith) c.loop-at.invariant (λ lt. eq-eqb _ _ c.if-b-byte.true))

pub returns-clause-is : goal.returns-clause-is
returns-clause-is c = sym (position_or_len_is (λ b. b == c.args.byte) c.args.text.now _ 0 (omega arith) (λ k lt. c.loop-at.invariant k (omega arith)) (λ lt. absurd (omega arith)))
