use Rattle.std.proofs.Common.{rules, arith, ◌≡◌, ◌+◌, length}
use Rattle.sm_archive.proofs.Admitting.{log_length, walked_on}
use Rattle.std.proofs.Common.{min, ◌-◌, ◌^◌}
use Rattle.sm_archive.proofs.admit.admit.Goals as goal

pub returns-then-place-clause-damaged : goal.returns-then-place-clause-damaged
returns-then-place-clause-damaged c = λ is seen log w at e own fits few.
    let n = log_length c.args.index.now c.args.used.now seen log w in omega (arith, n, at, few, c.if-place.true)

pub returns-clause-fits : goal.returns-clause-fits
returns-clause-fits c = λ seen log w at.
    let n = log_length c.args.index.now c.args.used.now seen log w in
    let sum : c.saturating_add.result ≡ min (c.args.used.now + (5 + length c.args.body.now)) (2 ^ 64 - 1) = search rules in
    walked_on c.args.index.now c.admit_entry_of.new.index c.args.used.now c.saturating_add.result seen log c.args.body.now w (omega (arith, at, c.if-place.false)) sum
    (c.in_ok-admit_entry_of.ensures.fits log w.index_is (omega (arith, n, at)))
