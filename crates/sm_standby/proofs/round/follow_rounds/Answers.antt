use Rattle.std.proofs.Common.{◌+◌, [], refl, arith}
use Rattle.sm_standby.proofs.Opens.{passed_on}
use Rattle.sm_standby.proofs.Rounding.{rounds_none, rounds_then, rounds_stand, rounds_at, called_early}
use Rattle.sm_standby.proofs.round.follow_rounds.Goals as goal

pub loop-round-init : goal.loop-round-init
loop-round-init g c =
    let r = c.requires.stands in
    record {
      some = (r.0, r.1, rw c.requires.empty tt);
      rounds = λ log s. rw c.requires.empty (rounds_none g.met.D.Disk.no_later g.met.C.Dial.later_same c.args.disk.now c.args.dial.now c.args.archive.now log [] s tt);
    }

pub loop-round-preserved : goal.loop-round-preserved
loop-round-preserved g c =
    let inv = c.loop-round.invariant in
    let e = c.in_ok-follow_next.ensures in
    let one = e.ok inv.some.0 inv.some.1 inv.some.2 in
    record {
      some = (one.log, rounds_stand one, one.waiting);
      rounds = λ log s. let before = inv.rounds log s in rounds_then (c.loop-round.round + 1) g.met.C.Dial.later_then before (e.ok before.log (rounds_stand before) before.waiting) refl;
    }

pub returns-in_err-follow_next-clause-err : goal.returns-in_err-follow_next-clause-err
returns-in_err-follow_next-clause-err g c =
    passed_on c.from_residual.result _ _ c.from_residual.ensures.1
    (λ log s.
    let before = c.loop-round.invariant.rounds log s in
    called_early c.in_err-follow_next.field-0.0 g.met.C.Dial.later_then before c.loop-round-test.true (c.in_err-follow_next.ensures.err before.log (rounds_stand before) before.waiting))

pub returns-clause-ok : goal.returns-clause-ok
returns-clause-ok g c = λ log s. rounds_at c.loop-round.round c.args.plan.now.rounds (omega (arith, c.loop-round-test.false, c.loop-round.auto.round-end)) (c.loop-round.invariant.rounds log s)
