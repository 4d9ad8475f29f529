use Rattle.std.proofs.Common.{[]}
use Rattle.sm_standby.proofs.Opens.{passed_on}
use Rattle.sm_standby.proofs.Taking.{follows_none, follows_then, follows_stands, ends_then}
use Rattle.sm_standby.proofs.again.take_held.Goals as goal

pub loop-took-init : goal.loop-took-init
loop-took-init g c = record {
  some = c.requires.stands;
  follows = λ log rest s o. follows_none g.met.D.Disk.no_later g.met.C.Dial.later_same c.args.disk.now c.args.dial.now c.args.archive.now log c.args.held.now rest s o;
}

pub loop-took-preserved : goal.loop-took-preserved
loop-took-preserved g c =
    let inv = c.loop-took.invariant in
    let e = c.in_ok-took.ensures in
    let one = e.ok inv.some.0 [] inv.some.1 inv.some.2 in
    record {
      some = (one.log, follows_stands one, one.waiting);
      follows = λ log rest s o. let before = inv.follows log rest s o in follows_then g.met.C.Dial.later_then before (e.ok before.log rest (follows_stands before) before.waiting);
    }

pub returns-then-not-took-clause-ok : goal.returns-then-not-took-clause-ok
returns-then-not-took-clause-ok g c = λ log rest s o.
    let before = c.loop-took.invariant.follows log rest s o in
    follows_then g.met.C.Dial.later_then before (c.in_ok-took.ensures.ok before.log rest (follows_stands before) before.waiting)

pub returns-in_err-took-clause-err : goal.returns-in_err-took-clause-err
returns-in_err-took-clause-err g c =
    passed_on c.from_residual.result _ _ c.from_residual.ensures.1
    (λ log rest s o.
    let before = c.loop-took.invariant.follows log rest s o in
    ends_then c.in_err-took.field-0.0 g.met.C.Dial.later_then before (c.in_err-took.ensures.err before.log rest (follows_stands before) before.waiting))
