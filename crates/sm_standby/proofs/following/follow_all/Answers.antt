use Rattle.std.proofs.Common.{◌+◌, ◌-◌, ◌++◌, [], sym, arith}
use Rattle.sm_standby.specs.Candidates.{row, rows, longest, addresses_by}
use Rattle.sm_standby.proofs.Opens.{passed_on}
use Rattle.sm_standby.proofs.Plans.{rows_start, rows_next, rows_end}
use Rattle.sm_standby.proofs.Taking.{follows_start, follows_stands, follows_next, follows_end, ends_next}
use Rattle.sm_standby.proofs.following.follow_all.Goals as goal

pub loop-place-init : goal.loop-place-init
loop-place-init g c = record {
  some = c.requires.stands;
  follows = λ log s o d.
      follows_end (addresses_by c.args.channel.now c.args.all.now) (rows c.args.channel.now c.args.all.now 0 (longest c.args.all.now - 0)) (sym (rows_start c.args.channel.now c.args.all.now (longest c.args.all.now)))
      (follows_start g.met.D.Disk.no_later g.met.C.Dial.later_same c.args.disk.now c.args.dial.now c.args.archive.now log c.args.held.now (addresses_by c.args.channel.now c.args.all.now) s o d);
}

pub loop-place-preserved : goal.loop-place-preserved
loop-place-preserved g c =
    let inv = c.loop-place.invariant in
    let e = c.in_ok-follow_place.ensures in
    let ch = c.args.channel.now in
    let all = c.args.all.now in
    let j = c.loop-place.place in
    let one = e.ok inv.some.0 [] inv.some.1 inv.some.2 inv.some.3 in
    record {
      some = (one.0.log, follows_stands one.0, one.0.waiting, one.1);
      follows = λ log s o d.
          follows_next (rows ch all j (longest all - j)) (row ch j all ++ rows ch all (j + 1) (longest all - (j + 1))) (rows ch all (j + 1) (longest all - (j + 1))) g.met.C.Dial.later_then (inv.follows log s o d)
          (rows_next ch all j (longest all) (omega (arith, c.loop-place-test.true, c.longest-place-end.ensures))) (λ l t p u. e.ok l (rows ch all (j + 1) (longest all - (j + 1))) t p u);
    }

pub returns-in_err-follow_place-clause-err : goal.returns-in_err-follow_place-clause-err
returns-in_err-follow_place-clause-err g c =
    passed_on c.from_residual.result _ _ c.from_residual.ensures.1
    (λ log s o d.
    let inv = c.loop-place.invariant in
    let ch = c.args.channel.now in
    let all = c.args.all.now in
    let j = c.loop-place.place in
    ends_next (rows ch all j (longest all - j)) (row ch j all ++ rows ch all (j + 1) (longest all - (j + 1))) c.in_err-follow_place.field-0.0 g.met.C.Dial.later_then (inv.follows log s o d)
    (rows_next ch all j (longest all) (omega (arith, c.loop-place-test.true, c.longest-place-end.ensures))) (λ l t p u. c.in_err-follow_place.ensures.err l (rows ch all (j + 1) (longest all - (j + 1))) t p u))

pub returns-clause-ok : goal.returns-clause-ok
returns-clause-ok g c = λ log s o d.
    let ch = c.args.channel.now in
    let all = c.args.all.now in
    let j = c.loop-place.place in
    follows_end (rows ch all j (longest all - j)) [] (rows_end ch all j (longest all) (omega (arith, c.loop-place-test.false, c.longest-place-end.ensures))) (c.loop-place.invariant.follows log s o d)
