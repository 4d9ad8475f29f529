use Rattle.std.proofs.Common.{None, ap, sym, ◌∙◌, arith}
use Rattle.sm_model.specs.Entries.{address_of}
use Rattle.sm_log.specs.Logs.{kept_at}
use Rattle.sm_standby.proofs.Opens.{passed_on}
use Rattle.sm_standby.proofs.Taking.{came_address}
use Rattle.sm_standby.proofs.Putting.{put_later, put_dropped, put_kept, unput_wanting, unput_kept}
use Rattle.sm_standby.proofs.placing.put.Goals as goal

pub returns-then-place-next-clause-ok : goal.returns-then-place-next-clause-ok
returns-then-place-next-clause-ok g c = λ log s.
    put_later g.met.D.Disk.no_later c.args.disk.now c.args.archive.now log c.args.channel.now c.args.address c.args.place c.len-next.result c.args.raw s (sym c.from.ensures ∙ (c.if-from-id_of.false ∙
    c.id_of.ensures)) (c.len-next.ensures s.bodies s.body log None s.keeps) (omega (arith, c.if-place-next.true))

pub returns-then-place-next-2-clause-ok : goal.returns-then-place-next-2-clause-ok
returns-then-place-next-2-clause-ok g c = λ log s.
    put_dropped g.met.D.Disk.no_later c.args.disk.now c.args.archive.now log c.args.channel.now c.args.address c.args.place c.len-next.result c.args.raw s (sym c.from.ensures ∙ (c.if-from-id_of.false
    ∙ c.id_of.ensures)) (c.len-next.ensures s.bodies s.body log None s.keeps) (omega (arith, c.if-place-next-2.true))

pub returns-in_err-fragment-clause-err : goal.returns-in_err-fragment-clause-err
returns-in_err-fragment-clause-err g c =
    passed_on c.from_residual.result _ _ c.from_residual.ensures.1
    (λ log s. unput_wanting g.met.D.Disk.no_later c.args.disk.now c.args.archive.now log c.args.channel.now c.args.address c.args.place c.args.raw s)

pub keep-requires-clause-absent : goal.keep-requires-clause-absent
keep-requires-clause-absent g c = λ log s.
    ap (kept_at log) (ap address_of c.in_ok-fragment.ensures ∙ came_address c.args.address c.args.place c.args.raw c.requires.time) ∙ c.requires.absent log s

pub returns-clause-ok : goal.returns-clause-ok
returns-clause-ok g c = λ log s.
    let k = c.in_ok-keep.ensures.ok log s in
    put_kept c.args.archive.now c.keep.new.archive log c.args.channel.now c.args.address c.args.place c.len-next.result c.args.raw c.in_ok-fragment.fragment c.in_ok-fragment.ensures k.1 (sym c.from.ensures ∙
    (c.if-from-id_of.false ∙ c.id_of.ensures)) (c.len-next.ensures s.bodies s.body log None s.keeps) (omega (arith, c.if-place-next.false)) (omega (arith, c.if-place-next-2.false))

pub returns-in_err-keep-clause-err : goal.returns-in_err-keep-clause-err
returns-in_err-keep-clause-err g c =
    passed_on c.from_residual-in_err-keep.result _ _ c.from_residual-in_err-keep.ensures.1
    (λ log s.
    let k = c.in_err-keep.ensures.err log s in
    unput_kept c.args.archive.now c.keep.new.archive log c.args.channel.now c.args.address c.args.place c.len-next.result c.args.raw c.in_ok-fragment.fragment c.in_err-keep.field-0.0 c.in_ok-fragment.ensures
    k.0 k.1 (sym c.from.ensures ∙ (c.if-from-id_of.false ∙ c.id_of.ensures)) (c.len-next.ensures s.bodies s.body log None s.keeps)
    (omega (arith, c.if-place-next.false)) (omega (arith, c.if-place-next-2.false)))
