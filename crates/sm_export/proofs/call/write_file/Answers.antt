use Rattle.std.proofs.KnownBytes.{Appends-trans}
use Rattle.std.proofs.lemmas.Result.{IfOk-weaker, err_from_is_err_and}
use Rattle.sm_export.specs.Exporting.{texts_from}
use Rattle.sm_export.specs.Qualities.{kept_among}
use Rattle.sm_export.proofs.Texts.{err_by, front_of_first, went_on}
use Rattle.sm_export.proofs.Reading.{cause_since, not_read, sink_broke}
use Rattle.sm_export.proofs.call.write_file.Goals as goal

pub returns-clause-ok : goal.returns-clause-ok
returns-clause-ok g c = IfOk-weaker c.write_times.result _ _ (λ written p log doubt s told. let w = p log doubt s told in (Appends-trans _ _ _ _ _ c.in_ok-write_all.ensures.ok w.0, w.1)) c.write_times.ensures.ok

pub returns-clause-err : goal.returns-clause-err
returns-clause-err g c = err_by c.write_times.result _ _
    (λ why p log doubt s told.
    went_on why (g.O.Sink.held c.args.out.now) (g.O.Sink.held c.write_all.new.sink) (g.O.Sink.held c.write_times.new.out) c.args.header.now
    (texts_from 1 c.args.id (kept_among log c.args.name.now c.args.bitrate c.args.times.now)) c.in_ok-write_all.ensures.ok (p log doubt s told))
    c.write_times.ensures.err

pub returns-in_err-write_all-clause-err : goal.returns-in_err-write_all-clause-err
returns-in_err-write_all-clause-err g c =
    let q = err_from_is_err_and c.from_residual.result c.from_residual.ensures.1 in
    rw (q.1, q.2) (λ log doubt s told. front_of_first (g.O.Sink.held c.args.out.now) (g.O.Sink.held c.write_all.new.sink) c.args.header.now
    (texts_from 1 c.args.id (kept_among log c.args.name.now c.args.bitrate c.args.times.now)) c.in_err-write_all.ensures.err)

pub returns-clause-cause : goal.returns-clause-cause
returns-clause-cause g c =
    cause_since (g.D.Disk.seen.view c.args.disk.now) (g.D.Disk.seen.view c.write_times.new.disk)
    (g.O.Sink.faults c.args.out.now) (g.O.Sink.faults c.write_all.new.sink) (g.O.Sink.faults c.write_times.new.out)
    c.write_times.result c.in_ok-write_all.ensures.cause.later c.write_times.ensures.cause

pub returns-in_err-write_all-clause-cause : goal.returns-in_err-write_all-clause-cause
returns-in_err-write_all-clause-cause g c =
    let q = err_from_is_err_and c.from_residual.result c.from_residual.ensures.1 in
    rw (q.1, q.2) (sink_broke (g.D.Disk.seen.view c.args.disk.now) (g.D.Disk.seen.view c.args.disk.now)
    (g.O.Sink.faults c.args.out.now) (g.O.Sink.faults c.write_all.new.sink) c.in_err-write_all.ensures.cause.failed c.in_err-write_all.ensures.cause.later)

pub returns-in_err-write_all-clause-read : goal.returns-in_err-write_all-clause-read
returns-in_err-write_all-clause-read g c = not_read g.D.Disk.seen g.met.D.Disk.no_later c.args.archive.now c.args.disk.now
