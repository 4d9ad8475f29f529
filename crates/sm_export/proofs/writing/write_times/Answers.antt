use Rattle.std.proofs.Common.{ℕ, List, [], ◌++◌}
use Rattle.std.proofs.lemmas.Result.{IfOk-weaker, err_from_is_err_and, on_err_weaker}
use Rattle.sm_export.specs.Exporting.{texts_from}
use Rattle.sm_export.specs.Gathering.{LeavesFront}
use Rattle.sm_export.specs.Qualities.{kept_among}
use Rattle.sm_export.proofs.Gathered.{all_sent, front_sent, front_of_all}
use Rattle.sm_export.proofs.Passing.{either}
use Rattle.sm_export.proofs.Reading.{cause_since, cause_then, no_memory, not_passed, not_read}
use Rattle.sm_export.proofs.writing.write_times.Goals as goal

pub returns-clause-ok : goal.returns-clause-ok
returns-clause-ok g c =
    let held = g.O.Sink.held in
    let last = c.in_ok-write_gathered.ensures in
    IfOk-weaker c.gather_times-ended.result _ _
    (λ written p log doubt s told.
    let w = p log doubt s told in (
      all_sent (held c.args.out.now) (held c.gather_times-ended.new.out) (held c.write_gathered.new.out) c.in-Ok.gathered.items (texts_from 1 c.args.id (kept_among log c.args.name.now c.args.bitrate c.args.times.now))
          c.gather_times-ended.new.gathered.items c.write_gathered.new.gathered.items c.in-Ok.ensures.items w.0 last.none last.wrote.ok,
      w.1,
    ))
    c.gather_times-ended.ensures.ok

pub returns-clause-err : goal.returns-clause-err
returns-clause-err g c =
    let held = g.O.Sink.held in
    let last = c.in_ok-write_gathered.ensures in
    let left : List ℕ = c.gather_times-ended.new.gathered.items in
    on_err_weaker c.gather_times-ended.result
    (λ p log doubt s told.
    front_sent (held c.args.out.now) (held c.gather_times-ended.new.out) (held c.write_gathered.new.out) c.in-Ok.gathered.items (texts_from 1 c.args.id (kept_among log c.args.name.now c.args.bitrate c.args.times.now))
    left c.write_gathered.new.gathered.items c.in-Ok.ensures.items (p log doubt s told)
    (front_of_all (held c.gather_times-ended.new.out) (held c.write_gathered.new.out) (left ++ []) c.write_gathered.new.gathered.items last.wrote.ok))
    c.gather_times-ended.ensures.err

pub returns-in_err-write_gathered-clause-err : goal.returns-in_err-write_gathered-clause-err
returns-in_err-write_gathered-clause-err g c =
    let q = err_from_is_err_and c.from_residual.result c.from_residual.ensures.1 in
    rw q.1 (λ log doubt s told.
    let held = g.O.Sink.held in
    let e = c.gather_times-ended.ensures in
    let texts : List ℕ = texts_from 1 c.args.id (kept_among log c.args.name.now c.args.bitrate c.args.times.now) in
    let left : List ℕ = c.gather_times-ended.new.gathered.items in
    let all : List ℕ = c.in-Ok.gathered.items ++ texts in
    let before : LeavesFront (held c.args.out.now) (held c.gather_times-ended.new.out) all left =
    either c.gather_times-ended.result (LeavesFront (held c.args.out.now) (held c.gather_times-ended.new.out) all left) _ _
    (λ written p. front_of_all (held c.args.out.now) (held c.gather_times-ended.new.out) all left (p log doubt s told).0) (λ p. p log doubt s told) e.ok e.err in
    front_sent (held c.args.out.now) (held c.gather_times-ended.new.out) (held c.write_gathered.new.out) c.in-Ok.gathered.items texts left c.write_gathered.new.gathered.items c.in-Ok.ensures.items before
    c.in_err-write_gathered.ensures.wrote.err)

pub returns-clause-cause : goal.returns-clause-cause
returns-clause-cause g c =
    cause_then (g.D.Disk.seen.view c.args.disk.now) (g.D.Disk.seen.view c.gather_times-ended.new.disk)
    (g.O.Sink.faults c.args.out.now) (g.O.Sink.faults c.gather_times-ended.new.out) (g.O.Sink.faults c.write_gathered.new.out)
    c.gather_times-ended.result c.gather_times-ended.ensures.cause c.in_ok-write_gathered.ensures.wrote.later

pub returns-in_err-write_gathered-clause-cause : goal.returns-in_err-write_gathered-clause-cause
returns-in_err-write_gathered-clause-cause g c =
    let q = err_from_is_err_and c.from_residual.result c.from_residual.ensures.1 in
    let faults = g.O.Sink.faults in
    let old = g.D.Disk.seen.view c.args.disk.now in
    let new = g.D.Disk.seen.view c.gather_times-ended.new.disk in
    rw (q.1, q.2) (cause_since old new (faults c.args.out.now) (faults c.gather_times-ended.new.out) (faults c.write_gathered.new.out) _ c.gather_times-ended.ensures.cause.later
    (not_passed old new (g.O.Sink.held c.gather_times-ended.new.out) (g.O.Sink.held c.write_gathered.new.out) (faults c.gather_times-ended.new.out) (faults c.write_gathered.new.out)
    c.gather_times-ended.new.gathered.items c.write_gathered.new.gathered.items [] c.in_err-write_gathered.field-0.0 c.in_err-write_gathered.ensures.wrote))

pub returns-in_default-clause-cause : goal.returns-in_default-clause-cause
returns-in_default-clause-cause g c = no_memory (g.D.Disk.seen.view c.args.disk.now) (g.D.Disk.seen.view c.args.disk.now) (g.O.Sink.faults c.args.out.now)

pub returns-in_default-clause-read : goal.returns-in_default-clause-read
returns-in_default-clause-read g c = not_read g.D.Disk.seen g.met.D.Disk.no_later c.args.archive.now c.args.disk.now
