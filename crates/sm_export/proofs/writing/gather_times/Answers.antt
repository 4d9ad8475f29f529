use Rattle.std.proofs.Common.{◌≡◌, ◌∙◌, ◌++◌, ℕ, List, take, length, ap, subst, arith}
use Rattle.std.specs.Prelude.{slice_index_or}
use Rattle.std.proofs.lemmas.List.{take_all}
use Rattle.std.proofs.lemmas.Result.{err_from_is_err_and}
use Rattle.sm_model.specs.declared.address.Address.{Address}
use Rattle.sm_export.specs.Exporting.{texts_from}
use Rattle.sm_export.specs.Gathering.{Leaves}
use Rattle.sm_export.specs.Qualities.{kept_among}
use Rattle.sm_export.proofs.Texts.{wrote_more, wrote_part, at_any}
use Rattle.sm_export.proofs.Gathered.{nothing_more}
use Rattle.sm_export.proofs.Reading.{cause_behind, no_memory, not_read, read_then, same_cause, well}
use Rattle.sm_export.proofs.writing.gather_times.Goals as goal

pub returns-in_err-written-clause-err : goal.returns-in_err-written-clause-err
returns-in_err-written-clause-err g c =
    let q = err_from_is_err_and c.from_residual-in_err-written.result c.from_residual-in_err-written.ensures.1 in
    rw q.1 (λ log doubt s told.
    let inv = c.loop-time.invariant in
    let i = c.loop-time.time-index in
    let times = c.args.times.now in
    let inside = c.loop-time-test.true in
    let t : ℕ × ℕ = slice_index_or times i (0, 0) in
    let was = inv.wrote log doubt s told in
    let address : Address = record { stream = c.loop-time.address.stream; bitrate = c.loop-time.address.bitrate; time = t.0 } in
    let named : address ≡ record { stream = c.args.name.now; bitrate = c.args.bitrate; time = t.0 } =
    ap (λ (n : List ℕ). record { stream = n; bitrate = c.loop-time.address.bitrate; time = t.0 }) inv.stream ∙ ap (λ (b : ℕ). record { stream = c.args.name.now; bitrate = b; time = t.0 }) inv.bitrate in
    wrote_part (g.O.Sink.held c.args.out.now) (g.O.Sink.held c.loop-time.out) (g.O.Sink.held c.write_at.new.out)
    c.args.gathered.now.items c.loop-time.gathered.items c.write_at.new.gathered.items log c.args.name.now c.args.bitrate address times i t c.args.id c.loop-time.written inside
    (at_any times i (0, 0) t inside) named was.0 was.1 (c.in_err-written.ensures.err log doubt (inv.read.stands log doubt s) (inv.told ∙ told)))

pub loop-time-preserved : goal.loop-time-preserved
loop-time-preserved g c =
    let inv = c.loop-time.invariant in
    let e = c.in_ok-written.ensures in
    let i = c.loop-time.time-index in
    let times = c.args.times.now in
    let inside = c.loop-time-test.true in
    let t : ℕ × ℕ = slice_index_or times i (0, 0) in
    let address : Address = record { stream = c.loop-time.address.stream; bitrate = c.loop-time.address.bitrate; time = t.0 } in
    let named : address ≡ record { stream = c.args.name.now; bitrate = c.args.bitrate; time = t.0 } =
    ap (λ (n : List ℕ). record { stream = n; bitrate = c.loop-time.address.bitrate; time = t.0 }) inv.stream ∙ ap (λ (b : ℕ). record { stream = c.args.name.now; bitrate = b; time = t.0 }) inv.bitrate in
    let later = inv.later in
    let later_yet = e.cause.later in
    let few = inv.few in
    let one = e.few in
    record {
      some = (inv.some.0, inv.some.1, e.read.stands inv.some.0 inv.some.1 inv.some.2);
      read = read_then g.D.Disk.seen g.met.D.Disk.at_now g.met.D.Disk.now_at c.args.archive.now c.args.disk.now c.loop-time.disk c.write_at.new.disk inv.read e.read;
      told = e.told ∙ inv.told;
      later = omega (arith, later, later_yet);
      few = omega (arith, few, one);
      stream = inv.stream;
      bitrate = inv.bitrate;
      wrote = λ log doubt s told.
          let was = inv.wrote log doubt s told in
          let now = e.ok log doubt (inv.read.stands log doubt s) (inv.told ∙ told) in
          wrote_more (g.O.Sink.held c.args.out.now) (g.O.Sink.held c.loop-time.out) (g.O.Sink.held c.write_at.new.out)
          c.args.gathered.now.items c.loop-time.gathered.items c.write_at.new.gathered.items log c.args.name.now c.args.bitrate address times i t c.args.id c.loop-time.written
          c.in_ok-written.field-0 inside (at_any times i (0, 0) t inside) named was.0 was.1 now.0 now.1;
    }

pub returns-clause-ok : goal.returns-clause-ok
returns-clause-ok g c = λ log doubt s told.
    let was = c.loop-time.invariant.wrote log doubt s told in
    let outside = c.loop-time-test.false in
    let within = c.loop-time.auto.time-index-end in
    let all : take c.loop-time.time-index c.args.times.now ≡ c.args.times.now = take_all c.loop-time.time-index c.args.times.now (omega (arith, outside)) in (
      subst
          (λ (ts : List (ℕ × ℕ)). Leaves (g.O.Sink.held c.args.out.now) (g.O.Sink.held c.loop-time.out) (c.args.gathered.now.items ++ texts_from 1 c.args.id (kept_among log c.args.name.now c.args.bitrate ts))
          c.loop-time.gathered.items)
          all was.0,
      was.1 ∙ ap (λ (ts : List (ℕ × ℕ)). length (kept_among log c.args.name.now c.args.bitrate ts)) all,
    )

pub returns-in_err-copy-clause-err : goal.returns-in_err-copy-clause-err
returns-in_err-copy-clause-err g c =
    let q = err_from_is_err_and c.from_residual.result c.from_residual.ensures.1 in
    rw q.1 (λ log doubt s told.
    nothing_more (g.O.Sink.held c.args.out.now) c.args.gathered.now.items (texts_from 1 c.args.id (kept_among log c.args.name.now c.args.bitrate c.args.times.now)))

pub returns-in_err-copy-clause-cause : goal.returns-in_err-copy-clause-cause
returns-in_err-copy-clause-cause g c =
    let q = err_from_is_err_and c.from_residual.result c.from_residual.ensures.1 in
    rw (q.1, q.2) (no_memory (g.D.Disk.seen.view c.args.disk.now) (g.D.Disk.seen.view c.args.disk.now) (g.O.Sink.faults c.args.out.now))

pub returns-in_err-copy-clause-read : goal.returns-in_err-copy-clause-read
returns-in_err-copy-clause-read g c = not_read g.D.Disk.seen g.met.D.Disk.no_later c.args.archive.now c.args.disk.now

pub returns-in_err-written-clause-cause : goal.returns-in_err-written-clause-cause
returns-in_err-written-clause-cause g c =
    let q = err_from_is_err_and c.from_residual-in_err-written.result c.from_residual-in_err-written.ensures.1 in
    let inv = c.loop-time.invariant in
    let faults = g.O.Sink.faults in
    let old = g.D.Disk.seen.view c.args.disk.now in
    let new = g.D.Disk.seen.view c.write_at.new.disk in
    rw (q.1, q.2) (same_cause old new (faults c.args.out.now) (faults c.write_at.new.out) c.in_err-written.field-0.0
    (cause_behind old (g.D.Disk.seen.view c.loop-time.disk) new (faults c.args.out.now) (faults c.loop-time.out) (faults c.write_at.new.out) _ inv.told inv.read.disk_alone.no_fewer inv.later c.in_err-written.ensures.cause))

pub returns-in_err-written-clause-read : goal.returns-in_err-written-clause-read
returns-in_err-written-clause-read g c =
    read_then g.D.Disk.seen g.met.D.Disk.at_now g.met.D.Disk.now_at c.args.archive.now
    c.args.disk.now c.loop-time.disk c.write_at.new.disk c.loop-time.invariant.read c.in_err-written.ensures.read

pub returns-clause-cause : goal.returns-clause-cause
returns-clause-cause g c = well _ _ (g.O.Sink.faults c.args.out.now) (g.O.Sink.faults c.loop-time.out) _ c.loop-time.invariant.later
