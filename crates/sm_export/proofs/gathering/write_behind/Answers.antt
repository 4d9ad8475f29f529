use Rattle.std.proofs.Common.{List, ℕ, []}
use Rattle.std.proofs.lemmas.Result.{err_from_is_err_and}
use Rattle.sm_export.proofs.Gathered.{direct, direct_front}
use Rattle.sm_export.proofs.Passing.{passed, sink_failed, then_passed, failed_first}
use Rattle.sm_export.proofs.gathering.write_behind.Goals as goal

pub returns : goal.returns
returns g c =
    let held = g.O.Sink.held in
    let faults = g.O.Sink.faults in
    let between : List ℕ = c.write_gathered.new.gathered.items in
    let first = c.in_ok-write_gathered.ensures.wrote in
    then_passed (held c.args.out.now) (held c.write_gathered.new.out) (held c.write_all.new.sink) (faults c.args.out.now) (faults c.write_gathered.new.out) (faults c.write_all.new.sink)
    c.args.gathered.now.items between between [] c.args.bytes.now _ first.ok first.later
    (passed (held c.write_gathered.new.out) (held c.write_all.new.sink) (faults c.write_gathered.new.out) (faults c.write_all.new.sink) between between c.args.bytes.now _
    (direct (held c.write_gathered.new.out) (held c.write_all.new.sink) between c.args.bytes.now c.in_ok-write_gathered.ensures.none c.in_ok-write_all.ensures.ok) c.in_ok-write_all.ensures.cause.later)

pub returns-in_err-write_all : goal.returns-in_err-write_all
returns-in_err-write_all g c =
    let q = err_from_is_err_and c.from_residual-in_err-write_all.result c.from_residual-in_err-write_all.ensures.1 in
    let held = g.O.Sink.held in
    let faults = g.O.Sink.faults in
    let between : List ℕ = c.write_gathered.new.gathered.items in
    let first = c.in_ok-write_gathered.ensures.wrote in
    let cause = c.in_err-write_all.ensures.cause in
    rw (q.1, q.2) (then_passed (held c.args.out.now) (held c.write_gathered.new.out) (held c.write_all.new.sink) (faults c.args.out.now) (faults c.write_gathered.new.out) (faults c.write_all.new.sink)
    c.args.gathered.now.items between between [] c.args.bytes.now _ first.ok first.later
    (sink_failed (held c.write_gathered.new.out) (held c.write_all.new.sink) (faults c.write_gathered.new.out) (faults c.write_all.new.sink) between between c.args.bytes.now
    (direct_front (held c.write_gathered.new.out) (held c.write_all.new.sink) between c.args.bytes.now c.in_ok-write_gathered.ensures.none c.in_err-write_all.ensures.err) cause.failed cause.later))

pub returns-in_err-write_gathered : goal.returns-in_err-write_gathered
returns-in_err-write_gathered g c =
    let q = err_from_is_err_and c.from_residual.result c.from_residual.ensures.1 in
    rw (q.1, q.2) (failed_first (g.O.Sink.held c.args.out.now) (g.O.Sink.held c.write_gathered.new.out) (g.O.Sink.faults c.args.out.now) (g.O.Sink.faults c.write_gathered.new.out) c.args.gathered.now.items
    c.write_gathered.new.gathered.items [] c.args.bytes.now c.in_err-write_gathered.field-0.0 c.in_err-write_gathered.ensures.wrote)
