use Rattle.std.proofs.Common.{List, ℕ, [], subst}
use Rattle.std.proofs.lemmas.Result.{err_from_is_err_and}
use Rattle.std.specs.Io.KnownBytes.{Appends}
use Rattle.sm_ends.specs.Moves.{AppendsFront}
use Rattle.sm_export.proofs.Gathered.{all_out, part_out}
use Rattle.sm_export.proofs.Passing.{passed, sink_failed}
use Rattle.sm_export.proofs.gathering.write_gathered.Goals as goal

pub returns-clause-wrote : goal.returns-clause-wrote
returns-clause-wrote g c =
    let a = g.O.Sink.held c.args.out.now in
    let b = g.O.Sink.held c.write_all-written.new.sink in
    let before : List ℕ = c.args.gathered.now.items in
    let after : List ℕ = c.clear.new.self.items in
    passed a b (g.O.Sink.faults c.args.out.now) (g.O.Sink.faults c.write_all-written.new.sink) before after [] _
    (all_out a b before after c.clear.ensures.items (subst (λ (l : List ℕ). Appends a b l) c.as_slice.ensures.value c.in_ok-written.ensures.ok)) c.in_ok-written.ensures.cause.later

pub returns-in_err-written-clause-wrote : goal.returns-in_err-written-clause-wrote
returns-in_err-written-clause-wrote g c =
    let q = err_from_is_err_and c.from_residual.result c.from_residual.ensures.1 in
    let a = g.O.Sink.held c.args.out.now in
    let b = g.O.Sink.held c.write_all-written.new.sink in
    let before : List ℕ = c.args.gathered.now.items in
    let after : List ℕ = c.clear.new.self.items in
    rw (q.1, q.2) (sink_failed a b (g.O.Sink.faults c.args.out.now) (g.O.Sink.faults c.write_all-written.new.sink) before after []
    (part_out a b before after [] c.clear.ensures.items (subst (λ (l : List ℕ). AppendsFront a b l) c.as_slice.ensures.value c.in_err-written.ensures.err)) c.in_err-written.ensures.cause.failed c.in_err-written.ensures.cause.later)
