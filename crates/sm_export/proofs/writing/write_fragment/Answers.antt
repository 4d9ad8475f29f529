use Rattle.std.proofs.Common.{[]}
use Rattle.std.proofs.lemmas.Result.{err_from_is_err_and}
use Rattle.sm_model.specs.FragText.{frag_text}
use Rattle.sm_export.proofs.Passing.{failed_first, then_passed}
use Rattle.sm_export.proofs.writing.write_fragment.Goals as goal

pub returns-in-Some : goal.returns-in-Some
returns-in-Some g c =
    let held = g.O.Sink.held in
    let faults = g.O.Sink.faults in
    let first = c.in_ok-write_if_full.ensures in
    then_passed (held c.args.out.now) (held c.write_if_full.new.out) (held c.write_joined.new.out) (faults c.args.out.now) (faults c.write_if_full.new.out) (faults c.write_joined.new.out)
    c.args.gathered.now.items c.write_if_full.new.gathered.items c.write_joined.new.gathered.items [] (frag_text c.args.seq c.args.id c.args.fragment.now []) c.write_joined.result first.ok first.later
    c.write_joined.ensures

pub returns-in-None : goal.returns-in-None
returns-in-None g c =
    let held = g.O.Sink.held in
    let faults = g.O.Sink.faults in
    let first = c.in_ok-write_if_full.ensures in
    then_passed (held c.args.out.now) (held c.write_if_full.new.out) (held c.write_text.new.out) (faults c.args.out.now) (faults c.write_if_full.new.out) (faults c.write_text.new.out)
    c.args.gathered.now.items c.write_if_full.new.gathered.items c.write_text.new.gathered.items [] (frag_text c.args.seq c.args.id c.args.fragment.now []) c.write_text.result first.ok first.later
    c.write_text.ensures

pub returns-in_err-write_if_full : goal.returns-in_err-write_if_full
returns-in_err-write_if_full g c =
    let q = err_from_is_err_and c.from_residual.result c.from_residual.ensures.1 in
    rw (q.1, q.2) (failed_first (g.O.Sink.held c.args.out.now) (g.O.Sink.held c.write_if_full.new.out) (g.O.Sink.faults c.args.out.now) (g.O.Sink.faults c.write_if_full.new.out) c.args.gathered.now.items
    c.write_if_full.new.gathered.items [] (frag_text c.args.seq c.args.id c.args.fragment.now []) c.in_err-write_if_full.field-0.0 c.in_err-write_if_full.ensures)
