use Rattle.std.proofs.Common.{◌∙◌, ap, subst, take, Err}
use Rattle.std.specs.Prelude.{Result, map}
use Rattle.httparse.specs.Spans.{span_bytes, header_bytes}
use Rattle.sm_model.specs.declared.cause.Cause.{Cause}
use Rattle.sm_head.specs.declared.asked.Asked.{Asked}
use Rattle.sm_model.specs.Gives.{Gives}
use Rattle.sm_head.specs.Judged.{judged_by}
use Rattle.sm_head.proofs.RequestLaw.{told_fault}
use Rattle.sm_head.proofs.request.judge_spans.Goals as goal

pub returns-in-Err : goal.returns-in-Err
returns-in-Err c =
    let bytes = c.args.bytes.now in
    let spans = c.args.spans in
    let pairs = map (header_bytes bytes) (take spans.headers c.args.headers.now) in
    let same = ap (λ m. judged_by m c.of-2.result.now spans.version pairs) c.of.ensures
    ∙ ap (λ t. judged_by (span_bytes bytes spans.method) t spans.version pairs) c.of-2.ensures in
    told_fault bytes c.args.headers.now spans c.in-Err.fault (subst (λ (j : Result Asked Cause). Gives (Err c.in-Err.fault) j) same c.in-Err.ensures)
