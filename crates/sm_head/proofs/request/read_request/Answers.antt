use Rattle.std.proofs.Common.{◌≡◌, ◌∙◌, arith, List, take, subst}
use Rattle.httparse.specs.declared.spans.HeaderSpan.{HeaderSpan}
use Rattle.sm_head.specs.Requests.{IsSpansAnswer}
use Rattle.sm_head.proofs.RequestLaw.{written, whole_head, spans_answer, refused_bad, refused_full}
use Rattle.sm_head.proofs.request.read_request.Goals as goal

pub returns-in-Whole : goal.returns-in-Whole
returns-in-Whole c =
    let bytes = c.args.bytes.now in
    let end = c.min-end.result in
    let headers = c.judge_lines.new.headers in
    let same : c.as_slice.result.now ≡ headers = c.as_slice.ensures.value ∙ written c.in_ok-headers.headers.len headers _ (omega (arith, c.as_mut_slice.ensures.len, c.judge_lines.auto.headers)) in
    spans_answer bytes end headers c.in-Whole.spans
    (whole_head bytes end c.min-end.ensures headers c.in-Whole.spans c.in-Whole.ensures.within c.in-Whole.ensures.shape.0 c.in-Whole.ensures.shape.1) c.judge_spans.result
    (subst (λ (hs : List HeaderSpan). IsSpansAnswer (take end bytes) hs c.in-Whole.spans c.judge_spans.result) same c.judge_spans.ensures)

pub returns-in-Bad : goal.returns-in-Bad
returns-in-Bad c = refused_bad c.args.bytes.now c.min-end.result c.min-end.ensures c.in-Bad.ensures.shape

pub returns : goal.returns
returns c = refused_full c.args.bytes.now c.min-end.result c.min-end.ensures c.in-Full.ensures.shape.0 c.in-Full.ensures.shape.1 c.in-Full.ensures.shape.2
