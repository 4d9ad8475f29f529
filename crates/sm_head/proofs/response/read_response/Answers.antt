use Rattle.std.proofs.Common.{◌≡◌, ◌∙◌, ap, arith, List, take, subst, Err}
use Rattle.std.proofs.lemmas.List.{length-take}
use Rattle.httparse.specs.declared.Error.{Error}
use Rattle.httparse.specs.declared.spans.HeaderSpan.{HeaderSpan}
use Rattle.sm_head.specs.Responses.{IsReplySpans}
use Rattle.sm_head.proofs.RequestLaw.{written}
use Rattle.sm_head.proofs.ResponseLaw.{never_full, whole_reply, spans_reply, long_reply, never_reply}
use Rattle.sm_head.proofs.response.read_response.Goals as goal

pub returns-in-Ok-Complete : goal.returns-in-Ok-Complete
returns-in-Ok-Complete c =
    let bytes = c.args.bytes.now in
    let end = c.min-end.result in
    let headers = c.parse_response.new.headers in
    let spans = c.in-Ok-Complete.spans in
    let whole = rw c.in-Ok-Complete.field-0-is at c.in-Ok-Complete.ensures.complete in
    let within = rw c.in-Ok-Complete.field-0-is at c.in-Ok-Complete.ensures.within in
    let same : c.as_slice.result.now ≡ headers = c.as_slice.ensures.value ∙ written c.in_ok-headers.headers.len headers _ (omega (arith, c.as_mut_slice.ensures.len, c.parse_response.auto.headers)) in
    spans_reply bytes end headers spans (whole_reply bytes end c.min-end.ensures headers spans within whole.0 whole.1) c.answer_spans.result
    (subst (λ (hs : List HeaderSpan). IsReplySpans (take end bytes) hs spans c.answer_spans.result) same c.answer_spans.ensures)

pub returns-in-Ok-Partial : goal.returns-in-Ok-Partial
returns-in-Ok-Partial c =
    let none = rw c.in-Ok-Partial.field-0-is at c.in-Ok-Partial.ensures.partial in
    long_reply c.args.bytes.now c.min-end.result c.min-end.ensures c.if-bytes-lt8192.false none

pub returns : goal.returns
returns c =
    let l = length-take c.min-end.result c.args.bytes.now in
    never_reply c.args.bytes.now c.min-end.result c.min-end.ensures
    (c.in-Err.ensures.invalid (λ same.
    never_full _ (take c.min-end.result c.args.bytes.now) (omega (arith, c.as_mut_slice.ensures.len, c.in_ok-headers.ensures.len)) (c.in-Err.ensures.too_many (ap (λ (e : Error). Err e) same))))
