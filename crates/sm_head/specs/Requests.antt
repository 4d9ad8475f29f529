-- What the bytes of a connection have of a request head.
use Rattle.std.specs.Prelude.{◌≡◌, ℕ, ◌<◌, ◌≤◌, ◌⊎◌, List, length, map, take, drop, Result, Ok, Err, ⊤}
use Rattle.httparse.specs.Grammar.{RequestHead, ReadsRequest, HasNoRequest}
use Rattle.httparse.specs.Spans.{span_bytes, header_bytes}
use Rattle.httparse.specs.declared.spans.HeaderSpan.{HeaderSpan}
use Rattle.httparse.specs.declared.spans.RequestSpans.{RequestSpans}
use Rattle.sm_model.specs.declared.cause.Cause.{Cause}
use Rattle.sm_model.specs.declared.cause.Cause.TheVariants.{BadHead, HeadTooLarge}
use Rattle.sm_head.specs.declared.asked.Asked.{Asked}
use Rattle.sm_model.specs.declared.fault.ReadFault.{ReadFault}
use Rattle.sm_model.specs.declared.fault.ReadFault.TheVariants as fault
use Rattle.sm_head.specs.declared.request.ReqHead.{ReqHead}
use Rattle.sm_head.specs.declared.request.ReqHead.TheVariants.{Whole, Partial}
use Rattle.sm_head.specs.Heads.{IsHopeless}
use Rattle.sm_head.specs.Judged.{judged, judged_by}

-- the first 8,192 bytes, within which a head has to end
abbrev pub window : List ℕ → List ℕ
window bytes = take 8192 bytes

-- neither a head nor a refusal stands in the bytes
pub record IsWaiting (bytes : List ℕ) : Type 0 where
  pub none : HasNoRequest bytes
  pub hopeful : IsHopeless bytes → ⊥
  pub short : length bytes < 8192

-- the first bytes, so many and at most 8,192, are a head, which is judged so
pub record IsHeadAt (bytes : List ℕ) (len : ℕ) (judgement : Result Asked Cause) : Type 0 where
  pub h : RequestHead
  pub reads : ReadsRequest bytes h (drop len bytes)
  pub fits : len ≤ length bytes
  pub some : 0 < len
  pub short : len ≤ 8192
  pub judged_is : judged h ≡ judgement

-- no head is there, no line feed behind which none can come, and all 8,192 bytes that it may have
pub record IsTooLong (bytes : List ℕ) : Type 0 where
  pub none : HasNoRequest (window bytes)
  pub hopeful : IsHopeless (window bytes) → ⊥
  pub full : 8192 ≤ length bytes

-- the head is refused for this: whole, at a line feed behind which none can come, or at byte 8,192
abbrev pub IsRefused : List ℕ → Cause → Type 0
IsRefused bytes cause =
    ((len : ℕ) × IsHeadAt bytes len (Err cause)) ⊎ (((cause ≡ BadHead) × IsHopeless (window bytes)) ⊎ ((cause ≡ HeadTooLarge) × IsTooLong bytes))

-- the answer is that of the bytes
abbrev pub IsReqAnswer : List ℕ → Result ReqHead ReadFault → Type 0
IsReqAnswer bytes (Ok (Whole length method target framing close expects)) =
    IsHeadAt bytes length (Ok (record { method = method; target = target; framing = framing; close = close; expects = expects }))
IsReqAnswer bytes (Ok Partial) = IsWaiting bytes
IsReqAnswer bytes (Err (fault.Refused cause)) = IsRefused bytes cause
IsReqAnswer bytes (Err fault.NoMemory) = ⊤

-- what the head asks that these spans cover
abbrev pub judged_spans : List ℕ → List HeaderSpan → RequestSpans → Result Asked Cause
judged_spans buf headers spans =
    judged_by (span_bytes buf spans.method) (span_bytes buf spans.path) spans.version (map (header_bytes buf) (take spans.headers headers))

abbrev pub IsSpansAnswer : List ℕ → List HeaderSpan → RequestSpans → Result ReqHead ReadFault → Type 0
IsSpansAnswer buf headers spans (Ok (Whole length method target framing close expects)) =
    (length ≡ spans.len) × (judged_spans buf headers spans ≡ Ok (record { method = method; target = target; framing = framing; close = close; expects = expects }))
IsSpansAnswer buf headers spans (Ok Partial) = ⊥
IsSpansAnswer buf headers spans (Err (fault.Refused cause)) = judged_spans buf headers spans ≡ Err cause
IsSpansAnswer buf headers spans (Err fault.NoMemory) = ⊤
