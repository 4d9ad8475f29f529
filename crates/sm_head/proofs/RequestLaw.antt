-- A head in the window is a head of the bytes.
use Rattle.std.proofs.Common.{◌≡◌, ℕ, ◌<◌, ◌≤◌, List, [], ◌∷◌, ◌++◌, length, take, drop, refl, ap, ◌∙◌, sym, subst, arith, append_assoc, length-append, take-append-drop, ⊎_elim, inl, inr, Ok, Err}
use Rattle.std.specs.Prelude.{map, min, Result}
use Rattle.std.proofs.lemmas.Bool.{cases_lt}
use Rattle.std.proofs.lemmas.List.{drop-append-le, take-append-le, length-take, take_all}
use Rattle.httparse.specs.Grammar.{RequestHead, print_request, HasNoRequest}
use Rattle.httparse.specs.Spans.{IsRequestAt, IsRequestWithin, span_bytes, name_and_value}
use Rattle.httparse.specs.declared.spans.HeaderSpan.{HeaderSpan}
use Rattle.httparse.specs.declared.spans.RequestSpans.{RequestSpans}
use Rattle.sm_model.specs.declared.cause.Cause.TheVariants.{BadHead, HeadTooLarge}
use Rattle.sm_model.specs.declared.fault.ReadFault.{ReadFault}
use Rattle.sm_model.specs.declared.fault.ReadFault.TheVariants as fault
use Rattle.sm_head.specs.declared.request.ReqHead.{ReqHead}
use Rattle.sm_head.specs.declared.request.ReqHead.TheVariants.{Whole, Partial}
use Rattle.sm_head.specs.Heads.{IsHopeless}
use Rattle.sm_model.specs.Gives.{Gives}
use Rattle.sm_head.specs.Judged.{judged_by, judged}
use Rattle.sm_head.specs.Requests.{window, IsHeadAt, IsRefused, judged_spans, IsSpansAnswer, IsReqAnswer}
use Rattle.sm_head.proofs.HeadLaw.{head_ends}

-- what a slice of a `Vec` wrote is what the `Vec` holds
pub written : (n : ℕ) (xs ys : List HeaderSpan) → n ≡ length xs → take n (xs ++ ys) ≡ xs
written n xs ys is = let low : n ≤ length xs = omega arith in take-append-le n xs ys low ∙ take_all n xs (omega arith)

-- the judgement of the spans is that of the head
pub judged_at : (buf : List ℕ) (headers : List HeaderSpan) (spans : RequestSpans) (h : RequestHead) → IsRequestAt buf headers spans h
    → judged h ≡ judged_spans buf headers spans
judged_at buf headers spans h at =
    ap (λ m. judged_by m h.target h.minor (map name_and_value h.fields)) (sym at.method)
    ∙ ap (λ t. judged_by (span_bytes buf spans.method) t h.minor (map name_and_value h.fields)) (sym at.path)
    ∙ ap (λ v. judged_by (span_bytes buf spans.method) (span_bytes buf spans.path) v (map name_and_value h.fields)) (sym at.version)
    ∙ ap (λ f. judged_by (span_bytes buf spans.method) (span_bytes buf spans.path) spans.version f) (sym at.fields)

pub whole_head : (bytes : List ℕ) (end : ℕ) → end ≡ min (length bytes) 8192 → (headers : List HeaderSpan) (spans : RequestSpans)
    → IsRequestWithin (take end bytes) headers spans → (h : RequestHead) → IsRequestAt (take end bytes) headers spans h
    → IsHeadAt bytes spans.len (judged_spans (take end bytes) headers spans)
whole_head bytes end is headers spans within h at =
    let l = length-take end bytes in
    let fits : spans.len ≤ length (take end bytes) = within.section.len_fits in
    let whole : bytes ≡ take end bytes ++ drop end bytes = sym (take-append-drop end bytes) in
    let d : drop spans.len bytes ≡ drop spans.len (take end bytes) ++ drop end bytes =
    ap (drop spans.len) whole ∙ drop-append-le spans.len (take end bytes) (drop end bytes) fits in
    record {
      h = h;
      reads = (at.reads.0, whole ∙ ap (λ b. b ++ drop end bytes) at.reads.1 ∙ append_assoc (print_request h) (drop spans.len (take end bytes)) (drop end bytes) ∙ ap (λ b. print_request h ++ b) (sym d));
      fits = omega arith;
      some = let e = head_ends h in let f = ap length e.1 in let g = at.len in omega (arith, length-append e.0 (10 ∷ []));
      short = omega arith;
      judged_is = judged_at (take end bytes) headers spans h at;
    }

pub told_fault : (buf : List ℕ) (headers : List HeaderSpan) (spans : RequestSpans) (f : ReadFault) → Gives (Err f) (judged_spans buf headers spans)
    → IsSpansAnswer buf headers spans (Err f)
told_fault buf headers spans (fault.Refused cause) tells = tells
told_fault buf headers spans fault.NoMemory tells = tells

-- what the spans' head asks is what the bytes' head asks
pub spans_answer : (bytes : List ℕ) (end : ℕ) (headers : List HeaderSpan) (spans : RequestSpans) → IsHeadAt bytes spans.len (judged_spans (take end bytes) headers spans)
    → (r : Result ReqHead ReadFault) → IsSpansAnswer (take end bytes) headers spans r → IsReqAnswer bytes r
spans_answer bytes end headers spans at (Ok (Whole len method target framing close expects)) (same, is) =
    subst (λ (n : ℕ). IsHeadAt bytes n (Ok (record { method = method; target = target; framing = framing; close = close; expects = expects }))) (sym same) (subst (IsHeadAt bytes spans.len) is at)
spans_answer bytes end headers spans at (Ok Partial) never = absurd never
spans_answer bytes end headers spans at (Err (fault.Refused cause)) is = inl (spans.len, subst (IsHeadAt bytes spans.len) is at)
spans_answer bytes end headers spans at (Err fault.NoMemory) any = any

pub window_is : (bytes : List ℕ) (end : ℕ) → end ≡ min (length bytes) 8192 → take end bytes ≡ window bytes
window_is bytes end is = ⊎_elim
    (λ (small : length bytes < 8192). take_all end bytes (omega arith) ∙ sym (take_all 8192 bytes (omega arith)))
    (λ (big : 8192 ≤ length bytes). let e : end ≡ 8192 = omega arith in ap (λ n. take n bytes) e)
    (cases_lt (length bytes) 8192)

pub refused_bad : (bytes : List ℕ) (end : ℕ) → end ≡ min (length bytes) 8192 → IsHopeless (take end bytes) → IsRefused bytes BadHead
refused_bad bytes end is h = inr (inl (refl, subst IsHopeless (window_is bytes end is) h))

pub refused_full : (bytes : List ℕ) (end : ℕ) → end ≡ min (length bytes) 8192 → HasNoRequest (take end bytes) → (IsHopeless (take end bytes) → ⊥)
    → 8192 ≤ length (take end bytes) → IsRefused bytes HeadTooLarge
refused_full bytes end is none hopeful full =
    let l = length-take end bytes in
    let w = window_is bytes end is in
    inr (inr (refl, record { none = subst HasNoRequest w none; hopeful = λ h. hopeful (subst IsHopeless (sym w) h); full = omega arith }))
