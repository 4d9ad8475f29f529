-- Reply heads in the window, and their lengths.
use Rattle.std.proofs.Common.{◌≡◌, ℕ, ◌+◌, ◌*◌, ◌<◌, ◌≤◌, List, [], ◌∷◌, ◌++◌, length, take, drop, ap, ◌∙◌, sym, subst, arith, append_assoc, length-append, take-append-drop, inl, inr, Ok, Err, Some}
use Rattle.std.specs.Prelude.{map, min, Result}
use Rattle.std.proofs.lemmas.List.{drop-append-le, length-take, take_all, append-nil}
use Rattle.httparse.specs.Grammar.{ResponseHead, IsResponseHead, print_response, HasNoResponse, NeverHasResponse, MayBecomeResponse}
use Rattle.httparse.specs.Spans.{IsResponseAt, IsResponseWithin, ResponseExceeds, header_bytes, name_and_value}
use Rattle.httparse.specs.declared.spans.HeaderSpan.{HeaderSpan}
use Rattle.httparse.specs.declared.spans.ResponseSpans.{ResponseSpans}
use Rattle.sm_head.specs.declared.response.RespHead.{RespHead}
use Rattle.sm_head.specs.declared.response.RespHead.TheVariants.{Whole, Partial}
use Rattle.sm_head.specs.declared.response.RespFault.{RespFault}
use Rattle.sm_head.specs.declared.response.RespFault.TheVariants as fault
use Rattle.sm_head.specs.Responses.{reply_by, IsReplyAt, IsUnfinished, IsReplySpans, IsRespAnswer}
use Rattle.sm_head.proofs.HeadLaw.{fields_length, end_length}
use Rattle.sm_head.proofs.RequestLaw.{window_is}

reply_length : (h : ResponseHead) → IsResponseHead h → 3 * length h.fields + 1 ≤ length (print_response h)
unfolding print_response
reply_length h is =
    let fields = fields_length h.fields is.fields in
    let last = end_length h.last in
    simp (length-append) (omega arith)

-- so many fields don't fit
pub never_full : (room : ℕ) (bytes : List ℕ) → length bytes ≤ 3 * room → ResponseExceeds room bytes → ⊥
never_full room bytes wide (front, rest, same, h, reads, over) =
    let low = reply_length h reads.0 in
    let l1 = ap length reads.1 in
    let l2 = ap length same in
    omega (arith, low, over, length-append front (10 ∷ []), length-append (print_response h) [], length-append front rest, l1, l2)

pub whole_reply : (bytes : List ℕ) (end : ℕ) → end ≡ min (length bytes) 8192 → (headers : List HeaderSpan) (spans : ResponseSpans)
    → IsResponseWithin (take end bytes) headers spans → (h : ResponseHead) → IsResponseAt (take end bytes) headers spans h
    → IsReplyAt bytes spans.len spans.code (reply_by spans.code (map (header_bytes (take end bytes)) (take spans.headers headers)))
whole_reply bytes end is headers spans within h at =
    let l = length-take end bytes in
    let fits : spans.len ≤ length (take end bytes) = within.section.len_fits in
    let whole : bytes ≡ take end bytes ++ drop end bytes = sym (take-append-drop end bytes) in
    let d : drop spans.len bytes ≡ drop spans.len (take end bytes) ++ drop end bytes =
    ap (drop spans.len) whole ∙ drop-append-le spans.len (take end bytes) (drop end bytes) fits in
    record {
      h = h;
      reads = (at.reads.0, whole ∙ ap (λ b. b ++ drop end bytes) at.reads.1 ∙ append_assoc (print_response h) (drop spans.len (take end bytes)) (drop end bytes) ∙ ap (λ b. print_response h ++ b) (sym d));
      fits = omega arith;
      some = let low = reply_length h at.reads.0 in let g = at.len in omega arith;
      short = omega arith;
      status_is = at.code;
      framing_is = ap (λ s. reply_by s (map name_and_value h.fields)) (sym at.code) ∙ ap (reply_by spans.code) (sym at.fields);
    }

pub spans_reply : (bytes : List ℕ) (end : ℕ) (headers : List HeaderSpan) (spans : ResponseSpans)
    → IsReplyAt bytes spans.len spans.code (reply_by spans.code (map (header_bytes (take end bytes)) (take spans.headers headers)))
    → (r : Result RespHead RespFault) → IsReplySpans (take end bytes) headers spans r → IsRespAnswer bytes r
spans_reply bytes end headers spans at (Ok (Whole len status framing)) (same, code, is) =
    subst (λ (n : ℕ). IsReplyAt bytes n status (Some framing)) (sym same)
    (subst (λ (s : ℕ). IsReplyAt bytes spans.len s (Some framing)) (sym code) (subst (IsReplyAt bytes spans.len spans.code) is at))
spans_reply bytes end headers spans at (Ok Partial) never = absurd never
spans_reply bytes end headers spans at (Err fault.Bad) is = inl (spans.len, spans.code, subst (IsReplyAt bytes spans.len spans.code) is at)
spans_reply bytes end headers spans at (Err fault.NoMemory) never = absurd never

all_taken : (bytes : List ℕ) (end : ℕ) → end ≡ min (length bytes) 8192 → length bytes < 8192 → take end bytes ≡ bytes
all_taken bytes end is short = take_all end bytes (omega arith)

pub partial_reply : (bytes : List ℕ) (end : ℕ) → end ≡ min (length bytes) 8192 → length bytes < 8192 → HasNoResponse (take end bytes) → MayBecomeResponse (take end bytes)
    → IsUnfinished bytes
partial_reply bytes end is short none may =
    let all = all_taken bytes end is short in
    record { none = subst HasNoResponse all none; may = subst MayBecomeResponse all may; short = short }

pub long_reply : (bytes : List ℕ) (end : ℕ) → end ≡ min (length bytes) 8192 → 8192 ≤ length bytes → HasNoResponse (take end bytes) → IsRespAnswer bytes (Err fault.Bad)
long_reply bytes end is long none = inr (subst HasNoResponse (window_is bytes end is) none, λ u. let s = u.short in absurd (omega arith))

pub never_reply : (bytes : List ℕ) (end : ℕ) → end ≡ min (length bytes) 8192 → NeverHasResponse (take end bytes) → IsRespAnswer bytes (Err fault.Bad)
never_reply bytes end is never =
    inr (
      subst HasNoResponse (append-nil (take end bytes) ∙ window_is bytes end is) (never []),
      λ u. subst NeverHasResponse (all_taken bytes end is u.short) never u.may.0 u.may.1 [] u.may.2,
    )
