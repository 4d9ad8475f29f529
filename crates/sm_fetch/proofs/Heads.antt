-- Heads in front of a reply.
use Rattle.std.proofs.Common.{◌≡◌, ◌<◌, ◌≤◌, ℕ, ◌+◌, ◌-◌, List, ◌++◌, length, take, drop, refl, subst, inl, inr}
use Rattle.std.specs.Prelude.{Some, Err}
use Rattle.sm_model.specs.declared.framing.Framing.{Framing}
use Rattle.sm_head.specs.declared.response.RespFault.TheVariants as fault
use Rattle.sm_head.specs.Responses.{IsReplyAt, IsUnfinished, IsRespAnswer}
use Rattle.sm_fetch.specs.Answered.{IsBehindInterim, next, IsHeadEnd, IsWholeReply, IsCutReply, IsNoReply}
use Rattle.sm_fetch.specs.Framed.{IsFramedWhole, IsFramedCut, IsFramedBad}
use Rattle.sm_fetch.proofs.Framing.{tail_is, tail_len}

-- ---- at the head that begins there

at_tail : (bytes : List ℕ) (at len status : ℕ) (f : Framing) → IsReplyAt (take (length bytes - at) (drop at bytes)) len status (Some f)
    → IsReplyAt (drop at bytes) len status (Some f)
at_tail bytes at len status f head = subst (λ (b : List ℕ). IsReplyAt b len status (Some f)) (tail_is bytes at) head

pub head_len : (bytes : List ℕ) (at len status : ℕ) (f : Framing) → at ≤ length bytes → IsReplyAt (take (length bytes - at) (drop at bytes)) len status (Some f)
    → at + len ≤ length bytes
head_len bytes at len status f within head = tail_len bytes at len head.fits within

pub interim : (bytes : List ℕ) (at len status : ℕ) (f : Framing) → IsBehindInterim bytes at
    → IsReplyAt (take (length bytes - at) (drop at bytes)) len status (Some f) → status < 200 → IsBehindInterim bytes (at + len)
interim bytes at len status f behind head low = next bytes at len status f (at + len) behind (at_tail bytes at len status f head) low refl

pub head_end : (bytes : List ℕ) (at len status : ℕ) (f : Framing) → IsBehindInterim bytes at
    → IsReplyAt (take (length bytes - at) (drop at bytes)) len status (Some f) → 200 ≤ status → IsHeadEnd bytes status (at + len) f
head_end bytes at len status f behind head final = record {
  from = at;
  behind = behind;
  len = len;
  head = at_tail bytes at len status f head;
  final = final;
  at_is = refl;
}

pub cut_head : (bytes : List ℕ) (at : ℕ) → IsBehindInterim bytes at → IsUnfinished (take (length bytes - at) (drop at bytes)) → IsCutReply bytes
cut_head bytes at behind waits = inl (record { from = at; behind = behind; waits = subst IsUnfinished (tail_is bytes at) waits })

pub bad_head : (bytes : List ℕ) (at : ℕ) → IsBehindInterim bytes at → IsRespAnswer (take (length bytes - at) (drop at bytes)) (Err fault.Bad) → IsNoReply bytes at
bad_head bytes at behind bad = inl (record { behind = behind; bad = subst (λ (b : List ℕ). IsRespAnswer b (Err fault.Bad)) (tail_is bytes at) bad })

-- ---- behind the last head

pub whole_body : (bytes : List ℕ) (status at : ℕ) (f : Framing) (body : List ℕ) → IsHeadEnd bytes status at f
    → IsFramedWhole f (take (length bytes - at) (drop at bytes)) body → IsWholeReply bytes status at body
whole_body bytes status at f body head w = record {
  framing = f;
  head = head;
  framed = w.framed;
  rest = w.rest;
  behind = subst (λ (b : List ℕ). b ≡ w.framed ++ w.rest) (tail_is bytes at) w.joined;
  ends = w.ends;
  body_is = w.body_is;
}

pub cut_body : (bytes : List ℕ) (status at : ℕ) (f : Framing) → IsHeadEnd bytes status at f → IsFramedCut f (take (length bytes - at) (drop at bytes)) → IsCutReply bytes
cut_body bytes status at f head w =
    let here = subst (IsFramedCut f) (tail_is bytes at) w in
    inr (record { status = status; at = at; framing = f; head = head; unended = here.unended; unfailed = here.unfailed })

pub bad_body : (bytes : List ℕ) (status at : ℕ) (f : Framing) → IsHeadEnd bytes status at f → IsFramedBad f (take (length bytes - at) (drop at bytes)) → IsNoReply bytes at
bad_body bytes status at f head w =
    let here = subst (IsFramedBad f) (tail_is bytes at) w in
    inr (record { status = status; framing = f; head = head; failed = here.failed; unended = here.unended })
