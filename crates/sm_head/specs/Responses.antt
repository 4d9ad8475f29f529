-- What the bytes of an answer have of a reply head. RFC 9112, sections 4 and 6.3.
use Rattle.std.specs.Prelude.{◌≡◌, ℕ, ◌<◌, ◌≤◌, ◌⊎◌, nat_lt, List, [], ◌∷◌, length, map, take, drop, codes, Option, Some, None, Result, Ok, Err, ⊤, if◌then◌else◌}
use Rattle.std.specs.Str.Parse.{digits_value}
use Rattle.httparse.specs.Grammar.{ResponseHead, ReadsResponse, HasNoResponse, MayBecomeResponse, status_code}
use Rattle.httparse.specs.Spans.{name_and_value, header_bytes}
use Rattle.httparse.specs.declared.spans.HeaderSpan.{HeaderSpan}
use Rattle.httparse.specs.declared.spans.ResponseSpans.{ResponseSpans}
use Rattle.sm_model.specs.declared.framing.Framing.{Framing}
use Rattle.sm_model.specs.declared.framing.Framing.TheVariants as framing
use Rattle.sm_head.specs.declared.response.RespHead.{RespHead}
use Rattle.sm_head.specs.declared.response.RespHead.TheVariants.{Whole, Partial}
use Rattle.sm_head.specs.declared.response.RespFault.{RespFault}
use Rattle.sm_head.specs.declared.response.RespFault.TheVariants as fault
use Rattle.sm_head.specs.Fields.{is_text}
use Rattle.sm_head.specs.Judged.{Pairs, lengths, transfers}
use Rattle.sm_head.specs.Lengths.{is_length}
use Rattle.sm_head.specs.Requests.{window}

-- how the body of a reply is framed: by one length of 1 to 18 digits, or by one transfer coding, `chunked`
abbrev pub reply_framing : List (List ℕ) → List (List ℕ) → Option Framing
reply_framing [] [] = None
reply_framing [] (t ∷ []) = if is_text (codes "chunked") t then Some framing.Chunked else None
reply_framing [] (t ∷ s ∷ ts) = None
reply_framing (v ∷ []) [] = if is_length v then Some (framing.Counted (digits_value 10 v)) else None
reply_framing (v ∷ []) (t ∷ ts) = None
reply_framing (v ∷ w ∷ vs) transfer = None

-- a head of this status and these fields tells the framing, if it is a good one
abbrev pub reply_by : ℕ → Pairs → Option Framing
reply_by status pairs =
    if nat_lt 64 (length pairs) then None else
    if nat_lt status 200 then Some framing.None else reply_framing (lengths pairs) (transfers pairs)

abbrev pub answered : ResponseHead → Option Framing
answered h = reply_by (status_code h) (map name_and_value h.fields)

-- the first bytes, so many and at most 8,192, are a head of this status, which tells this framing or is bad
pub record IsReplyAt (bytes : List ℕ) (len status : ℕ) (f : Option Framing) : Type 0 where
  pub h : ResponseHead
  pub reads : ReadsResponse bytes h (drop len bytes)
  pub fits : len ≤ length bytes
  pub some : 0 < len
  pub short : len ≤ 8192
  pub status_is : status ≡ status_code h
  pub framing_is : answered h ≡ f

-- fewer than 8,192 bytes, of which no prefix is a head, and some continuation is one
pub record IsUnfinished (bytes : List ℕ) : Type 0 where
  pub none : HasNoResponse bytes
  pub may : MayBecomeResponse bytes
  pub short : length bytes < 8192

-- what the spans' head tells
abbrev pub IsReplySpans : List ℕ → List HeaderSpan → ResponseSpans → Result RespHead RespFault → Type 0
IsReplySpans buf headers spans (Ok (Whole length status framing)) =
    (length ≡ spans.len) × (status ≡ spans.code) × (reply_by spans.code (map (header_bytes buf) (take spans.headers headers)) ≡ Some framing)
IsReplySpans buf headers spans (Ok Partial) = ⊥
IsReplySpans buf headers spans (Err fault.Bad) = reply_by spans.code (map (header_bytes buf) (take spans.headers headers)) ≡ None
IsReplySpans buf headers spans (Err fault.NoMemory) = ⊥

-- the answer is that of the bytes
abbrev pub IsRespAnswer : List ℕ → Result RespHead RespFault → Type 0
IsRespAnswer bytes (Ok (Whole length status framing)) = IsReplyAt bytes length status (Some framing)
IsRespAnswer bytes (Ok Partial) = IsUnfinished bytes
IsRespAnswer bytes (Err fault.Bad) =
    ((len : ℕ) × (status : ℕ) × IsReplyAt bytes len status None) ⊎ (HasNoResponse (window bytes) × (IsUnfinished bytes → ⊥))
IsRespAnswer bytes (Err fault.NoMemory) = ⊤

-- the answer is this one, or that memory ran out
abbrev pub IsButForMemory : Result RespHead RespFault → Result RespHead RespFault → Type 0
IsButForMemory answer wanted = (answer ≡ wanted) ⊎ (answer ≡ Err fault.NoMemory)

-- how the body of a written reply is framed: below a status of 200 it has none
abbrev pub written_framing : ℕ → ℕ → Framing
written_framing status count = if nat_lt status 200 then framing.None else framing.Counted count
