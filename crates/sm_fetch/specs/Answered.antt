-- What the bytes of an answer begin with: heads with a status below 200, which are passed over, and then a reply. RFC 9110, section 15.2; RFC 9112, sections 4, 6, 7.1.
use Rattle.std.specs.Prelude.{◌≡◌, ◌≢◌, ◌<◌, ◌≤◌, ◌+◌, ◌⊎◌, ℕ, List, [], ◌++◌, drop, Some, Err}
use Rattle.sm_model.specs.declared.framing.Framing.{Framing}
use Rattle.sm_body.specs.declared.place.Place.TheVariants.{Ended, Failed}
use Rattle.sm_body.specs.Places.{start, place_after, body_from}
use Rattle.sm_head.specs.declared.response.RespFault.TheVariants as fault
use Rattle.sm_head.specs.Responses.{IsReplyAt, IsUnfinished, IsRespAnswer}
use Rattle.sm_fetch.specs.declared.body.Body.{Body}
use Rattle.sm_fetch.specs.declared.body.Body.TheVariants.{Lent, Joined}
use Rattle.sm_fetch.specs.declared.reply.Reply.{Reply}
use Rattle.sm_fetch.specs.declared.reply.Reply.TheVariants.{Whole, Cut, Bad}

-- all before this place are whole heads with a status below 200
pub data IsBehindInterim : List ℕ → ℕ → Type 0 where
  first : (bytes : List ℕ) (at : ℕ) → at ≡ 0 → IsBehindInterim bytes at
  next : (bytes : List ℕ) (before len status : ℕ) (f : Framing) (at : ℕ)
      → IsBehindInterim bytes before → IsReplyAt (drop before bytes) len status (Some f) → status < 200 → at ≡ before + len
      → IsBehindInterim bytes at

-- behind such heads stands a reply's own, which is whole and ends at this place
pub record IsHeadEnd (bytes : List ℕ) (status at : ℕ) (framing : Framing) : Type 0 where
  pub from : ℕ
  pub behind : IsBehindInterim bytes from
  pub len : ℕ
  pub head : IsReplyAt (drop from bytes) len status (Some framing)
  pub final : 200 ≤ status
  pub at_is : at ≡ from + len

-- a whole reply of this status and body, whose head ends at this place; any bytes may follow it
pub record IsWholeReply (bytes : List ℕ) (status at : ℕ) (body : List ℕ) : Type 0 where
  pub framing : Framing
  pub head : IsHeadEnd bytes status at framing
  pub framed : List ℕ
  pub rest : List ℕ
  pub behind : drop at bytes ≡ framed ++ rest
  pub ends : place_after (start framing) framed ≡ Ended
  pub body_is : body ≡ body_from (start framing) framed

-- a reply and nothing else
pub record IsReply (bytes : List ℕ) (status at : ℕ) (body : List ℕ) : Type 0 where
  pub whole : IsWholeReply bytes status at body
  pub alone : whole.rest ≡ []

-- the front of a head
pub record IsCutHead (bytes : List ℕ) : Type 0 where
  pub from : ℕ
  pub behind : IsBehindInterim bytes from
  pub waits : IsUnfinished (drop from bytes)

-- a whole head, and the front of its body, perhaps nothing
pub record IsCutBody (bytes : List ℕ) : Type 0 where
  pub status : ℕ
  pub at : ℕ
  pub framing : Framing
  pub head : IsHeadEnd bytes status at framing
  pub unended : place_after (start framing) (drop at bytes) ≢ Ended
  pub unfailed : place_after (start framing) (drop at bytes) ≢ Failed

-- a proper front of a reply
abbrev pub IsCutReply : List ℕ → Type 0
IsCutReply bytes = IsCutHead bytes ⊎ IsCutBody bytes

-- a head that is bad, from its first byte on
pub record IsBadHead (bytes : List ℕ) (at : ℕ) : Type 0 where
  pub behind : IsBehindInterim bytes at
  pub bad : IsRespAnswer (drop at bytes) (Err fault.Bad)

-- a whole head, which ends at this place, and a body with a byte that fits nowhere, before its end
pub record IsBadBody (bytes : List ℕ) (at : ℕ) : Type 0 where
  pub status : ℕ
  pub framing : Framing
  pub head : IsHeadEnd bytes status at framing
  pub failed : place_after (start framing) (drop at bytes) ≡ Failed
  pub unended : (framed rest : List ℕ) → drop at bytes ≡ framed ++ rest → place_after (start framing) framed ≢ Ended

-- no reply, told at the first byte of a bad head, or at the first one behind a whole head
abbrev pub IsNoReply : List ℕ → ℕ → Type 0
IsNoReply bytes at = IsBadHead bytes at ⊎ IsBadBody bytes at

-- the bytes of a body that was read
abbrev pub body_bytes : Body → List ℕ
body_bytes (Lent bytes) = bytes.now
body_bytes (Joined bytes) = bytes.items

-- what the bytes begin with
abbrev pub BeginsWith : List ℕ → Reply → Type 0
BeginsWith bytes (Whole status at body) = IsWholeReply bytes status at (body_bytes body)
BeginsWith bytes Cut = IsCutReply bytes
BeginsWith bytes (Bad at) = IsNoReply bytes at
