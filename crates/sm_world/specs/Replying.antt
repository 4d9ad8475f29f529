-- What an origin replies to the GET of a target.
use Rattle.std.specs.Prelude.{◌≡◌, ◌<◌, ◌⊎◌, ℕ, List, ◌++◌, length, true, Some}
use Rattle.sm_model.specs.declared.address.Address.{Address}
use Rattle.sm_model.specs.declared.cause.Cause.{Cause}
use Rattle.sm_model.specs.declared.cause.Cause.TheVariants as cause
use Rattle.sm_model.specs.declared.entry.Entry.{Entry}
use Rattle.sm_model.specs.declared.fragment.Fragment.{Fragment}
use Rattle.sm_model.specs.declared.target.Target.TheVariants as targets
use Rattle.sm_log.specs.Logs.{kept_at}
use Rattle.sm_addr.specs.Targets.{target_of}
use Rattle.sm_head.specs.declared.reply.TheConstants.{NO_MEMORY}
use Rattle.sm_head.specs.Judged.{is_push}
use Rattle.sm_reply.specs.Replies.{reply_of, unplaced}
use Rattle.sm_serve.specs.declared.texts.TheConstants.{TOO_MANY}
use Rattle.sm_serve.specs.Run.{act_of_target}
use Rattle.sm_fetch.specs.Origins.{IsOriginReply}

-- the reply of this log to the GET of a target, place and track_ID included
abbrev pub given : List Entry → List ℕ → List ℕ
given log named = (reply_of log (act_of_target (target_of named))).bytes

-- why the GET of a target is refused: it is one that is pushed to, or its head is too long
abbrev pub IsRefusable : List ℕ → Cause → Type 0
IsRefusable named c = ((c ≡ cause.Method) × (is_push (target_of named) ≡ true)) ⊎ ((c ≡ cause.HeadTooLarge) × (7000 < length named))

-- the disk failed, where a fragment that is kept was to be read
pub record IsUnread (failed : Type 0) (log : List Entry) (named reply : List ℕ) : Type 0 where
  pub address : Address
  pub place : ℕ
  pub fragment : Fragment
  pub asks : target_of named ≡ targets.Fragment address
  pub kept : kept_at log address ≡ Some (place, fragment)
  pub why : failed
  pub reply_is : reply ≡ (unplaced cause.DiskFault).bytes

-- what comes in its place: there is no memory for it, too many connections are open, the disk failed, or the request is refused
abbrev pub Replaces : (failed crowded : Type 0) → List Entry → List ℕ → List ℕ → Type 0
Replaces failed crowded log named reply =
    (reply ≡ NO_MEMORY.now) ⊎ (((reply ≡ TOO_MANY.now) × crowded) ⊎ (IsUnread failed log named reply
    ⊎ ((c : Cause) × IsRefusable named c × (reply ≡ (unplaced c).bytes))))

-- what is replied, of a disk that failed only where this holds, and to a connection too many only where that does
abbrev pub IsReplyTo : (failed crowded : Type 0) → List Entry → List ℕ → List ℕ → Type 0
IsReplyTo failed crowded log named reply = ((reply ≡ given log named) ⊎ Replaces failed crowded log named reply) × IsOriginReply log named reply

-- the bytes are a front, perhaps all, of such a reply
abbrev pub IsReplyFront : (failed crowded : Type 0) → List Entry → List ℕ → List ℕ → Type 0
IsReplyFront failed crowded log named bytes = (reply more : List ℕ) × IsReplyTo failed crowded log named reply × (reply ≡ bytes ++ more)
