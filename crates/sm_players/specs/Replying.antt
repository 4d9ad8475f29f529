-- The final reply to a request.
use Rattle.std.specs.Prelude.{◌≡◌, ◌⊎◌, ℕ, ◌+◌, Bool, true, false, not, ◌||◌, ◌&&◌, ◌==◌, List, [], ◌∷◌, length, Option, Some, None, Result, Ok, Err}
use Rattle.sm_model.specs.declared.act.Act.{Act}
use Rattle.sm_model.specs.declared.act.Act.TheVariants as acts
use Rattle.sm_model.specs.declared.cause.Cause.{Cause}
use Rattle.sm_model.specs.declared.cause.Cause.TheVariants as cause
use Rattle.sm_model.specs.declared.framing.Framing.TheVariants.{Counted, Chunked, None as Nothing}
use Rattle.sm_model.specs.declared.no_memory.NoMemory.{NoMemory}
use Rattle.sm_model.specs.declared.target.Target.{Target}
use Rattle.sm_model.specs.declared.target.Target.TheVariants as targets
use Rattle.sm_log.specs.Digests.{Digest, Extends}
use Rattle.sm_head.specs.declared.response.RespHead.{RespHead}
use Rattle.sm_head.specs.declared.response.RespHead.TheVariants.{Whole, Partial}
use Rattle.sm_head.specs.declared.response.RespFault.{RespFault}
use Rattle.sm_head.specs.Responses.{IsRespAnswer}
use Rattle.sm_conn.specs.Parts.{PartItem, got, posted, bad}
use Rattle.sm_reply.specs.Replies.{unplaced}
use Rattle.sm_shelf.specs.declared.shown.Shown.TheVariants as shown
use Rattle.sm_shelf.specs.Shown.{Answers, IsForwarded}
use Rattle.sm_players.specs.declared.forward.ForwardError.{ForwardError}
use Rattle.sm_players.specs.declared.forward.ForwardError.TheVariants.{Failed}
use Rattle.sm_players.specs.declared.replying.Final.{Final}
use Rattle.sm_players.specs.Asking.{Asking}

-- what a shelf is asked for a target
abbrev pub act_for : Target → Option Act
act_for targets.Manifest = Some acts.Manifest
act_for (targets.Fragment a) = Some (acts.Fragment a)
act_for (targets.Streams name) = None
act_for targets.Unknown = None

-- the refusal of a cause
abbrev pub refusal : Cause → Final
refusal c = record { text = (unplaced c).bytes; close = (unplaced c).close }

abbrev pub refusal_last : Cause → Final
refusal_last c = record { text = (unplaced c).bytes; close = true }

-- so many bytes are one whole reply of status 200 or 404, if they begin so
abbrev pub is_whole : ℕ → Result RespHead RespFault → Bool
is_whole total (Ok (Whole length status (Counted count))) = ((status == 200) || (status == 404)) && (length + count == total)
is_whole total (Ok (Whole length status Chunked)) = false
is_whole total (Ok (Whole length status Nothing)) = false
is_whole total (Ok Partial) = false
is_whole total (Err fault) = false

-- the connection closes behind these bytes of the loop, or not: it does unless they are one whole reply of status 200 or 404
pub record ClosesBehind (bytes : List ℕ) (close : Bool) : Type 0 where
  pub head : Result RespHead RespFault
  pub read : IsRespAnswer bytes head
  pub close_is : close ≡ not (is_whole (length bytes) head)

-- The final reply to a request for a target: from a digest seen before, to the one seen then, with what the loop was asked for it.
pub data IsFinal (seen : Digest) (target : Target) (seen' : Digest) (asked : List Asking) (f : Final) : Type 0 where
  -- the shelf's own, of a digest that goes on from the one seen before
  shown_it : (act : Act) → act_for target ≡ Some act → Answers seen act (shown.Reply f.text) seen' → asked ≡ [] → f.close ≡ false
      → IsFinal seen target seen' asked f
  -- the shelf forwards, and the loop was asked for this very target: its reply
  forwarded : (act : Act) → act_for target ≡ Some act → Answers seen act shown.Forward seen'
      → asked ≡ (record { target = target; answer = Ok f.text }) ∷ [] → ClosesBehind f.text f.close → IsFinal seen target seen' asked f
  -- the same, and the call failed
  failed : (act : Act) → act_for target ≡ Some act → Answers seen act shown.Forward seen'
      → asked ≡ (record { target = target; answer = Err Failed }) ∷ [] → f ≡ refusal cause.Forward → IsFinal seen target seen' asked f
  -- nothing has this target
  unknown : act_for target ≡ None → seen' ≡ seen → asked ≡ [] → f ≡ refusal cause.NoTarget → IsFinal seen target seen' asked f

-- The final reply to an item that is a request.
pub data IsReplied (seen : Digest) (item : PartItem) (seen' : Digest) (asked : List Asking) (f : Final) : Type 0 where
  to_get : (target : Target) (close : Bool) (r : Final) → item ≡ got target close → IsFinal seen target seen' asked r
      → f ≡ record { text = r.text; close = r.close || close } → IsReplied seen item seen' asked f
  -- a push is refused
  to_post : item ≡ posted → seen' ≡ seen → asked ≡ [] → f ≡ refusal cause.Method → IsReplied seen item seen' asked f
  -- a head is refused for its cause, and the connection closes
  to_bad : (c : Cause) → item ≡ bad c → seen' ≡ seen → asked ≡ [] → f ≡ refusal_last c → IsReplied seen item seen' asked f

-- Memory was wanting for the reply. The loop was asked for nothing, or for the target of a request that the shelf forwards.
pub record IsStarved (seen : Digest) (items : List PartItem) (seen' : Digest) (asked : List Asking) : Type 0 where
  pub on : Extends seen' seen
  pub asks : (asked ≡ []) ⊎ ((target : Target) × (close : Bool) × (act : Act) × (answer : Result (List ℕ) ForwardError)
      × (items ≡ got target close ∷ []) × (act_for target ≡ Some act) × IsForwarded seen' act
      × (asked ≡ (record { target = target; answer = answer }) ∷ []))

-- what is answered to items
abbrev pub IsAnswer : Digest → List PartItem → Digest → List Asking → Result Final NoMemory → Type 0
IsAnswer seen items seen' asked (Ok f) = (item : PartItem) × (items ≡ item ∷ []) × IsReplied seen item seen' asked f
IsAnswer seen items seen' asked (Err e) = IsStarved seen items seen' asked

-- the same of a request for a target
abbrev pub IsFinalOr : Digest → Target → Digest → List Asking → Result Final NoMemory → Type 0
IsFinalOr seen target seen' asked (Ok f) = IsFinal seen target seen' asked f
IsFinalOr seen target seen' asked (Err e) = (close : Bool) → IsStarved seen (got target close ∷ []) seen' asked

-- what came of asking the loop, where the shelf forwards
pub data IsForwardReply (target : Target) (asked : List Asking) (f : Final) : Type 0 where
  replied : asked ≡ (record { target = target; answer = Ok f.text }) ∷ [] → ClosesBehind f.text f.close → IsForwardReply target asked f
  refused : asked ≡ (record { target = target; answer = Err Failed }) ∷ [] → f ≡ refusal cause.Forward → IsForwardReply target asked f

abbrev pub IsForwardOr : Target → List Asking → Result Final NoMemory → Type 0
IsForwardOr target asked (Ok f) = IsForwardReply target asked f
IsForwardOr target asked (Err e) = (asked ≡ []) ⊎ ((answer : Result (List ℕ) ForwardError) × (asked ≡ (record { target = target; answer = answer }) ∷ []))
