-- Replies, from what their parts say.
use Rattle.std.proofs.Common.{◌≡◌, ◌≢◌, inl, inr, ℕ, Bool, true, false, ◌||◌, List, [], ◌∷◌, Some, None, refl, sym, ap, subst}
use Rattle.std.specs.Prelude.{Result, Ok, Err, IfOk}
use Rattle.std.proofs.lemmas.Bool.{cases_Bool}
use Rattle.sm_model.specs.declared.act.Act.{Act}
use Rattle.sm_model.specs.declared.act.Act.TheVariants as acts
use Rattle.sm_model.specs.declared.cause.Cause.{Cause}
use Rattle.sm_model.specs.declared.cause.Cause.TheVariants as cause
use Rattle.sm_model.specs.declared.no_memory.NoMemory.{NoMemory}
use Rattle.sm_model.specs.declared.target.Target.{Target}
use Rattle.sm_model.specs.declared.target.Target.TheVariants as targets
use Rattle.sm_log.specs.Digests.{Digest, Extends}
use Rattle.sm_log.proofs.AllLogs.{extends_itself}
use Rattle.sm_conn.specs.Parts.{PartItem, got, posted, bad}
use Rattle.sm_shelf.specs.declared.shown.Shown.{Shown}
use Rattle.sm_shelf.specs.declared.shown.Shown.TheVariants as shown
use Rattle.sm_shelf.specs.Shelf.{Sight}
use Rattle.sm_shelf.specs.Shown.{Answers, IsAsk}
use Rattle.sm_players.specs.declared.forward.ForwardError.TheVariants.{Failed}
use Rattle.sm_players.specs.declared.replying.Final.{Final}
use Rattle.sm_players.specs.Asking.{Asking, told_of}
use Rattle.sm_players.specs.Replying.{act_for, refusal, refusal_last, ClosesBehind, IsFinal, shown_it, forwarded, failed, unknown, to_get, to_post, to_bad, IsStarved, IsAnswer, IsFinalOr, IsForwardReply, replied, refused, IsForwardOr}

-- ---- what the loop replies

pub loop_refused : (target : Target) (r : Result Final NoMemory) → IfOk r (λ f. f ≡ refusal cause.Forward) → IsForwardOr target (told_of target (Err Failed)) r
loop_refused target (Ok f) is = refused refl is
loop_refused target (Err e) is = inr (Err Failed, refl)

pub loop_replied : (target : Target) (bytes : List ℕ) (r : Result Final NoMemory) → IfOk r (λ f. f.text ≡ bytes) → IfOk r (λ f. ClosesBehind bytes f.close) → IsForwardOr target (told_of target (Ok bytes)) r
loop_replied target bytes (Ok f) text closes =
    replied (ap (λ (b : List ℕ). (record { target = target; answer = Ok b }) ∷ []) (sym text)) (subst (λ (b : List ℕ). ClosesBehind b f.close) (sym text) closes)
loop_replied target bytes (Err e) text closes = inr (Ok bytes, refl)

-- ---- what a shelf answers

pub ask_of : (target : Target) (act : Act) → act_for target ≡ Some act → IsAsk act
ask_of targets.Manifest act is = subst IsAsk (let same : acts.Manifest ≡ act = cc in same) tt
ask_of (targets.Fragment a) act is = subst IsAsk (let same : acts.Fragment a ≡ act = cc in same) tt
ask_of (targets.Streams name) act is = absurd (cc)
ask_of targets.Unknown act is = absurd (cc)

-- a reader that answers isn't lost
pub answered : (old new : Sight) (act : Act) (s : Shown) → (old.lost ≡ false → Answers old.seen act s new.seen) → (old.lost ≡ true → (s ≡ shown.NoMemory) × (new ≡ old)) → s ≢ shown.NoMemory
    → Answers old.seen act s new.seen
answered old new act s found lost not_none = elim (cases_Bool old.lost) [
  | inl is ↦ absurd (not_none (lost is).0)
  | inr kept ↦ found kept
]

-- whether it is lost or not, what it has seen goes on
pub sees_on : (old new : Sight) (act : Act) (s : Shown) → (old.lost ≡ false → Answers old.seen act s new.seen) → (old.lost ≡ true → (s ≡ shown.NoMemory) × (new ≡ old)) → Extends new.seen old.seen
sees_on old new act s found lost = elim (cases_Bool old.lost) [
  | inl is ↦ subst (λ (t : Sight). Extends t.seen old.seen) (sym (lost is).1) (extends_itself old.seen)
  | inr kept ↦ (found kept).0
]

-- ---- the reply to a request for a target

pub starved_here : (seen : Digest) (items : List PartItem) → IsStarved seen items seen []
starved_here seen items = record { on = extends_itself seen; asks = inl refl }

pub no_target : (seen : Digest) (target : Target) (r : Result Final NoMemory) → act_for target ≡ None → IfOk r (λ f. f ≡ refusal cause.NoTarget) → IsFinalOr seen target seen [] r
no_target seen target (Ok f) none is = unknown none refl refl is
no_target seen target (Err e) none is = λ close. starved_here seen (got target close ∷ [])

pub by_loop : (seen : Digest) (target : Target) (seen' : Digest) (act : Act) (asked : List Asking) (r : Result Final NoMemory) → act_for target ≡ Some act → Answers seen act shown.Forward seen' → IsForwardOr target asked r
    → IsFinalOr seen target seen' asked r
by_loop seen target seen' act asked (Ok f) is answers from = go from
  where
    go : IsForwardReply target asked f → IsFinal seen target seen' asked f
    go (replied one closes) = forwarded act is answers one closes
    go (refused one told) = failed act is answers one told
by_loop seen target seen' act asked (Err e) is answers (inl none) = λ close. record { on = answers.0; asks = inl none }
by_loop seen target seen' act asked (Err e) is answers (inr (answer, one)) =
    λ close. record { on = answers.0; asks = inr (target, close, act, answer, refl, is, answers.1, one) }

pub by_shelf : (seen : Digest) (target : Target) (seen' : Digest) (act : Act) (text : List ℕ) → act_for target ≡ Some act → Answers seen act (shown.Reply text) seen'
    → IsFinal seen target seen' [] (record { text = text; close = false })
by_shelf seen target seen' act text is answers = shown_it act is answers refl refl

-- ---- the reply to a part

pub post_answer : (seen : Digest) (r : Result Final NoMemory) → IfOk r (λ f. f ≡ refusal cause.Method) → IsAnswer seen (posted ∷ []) seen [] r
post_answer seen (Ok f) is = (posted, refl, to_post refl refl refl is)
post_answer seen (Err e) is = starved_here seen (posted ∷ [])

pub bad_answer : (seen : Digest) (c : Cause) (r : Result Final NoMemory) → IfOk r (λ f. f ≡ refusal_last c) → IsAnswer seen (bad c ∷ []) seen [] r
bad_answer seen c (Ok f) is = (bad c, refl, to_bad c refl refl refl is)
bad_answer seen c (Err e) is = starved_here seen (bad c ∷ [])

pub get_answer : (seen : Digest) (target : Target) (close : Bool) (seen' : Digest) (asked : List Asking) (r : Final) → IsFinal seen target seen' asked r
    → IsAnswer seen (got target close ∷ []) seen' asked (Ok (record { text = r.text; close = r.close || close }))
get_answer seen target close seen' asked r final = (got target close, refl, to_get target close r refl final refl)
