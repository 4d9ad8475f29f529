-- What is answered to a fragment that is asked for, on any disk.
use Rattle.std.proofs.Common.{◌≡◌, inl, inr, ◌∙◌, ℕ, List, Option, None, Some, Result, Ok, Err, IfOk, refl}
use Rattle.sm_model.specs.declared.track.Track.{Track}
use Rattle.sm_model.specs.declared.fragment.Fragment.{Fragment}
use Rattle.sm_model.specs.declared.address.Address.{Address}
use Rattle.sm_model.specs.declared.entry.Entry.{Entry}
use Rattle.sm_model.specs.declared.cause.Cause.TheVariants as cause
use Rattle.sm_model.specs.declared.no_memory.NoMemory.{NoMemory}
use Rattle.sm_model.specs.Entries.{address_of}
use Rattle.sm_model.specs.Fragments.{IsValid}
use Rattle.sm_log.specs.Adds.{place_of}
use Rattle.sm_log.specs.Logs.{adds_of, channel_of}
use Rattle.sm_head.specs.declared.reply.Content.TheVariants.{Mp4}
use Rattle.sm_reply.specs.declared.reply.Reply.{Reply}
use Rattle.sm_reply.specs.Replies.{ok, fragment_of}
use Rattle.sm_origin.specs.Answers.{IsTold}
use Rattle.sm_origin.specs.Giving.{Made, missing}
use Rattle.sm_origin.specs.Replying.{Asked, absent, given, unread, damaged, wants}

pub some_place : (o : Option ℕ) → (o ≡ None → ⊥) → (place : ℕ) × (o ≡ Some place)
some_place None some = absurd (some refl)
some_place (Some place) some = (place, refl)

pub made_given : (failed : Type 0) (log : List Entry) (a : Address) (channel : List Track) (place : ℕ) (f : Fragment) (made : Result Reply NoMemory) (reply : Reply)
    → channel_of log ≡ Some channel → place_of a (adds_of log) ≡ Some place → address_of f ≡ a → IsValid f
    → IfOk made (λ r. r ≡ ok Mp4 (fragment_of channel log a place f)) → Made made reply → Asked failed log a reply
made_given failed log a channel place f (Ok r) reply has at of valid is told = given channel place f has at of valid (told ∙ is)
made_given failed log a channel place f (Err e) reply has at of valid is told = wants told

pub made_absent : (failed : Type 0) (log : List Entry) (a : Address) (made : Result Reply NoMemory) (reply : Reply) → place_of a (adds_of log) ≡ None
    → IfOk made (λ r. r ≡ missing (channel_of log)) → Made made reply → Asked failed log a reply
made_absent failed log a (Ok r) reply none is told = absent none (told ∙ is)
made_absent failed log a (Err e) reply none is told = wants told

pub told_unread : (failed : Type 0) (log : List Entry) (a : Address) (reply : Reply) → (place_of a (adds_of log) ≡ None → ⊥) → failed → IsTold cause.DiskFault reply
    → Asked failed log a reply
told_unread failed log a reply some fails (inl told) = let p = some_place (place_of a (adds_of log)) some in unread p.0 p.1 fails told
told_unread failed log a reply some fails (inr none) = wants none

pub told_damaged : (failed : Type 0) (log : List Entry) (a : Address) (reply : Reply) → (place_of a (adds_of log) ≡ None → ⊥) → IsTold cause.Damaged reply → Asked failed log a reply
told_damaged failed log a reply some (inl told) = let p = some_place (place_of a (adds_of log)) some in damaged p.0 p.1 told
told_damaged failed log a reply some (inr none) = wants none
