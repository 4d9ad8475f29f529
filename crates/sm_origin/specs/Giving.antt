-- Replies that are made of what an archive holds, where memory is there for them.
use Rattle.std.specs.Prelude.{◌≡◌, ℕ, List, Option, Some, None, Result, Ok, Err, IfOk}
use Rattle.sm_model.specs.declared.track.Track.{Track}
use Rattle.sm_model.specs.declared.fragment.Fragment.{Fragment}
use Rattle.sm_model.specs.declared.address.Address.{Address}
use Rattle.sm_model.specs.declared.entry.Entry.{Entry}
use Rattle.sm_model.specs.declared.cause.Cause.TheVariants as cause
use Rattle.sm_model.specs.declared.no_memory.NoMemory.{NoMemory}
use Rattle.sm_log.specs.Logs.{channel_of}
use Rattle.sm_head.specs.declared.reply.Content.TheVariants.{Mp4}
use Rattle.sm_archive.specs.declared.archive.Archive.{Archive}
use Rattle.sm_archive.specs.Stands.{Keeps}
use Rattle.sm_reply.specs.declared.reply.Reply.{Reply}
use Rattle.sm_reply.specs.Replies.{unplaced, ok, no_memory, fragment_of}

-- the archive's log has what is told of it
abbrev pub OfLog : Archive → (List Entry → Type 0) → Type 0
OfLog a P = (bodies : List (List ℕ)) (body : Option (List ℕ)) (log : List Entry) (doubt : Option Entry) → Keeps a bodies body log doubt → P log

-- the fragment as it is given at that address and place
abbrev pub Gives : Archive → Address → ℕ → Fragment → Result Reply NoMemory → Type 0
Gives a address place f result =
    OfLog a (λ log. (channel : List Track) → channel_of log ≡ Some channel → IfOk result (λ reply. reply ≡ ok Mp4 (fragment_of channel log address place f)))

-- why a log has nothing at an address where it keeps nothing
abbrev pub missing : Option (List Track) → Reply
missing None = unplaced cause.NoChannel
missing (Some channel) = unplaced cause.NotKept

-- what was made, or want of memory
abbrev pub Made : Result Reply NoMemory → Reply → Type 0
Made (Ok meant) reply = reply ≡ meant
Made (Err e) reply = reply ≡ no_memory
