-- What is answered while the disk counts no fault.
use Rattle.std.specs.Prelude.{◌≡◌, ◌⊎◌, ℕ, ◌-◌, ◌<◌, ◌^◌, List, [], ◌∷◌, ◌++◌, Some}
use Rattle.sm_model.specs.declared.address.Address.{Address}
use Rattle.sm_model.specs.declared.cause.Cause.TheVariants.{Full}
use Rattle.sm_model.specs.declared.entry.Entry.{Entry}
use Rattle.sm_model.specs.declared.fragment.Fragment.{Fragment}
use Rattle.sm_model.specs.declared.track.Track.{Track}
use Rattle.sm_log.specs.Logs.{channel_of}
use Rattle.sm_head.specs.declared.reply.Content.TheVariants.{Mp4}
use Rattle.sm_reply.specs.declared.reply.Counted.{Counted}
use Rattle.sm_reply.specs.declared.reply.Reply.{Reply}
use Rattle.sm_reply.specs.Replies.{unplaced, silent, no_memory, ok, fragment_of}
use Rattle.sm_origin.specs.Machine.{Machine, SameLog, MeetsLimit}
use Rattle.sm_serve.specs.Run.{Point, Stepped}

-- The disk counted no fault from one point of a run to a later one. A count at its end stands still, and tells nothing.
pub record IsFaultless (p q : Point) : Type 0 where
  pub same : q.faults ≡ p.faults
  pub below : q.faults < 2 ^ 64 - 1

-- the fragment that the log keeps at this place is given, with status 200 and its bytes
pub record Gives (log : List Entry) (a : Address) (place : ℕ) (f : Fragment) (r : Reply) : Type 0 where
  pub channel : List Track
  pub channel_is : channel_of log ≡ Some channel
  pub reply : r ≡ ok Mp4 (fragment_of channel log a place f)

-- the entry is put behind the log, and nothing is said
pub record TakesIn (m n : Machine) (e : Entry) (counted : Counted) (r : Reply) : Type 0 where
  pub log : n.log ≡ m.log ++ e ∷ []
  pub reply : r ≡ silent counted

-- a limit is met, which is said, and the entry isn't taken in
pub record IsBeyond (m n : Machine) (e : Entry) (r : Reply) : Type 0 where
  pub limit : MeetsLimit n.archive m.log e
  pub same : SameLog m n
  pub reply : r ≡ unplaced Full

-- there was no memory, and 500 is said
abbrev pub IsStarved : Reply → Type 0
IsStarved r = r ≡ no_memory

-- a fragment that is kept was asked for
abbrev pub IsGiven : Stepped → Address → ℕ → Fragment → Type 0
IsGiven x a place f = Gives x.before.log a place f x.reply ⊎ IsStarved x.reply

-- an entry that is new came
abbrev pub IsTaken : Stepped → Entry → Counted → Type 0
IsTaken x e counted = TakesIn x.before x.after e counted x.reply ⊎ (IsBeyond x.before x.after e x.reply ⊎ IsStarved x.reply)
