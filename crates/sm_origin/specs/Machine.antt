-- The machine: what one act may answer, and what it leaves.
use Rattle.std.specs.Prelude.{◌≡◌, ◌⊎◌, ℕ, true, List, [], ◌∷◌, ◌++◌, Option, Some, None}
use Rattle.sm_model.specs.declared.track.Track.{Track}
use Rattle.sm_model.specs.declared.fragment.Fragment.{Fragment}
use Rattle.sm_model.specs.declared.address.Address.{Address}
use Rattle.sm_model.specs.declared.entry.Entry.{Entry}
use Rattle.sm_model.specs.declared.entry.Entry.TheVariants.{Declare, Keep}
use Rattle.sm_model.specs.declared.cause.Cause.{Cause}
use Rattle.sm_model.specs.declared.cause.Cause.TheVariants as cause
use Rattle.sm_model.specs.declared.act.Act.{Act}
use Rattle.sm_model.specs.declared.act.Act.TheVariants.{Manifest, Fragment as Ask, Unknown, Header, Frag, End, Refuse}
use Rattle.sm_log.specs.declared.verdict.Judged.{Judged as Verdict}
use Rattle.sm_log.specs.declared.verdict.Judged.TheVariants as verdicts
use Rattle.sm_log.specs.Headers.{check}
use Rattle.sm_log.specs.Logs.{kept_at, verdict_on, channel_of}
use Rattle.sm_archive.specs.declared.archive.Archive.{Archive}
use Rattle.sm_archive.specs.Keeping as keeping
use Rattle.sm_archive.specs.Declaring as declaring
use Rattle.sm_reply.specs.declared.reply.Reply.{Reply}
use Rattle.sm_reply.specs.declared.reply.Counted.{Counted}
use Rattle.sm_reply.specs.declared.reply.Counted.TheVariants.{Kept, Known, Neither}
use Rattle.sm_reply.specs.Replies.{unplaced, silent, no_memory, reply_of}

-- A log, and an entry that may or may not be on the disk. The archive is there for its limits and for what its records use.
pub record Machine : Type 0 where
  pub archive : Archive
  pub log : List Entry
  pub doubt : Option Entry

-- nothing changed
pub record SameLog (m n : Machine) : Type 0 where
  pub log : n.log ≡ m.log
  pub doubt : n.doubt ≡ m.doubt

-- the entry that an act would add
abbrev pub entry_of : Act → Option Entry
entry_of Manifest = None
entry_of (Ask a) = None
entry_of Unknown = None
entry_of (Header channel) = Some (Declare channel)
entry_of (Frag f) = Some (Keep f)
entry_of (End kept known) = None
entry_of (Refuse r) = None

-- ---- what a log says to an entry

pub data Judged : Type 0 where
  -- it would be new, and is counted so
  Fresh : Counted → Judged
  -- it is there, and is counted so
  There : Counted → Judged
  -- it may not stand there
  Not : Cause → Judged

abbrev pub by_verdict : Fragment → Verdict → Judged
by_verdict f verdicts.New = Fresh Kept
by_verdict f (verdicts.Known place) = There Known
by_verdict f verdicts.NotDeclared = Not (cause.NotDeclared f.stream f.bitrate)
by_verdict f (verdicts.Clash kept) = Not (cause.DurationClash kept f.duration)
by_verdict f (verdicts.Overlap end) = Not (cause.Overlap end)

abbrev pub by_check : Option Cause → Judged
by_check None = There Neither
by_check (Some c) = Not c

abbrev pub by_channel : List Track → Option (List Track) → Judged
by_channel header None = Fresh Neither
by_channel header (Some channel) = by_check (declaring.refusal_in header (check channel header))

abbrev pub judged : List Entry → Entry → Judged
judged log (Declare header) = by_channel header (channel_of log)
judged log (Keep f) = by_verdict f (verdict_on log f)

-- ---- limits

-- one of the limits is met by the entry behind this log
abbrev pub MeetsLimit : Archive → List Entry → Entry → Type 0
MeetsLimit a log (Declare header) = declaring.MeetsLimit a header
MeetsLimit a log (Keep f) = keeping.MeetsLimit a log f

-- none is
abbrev pub IsWithin : Archive → List Entry → Entry → Type 0
IsWithin a log (Declare header) = declaring.IsWithin a header
IsWithin a log (Keep f) = keeping.IsWithin a log f

-- none was, where the entry is behind the log now
abbrev pub IsWithinNow : Archive → List Entry → Entry → Type 0
IsWithinNow a log (Declare header) = declaring.IsWithinNow a
IsWithinNow a log (Keep f) = keeping.IsWithinNow a log f

-- ---- steps

-- an act that adds an entry, where nothing is in doubt
pub data Writes (failed : Type 0) (m : Machine) (e : Entry) (n : Machine) (r : Reply) : Type 0 where
  refused : (why : Cause) → judged m.log e ≡ Not why → SameLog m n → r ≡ unplaced why → Writes failed m e n r
  there : (counted : Counted) → judged m.log e ≡ There counted → SameLog m n → r ≡ silent counted → Writes failed m e n r
  full : (counted : Counted) → judged m.log e ≡ Fresh counted → MeetsLimit n.archive m.log e → SameLog m n → r ≡ unplaced cause.Full → Writes failed m e n r
  kept : (counted : Counted) → judged m.log e ≡ Fresh counted → IsWithinNow n.archive m.log e → n.log ≡ m.log ++ e ∷ [] → n.doubt ≡ None
      → r ≡ silent counted
      → Writes failed m e n r
  unwritten : (counted : Counted) → judged m.log e ≡ Fresh counted → IsWithin n.archive m.log e → n.log ≡ m.log
      → (n.doubt ≡ None) ⊎ (n.doubt ≡ Some e) → failed
      → r ≡ unplaced cause.DiskFault → Writes failed m e n r

-- the doubt is settled: its entry is there, or it isn't
pub record Settled (m n : Machine) : Type 0 where
  pub entry : Entry
  pub was : m.doubt ≡ Some entry
  pub log : (n.log ≡ m.log) ⊎ (n.log ≡ m.log ++ entry ∷ [])
  pub doubt : n.doubt ≡ None

-- nothing was in doubt, or the doubt was settled first
abbrev pub Clear : Machine → Machine → Type 0
Clear m n = ((m.doubt ≡ None) × SameLog m n) ⊎ Settled m n

-- What may happen, where memory is there. `failed` says that the disk failed in this act.
pub data Row (failed : Type 0) (m : Machine) (act : Act) (n : Machine) (r : Reply) : Type 0 where
  answered : entry_of act ≡ None → SameLog m n → r ≡ reply_of m.log act → Row failed m act n r
  unread : (a : Address) (place : ℕ) (f : Fragment) → act ≡ Ask a → kept_at m.log a ≡ Some (place, f) → SameLog m n → failed
      → r ≡ unplaced cause.DiskFault
      → Row failed m act n r
  unsettled : (e d : Entry) → entry_of act ≡ Some e → m.doubt ≡ Some d → SameLog m n → failed → r ≡ unplaced cause.DiskFault → Row failed m act n r
  wrote : (e : Entry) (mid : Machine) → entry_of act ≡ Some e → Clear m mid → Writes failed mid e n r → Row failed m act n r

-- One act is one step.
pub data Step (failed : Type 0) (m : Machine) (act : Act) (n : Machine) (r : Reply) : Type 0 where
  row : Row failed m act n r → Step failed m act n r
  -- want of memory
  wants : SameLog m n → r ≡ no_memory → Step failed m act n r
  -- want of memory for the text of a refusal
  untold : (meant : Reply) → Row failed m act n meant → meant.close ≡ true → r ≡ no_memory → Step failed m act n r
