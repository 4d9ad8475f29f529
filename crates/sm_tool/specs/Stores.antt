-- What a command on a store answers.
use Rattle.std.specs.Prelude.{◌≡◌, ◌⊎◌, ℕ, Bool, List, ◌++◌, true, false, codes, decimal, Option, None, Some, IfSome, Result, Ok, Err}
use Rattle.sm_model.specs.declared.cause.Cause.{Cause}
use Rattle.sm_model.specs.declared.entry.Entry.{Entry}
use Rattle.sm_model.specs.declared.no_memory.NoMemory.{NoMemory}
use Rattle.sm_model.specs.Causes.{cause_line}
use Rattle.sm_pick.specs.Sentences.{sentence_of}
use Rattle.sm_site.specs.Image.{Image}
use Rattle.sm_site.specs.Meanings.{Chosen, View, Seen, asked}
use Rattle.sm_archive.specs.Store.{IsStore}
use Rattle.sm_serve.specs.declared.outcome.Served.{Served as Outcome}
use Rattle.sm_serve.specs.declared.outcome.Served.TheVariants as served
use Rattle.sm_command.specs.declared.fault.StoreFault.{StoreFault}
use Rattle.sm_command.specs.declared.fault.StoreFault.TheVariants as fault
use Rattle.sm_command.specs.Listing.{WhyUnlisted, lines_of}
use Rattle.sm_serve.specs.Serving.{CountsNone}
use Rattle.sm_command.specs.Serving.{HasRun, WhyUnready}
use Rattle.sm_words.specs.Words.{Serving}
use Rattle.sm_tool.specs.declared.answer.Answer.{Answer}
use Rattle.sm_tool.specs.declared.answer.Answer.TheVariants.{Found, Words, Unread, TooLong, LongLadder, Refused, NotKept, Clash, Undone}
use Rattle.sm_tool.specs.declared.answer.Answer.TheVariants.{Damaged, DiskFault, LinkFault, TrackFault, Starved, Full, NotAStore, Unfinished}
use Rattle.sm_ends.specs.Ended.{End}

-- the folder, the port, the address and the journal of the words; the folder is made where it isn't there
abbrev pub chosen_of : Serving → Chosen
chosen_of s = record { store = s.store; make = true; port = s.port; bind = s.bind; journal = s.journal }

-- the folder alone, where it is there
abbrev pub at_folder : List ℕ → Chosen
at_folder store = record { store = store; make = false; port = 0; bind = None; journal = None }

-- The site was asked once to be selected, and is with this; where nothing was found, with nothing else than this.
abbrev pub IsSelected : Answer → Chosen → View → View → Type 0
IsSelected (Found line) chosen old new = new.chosen ≡ asked old.chosen (Some chosen)
IsSelected answer chosen old new = (new.chosen ≡ asked old.chosen (Some chosen)) ⊎ (new.chosen ≡ asked old.chosen None)

-- ---- the lines

abbrev pub turns_line : ℕ → List ℕ
turns_line turns = codes "turns " ++ (decimal turns ++ codes "\n")

abbrev pub store_line : ℕ → List ℕ
store_line at = codes "error: not a store at " ++ (decimal at
    ++ codes "\nThe files of the folder are no store from this byte of the first one on, and were left as they are.\n")

abbrev pub ladder_line : ℕ → List ℕ
ladder_line at = codes "error: input at " ++ (decimal at ++ codes ": 5 BadLiveManifest\nThe ladder is no live manifest, or lacks what is read of a track.\n")

abbrev pub clash_line : Cause → List ℕ
clash_line cause = codes "error: " ++ (cause_line 0 cause ++ (sentence_of cause ++ codes "\n"))

-- ---- how a fault is told

abbrev pub Tells : StoreFault → Answer → Type 0
Tells fault.DiskFault answer = answer ≡ DiskFault
Tells fault.LinkFault answer = answer ≡ LinkFault
Tells (fault.NotAStore at) answer = answer ≡ NotAStore (store_line at)
Tells fault.Unread answer = answer ≡ Unread
Tells fault.LongLadder answer = answer ≡ LongLadder
Tells (fault.BadLadder at) answer = answer ≡ Refused (ladder_line at)
Tells (fault.Refused cause) answer = answer ≡ Clash (clash_line cause)
Tells fault.Full answer = answer ≡ Full
Tells fault.Damaged answer = answer ≡ Damaged
Tells fault.NoMemory answer = answer ≡ Starved

-- how the end of the loop is told
abbrev pub TellsEnd : Outcome → Answer → Type 0
TellsEnd (served.Done taken behind short) answer = answer ≡ Found (turns_line taken)
TellsEnd served.LinkFault answer = answer ≡ LinkFault
TellsEnd served.NoMemory answer = answer ≡ Starved

-- without memory for its line an answer is that
abbrev pub or_starved : Result Answer NoMemory → Answer
or_starved (Ok answer) = answer
or_starved (Err none) = Starved

-- ---- serve

-- the loop ran to its end, and the line tells how many events it took
pub record HasServed {D : Type 0} (site : Seen D) (ladder : Bool) (turns : ℕ)
    (input input' : End) (d d' : D) (line : List ℕ) : Type 0 where
  pub taken : ℕ
  pub behind : ℕ
  pub short : ℕ
  pub line_is : line ≡ turns_line taken
  pub counts : CountsNone (served.Done taken behind short)
  pub run : HasRun site ladder input.told input'.told turns d d' (served.Done taken behind short)

-- A fault of the disk is one before the first event. One of the link is that of a choice of the port, or ended the loop. Want of memory may
-- come at any time, and what was done until then is done.
abbrev pub ServeMeans : {D : Type 0} (site : Seen D) → Bool → ℕ → End → End
    → D → D → Answer → Type 0
ServeMeans site ladder turns input input' d d' (Found line) = HasServed site ladder turns input input' d d' line
ServeMeans site ladder turns input input' d d' (Words text) = ⊥
ServeMeans site ladder turns input input' d d' Unread = WhyUnready site ladder input input' d d' fault.Unread
ServeMeans site ladder turns input input' d d' TooLong = ⊥
ServeMeans site ladder turns input input' d d' LongLadder =
    WhyUnready site ladder input input' d d' fault.LongLadder
ServeMeans site ladder turns input input' d d' (Refused line) =
    (at : ℕ) × (line ≡ ladder_line at) × WhyUnready site ladder input input' d d' (fault.BadLadder at)
ServeMeans site ladder turns input input' d d' NotKept = ⊥
ServeMeans site ladder turns input input' d d' (Clash line) =
    (cause : Cause) × (line ≡ clash_line cause) × WhyUnready site ladder input input' d d' (fault.Refused cause)
ServeMeans site ladder turns input input' d d' (Undone line) = ⊥
ServeMeans site ladder turns input input' d d' Damaged = ⊥
ServeMeans site ladder turns input input' d d' DiskFault =
    WhyUnready site ladder input input' d d' fault.DiskFault
ServeMeans site ladder turns input input' d d' LinkFault =
    HasRun site ladder input.told input'.told turns d d' served.LinkFault
    ⊎ WhyUnready site ladder input input' d d' fault.LinkFault
ServeMeans site ladder turns input input' d d' TrackFault = ⊥
ServeMeans site ladder turns input input' d d' Starved =
    ((end : Outcome) × CountsNone end × HasRun site ladder input.told input'.told turns d d' end)
    ⊎ ((why : StoreFault) × WhyUnready site ladder input input' d d' why)
ServeMeans site ladder turns input input' d d' Full = WhyUnready site ladder input input' d d' fault.Full
ServeMeans site ladder turns input input' d d' (NotAStore line) =
    (at : ℕ) × (line ≡ store_line at) × WhyUnready site ladder input input' d d' (fault.NotAStore at)
ServeMeans site ladder turns input input' d d' (Unfinished stop) = ⊥

-- ---- list

-- the lines of the log that the disk has
abbrev pub IsListed : Option Image → List ℕ → Type 0
IsListed contents text = IfSome contents (λ c. (log : List Entry) × IsStore log c × (text ≡ lines_of log))

-- the lines of the log that the disk has, or why not; without memory for its line a fault is told as that
abbrev pub ListMeans : {D : Type 0} (site : Seen D) → D → D → Answer → Type 0
ListMeans site d d' (Found text) = IsListed (site.view d).contents text
ListMeans site d d' (Words text) = ⊥
ListMeans site d d' Unread = ⊥
ListMeans site d d' TooLong = ⊥
ListMeans site d d' LongLadder = ⊥
ListMeans site d d' (Refused line) = ⊥
ListMeans site d d' NotKept = ⊥
ListMeans site d d' (Clash line) = ⊥
ListMeans site d d' (Undone line) = ⊥
ListMeans site d d' Damaged = WhyUnlisted site d d' fault.Damaged
ListMeans site d d' DiskFault = WhyUnlisted site d d' fault.DiskFault
ListMeans site d d' LinkFault = WhyUnlisted site d d' fault.LinkFault
ListMeans site d d' TrackFault = ⊥
ListMeans site d d' Starved = (why : StoreFault) × WhyUnlisted site d d' why
ListMeans site d d' Full = ⊥
ListMeans site d d' (NotAStore line) =
    (at : ℕ) × (line ≡ store_line at) × WhyUnlisted site d d' (fault.NotAStore at)
ListMeans site d d' (Unfinished stop) = ⊥
