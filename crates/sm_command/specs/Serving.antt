-- What serving a store comes to.
use Rattle.std.specs.Prelude.{◌≡◌, ◌⊎◌, ◌≤◌, ◌++◌, ℕ, Bool, true, false, IsTrue, List, [], ◌∷◌, length, Option, Some, None, IfSome, IsSome, Result, Ok, Err}
use Rattle.std.specs.Io.KnownBytes.{Consumes, IsAtEnd}
use Rattle.sm_ends.specs.declared.input.InputFault.{InputFault}
use Rattle.sm_ends.specs.declared.input.InputFault.TheVariants as input
use Rattle.sm_ends.specs.Ended as ended
use Rattle.sm_model.specs.declared.entry.Entry.{Entry}
use Rattle.sm_model.specs.declared.track.Track.{Track}
use Rattle.sm_model.specs.declared.act.Act.TheVariants.{Header}
use Rattle.sm_smil.specs.LiveManifests.{IsLadder}
use Rattle.sm_site.specs.Clauses as clause
use Rattle.sm_site.specs.Image.{Image}
use Rattle.sm_site.specs.Meanings.{View, Item, Seen}
use Rattle.sm_archive.specs.declared.answers.Declared.{Declared}
use Rattle.sm_archive.specs.declared.answers.Declared.TheVariants as declared
use Rattle.sm_archive.specs.declared.limits.Limits.{Limits}
use Rattle.sm_archive.specs.Store.{IsStore}
use Rattle.sm_archive.specs.Opening as opening
use Rattle.sm_origin.specs.Machine.{Machine}
use Rattle.sm_origin.specs.Opening.{HasOneStore}
use Rattle.sm_reply.specs.declared.reply.Counted.TheVariants.{Neither}
use Rattle.sm_reply.specs.Replies.{silent}
use Rattle.sm_serve.specs.declared.state.State.{State}
use Rattle.sm_serve.specs.declared.outcome.Served.{Served as Outcome}
use Rattle.sm_serve.specs.declared.outcome.Served.TheVariants as served
use Rattle.sm_serve.specs.Run.{Stepped}
use Rattle.sm_serve.specs.Standing.{History, StandsOn}
use Rattle.sm_serve.specs.Serving.{Begins, Serves, Since, DeclaresIn, Served}
use Rattle.sm_serve.specs.Surviving.{Survives}
use Rattle.sm_command.specs.declared.fault.StoreFault.{StoreFault}
use Rattle.sm_command.specs.declared.fault.StoreFault.TheVariants as fault
use Rattle.sm_command.specs.Lasting.{LeavesLog, NoFewer, Untouched}
use Rattle.sm_archive.specs.Seen.{limits_of}
use Rattle.sm_ends.specs.Ended.{End}

-- ---- the ladder

abbrev pub ladder_limit : ℕ
ladder_limit = 1048576

-- the input was read to its end, and is the text of this channel's ladder, or is wrong at this place
pub record IsLadderInput (old new : Option (List ℕ)) (read : Result (List Track) ℕ) : Type 0 where
  pub text : List ℕ
  pub consumed : Consumes old new text
  pub ended : IsAtEnd new
  pub short : length text ≤ ladder_limit
  pub is : IsLadder text read

-- the ladder that was read, if one was asked for
abbrev pub ReadsLadder : Bool → Option (List ℕ) → Option (List ℕ) → Option (List Track) → Type 0
ReadsLadder false old new None = new ≡ old
ReadsLadder false old new (Some channel) = ⊥
ReadsLadder true old new None = ⊥
ReadsLadder true old new (Some channel) = IsLadderInput old new (Ok channel)

-- why no ladder was read, and how much of the input was taken
abbrev pub WhyNoLadder : End → End → StoreFault → Type 0
WhyNoLadder old new fault.DiskFault = ⊥
WhyNoLadder old new fault.LinkFault = ⊥
WhyNoLadder old new (fault.NotAStore at) = ⊥
WhyNoLadder old new fault.Unread = ended.WhyUnread ladder_limit old new input.Failed
WhyNoLadder old new fault.LongLadder = ended.WhyUnread ladder_limit old new input.TooLong
WhyNoLadder old new (fault.BadLadder at) = IsLadderInput old.told new.told (Err at)
WhyNoLadder old new (fault.Refused cause) = ⊥
WhyNoLadder old new fault.Full = ⊥
WhyNoLadder old new fault.Damaged = ⊥
WhyNoLadder old new fault.NoMemory = ended.WhyUnread ladder_limit old new input.NoMemory

abbrev pub fault_of_input : InputFault → StoreFault
fault_of_input input.Failed = fault.Unread
fault_of_input input.TooLong = fault.LongLadder
fault_of_input input.NoMemory = fault.NoMemory

-- what an answer to a ladder comes to
abbrev pub outcome_of : Declared → Result (Unit {0}) StoreFault
outcome_of declared.Fixed = Ok tt
outcome_of declared.Agreed = Ok tt
outcome_of (declared.Refused cause) = Err (fault.Refused cause)
outcome_of declared.Full = Err fault.Full
outcome_of declared.DiskFault = Err fault.DiskFault
outcome_of declared.NoMemory = Err fault.NoMemory

-- the channel of the ladder that was read was declared, and this was answered
pub record Declares {D : Type 0} (site : Seen D) (told told' : Option (List ℕ)) (state : State) (d : D) (state' : State) (d' : D)
    (answer : Declared) : Type 0 where
  pub channel : List Track
  pub input : IsLadderInput told told' (Ok channel)
  pub runs : (h : History) → Serves site h state d → DeclaresIn site h channel answer state' d'
  -- a disk that failed counted it
  pub fault : answer ≡ declared.DiskFault → clause.Rose (site.view d).disk_faults (site.view d').disk_faults

-- the same, where this is what it comes to
abbrev pub DeclaresTo : {D : Type 0} → Seen D → Option (List ℕ) → Option (List ℕ) → State → D → State → D → Result (Unit {0}) StoreFault
    → Type 0
DeclaresTo site told told' state d state' d' result = (answer : Declared) × (result ≡ outcome_of answer)
    × Declares site told told' state d state' d' answer

-- the run went on, perhaps by a step, and without an entry
pub record GoesUnseen {D : Type 0} (site : Seen D) (h : History) (state : State) (d : D) : Type 0 where
  pub later : History
  pub serves : Serves site later state d
  pub since : Since h later
  pub same : later.items ≡ h.items

abbrev pub NotRead : End → End → Result (Unit {0}) StoreFault → Type 0
NotRead old new (Ok x) = ⊥
NotRead old new (Err why) = WhyNoLadder old new why

-- no ladder was read, and nothing was done
pub record ReadsNone {D : Type 0} (input input' : End) (state : State) (d : D) (state' : State) (d' : D) (result : Result (Unit {0}) StoreFault) : Type 0 where
  pub why : NotRead input input' result
  pub state_is : state' ≡ state
  pub site_is : d' ≡ d

-- a ladder was read and declared, or none was read
abbrev pub LadderMeans : {D : Type 0} → Seen D → End → End → State → D → State → D → Result (Unit {0}) StoreFault → Type 0
LadderMeans site input input' state d state' d' result =
    DeclaresTo site input.told input'.told state d state' d' result ⊎ ReadsNone input input' state d state' d' result

-- without a ladder nothing is done
pub record IsSame {D : Type 0} (input input' : End) (state : State) (d : D) (state' : State) (d' : D) (result : Result (Unit {0}) StoreFault) : Type 0 where
  pub done : result ≡ Ok tt
  pub input_is : input' ≡ input
  pub state_is : state' ≡ state
  pub site_is : d' ≡ d

abbrev pub PrepareMeans : {D : Type 0} → Seen D → Bool → End → End → State → D → State → D → Result (Unit {0}) StoreFault → Type 0
PrepareMeans site true input input' state d state' d' result = LadderMeans site input input' state d state' d' result
PrepareMeans site false input input' state d state' d' result = IsSame input input' state d state' d' result

-- ---- the start

-- 64 GiB, a million entries, and 262,144 times of each stream
abbrev pub standard : Limits
standard = record { store_bytes = 68719476736; entries = 1000000; times = 262144 }

-- the state stands for a log without a doubt, which is the store's where the disk tells its contents, under the standard limits
pub record Found {D : Type 0} (site : Seen D) (state : State) (old new : D) : Type 0 where
  pub machine : Machine
  pub settled : machine.doubt ≡ None
  pub store : IfSome (site.view old).contents (IsStore machine.log)
  pub stands : StandsOn site machine state.origin new
  pub limits_are : limits_of machine.archive ≡ standard

-- why no store was opened; behind want of memory no count fell
abbrev pub WhyUnopened : View → View → StoreFault → Type 0
WhyUnopened old new fault.DiskFault = clause.Rose old.disk_faults new.disk_faults
WhyUnopened old new fault.LinkFault = clause.Rose old.link_faults new.link_faults
WhyUnopened old new (fault.NotAStore at) = IfSome old.contents (opening.NotAStore at)
WhyUnopened old new fault.Unread = ⊥
WhyUnopened old new fault.LongLadder = ⊥
WhyUnopened old new (fault.BadLadder at) = ⊥
WhyUnopened old new (fault.Refused cause) = ⊥
WhyUnopened old new fault.Full = ⊥
WhyUnopened old new fault.Damaged = ⊥
WhyUnopened old new fault.NoMemory = NoFewer old new

-- The store was opened, and nothing was shown by that. Then the ladder was read and declared to what was found, or wasn't read, and this
-- is what it comes to.
pub record TriesLadder {D : Type 0} (site : Seen D) (input input' : End) (old new : D) (result : Result (Unit {0}) StoreFault)
    : Type 0 where
  pub state : State
  pub opened : D
  pub found : Found site state old opened
  pub no_fewer : NoFewer (site.view old) (site.view opened)
  pub silent : (site.view opened).transcript ≡ (site.view old).transcript
  pub begins : Begins site state opened
  pub after : State
  pub means : LadderMeans site input input' state opened after new result

-- Why no event was waited for: no store was opened, the input wasn't read, and nothing was declared; or one was, and this came of the ladder that
-- was asked for.
abbrev pub UnreadyBy : {D : Type 0} → Seen D → Bool → End → End → D → D → StoreFault → Type 0
UnreadyBy site ladder input input' old new why =
    (WhyUnopened (site.view old) (site.view new) why × (input' ≡ input) × LeavesLog site old new)
    ⊎ (IsTrue ladder × TriesLadder site input input' old new (Err why))

-- Why nothing was served. Nothing was taken from the link and nothing was sent, and what is no store wasn't written.
pub record WhyUnready {D : Type 0} (site : Seen D) (ladder : Bool) (input input' : End) (old new : D) (why : StoreFault) : Type 0 where
  pub cause : UnreadyBy site ladder input input' old new why
  pub silent : (site.view new).transcript ≡ (site.view old).transcript
  pub no_fewer : NoFewer (site.view old) (site.view new)
  pub counted : input.faults ≤ input'.faults
  pub untouched : (at : ℕ) → why ≡ fault.NotAStore at → Untouched site old new

-- ---- the run

-- a ladder is one step, and without one there is none
abbrev pub LadderSteps : Option (List Track) → List Stepped → Type 0
LadderSteps None steps = steps ≡ []
LadderSteps (Some channel) steps = (step : Stepped) × (steps ≡ step ∷ []) × (step.conn ≡ None) × (step.act ≡ Header channel) × (step.reply ≡ silent Neither)

-- a run that began with this machine, behind these entries and no fewer faults of the disk, and has the ladder's step alone
pub record IsBegun (faults : ℕ) (machine : Machine) (channel : Option (List Track)) (base : List Item) (h : History) : Type 0 where
  pub counted : faults ≤ h.found.disk_faults
  pub first : h.first ≡ machine
  pub base_is : h.base ≡ base
  pub items : h.items ≡ []
  pub steps : LadderSteps channel h.steps

-- from a state where a run begins the loop ran to the end that it tells, with the ladder's step in front
pub record RunsFrom {D : Type 0} (site : Seen D) (ladder : Bool) (told told' : Option (List ℕ)) (turns : ℕ) (state : State) (d d' : D)
    (end : Outcome) : Type 0 where
  pub channel : Option (List Track)
  pub input : ReadsLadder ladder told told' channel
  pub blamed : end ≡ served.LinkFault → clause.Rose (site.view d).link_faults (site.view d').link_faults
  pub run : (b : History) → Serves site b state d → b.items ≡ [] → b.steps ≡ []
      → (h : History) × (h.begin ≡ b.begin) × IsBegun b.found.disk_faults b.first channel b.base h
      × ((after : State) × Served site h end turns after d')

-- However it ended, a run that had come to the state went on; whatever a crash may leave at a moment since its start survives.
pub record RunLasts {D : Type 0} (site : Seen D) (h : History) (d : D) : Type 0 where
  pub later : History
  pub since : Since h later
  pub told : (site.view d).transcript ≡ Some (later.base ++ later.items)
  pub survives : (t : ℕ) (image : Image) → later.begin ≤ t → site.left_at d t image → Survives later.first later.items t image

-- the ladder that was asked for was not read, or this was answered to it
abbrev pub StopsFrom : {D : Type 0} → Seen D → Bool → End → End → State → D → D → StoreFault → Type 0
StopsFrom site ladder input input' state d d' why =
    IsTrue ladder × ((after : State) × LadderMeans site input input' state d after d' (Err why))

-- The store was opened, and nothing was shown by that. Then the loop ran from the log that was found, with the ladder's step in front, to the end
-- that it tells; where the transcript is told, that is its run, from the moment behind the opening on, and what a crash may leave at each moment
-- fits it.
pub record HasRun {D : Type 0} (site : Seen D) (ladder : Bool) (told told' : Option (List ℕ)) (turns : ℕ) (old new : D) (end : Outcome)
    : Type 0 where
  pub start : State
  pub opened : D
  pub found : Found site start old opened
  pub no_fewer : NoFewer (site.view old) (site.view opened)
  pub silent : (site.view opened).transcript ≡ (site.view old).transcript
  pub channel : Option (List Track)
  pub input : ReadsLadder ladder told told' channel
  -- a link that failed counted it
  pub blamed : end ≡ served.LinkFault → clause.Rose (site.view old).link_faults (site.view new).link_faults
  pub run : (base : List Item) → (site.view old).transcript ≡ Some base
      → (h : History) × (h.begin ≡ (site.view opened).moment) × IsBegun (site.view old).disk_faults found.machine channel base h
      × ((state : State) × Served site h end turns state new)
  -- Where each image that a crash might leave was one store, it is a run of the whole call: its moments begin with the call's.
  pub whole : IsSome (site.view old).contents → (log : List Entry) → HasOneStore log (site.may_leave old)
      → (base : List Item) → (site.view old).transcript ≡ Some base
      → (h : History) × (h.begin ≡ (site.view old).moment) × IsBegun (site.view old).disk_faults found.machine channel base h
      × ((state : State) × Served site h end turns state new)
