-- What a run of a command did.
use Rattle.std.specs.Prelude.{◌≡◌, ◌≤◌, ◌⊎◌, ℕ, List, Option, Some, None}
use Rattle.std.specs.Io.KnownBytes.{Appends}
use Rattle.sm_ends.specs.Faults.{Rose}
use Rattle.sm_ends.specs.Moves.{AppendsFront}
use Rattle.sm_fetch.specs.Origins.{Grows}
use Rattle.sm_client.specs.Turns.{Meaning}
use Rattle.sm_command.specs.Lasting.{IsSilent, KeepsStores, LeavesLog}
use Rattle.sm_site.specs.Meanings.{Seen}
use Rattle.sm_pick.specs.declared.picked.Picked.TheVariants as picked
use Rattle.sm_tool.specs.declared.answer.Answer.{Answer}
use Rattle.sm_tool.specs.declared.answer.Answer.TheVariants.{Found, Words, Unread, TooLong, LongLadder, Refused, NotKept, Clash, Undone}
use Rattle.sm_tool.specs.declared.answer.Answer.TheVariants.{Damaged, DiskFault, LinkFault, TrackFault, Starved, Full, NotAStore, Unfinished}
use Rattle.sm_words.specs.Words.{Wanted, Pick, Serve, ServeShown, Push, Play, Relay, Standby, Listing, Rehearse, Export, Help, Version, asked}
use Rattle.sm_pick.specs.Due.{IsAnswered}
use Rattle.sm_tool.specs.Answers.{status_of, unwritten_status_of, line_of}
use Rattle.sm_client.specs.Pushing.{Line}
use Rattle.sm_tool.specs.Edges.{Dialing, RelayMeans, StandbyMeans, at_edge}
use Rattle.sm_tool.specs.Exports.{ExportMeans}
use Rattle.sm_words.specs.Helps.{help_of, version}
use Rattle.sm_usage.specs.Wrong.{wrong_words}
use Rattle.sm_tool.specs.Stores.{IsSelected, ListMeans, ServeMeans, at_folder, chosen_of}
use Rattle.sm_tool.specs.Origins.{PushMeans}
use Rattle.sm_tool.specs.Plays.{PlayMeans, Tape}
use Rattle.sm_tool.specs.Rehearsals.{RehearseMeans}
use Rattle.sm_ends.specs.Ended.{End, WhyUnread, input_most}
use Rattle.sm_ends.specs.declared.input.InputFault.TheVariants as input

-- ---- pick

-- the answer that an input has, where a fragment of it is asked for
abbrev pub PickMeans : ℕ → ℕ → End → End → Answer → Type 0
PickMeans track time old new (Found text) = IsAnswered track time old.told new.told (picked.Found text)
PickMeans track time old new (Refused line) = IsAnswered track time old.told new.told (picked.Refused line)
PickMeans track time old new NotKept = IsAnswered track time old.told new.told picked.NotKept
PickMeans track time old new (Words text) = ⊥
PickMeans track time old new TooLong = WhyUnread input_most old new input.TooLong
PickMeans track time old new LongLadder = ⊥
PickMeans track time old new (Clash line) = ⊥
PickMeans track time old new (Undone line) = ⊥
PickMeans track time old new Damaged = ⊥
PickMeans track time old new DiskFault = ⊥
PickMeans track time old new Unread = WhyUnread input_most old new input.Failed
PickMeans track time old new LinkFault = ⊥
PickMeans track time old new TrackFault = ⊥
PickMeans track time old new Starved = WhyUnread input_most old new input.NoMemory
PickMeans track time old new Full = ⊥
PickMeans track time old new (NotAStore line) = ⊥
PickMeans track time old new (Unfinished stop) = ⊥

-- ---- a command

-- what a command stands before and what it leaves, but for the site and what is printed: the input, the dial and the tracks
pub record Around : Type 0 where
  pub input : End
  pub dial : Line
  pub tracks : Tape

abbrev pub around : End → Line → Tape → Around
around input dial tracks = record { input = input; dial = dial; tracks = tracks }

-- nothing was read, nothing was sent, nothing was written to a track and nothing was done
pub record IsIdle {D C : Type 0} (old new : Around) (d d' : D) (c c' : C) : Type 0 where
  pub around_is : new ≡ old
  pub site_is : d' ≡ d
  pub dial_is : c' ≡ c

-- The answer that words, input, dial, tracks and site have. Words that ask for nothing have no other than that, with what is wrong in them,
-- but for want of memory, and leave all of them alone. So do words that ask for threads, since none is started here. A dial has
-- logs that the origin behind it may have. `export` alone writes to the output before its answer is told.
abbrev pub MeansBy : {D C P : Type 0} (site : Seen D) (t : Dialing C)
    → Meaning P → List P → List ℕ → Option Wanted → Around → Around → End → End → D → D → C → C → Answer → Type 0
MeansBy site t m policies wrong None old new out out' d d' c c' answer = (answer ≡ Words wrong) × (out' ≡ out) × IsIdle old new d d' c c'
MeansBy site t m policies wrong (Some (Pick track time)) old new out out' d d' c c' answer =
    PickMeans track time old.input new.input answer × (out' ≡ out) × (new.dial ≡ old.dial) × (new.tracks ≡ old.tracks) × (d' ≡ d) × (c' ≡ c)
MeansBy site t m policies wrong (Some (Serve s)) old new out out' d d' c c' answer =
    ServeMeans site s.ladder s.turns old.input new.input d d' answer × IsSelected answer (chosen_of s) (site.view d) (site.view d')
    × (old.input.faults ≤ new.input.faults) × (out' ≡ out) × (new.dial ≡ old.dial) × (new.tracks ≡ old.tracks) × (c' ≡ c)
MeansBy site t m policies wrong (Some (ServeShown s players)) old new out out' d d' c c' answer =
    (answer ≡ Words wrong) × (out' ≡ out) × IsIdle old new d d' c c'
MeansBy site t m policies wrong (Some (Push host port path id)) old new out out' d d' c c' answer =
    PushMeans (record { host = host; port = port; path = path }) id old.input new.input old.dial new.dial (t.store c) (t.store c') answer
    × (out' ≡ out) × (new.tracks ≡ old.tracks) × (d' ≡ d)
MeansBy site t m policies wrong (Some (Play plan)) old new out out' d d' c c' answer =
    PlayMeans m plan policies old.dial new.dial (t.store c) (t.store c') old.tracks new.tracks answer × (out' ≡ out) × (new.input ≡ old.input) × (d' ≡ d)
MeansBy site t m policies wrong (Some (Relay e)) old new out out' d d' c c' answer =
    RelayMeans site t e old.input new.input d d' c c' answer × (t.faults c ≤ t.faults c') × Grows (t.store c) (t.store c')
    × IsSilent (site.view d) (site.view d') × IsSelected answer (at_edge e) (site.view d) (site.view d')
    × (old.input.faults ≤ new.input.faults) × (out' ≡ out) × (new.tracks ≡ old.tracks)
MeansBy site t m policies wrong (Some (Standby e)) old new out out' d d' c c' answer =
    StandbyMeans site t e old.input new.input d d' c c' answer × (t.faults c ≤ t.faults c') × Grows (t.store c) (t.store c')
    × IsSilent (site.view d) (site.view d') × IsSelected answer (at_edge e) (site.view d) (site.view d')
    × (old.input.faults ≤ new.input.faults) × (out' ≡ out) × (new.tracks ≡ old.tracks)
MeansBy site t m policies wrong (Some (Listing folder)) old new out out' d d' c c' answer =
    ListMeans site d d' answer × LeavesLog site d d' × IsSilent (site.view d) (site.view d') × IsSelected answer (at_folder folder) (site.view d) (site.view d')
    × (out' ≡ out) × (new.input ≡ old.input) × (new.dial ≡ old.dial) × (new.tracks ≡ old.tracks) × (c' ≡ c)
MeansBy site t m policies wrong (Some (Rehearse number size)) old new out out' d d' c c' answer =
    RehearseMeans m number size policies answer × (out' ≡ out) × IsIdle old new d d' c c'
MeansBy site t m policies wrong (Some (Export folder name bitrate)) old new out out' d d' c c' answer =
    ExportMeans name bitrate (site.view d) (site.view d') old.input new.input out out' answer × LeavesLog site d d'
    × IsSilent (site.view d) (site.view d') × IsSelected answer (at_folder folder) (site.view d) (site.view d')
    × (old.input.faults ≤ new.input.faults) × (out.faults ≤ out'.faults)
    × (new.dial ≡ old.dial) × (new.tracks ≡ old.tracks) × (c' ≡ c)
MeansBy site t m policies wrong (Some (Help about)) old new out out' d d' c c' answer =
    (answer ≡ Found (help_of about)) × (out' ≡ out) × IsIdle old new d d' c c'
MeansBy site t m policies wrong (Some Version) old new out out' d d' c c' answer =
    (answer ≡ Found version) × (out' ≡ out) × IsIdle old new d d' c c'

abbrev pub Means : {D C P : Type 0} (site : Seen D) (t : Dialing C)
    → Meaning P → List P → List (List ℕ) → Around → Around → End → End → D → D → C → C → Answer → Type 0
Means site t m policies words old new out out' d d' c c' answer =
    MeansBy site t m policies (wrong_words words) (asked words) old new out out' d d' c c' answer
    ⊎ ((answer ≡ Starved) × (out' ≡ out) × IsIdle old new d d' c c')

-- the whole line went out, or a front of it where the sink failed
abbrev pub Prints : Answer → End → End → ℕ → Type 0
Prints answer old new status =
    ((status ≡ status_of answer) × Appends old.told new.told (line_of answer))
    ⊎ ((status ≡ unwritten_status_of answer) × AppendsFront old.told new.told (line_of answer) × Rose old.faults new.faults)

-- The words, the input, the dial, the tracks and the site have an answer, its line was printed behind what the command had written, and the
-- status tells it.
pub record IsRun {D C P : Type 0} (site : Seen D) (t : Dialing C)
    (m : Meaning P) (policies : List P) (words : List (List ℕ)) (old new : Around) (output output' : End) (d d' : D) (c c' : C) (status : ℕ) : Type 0 where
  pub answer : Answer
  pub written : End
  pub means : Means site t m policies words old new output written d d' c c' answer
  pub prints : Prints answer written output' status
  -- whatever the command, and however it ended, no store was hurt
  pub stores : KeepsStores site d d' ((line : List ℕ) × (answer ≡ NotAStore line))
