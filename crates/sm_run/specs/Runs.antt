-- What a run of the program did.
use Rattle.std.specs.Prelude.{◌≡◌, ◌≤◌, ◌⊎◌, ℕ, List, Option, Some, None}
use Rattle.sm_site.specs.Meanings.{Seen}
use Rattle.sm_client.specs.Turns.{Meaning}
use Rattle.sm_serve.specs.declared.outcome.Served.{Served as Outcome}
use Rattle.sm_shelf.specs.Shelf.{Desk}
use Rattle.sm_players.specs.declared.spawner.Finished.{Finished}
use Rattle.sm_command.specs.Lasting.{KeepsStores}
use Rattle.sm_tool.specs.declared.answer.Answer.{Answer}
use Rattle.sm_tool.specs.declared.answer.Answer.TheVariants.{NotAStore, Starved}
use Rattle.sm_tool.specs.Edges.{Dialing}
use Rattle.sm_tool.specs.Ran.{Around, IsIdle, IsRun, Prints}
use Rattle.sm_tool.specs.Stores.{IsSelected, chosen_of}
use Rattle.sm_words.specs.Words.{Serving, ServeShown, Wanted, asked}
use Rattle.sm_run.specs.declared.fault.ShowFault.{ShowFault}
use Rattle.sm_run.specs.Showing.{RunsShown, WhyUnshown}
use Rattle.sm_run.specs.Staff.{IsStaffed, Staff, wires_of}
use Rattle.sm_run.specs.Telling.{TellsShown, TellsUnshown}
use Rattle.sm_ends.specs.Ended.{End}

-- what is served, and by how many players beside the loop, where words ask for some
abbrev pub shown_by : Option Wanted → Option (Serving × ℕ)
shown_by (Some (ServeShown s players)) = Some (s, players)
shown_by wanted = None

-- The loop ran beside the players that were asked for, which read the shelf that it published on, and how it and they ended is told; or no event was waited for, and why is told.
abbrev pub ShowMeans : {D : Type 0} (site : Seen D) → Serving → ℕ → End → End
    → D → D → Staff → Staff → Answer → Type 0
ShowMeans site s players input input' d d' staff staff' answer =
    ((end : Outcome) × (finished : Finished) × (shelf : Desk) × RunsShown site shelf s.ladder input.told input'.told s.turns d d' end
    × IsStaffed shelf.table (wires_of s players) staff staff' finished × TellsShown end finished answer)
    ⊎ ((why : ShowFault) × WhyUnshown site s.ladder (wires_of s players) input input' staff staff' d d' why
    × TellsUnshown why answer)

-- That, on a site that is selected with what the words say; or there was no memory for the words, and nothing was done.
abbrev pub ShowAnswers : {D : Type 0} (site : Seen D) → Serving → ℕ → End → End
    → D → D → Staff → Staff → Answer → Type 0
ShowAnswers site s players input input' d d' staff staff' answer =
    (ShowMeans site s players input input' d d' staff staff' answer × IsSelected answer (chosen_of s) (site.view d) (site.view d'))
    ⊎ ((answer ≡ Starved) × (input' ≡ input) × (d' ≡ d) × (staff' ≡ staff))

-- Players were asked for. The answer that this has was printed, and the status tells it; dial and tracks were left alone.
pub record IsShown {D C : Type 0} (site : Seen D) (s : Serving) (players : ℕ)
    (old new : Around) (output output' : End) (d d' : D) (c c' : C) (staff staff' : Staff) (status : ℕ) : Type 0 where
  pub answer : Answer
  pub means : ShowAnswers site s players old.input new.input d d' staff staff' answer
  pub prints : Prints answer output output' status
  pub counted : old.input.faults ≤ new.input.faults
  pub dial : new.dial ≡ old.dial
  pub tracks : new.tracks ≡ old.tracks
  pub dial_is : c' ≡ c
  -- however it ended, no store was hurt
  pub stores : KeepsStores site d d' ((line : List ℕ) × (answer ≡ NotAStore line))

-- Where players are asked for they are shown to; else the run is the tool's, and nothing is asked of the spawner.
abbrev pub RunsBy : {D C P : Type 0} (site : Seen D) (t : Dialing C)
    → Meaning P → List P → List (List ℕ) → Option (Serving × ℕ) → Around → Around → End → End → D → D → C → C → Staff → Staff
    → ℕ → Type 0
RunsBy site t m policies words (Some x) old new output output' d d' c c' staff staff' status =
    IsShown site x.0 x.1 old new output output' d d' c c' staff staff' status
RunsBy site t m policies words None old new output output' d d' c c' staff staff' status =
    IsRun site t m policies words old new output output' d d' c c' status × (staff' ≡ staff)

abbrev pub Runs : {D C P : Type 0} (site : Seen D) (t : Dialing C)
    → Meaning P → List P → List (List ℕ) → Around → Around → End → End → D → D → C → C → Staff → Staff → ℕ → Type 0
Runs site t m policies words old new output output' d d' c c' staff staff' status =
    RunsBy site t m policies words (shown_by (asked words)) old new output output' d d' c c' staff staff' status

-- A program ended with the status of a run; where there was no memory for its words, that alone was told.
abbrev pub EndsAs : {D C P : Type 0} (site : Seen D) (t : Dialing C)
    → Meaning P → List P → Option (List (List ℕ)) → Around → Around → End → End → D → D → C → C → Staff → Staff → ℕ → Type 0
EndsAs site t m policies None old new output output' d d' c c' staff staff' status =
    Prints Starved output output' status × IsIdle old new d d' c c' × (staff' ≡ staff)
EndsAs site t m policies (Some words) old new output output' d d' c c' staff staff' status =
    Runs site t m policies words old new output output' d d' c c' staff staff' status
