-- What `play` answers.
use Rattle.std.specs.Prelude.{◌≡◌, ◌≤◌, ◌⊎◌, ◌++◌, ℕ, List, [], Option, codes, decimal, slice_get, unwrap_or}
use Rattle.sm_ends.specs.Faults.{Rose}
use Rattle.sm_model.specs.declared.entry.Entry.{Entry}
use Rattle.sm_fetch.specs.declared.dial.DialError.{DialError}
use Rattle.sm_fetch.specs.declared.dial.DialError.TheVariants as dial_fault
use Rattle.sm_fetch.specs.Exchanges.{IsTurnedTo}
use Rattle.sm_fetch.specs.Origins.{Grows}
use Rattle.sm_client.specs.Dials.{Dialed, carried}
use Rattle.sm_client.specs.declared.plan.Plan.{Plan}
use Rattle.sm_client.specs.declared.report.End.{End}
use Rattle.sm_client.specs.declared.report.End.TheVariants as ends
use Rattle.sm_client.specs.declared.report.Report.{Report}
use Rattle.sm_client.specs.Turns.{Meaning}
use Rattle.sm_client.specs.Plays.{Played, PlayedKept}
use Rattle.sm_client.specs.Served.{PlayedServed}
use Rattle.sm_client.specs.Pushing.{Line}
use Rattle.sm_tool.specs.Misses.{gave_up_line, no_manifest_line}
use Rattle.sm_tool.specs.declared.answer.Answer.{Answer}
use Rattle.sm_tool.specs.declared.answer.Answer.TheVariants.{Found, Undone, LinkFault, TrackFault, Starved}

-- tracks before a call and after it: what each holds, where that is told, and their count of faults
pub record Tape : Type 0 where
  pub held : ℕ → Option (List ℕ)
  pub faults : ℕ

abbrev pub tape_of : {T : Type 0} → (T → ℕ → Option (List ℕ)) → (T → ℕ) → T → Tape
tape_of held faults t = record { held = held t; faults = faults t }

-- ---- the lines

abbrev pub played_line : ℕ → List ℕ
played_line played = codes "played " ++ (decimal played ++ codes "\n")

abbrev pub no_more_line : ℕ → List ℕ
no_more_line expected = codes "error: NoMore " ++ (decimal expected ++ codes "\nThe origin lists no fragment that starts at this time.\n")

abbrev pub hole_line : ℕ → ℕ → List ℕ
hole_line expected next = codes "error: Hole " ++ (decimal expected
    ++ (codes " " ++ (decimal next ++ codes "\nThe origin lists no fragment at the first of these times, and one at the second.\n")))

-- the name of that place, from 0
abbrev pub name_at : List (List ℕ) → ℕ → List ℕ
name_at names index = unwrap_or (slice_get names index) []

abbrev pub no_stream_line : List ℕ → List ℕ
no_stream_line name = codes "error: NoStream " ++ (name ++ codes "\nThe origin lists no stream of this name.\n")

-- ---- play

-- how the end of a play is told: how many fragments were written, where as many as were wanted were, and else why not
abbrev pub TellsEnd : List (List ℕ) → ℕ → End → Answer → Type 0
TellsEnd streams played ends.Done answer = answer ≡ Found (played_line played)
TellsEnd streams played (ends.NoMore expected) answer = answer ≡ Undone (no_more_line expected)
TellsEnd streams played (ends.Hole expected next) answer = answer ≡ Undone (hole_line expected next)
TellsEnd streams played (ends.GaveUp time outcomes) answer = answer ≡ Undone (gave_up_line time outcomes)
TellsEnd streams played (ends.NoManifest outcomes) answer = answer ≡ Undone (no_manifest_line outcomes)
TellsEnd streams played (ends.NoStream index) answer = answer ≡ Undone (no_stream_line (name_at streams index))
TellsEnd streams played ends.WriteFault answer = answer ≡ TrackFault
TellsEnd streams played ends.NoMemory answer = answer ≡ Starved

abbrev pub TellsPlay : List (List ℕ) → Report → Answer → Type 0
TellsPlay streams report answer = TellsEnd streams report.played report.end answer

-- The dial was turned to the host and the port of the plan, which was played by these policies in turn, with this report. These are the logs
-- that the origin behind the dial may have, before the call and after it.
pub record HasPlayed {P : Type 0} (m : Meaning P) (plan : Plan) (policies : List P) (dial dial' : Line) (store store' : List Entry → Type 0)
    (tracks tracks' : Tape) (report : Report) : Type 0 where
  pub turned : IsTurnedTo dial'.chosen plan.place.host plan.place.port
  pub played : Played m plan policies dial.log dial'.log tracks.held tracks'.held report
  -- for each log that was told before, one is told now that goes on from it and keeps each fragment that was written
  pub kept : PlayedKept m plan policies dial.log dial'.log store store' tracks.held tracks'.held report
  -- where an origin with a sound log answered, all that was written is its own; where it was patient too, the play ended well
  pub served : PlayedServed m plan policies dial.log dial'.log tracks.held tracks'.held report
  -- the exchanges were answered, in their order, by logs on the way, and none was lost without its count
  pub dialed : Dialed dial.log dial'.log dial.faults dial'.faults store store' (carried report.end)
  -- tracks that failed counted it
  pub failed : report.end ≡ ends.WriteFault → Rose tracks.faults tracks'.faults

-- nothing was asked for and nothing was written
pub record IsUnplayed (dial dial' : Line) (store store' : List Entry → Type 0) (tracks tracks' : Tape) : Type 0 where
  pub log_is : dial'.log ≡ dial.log
  pub later : dial.faults ≤ dial'.faults
  pub grows : Grows store store'
  pub tracks_are : tracks' ≡ tracks

-- why nothing was played
abbrev pub WhyUnplayed : Line → Line → (List Entry → Type 0) → (List Entry → Type 0) → Tape → Tape → DialError → Type 0
WhyUnplayed dial dial' store store' tracks tracks' dial_fault.Failed = IsUnplayed dial dial' store store' tracks tracks' × Rose dial.faults dial'.faults
WhyUnplayed dial dial' store store' tracks tracks' dial_fault.NoMemory = IsUnplayed dial dial' store store' tracks tracks'

-- how it is told that nothing was played
abbrev pub TellsUnplayed : DialError → Answer → Type 0
TellsUnplayed dial_fault.Failed answer = answer ≡ LinkFault
TellsUnplayed dial_fault.NoMemory answer = answer ≡ Starved

-- The plan was played, and how that ended is told, but for want of memory; or nothing was played, and why is told.
abbrev pub PlayMeans : {P : Type 0} → Meaning P → Plan → List P → Line → Line → (List Entry → Type 0) → (List Entry → Type 0) → Tape → Tape
    → Answer → Type 0
PlayMeans m plan policies dial dial' store store' tracks tracks' answer =
    ((report : Report) × HasPlayed m plan policies dial dial' store store' tracks tracks' report × (TellsPlay plan.streams report answer ⊎ (answer ≡ Starved)))
    ⊎ ((why : DialError) × WhyUnplayed dial dial' store store' tracks tracks' why × TellsUnplayed why answer)
