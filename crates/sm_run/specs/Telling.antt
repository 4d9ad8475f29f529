-- How it is told what serving beside players came to.
use Rattle.std.specs.Prelude.{◌≡◌, ◌⊎◌, ◌++◌, ◌==◌, ◌&&◌, ℕ, List, codes, decimal, if◌then◌else◌}
use Rattle.sm_serve.specs.declared.outcome.Served.{Served as Outcome}
use Rattle.sm_serve.specs.declared.outcome.Served.TheVariants as served
use Rattle.sm_players.specs.declared.spawner.Finished.{Finished}
use Rattle.sm_players.specs.declared.spawner.SpawnError.TheVariants as spawn
use Rattle.sm_tool.specs.declared.answer.Answer.{Answer}
use Rattle.sm_tool.specs.declared.answer.Answer.TheVariants.{Found, LinkFault, Starved}
use Rattle.sm_tool.specs.Stores.{Tells}
use Rattle.sm_run.specs.declared.fault.ShowFault.{ShowFault}
use Rattle.sm_run.specs.declared.fault.ShowFault.TheVariants as fault

-- how many events were taken, and behind how many less was published than is kept, since the disk failed
abbrev pub shown_line : ℕ → ℕ → List ℕ
shown_line turns behind = codes "turns " ++ (decimal turns ++ (codes " behind " ++ (decimal behind ++ codes "\n")))

-- A player whose wire failed is told as a fault of the link. One that wanted memory, and turns behind which memory was wanting, are told as that.
abbrev pub answer_of : Outcome → Finished → Answer
answer_of (served.Done taken behind short) f =
    if f.faulted == 0 then (if f.starved == 0 && short == 0 then Found (shown_line taken behind) else Starved) else LinkFault
answer_of served.LinkFault f = LinkFault
answer_of served.NoMemory f = Starved

-- so it is told, but for want of memory for the line
abbrev pub TellsShown : Outcome → Finished → Answer → Type 0
TellsShown end f answer = (answer ≡ answer_of end f) ⊎ ((answer ≡ Starved) × ((line : List ℕ) × (answer_of end f ≡ Found line)))

-- how it is told that no event was waited for, but for want of memory for the line
abbrev pub TellsUnshown : ShowFault → Answer → Type 0
TellsUnshown (fault.Store why) answer = Tells why answer ⊎ (answer ≡ Starved)
TellsUnshown (fault.Spawn spawn.Failed) answer = answer ≡ LinkFault
TellsUnshown (fault.Spawn spawn.NoMemory) answer = answer ≡ Starved
