-- What `rehearse` answers.
use Rattle.std.specs.Prelude.{◌≡◌, ◌⊎◌, ◌++◌, ℕ, List, codes, decimal}
use Rattle.sm_client.specs.Turns.{Meaning}
use Rattle.sm_world.specs.declared.rehearsal.Summary.{Summary}
use Rattle.sm_world.specs.declared.rehearsal.Rehearsal.{Rehearsal}
use Rattle.sm_world.specs.Rehearsed.{Rehearsed}
use Rattle.sm_tool.specs.declared.answer.Answer.{Answer}
use Rattle.sm_tool.specs.declared.answer.Answer.TheVariants.{Found, Starved}

abbrev pub rehearse_line : ℕ → ℕ → Summary → List ℕ
rehearse_line number size s =
    codes "rehearse " ++ (decimal number ++ (codes " " ++ (decimal size ++ (codes ": kept " ++ (decimal s.kept ++ (codes " known " ++ (decimal s.known
    ++ (codes " refused " ++ (decimal s.refused ++ (codes " crashes " ++ (decimal s.crashes ++ (codes " lost " ++ (decimal s.lost
    ++ (codes " cut " ++ (decimal s.cut ++ (codes " played " ++ (decimal s.played ++ codes "\n")))))))))))))))))

-- The line is that of a rehearsal by these policies.
pub record IsRehearsed {P : Type 0} (m : Meaning P) (number size : ℕ) (policies : List P) (line : List ℕ) : Type 0 where
  pub rehearsal : Rehearsal
  pub rehearsed : Rehearsed m number size policies rehearsal
  pub line_is : line ≡ rehearse_line number size rehearsal.summary

-- It was rehearsed, and what came of that is told; or memory was wanting.
abbrev pub RehearseMeans : {P : Type 0} → Meaning P → ℕ → ℕ → List P → Answer → Type 0
RehearseMeans m number size policies answer = ((line : List ℕ) × IsRehearsed m number size policies line × (answer ≡ Found line)) ⊎ (answer ≡ Starved)
