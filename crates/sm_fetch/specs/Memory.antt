-- What contracts see of a dial in memory: its exchanges, how often it has failed and was asked to pause, and the answers that are to come.
use Rattle.std.specs.Prelude.{◌+◌, ◌-◌, ◌^◌, ℕ, List, [], ◌∷◌, ◌++◌, min, take}
use Rattle.sm_fetch.specs.declared.dial.Answer.{Answer}
use Rattle.sm_fetch.specs.declared.dial.Answer.TheVariants as answers
use Rattle.sm_fetch.specs.declared.dial.Exchange.{Exchange}
use Rattle.sm_fetch.specs.declared.answers.Given.{Given}
use Rattle.sm_fetch.specs.declared.answers.Given.TheVariants as given

pub record DialState : Type 0 where
  pub made : List Exchange
  pub faults : ℕ
  pub pauses : ℕ
  pub coming : List Given

-- one more, up to the last value
abbrev pub one_more : ℕ → ℕ
one_more n = min (n + 1) (2 ^ 64 - 1)

-- a reply is cut at the limit
abbrev pub cut_at : ℕ → Given → Answer
cut_at limit (given.Bytes bytes) = answers.Bytes (take limit bytes)
cut_at limit given.Lost = answers.Lost

-- the answer that comes next: where none is left the exchange is lost
abbrev pub coming_at : ℕ → List Given → Answer
coming_at limit [] = answers.Lost
coming_at limit (g ∷ more) = cut_at limit g

abbrev pub rest_of : List Given → List Given
rest_of [] = []
rest_of (g ∷ more) = more

abbrev pub faults_after : ℕ → Answer → ℕ
faults_after faults (answers.Bytes bytes) = faults
faults_after faults answers.Lost = one_more faults
faults_after faults answers.NoMemory = faults

-- one exchange was made: it gave the answer that came next, and is told
abbrev pub made_one : DialState → List ℕ → ℕ → DialState
made_one d request limit = record {
  made = d.made ++ (record { request = request; limit = limit; answer = coming_at limit d.coming }) ∷ [];
  faults = faults_after d.faults (coming_at limit d.coming);
  pauses = d.pauses;
  coming = rest_of d.coming;
}

-- want of memory: the answer that came next is passed over, and nothing is told
abbrev pub passed_one : DialState → DialState
passed_one d = record d { coming = rest_of d.coming }
