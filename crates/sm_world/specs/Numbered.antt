-- Exchanges that are answered by their numbers.
use Rattle.std.specs.Prelude.{◌≡◌, ℕ, ◌+◌, ◌-◌, List, [], ◌∷◌, ◌++◌}
use Rattle.sm_model.specs.declared.entry.Entry.{Entry}
use Rattle.sm_fetch.specs.declared.dial.Exchange.{Exchange}
use Rattle.sm_site.specs.Faults.{is_listed}
use Rattle.sm_site.specs.Meanings.{View}
use Rattle.sm_world.specs.Answering.{answer_for}
use Rattle.sm_world.specs.Saying.{IsSaidBetween}
use Rattle.sm_world.specs.Went.{CameOf}
use Rattle.sm_world.specs.declared.acted.Acted.{Acted}

-- The answer is what came of the request on the way from one view of the site to another, for a cause on that way. It was lost where this number
-- is one of those, and cut where it is one of these; the limit cuts as well.
pub record IsAnswered (old new : View) (lost cut : List ℕ) (number : ℕ) (x : Exchange) : Type 0 where
  pub came : Acted
  pub went : CameOf old new x.request came
  pub answer : x.answer ≡ answer_for (is_listed number lost) (is_listed number cut) x.limit came

-- Each was answered so. They are counted from 1 on, behind the first ones of all, and so many had been told before them.
abbrev pub AreAnswered : View → View → List ℕ → List ℕ → (behind told : ℕ) → List Exchange → Type 0
AreAnswered old new lost cut behind told [] = Unit {0}
AreAnswered old new lost cut behind told (x ∷ xs) =
    IsAnswered old new lost cut (told - behind + 1) x × AreAnswered old new lost cut behind (told + 1) xs

-- What came of the request is what an origin with this log replies, for a cause on the way from one view of its site to another.
pub record IsByNumber (old new : View) (lost cut : List ℕ) (number : ℕ) (log : List Entry) (x : Exchange) : Type 0 where
  pub answered : IsAnswered old new lost cut number x
  pub said : IsSaidBetween old new log x.request answered.came

-- The first has this number, and each further one the next. Each came of a log that only grows, from this one to that.
abbrev pub AreByNumber : View → View → List ℕ → List ℕ → ℕ → List Entry → List Exchange → List Entry → Type 0
AreByNumber old new lost cut number log [] later = (more : List Entry) × (later ≡ log ++ more)
AreByNumber old new lost cut number log (x ∷ xs) later =
    (more : List Entry) × IsByNumber old new lost cut number (log ++ more) x × AreByNumber old new lost cut (number + 1) (log ++ more) xs later
