-- What the loop was asked.
use Rattle.std.specs.Prelude.{◌≡◌, ℕ, ◌≤◌, List, [], ◌∷◌, ◌++◌, Option, Some, None, Result, Ok, Err}
use Rattle.sm_model.specs.declared.target.Target.{Target}
use Rattle.sm_players.specs.declared.forward.ForwardError.{ForwardError}
use Rattle.sm_players.specs.declared.forward.ForwardError.TheVariants.{Failed, NoMemory}

-- a target that was asked for, and what came of it
pub record Asking : Type 0 where
  pub target : Target
  pub answer : Result (List ℕ) ForwardError

-- the list with these at its end, where it is told
abbrev pub behind : Option (List Asking) → List Asking → Option (List Asking)
behind None more = None
behind (Some asked) more = Some (asked ++ more)

-- what is told behind a call; one that wanted memory isn't
abbrev pub told_of : Target → Result (List ℕ) ForwardError → List Asking
told_of target (Ok bytes) = (record { target = target; answer = Ok bytes }) ∷ []
told_of target (Err Failed) = (record { target = target; answer = Err Failed }) ∷ []
told_of target (Err NoMemory) = []

abbrev pub asked_with : Option (List Asking) → Target → Result (List ℕ) ForwardError → Option (List Asking)
asked_with told target answer = behind told (told_of target answer)

-- the loop was asked for these, of which P says what came of them; its faults are counted
pub record HasAsked (was now : Option (List Asking)) (before after : ℕ) (P : List Asking → Type 0) : Type 0 where
  pub asked : List Asking
  pub asks : now ≡ behind was asked
  pub means : P asked
  pub later : before ≤ after
