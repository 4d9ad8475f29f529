-- The push that is open on a connection.
use Rattle.std.specs.Prelude.{◌⊎◌, ℕ, false, List, Result, Ok, Err, IsTrue}
use Rattle.std.specs.List.{AllByRecursion}
use Rattle.sm_model.specs.Items.{Given}
use Rattle.sm_push.specs.declared.fault.PushFault.{PushFault}
use Rattle.sm_push.specs.declared.fault.PushFault.TheVariants as pushes
use Rattle.sm_push.specs.Standing.{Standing, Stands}
use Rattle.sm_push.specs.Validity.{IsValidItem}

-- it was given some bytes, or gives nothing more
abbrev pub IsPush : Standing → Type 0
IsPush p = IsTrue p.failed ⊎ ((b : List ℕ) × Stands false p b)

abbrev pub AreValid : List Given → Type 0
AreValid items = AllByRecursion IsValidItem items

-- what it gives is valid
abbrev pub GivesValid : Result (List Given) PushFault → Type 0
GivesValid (Ok items) = AreValid items
GivesValid (Err (pushes.Refused before r)) = AreValid before
GivesValid (Err pushes.Failed) = Unit {0}
GivesValid (Err pushes.NoMemory) = Unit {0}
