-- What of a file has gone out, and what is gathered to go out behind it.
use Rattle.std.specs.Prelude.{◌≡◌, ◌≤◌, ℕ, List, ◌++◌, Option, Result, OnOk, OnErr, IsErrOf}
use Rattle.std.specs.Io.KnownBytes.{Appends}
use Rattle.sm_ends.specs.Faults.{Rose as FaultsRose}
use Rattle.sm_export.specs.declared.gathering.Broken.{Broken}
use Rattle.sm_export.specs.declared.gathering.Broken.TheVariants as broken

-- a text went out, but for its end, which is gathered
pub record Leaves (held held' : Option (List ℕ)) (text gathered : List ℕ) : Type 0 where
  pub out : List ℕ
  pub went : Appends held held' out
  pub whole : text ≡ out ++ gathered

-- a front of a text went out, but for its end, which is gathered
pub record LeavesFront (held held' : Option (List ℕ)) (text gathered : List ℕ) : Type 0 where
  pub front : List ℕ
  pub rest : List ℕ
  pub joined : text ≡ front ++ rest
  pub leaves : Leaves held held' front gathered

-- These bytes came behind those that were gathered before. Both went out or are gathered, in this order; or a front of both, where memory
-- was wanting or the sink failed, which counted it.
pub record IsPassedOn {T : Type 0} (held held' : Option (List ℕ)) (faults faults' : ℕ) (before after bytes : List ℕ) (result : Result T Broken) : Type 0 where
  pub ok : OnOk result (Leaves held held' (before ++ bytes) after)
  pub err : OnErr result (LeavesFront held held' (before ++ bytes) after)
  pub disk : IsErrOf result broken.DiskFault → ⊥
  pub damaged : IsErrOf result broken.Damaged → ⊥
  pub fault : IsErrOf result broken.WriteFault → FaultsRose faults faults'
  pub later : faults ≤ faults'
