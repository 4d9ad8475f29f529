-- What contracts say of a source or a sink before a call and after it.
use Rattle.std.specs.Prelude.{ℕ, ◌+◌, ◌<◌, List, length, Option, IfSome}
use Rattle.sm_ends.specs.Faults.{Rose}
use Rattle.sm_ends.specs.Moves.{TakesAtMost, TakesCount}
use Rattle.sm_ends.specs.declared.input.InputFault.{InputFault}
use Rattle.sm_ends.specs.declared.input.InputFault.TheVariants as input

-- the bytes that are left, or that it holds, where it tells them; and its count of faults
pub record End : Type 0 where
  pub told : Option (List ℕ)
  pub faults : ℕ

abbrev pub end_of : {E : Type 0} → (E → Option (List ℕ)) → (E → ℕ) → E → End
end_of told faults e = record { told = told e; faults = faults e }

-- the most bytes that the input of `pick`, `push` or `export` may have
abbrev pub input_most : ℕ
input_most = 268435456

-- why an input that may have so many bytes was not read, and how much of it was taken
abbrev pub WhyUnread : ℕ → End → End → InputFault → Type 0
WhyUnread most old new input.Failed = Rose old.faults new.faults × TakesAtMost old.told new.told most
WhyUnread most old new input.TooLong = IfSome old.told (λ bytes. most < length bytes) × TakesCount old.told new.told (most + 1)
WhyUnread most old new input.NoMemory = TakesAtMost old.told new.told most
