-- What a reader answers, where memory may be wanting.
use Rattle.std.specs.Prelude.{◌≡◌, ℕ, Option, Some, None, Result, Ok, Err}
use Rattle.sm_model.specs.declared.cause.Cause.{Cause}
use Rattle.sm_model.specs.declared.fault.ReadFault.{ReadFault}
use Rattle.sm_model.specs.declared.fault.ReadFault.TheVariants as read
use Rattle.sm_model.specs.declared.fault.TextFault.{TextFault}
use Rattle.sm_model.specs.declared.fault.TextFault.TheVariants as text

-- `R` holds for what a fault says of the text. Want of memory says nothing of it, and nothing is asked then.
abbrev pub Says : {Y : Type 0} → Option Y → (Y → Type 0) → Type 0
Says (Some said) R = R said
Says None R = Unit {0}

-- `R` holds for what a reader answered: for its value, which `value` turns into what `R` speaks of, or for its fault, which `fault` does.
-- Want of memory alone is free.
abbrev pub AnswersAs : {X E Y : Type 0} → (X → Y) → (E → Option Y) → Result X E → (Y → Type 0) → Type 0
AnswersAs value fault (Ok x) R = R (value x)
AnswersAs value fault (Err e) R = Says (fault e) R

-- the same where the text has one reading, `defined`
abbrev pub GivesAs : {X E Y : Type 0} → (X → Y) → (E → Option Y) → Result X E → Y → Type 0
GivesAs value fault result defined = AnswersAs value fault result (λ said. defined ≡ said)

-- the cause that a fault tells
abbrev pub refused : {A : Type 0} → ReadFault → Option (Result A Cause)
refused (read.Refused cause) = Some (Err cause)
refused read.NoMemory = None

-- the place that a fault tells, counted in bytes from the text's first
abbrev pub bad_at : {A : Type 0} → TextFault → Option (Result A ℕ)
bad_at (text.Bad at) = Some (Err at)
bad_at text.NoMemory = None

-- the value that the definition gives, or its cause, and nothing else but want of memory
abbrev pub Gives : {A : Type 0} → Result A ReadFault → Result A Cause → Type 0
Gives result defined = GivesAs Ok refused result defined

-- the value or the place of a fault that the relation gives, and nothing else but want of memory
abbrev pub Answers : {A : Type 0} → Result A TextFault → (Result A ℕ → Type 0) → Type 0
Answers result R = AnswersAs Ok bad_at result R
