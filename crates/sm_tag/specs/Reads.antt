-- What a function that reads a part answers, beside what the grammar of tags says.
use Rattle.std.specs.Prelude.{◌≡◌, ℕ, Bool, List, ◌++◌, Option, Some, None, Result, Ok, Err}
use Rattle.sm_tag.specs.declared.halt.Halt.{Halt}
use Rattle.sm_tag.specs.declared.halt.Halt.TheVariants.{Memory, Short, Wrong}
use Rattle.sm_tag.specs.declared.scan.Class.{Class}
use Rattle.sm_tag.specs.declared.scan.Class.TheVariants.{Space, Name, Digit, Text}
use Rattle.sm_model.specs.Digits.{is_digit}
use Rattle.sm_model.specs.Gives.{Says, AnswersAs}
use Rattle.sm_tag.specs.TagBytes.{is_tag_byte, is_space, is_text}
use Rattle.sm_tag.specs.TagParts.{Stop, short, wrong, ◌>>=◌}

-- the bytes of a class
abbrev pub is_of : Class → ℕ → Bool
is_of Space = is_space
is_of Name = is_tag_byte
is_of Digit = is_digit
is_of Text = is_text

-- the grammar's stop, where memory did not run out
abbrev pub stop_of : {Y : Type 0} → Halt → Option (Result Y Stop)
stop_of Memory = None
stop_of Short = Some (Err short)
stop_of Wrong = Some (Err wrong)

-- a part is refused as the grammar's relation says, unless memory ran out
abbrev pub FailsBy : {Y : Type 0} → Halt → (Result Y Stop → Type 0) → Type 0
FailsBy halt R = Says (stop_of halt) R

-- what was returned, seen by view, is what it reads, unless memory ran out
abbrev pub GivesBy : {X Y : Type 0} → (X → Y) → Result X Halt → (Result Y Stop → Type 0) → Type 0
GivesBy view result R = AnswersAs (λ x. Ok (view x)) stop_of result R

-- the same where the grammar is a function
abbrev pub Fails : {Y : Type 0} → Halt → Result Y Stop → Type 0
Fails halt read = FailsBy halt (λ said. read ≡ said)

abbrev pub Gives : {X Y : Type 0} → (X → Y) → Result X Halt → Result Y Stop → Type 0
Gives view result read = GivesBy view result (λ said. read ≡ said)

-- a piece of a value, behind what was read of the value before
abbrev pub adding_piece : List ℕ → Result (Bool × List ℕ × List ℕ) Stop → Result (Bool × List ℕ × List ℕ) Stop
adding_piece text r = r >>= λ x. Ok (x.0, text ++ x.1, x.2)
