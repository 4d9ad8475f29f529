-- The answer that is due to an input.
use Rattle.std.specs.Prelude.{◌≡◌, ◌≤◌, ◌++◌, ℕ, true, List, [], length, codes, decimal, Option, Some, None}
use Rattle.std.specs.Io.KnownBytes.{Consumes, IsAtEnd}
use Rattle.sm_ends.specs.Ended.{input_most}
use Rattle.sm_model.specs.declared.cause.Refusal.{Refusal}
use Rattle.sm_model.specs.declared.fragment.Fragment.{Fragment}
use Rattle.sm_model.specs.Causes.{cause_number, cause_name}
use Rattle.sm_model.specs.FragText.{frag_text}
use Rattle.sm_model.specs.Items.{first_of}
use Rattle.sm_push.specs.Body.{body, body_end}
use Rattle.sm_pick.specs.Sentences.{sentence_of}
use Rattle.sm_pick.specs.declared.picked.Picked.{Picked}
use Rattle.sm_pick.specs.declared.picked.Picked.TheVariants as picked

-- the input is a whole push, with a header or without, and this is the first fragment with that track_ID and time, numbered by its
-- place among all of them
pub record IsPicked (input : List ℕ) (track time : ℕ) (text : List ℕ) : Type 0 where
  pub whole : body_end true input ≡ None
  pub place : ℕ
  pub fragment : Fragment
  pub first : first_of track time (body true input).items ≡ Some (place, fragment)
  pub text_is : text ≡ frag_text place track fragment []

-- the input is a whole push, and has no fragment with that track_ID and time
pub record IsAbsent (input : List ℕ) (track time : ℕ) : Type 0 where
  pub whole : body_end true input ≡ None
  pub none : first_of track time (body true input).items ≡ None

-- the place, the number and the name of a cause, and its sentence behind that line
abbrev pub refusal_line : Refusal → List ℕ
refusal_line r =
    codes "error: input at " ++ (decimal r.at ++ (codes ": " ++ (decimal (cause_number r.cause) ++ (codes " " ++ (cause_name r.cause ++
    (codes "\n" ++ (sentence_of r.cause ++ codes "\n")))))))

-- the input is no whole push, and this line says where and why
pub record IsRefused (input line : List ℕ) : Type 0 where
  pub refusal : Refusal
  pub refused : body_end true input ≡ Some refusal
  pub line_is : line ≡ refusal_line refusal

-- the answer to an input that was read; an input that is too long isn't read
abbrev pub IsDue : ℕ → ℕ → List ℕ → Picked → Type 0
IsDue track time input (picked.Found text) = IsPicked input track time text
IsDue track time input (picked.Refused line) = IsRefused input line
IsDue track time input picked.NotKept = IsAbsent input track time

-- an input within the limit was read to its end, and the answer is due to it
pub record IsAnswered (track time : ℕ) (old new : Option (List ℕ)) (answer : Picked) : Type 0 where
  pub input : List ℕ
  pub read : Consumes old new input
  pub ended : IsAtEnd new
  pub short : length input ≤ input_most
  pub due : IsDue track time input answer
