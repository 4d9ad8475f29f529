-- The bytes that the names and the white space of tags are made of.
use Rattle.std.specs.Prelude.{ℕ, Bool, List, [], ◌∷◌, ◌==◌, ◌||◌, not, if◌then◌else◌}
use Rattle.sm_model.specs.Names.{is_within}
use Rattle.sm_model.specs.Digits.{is_digit}

-- an ASCII letter or `_`
abbrev pub is_tag_start : ℕ → Bool
is_tag_start c = is_within 97 122 c || (is_within 65 90 c || c == 95)

-- those, digits, `-`, `.` and `:`
abbrev pub is_tag_byte : ℕ → Bool
is_tag_byte c = is_tag_start c || (is_digit c || (c == 45 || (c == 46 || c == 58)))

-- space, tab, CR, LF
abbrev pub is_space : ℕ → Bool
is_space c = c == 32 || (c == 9 || (c == 13 || c == 10))

-- not `<`
abbrev pub is_text : ℕ → Bool
is_text c = not (c == 60)

-- the longest front of such bytes
abbrev pub prefix : (ℕ → Bool) → List ℕ → List ℕ
prefix p [] = []
prefix p (c ∷ cs) = if p c then c ∷ prefix p cs else []

-- what is behind it
abbrev pub remaining : (ℕ → Bool) → List ℕ → List ℕ
remaining p [] = []
remaining p (c ∷ cs) = if p c then remaining p cs else c ∷ cs
