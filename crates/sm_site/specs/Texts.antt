-- Texts that may be left out.
use Rattle.std.specs.Prelude.{ℕ, List, Option, Some, None, String, string_bytes}

-- its bytes, if it is there
abbrev pub text_of : {A : Type 0} → Option (String A) → Option (List ℕ)
text_of None = None
text_of (Some text) = Some (string_bytes text)
