-- Where an origin is, as words say it.
use Rattle.std.specs.Prelude.{ℕ, Bool, false, not, ◌&&◌, ◌||◌, ◌==◌, nat_le, nat_eq, List, [], ◌∷◌, length, codes}
use Rattle.std.specs.List.{list_all, starts_with}
use Rattle.sm_model.specs.Names.{is_within}

-- an ASCII digit or letter, `.`, `-` or `:`
abbrev pub is_host_byte : ℕ → Bool
is_host_byte c = is_within 48 57 c || (is_within 97 122 c || (is_within 65 90 c || (c == 46 || (c == 45 || c == 58))))

-- 1 to 255 such bytes
unfoldable pub is_host : List ℕ → Bool
is_host text = nat_le 1 (length text) && (nat_le (length text) 255 && list_all is_host_byte text)

-- neither `?` nor a control byte
abbrev pub is_path_byte : ℕ → Bool
is_path_byte c = nat_le 32 c && not (c == 127 || c == 63)

-- whether `.isml/` stands somewhere in the text
abbrev pub holds_isml : List ℕ → Bool
holds_isml [] = false
holds_isml (c ∷ text) = starts_with nat_eq (c ∷ text) (codes ".isml/") || holds_isml text

-- 1 to 512 such bytes, among which `.isml/` doesn't stand
unfoldable pub is_path : List ℕ → Bool
is_path text = nat_le 1 (length text) && (nat_le (length text) 512 && (list_all is_path_byte text && not (holds_isml text)))
