-- Paths, which end where `.isml/` first stands.
use Rattle.std.specs.Prelude.{◌≡◌, ℕ, ◌+◌, ◌≤◌, Bool, ◌&&◌, true, not, ◌==◌, nat_lt, nat_le, List, [], ◌∷◌, ◌++◌, length, take, drop, codes, nat_eq, Option, Some, None, option_map, MatchOption, if◌then◌else◌}
use Rattle.std.specs.List.{list_any, starts_with}

-- `.isml/`
abbrev pub isml : List ℕ
isml = codes ".isml/"

-- what stands before the first `.isml/`, and what behind it
abbrev pub cut_isml : List ℕ → Option (List ℕ × List ℕ)
cut_isml [] = None
cut_isml (b ∷ text) =
    if starts_with nat_eq (b ∷ text) isml
    then Some ([], drop 6 (b ∷ text))
    else option_map (λ (p : List ℕ × List ℕ). (b ∷ p.0, p.1)) (cut_isml text)

-- 1 to 512 bytes, and none is `?`
abbrev pub is_short : List ℕ → Bool
is_short path = nat_lt 0 (length path) && nat_le (length path) 512 && not (list_any (λ b. b == 63) path)

-- a path: short, and the first `.isml/` of a target ends it
pub record IsPath (path : List ℕ) : Type 0 where
  pub short : is_short path ≡ true
  pub ends : cut_isml (path ++ isml) ≡ Some (path, [])

-- where the first `.isml/` stands
abbrev pub IsIsmlAt : List ℕ → Option ℕ → Type 0
IsIsmlAt text found = MatchOption found (cut_isml text ≡ None) (λ at. (at + 6 ≤ length text) × (cut_isml text ≡ Some (take at text, drop (at + 6) text)))
