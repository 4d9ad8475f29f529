-- The addresses of fragments, with their two fields.
use Rattle.std.specs.Prelude.{ℕ, ◌-◌, ◌==◌, ◌&&◌, ◌||◌, not, Bool, true, false, List, [], ◌∷◌, Option, Some, None, nat_lt, nat_le, nat_eq, if◌then◌else◌, codes}
use Rattle.std.specs.List.{starts_with}

abbrev pub is_bitrate_field : List ℕ → Bool
is_bitrate_field b = starts_with nat_eq b (codes "{bitrate}") || starts_with nat_eq b (codes "{Bitrate}")

abbrev pub is_start_field : List ℕ → Bool
is_start_field b = starts_with nat_eq b (codes "{start time}") || starts_with nat_eq b (codes "{start_time}")

-- a byte that may stand beside the fields: no brace, and none that would end a request's target
abbrev pub is_target_byte : ℕ → Bool
is_target_byte c = nat_le 33 c && (not (c == 123) && (not (c == 125) && not (c == 127)))

-- One byte, where this text begins: how many bytes behind it are passed over, and whether each of the two fields has stood;
-- None where it is wrong.
abbrev pub pattern_step : ℕ → Bool → Bool → ℕ → List ℕ → Option (ℕ × Bool × Bool)
pattern_step skip bitrate start c b =
    if nat_lt 0 skip then Some (skip - 1, bitrate, start)
    else if is_bitrate_field b then (if bitrate then None else Some (8, true, start))
    else if is_start_field b then (if start then None else Some (11, bitrate, true))
    else if is_target_byte c then Some (0, bitrate, start)
    else None

abbrev pub or_wrong : Option (ℕ × Bool × Bool) → (ℕ × Bool × Bool → Bool) → Bool
or_wrong None more = false
or_wrong (Some x) more = more x

abbrev pub pattern_from : ℕ → Bool → Bool → List ℕ → Bool
pattern_from skip bitrate start [] = bitrate && start
pattern_from skip bitrate start (c ∷ cs) = or_wrong (pattern_step skip bitrate start c (c ∷ cs)) (λ x. pattern_from x.0 x.1 x.2 cs)

-- each of the fields `{bitrate}` and `{start time}` stands once, no other brace, and no byte that would end a request's target
abbrev pub is_pattern : List ℕ → Bool
is_pattern b = pattern_from 0 false false b
