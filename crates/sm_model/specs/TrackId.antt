-- The track_ID of a moof, found without reading more than what stands in front of it (ISO/IEC 14496-12, 8.8.7).
use Rattle.std.specs.Prelude.{ℕ, zero, suc, Bool, nat_le, List, [], ◌∷◌, length, drop, codes, Option, Some, None, option_and_then, if◌then◌else◌}
use Rattle.std.specs.Option.{option_map}
use Rattle.sm_model.specs.Numbers.{number32_at}
use Rattle.sm_model.specs.Boxes.{Box, box_of, box_len, starts_whole}
use Rattle.sm_model.specs.Found.{is_kind}

unfoldable pub first_in : (Box → Bool) → ℕ → List ℕ → Option Box
first_in p n [] = None
first_in p zero (c ∷ b) = None
first_in p (suc n) (c ∷ b) =
    if starts_whole (c ∷ b)
    then (if p (box_of (c ∷ b)) then Some (box_of (c ∷ b)) else first_in p n (drop (box_len (c ∷ b)) (c ∷ b)))
    else None

-- The first box that passes. There is none where none passes, or where what stands before it, or itself, is no whole
-- box. What stands behind it is not looked at. A text has no more boxes than bytes, so its length bounds the recursion.
unfoldable pub first_box : (Box → Bool) → List ℕ → Option Box
first_box p b = first_in p (length b) b

unfoldable pub first_body : List ℕ → List ℕ → Option (List ℕ)
first_body name b = option_map (λ x. x.body) (first_box (is_kind name) b)

-- a tfhd with fewer than eight bytes has no track_ID
unfoldable pub head_id : List ℕ → Option ℕ
head_id b = if nat_le 8 (length b) then Some (number32_at 4 b) else None

-- the track_ID in the first tfhd of the first traf
unfoldable pub track_id : List ℕ → Option ℕ
track_id m =
    option_and_then (λ t. option_and_then head_id (first_body (codes "tfhd") t)) (first_body (codes "traf") (box_of m).body)
