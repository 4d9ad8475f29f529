-- Boxes (ISO/IEC 14496-12, 4.2): a size, a kind and a body, one after another.
use Rattle.std.specs.Prelude.{◌≡◌, ◌⊎◌, ℕ, zero, suc, ◌+◌, ◌-◌, Bool, true, ◌&&◌, ◌==◌}
use Rattle.std.specs.Prelude.{nat_le, List, [], ◌∷◌, ◌++◌, length, take, drop, Option, Some, None, if◌then◌else◌}
use Rattle.std.specs.Option.{option_map}
use Rattle.std.specs.List.{flat_map, AllZip}
use Rattle.std.specs.Int.{w32, w64, from_be_bytes}
use Rattle.sm_model.specs.Numbers.{number32_at, number64_at}

-- A box. The size counts the head; the user type of a `uuid` box is the front of its body.
pub record Box : Type 0 where
  pub kind : List ℕ
  pub head : ℕ
  pub size : ℕ
  pub body : List ℕ

-- a size field of 1 says that a 64-bit size follows the kind
unfoldable pub head_len : List ℕ → ℕ
head_len b = if number32_at 0 b == 1 then 16 else 8

unfoldable pub box_len : List ℕ → ℕ
box_len b = if number32_at 0 b == 1 then number64_at 8 b else number32_at 0 b

-- a whole box stands in front: a size of 0, one below the head and a box that is cut are none
unfoldable pub starts_whole : List ℕ → Bool
starts_whole b = nat_le 8 (length b) && (nat_le (head_len b) (box_len b) && nat_le (box_len b) (length b))

unfoldable pub box_of : List ℕ → Box
box_of b = record {
  kind = take 4 (drop 4 b);
  head = head_len b;
  size = box_len b;
  body = take (box_len b - head_len b) (drop (head_len b) b);
}

-- ---- the text of a box, and texts one behind another

-- these are the four bytes of a number, and these the eight
abbrev pub Is32 : List ℕ → ℕ → Type 0
Is32 b n = (length b ≡ 4) × (from_be_bytes w32 b ≡ n)

abbrev pub Is64 : List ℕ → ℕ → Type 0
Is64 b n = (length b ≡ 8) × (from_be_bytes w64 b ≡ n)

-- a size of 32 bits, four bytes of kind, the body
pub record IsShortText (text : List ℕ) (x : Box) : Type 0 where
  pub field : List ℕ
  pub says : Is32 field x.size
  pub kind : length x.kind ≡ 4
  pub head : x.head ≡ 8
  pub counts : x.size ≡ 8 + length x.body
  pub joined : text ≡ field ++ (x.kind ++ x.body)

-- a 1 in place of the size, four bytes of kind, a size of 64 bits, the body
pub record IsLongText (text : List ℕ) (x : Box) : Type 0 where
  pub field : List ℕ
  pub marks : Is32 field 1
  pub wide : List ℕ
  pub says : Is64 wide x.size
  pub kind : length x.kind ≡ 4
  pub head : x.head ≡ 16
  pub counts : x.size ≡ 16 + length x.body
  pub joined : text ≡ field ++ (x.kind ++ (wide ++ x.body))

-- the text of a box
abbrev pub IsBoxText : List ℕ → Box → Type 0
IsBoxText text x = IsShortText text x ⊎ IsLongText text x

-- the bytes are the texts of these boxes one behind another, and nothing else
pub record IsBoxes (b : List ℕ) (xs : List Box) : Type 0 where
  pub texts : List (List ℕ)
  pub each : AllZip IsBoxText texts xs
  pub joined : b ≡ flat_map (λ text. text) texts

-- ---- the boxes that are computed

-- the boxes of a text, if it is one of boxes; a text has no more boxes than bytes, so its length bounds the recursion
unfoldable pub boxes_in : ℕ → List ℕ → Option (List Box)
boxes_in n [] = Some []
boxes_in zero (c ∷ b) = None
boxes_in (suc n) (c ∷ b) =
    if starts_whole (c ∷ b)
    then option_map (λ xs. box_of (c ∷ b) ∷ xs) (boxes_in n (drop (box_len (c ∷ b)) (c ∷ b)))
    else None

unfoldable pub boxes : List ℕ → Option (List Box)
boxes b = boxes_in (length b) b

-- a whole box and nothing else
pub record IsOneBox (b : List ℕ) : Type 0 where
  pub whole : starts_whole b ≡ true
  pub all : box_len b ≡ length b
