-- Tags as they are written: plain values in double quotes, and one space before each attribute.
use Rattle.std.specs.Prelude.{◌≡◌, ℕ, Bool, true, false, ◌&&◌, ◌==◌, nat_le, not, List, [], ◌∷◌, ◌++◌, length, None}
use Rattle.std.specs.List.{list_all}
use Rattle.sm_model.specs.declared.tag.Attribute.{Attribute}
use Rattle.sm_tag.specs.TagBytes.{is_tag_start, is_tag_byte}
use Rattle.sm_tag.specs.TagParts.{has_name}
use Rattle.sm_tag.specs.Tags.{Left}

-- a byte that stands for itself in a value
abbrev pub is_plain : ℕ → Bool
is_plain c = not (c == 34) && (not (c == 60) && not (c == 38))

-- a name of a tag or an attribute
abbrev pub IsTagName : List ℕ → Type 0
IsTagName [] = ⊥
IsTagName (c ∷ cs) = (is_tag_start c ≡ true) × (list_all is_tag_byte (c ∷ cs) ≡ true)

-- the end of a start tag, and what is behind it
abbrev pub closing : Bool → List ℕ → List ℕ
closing true rest = 47 ∷ 62 ∷ rest
closing false rest = 62 ∷ rest

-- attributes, and what is behind them
abbrev pub attributes_then : List Attribute → List ℕ → List ℕ
attributes_then [] rest = rest
attributes_then (a ∷ others) rest = 32 ∷ a.name ++ (61 ∷ 34 ∷ a.value ++ (34 ∷ attributes_then others rest))

-- attributes that can be written so, behind those seen
abbrev pub AreWritten : List Attribute → List Attribute → Type 0
AreWritten seen [] = Unit {0}
AreWritten seen (a ∷ others) =
    IsTagName a.name × (list_all is_plain a.value ≡ true) × (has_name a.name seen ≡ false) × AreWritten (seen ++ a ∷ []) others

-- a reader that has begun, with these bytes and these open elements left
abbrev pub left_at : ℕ → ℕ → List ℕ → List (List ℕ) → Left
left_at size end rest names = record { size = size; end = end; rest = rest; open_names = names; begun = true; bad = None }

-- one element or more are open, and fewer than 32
abbrev pub IsOpen : List (List ℕ) → Type 0
IsOpen names = ((length names == 0) ≡ false) × (nat_le 32 (length names) ≡ false)
