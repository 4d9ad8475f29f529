-- The parts of a tag, read from left to right: a part and the bytes behind it, or why none stands there.
use Rattle.std.specs.Prelude.{◌≡◌, ℕ, Bool, true, false, List, [], ◌∷◌, ◌++◌, length, Option, Some, None, Result, Ok, Err, nat_lt, ◌==◌, ◌&&◌, ◌||◌, if◌then◌else◌}
use Rattle.std.specs.Prelude.{encode_utf8, codes, nat_eq, drop}
use Rattle.std.specs.List.{starts_with}
use Rattle.std.specs.Cmp.Lexicographic.{pointwise}
use Rattle.sm_model.specs.declared.tag.Attribute.{Attribute}
use Rattle.sm_model.specs.Digits.{is_digit, decimal_from}
use Rattle.sm_tag.specs.TagBytes.{is_tag_start, is_tag_byte, is_space, prefix, remaining}

-- Why a part isn't there: the text ends before a byte that fits nothing, or a byte fits nothing.
pub data Stop : Type 0 where
  short : Stop
  wrong : Stop

-- one part and then the next
infixl 10 ◌>>=◌
abbrev pub ◌>>=◌ : {A B : Type 0} → Result A Stop → (A → Result B Stop) → Result B Stop
(Ok x) >>= f = f x
(Err e) >>= f = Err e

-- a name: the longest front of a name's bytes
unfoldable pub name_at : List ℕ → Result (List ℕ × List ℕ) Stop
name_at [] = Err short
name_at (c ∷ cs) = if is_tag_start c then Ok (prefix is_tag_byte (c ∷ cs), remaining is_tag_byte (c ∷ cs)) else Err wrong

-- one byte
abbrev pub byte_at : ℕ → List ℕ → Result (List ℕ) Stop
byte_at b [] = Err short
byte_at b (c ∷ cs) = if c == b then Ok cs else Err wrong

-- a quote of either kind, which the value's end repeats
unfoldable pub quote_at : List ℕ → Result (ℕ × List ℕ) Stop
quote_at [] = Err short
quote_at (c ∷ cs) = if c == 34 || c == 39 then Ok (c, cs) else Err wrong

-- a word that is to stand here
unfoldable pub word_at : List ℕ → List ℕ → Result (List ℕ) Stop
word_at word bytes = if starts_with nat_eq bytes word then Ok (drop (length word) bytes) else if starts_with nat_eq word bytes then Err short else Err wrong

-- the character that a word stands for
unfoldable pub entity_at : List ℕ → ℕ → List ℕ → Result (ℕ × List ℕ) Stop
entity_at word c bytes = word_at word bytes >>= λ rest. Ok (c, rest)

-- the first of two that fits
abbrev pub or_else : {A : Type 0} → Result A Stop → Result A Stop → Result A Stop
or_else (Ok x) r = Ok x
or_else (Err short) r = Err short
or_else (Err wrong) r = r

-- a Unicode scalar value
abbrev pub is_scalar : ℕ → Bool
is_scalar c = nat_lt c 55296 || (nat_lt 57343 c && nat_lt c 1114112)

-- digits, behind which `;` is to stand; their number is judged there
unfoldable pub number_end : List ℕ → List ℕ → Result (ℕ × List ℕ) Stop
number_end digits [] = Err short
number_end [] (c ∷ cs) = Err wrong
number_end (d ∷ ds) (c ∷ cs) = if c == 59 && is_scalar (decimal_from 0 (d ∷ ds)) then Ok (decimal_from 0 (d ∷ ds), cs) else Err wrong

-- `#` and a number
unfoldable pub number_at : List ℕ → Result (ℕ × List ℕ) Stop
number_at bytes = byte_at 35 bytes >>= λ rest. number_end (prefix is_digit rest) (remaining is_digit rest)

-- behind `&`: the character that the reference stands for, and the bytes behind its `;`
unfoldable pub reference_at : List ℕ → Result (ℕ × List ℕ) Stop
reference_at bytes =
    or_else
    (or_else
    (or_else (or_else (or_else (entity_at (codes "lt;") 60 bytes) (entity_at (codes "gt;") 62 bytes)) (entity_at (codes "amp;") 38 bytes))
    (entity_at (codes "quot;") 34 bytes))
    (entity_at (codes "apos;") 39 bytes))
    (number_at bytes)

-- a piece of a value in the quotes q: whether the value goes on, the bytes that the piece stands for, and what is behind it
unfoldable pub piece_at : ℕ → List ℕ → Result (Bool × List ℕ × List ℕ) Stop
piece_at q [] = Err short
piece_at q (c ∷ cs) =
    if c == q then Ok (false, [], cs)
    else if c == 60 then Err wrong
    else if c == 38 then (reference_at cs >>= λ x. Ok (true, encode_utf8 x.0, x.1))
    else Ok (true, c ∷ [], cs)

-- behind the quote q and the bytes text of the value: the whole value, and what is behind the quote that ends it
pub data Values (q : ℕ) : List ℕ → List ℕ → Result (List ℕ × List ℕ) Stop → Type 0 where
  refused : {text bytes : List ℕ} {e : Stop} → piece_at q bytes ≡ Err e → Values q text bytes (Err e)
  closed : {text bytes piece rest : List ℕ} → piece_at q bytes ≡ Ok (false, piece, rest) → Values q text bytes (Ok (text ++ piece, rest))
  goes_on : {text bytes piece rest : List ℕ} {r : Result (List ℕ × List ℕ) Stop} → piece_at q bytes ≡ Ok (true, piece, rest)
      → Values q (text ++ piece) rest r → Values q text bytes r

-- an attribute of that name stands in the list
abbrev pub has_name : List ℕ → List Attribute → Bool
has_name name [] = false
has_name name (a ∷ others) = pointwise nat_eq name a.name || has_name name others

-- a name, `=` and a quote: the name, the quote, and what is behind it
unfoldable pub opening_at : List ℕ → Result (List ℕ × ℕ × List ℕ) Stop
opening_at bytes = do
  name ← name_at bytes
  rest ← byte_at 61 (remaining is_space name.1)
  quote ← quote_at (remaining is_space rest)
  Ok (name.0, quote.0, quote.1)

abbrev pub naming : List ℕ → Result (List ℕ × List ℕ) Stop → Result (Attribute × List ℕ) Stop
naming name r = r >>= λ x. Ok (record { name = name; value = x.0 }, x.1)

-- an attribute
pub data AttributeAt : List ℕ → Result (Attribute × List ℕ) Stop → Type 0 where
  unopened : {bytes : List ℕ} {e : Stop} → opening_at bytes ≡ Err e → AttributeAt bytes (Err e)
  opened : {bytes name rest : List ℕ} {q : ℕ} {r : Result (List ℕ × List ℕ) Stop} → opening_at bytes ≡ Ok (name, q, rest) → Values q [] rest r
      → AttributeAt bytes (naming name r)

-- behind white space, if there is some: the tag's end, with whether the element is empty, or where an attribute is to stand
abbrev pub mark_behind : Bool → List ℕ → Result (Option Bool × List ℕ) Stop
mark_behind spaced [] = Err short
mark_behind spaced (c ∷ cs) =
    if c == 62 then Ok (Some false, cs)
    else if c == 47 then (byte_at 62 cs >>= λ rest. Ok (Some true, rest))
    else if spaced then Ok (None, c ∷ cs)
    else Err wrong

-- the same behind a name or an attribute
unfoldable pub mark_at : List ℕ → Result (Option Bool × List ℕ) Stop
mark_at bytes = mark_behind (nat_lt (length (remaining is_space bytes)) (length bytes)) (remaining is_space bytes)

-- behind a name and the attributes seen: all of them, whether the element is empty, and what is behind the tag; an
-- attribute that stands twice is wrong as soon as its value is whole
pub data Tails : List Attribute → List ℕ → Result (List Attribute × Bool × List ℕ) Stop → Type 0 where
  unmarked : {seen : List Attribute} {bytes : List ℕ} {e : Stop} → mark_at bytes ≡ Err e → Tails seen bytes (Err e)
  ended : {seen : List Attribute} {bytes rest : List ℕ} {empty : Bool} → mark_at bytes ≡ Ok (Some empty, rest) → Tails seen bytes (Ok (seen, empty, rest))
  broken : {seen : List Attribute} {bytes rest : List ℕ} {e : Stop} → mark_at bytes ≡ Ok (None, rest) → AttributeAt rest (Err e) → Tails seen bytes (Err e)
  twice : {seen : List Attribute} {bytes rest more : List ℕ} {a : Attribute} → mark_at bytes ≡ Ok (None, rest) → AttributeAt rest (Ok (a, more))
      → has_name a.name seen ≡ true → Tails seen bytes (Err wrong)
  another : {seen : List Attribute} {bytes rest more : List ℕ} {a : Attribute} {r : Result (List Attribute × Bool × List ℕ) Stop}
      → mark_at bytes ≡ Ok (None, rest) → AttributeAt rest (Ok (a, more)) → has_name a.name seen ≡ false → Tails (seen ++ a ∷ []) more r
      → Tails seen bytes r
