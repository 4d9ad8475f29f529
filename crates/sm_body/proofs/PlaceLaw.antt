-- What came before each place of a chunked body.
use Rattle.std.proofs.Common.{◌≡◌, ◌≢◌, ℕ, ◌+◌, ◌-◌, ◌*◌, ◌<◌, ◌≤◌, Bool, false, List, [], ◌∷◌, ◌++◌, length, refl, ap, ◌∙◌, sym, subst, arith, All, inl, append_assoc, length-append}
use Rattle.std.specs.Prelude.{◌==◌, IsTrue}
use Rattle.std.specs.Char.{digit_value}
use Rattle.std.specs.List.{flat_map}
use Rattle.std.specs.Str.Parse.{digits_value}
use Rattle.std.proofs.lemmas.Grind.{flat_map-append}
use Rattle.std.proofs.lemmas.Int.Digits.{digits_value_push}
use Rattle.std.proofs.lemmas.List.{append-nil}
use Rattle.std.proofs.lemmas.List.Elements.{All-nil, All-cons, All-push}
use Rattle.sm_body.specs.declared.place.Place.{Place}
use Rattle.sm_body.specs.declared.place.Place.TheVariants.{Counted, Digits, Pad, Extension, LineFeed, Data, DataReturn, DataFeed, TrailerStart, TrailerStartReturn, TrailerLine, TrailerLineReturn, Ended, Failed}
use Rattle.sm_body.specs.Chunked.{crlf, IsHex, IsWhite, IsExtensionByte, IsTail, Line, IsLine, print_line, line_size, Chunk, IsChunk, print_chunk, HasNoBreak, IsTrailerLine, print_trailer, Text, IsText, print_text}

-- whole chunks, and what follows them
pub record Behind (b rest : List ℕ) : Type 0 where
  pub chunks : List Chunk
  pub are : All IsChunk chunks
  pub splits : b ≡ flat_map print_chunk chunks ++ rest

abbrev pub IsSemicolonAndText : List ℕ → Type 0
IsSemicolonAndText tail = (text : List ℕ) × (tail ≡ 59 ∷ text) × All IsExtensionByte text

-- the front of a chunk line: so many digits that write this number
pub record AtDigits (count size : ℕ) (b : List ℕ) : Type 0 where
  pub digits : List ℕ
  pub behind : Behind b digits
  pub hex : All IsHex digits
  pub long : count ≡ length digits
  pub few : count ≤ 15
  pub value : size ≡ digits_value 16 digits

-- the front of a chunk line: the digits, and a tail of this kind
pub record AtTail (Kind : List ℕ → Type 0) (count size : ℕ) (b : List ℕ) : Type 0 where
  pub digits : List ℕ
  pub tail : List ℕ
  pub behind : Behind b (digits ++ tail)
  pub some : 0 < length digits
  pub few : length digits ≤ 15
  pub hex : All IsHex digits
  pub value : size ≡ digits_value 16 digits
  pub kind : Kind tail
  pub long : count ≡ length digits + length tail

-- a chunk line but for its line feed
pub record AtFeed (size : ℕ) (b : List ℕ) : Type 0 where
  pub line : Line
  pub is : IsLine line
  pub value : size ≡ line_size line
  pub behind : Behind b (line.digits ++ (line.tail ++ 13 ∷ []))

-- a chunk line, and data of which so many bytes are left
pub record AtData (left : ℕ) (b : List ℕ) : Type 0 where
  pub line : Line
  pub is : IsLine line
  pub bytes : List ℕ
  pub behind : Behind b (print_line line ++ bytes)
  pub some : 0 < left
  pub size : length bytes + left ≡ line_size line

-- a chunk, with this in place of the line end
pub record AtEnd (rest b : List ℕ) : Type 0 where
  pub chunk : Chunk
  pub is : IsChunk chunk
  pub behind : Behind b (print_line chunk.line ++ (chunk.bytes ++ rest))

abbrev pub ended_lines : List (List ℕ) → List ℕ
ended_lines lines = flat_map (λ line. line ++ crlf) lines

-- a last line, whole lines of the trailer, and a part of this kind; of the trailer so many bytes came
pub record AtTrailer (Kind : List ℕ → Type 0) (count : ℕ) (b : List ℕ) : Type 0 where
  pub last : Line
  pub is : IsLine last
  pub zero : line_size last ≡ 0
  pub lines : List (List ℕ)
  pub are : All IsTrailerLine lines
  pub part : List ℕ
  pub kind : Kind part
  pub behind : Behind b (print_line last ++ (ended_lines lines ++ part))
  pub long : count ≡ length (ended_lines lines) + length part

-- the last byte is a CR; without a byte, one came just before
abbrev pub is_returned : Bool → List ℕ → Bool
is_returned before [] = before
is_returned before (x ∷ xs) = is_returned (x == 13) xs

-- a part of a line of the trailer, that ends with no CR, or with one behind a part
abbrev pub IsPart : List ℕ → Type 0
IsPart part = IsTrailerLine part × (is_returned false part ≡ false)

abbrev pub IsReturned : List ℕ → Type 0
IsReturned part = (line : List ℕ) × (part ≡ line ++ 13 ∷ []) × IsTrailerLine line

-- the bytes are a whole text
abbrev pub IsTextOf : List ℕ → Type 0
IsTextOf b = (t : Text) × IsText t × (b ≡ print_text t)

-- what came before the place
abbrev pub IsAt : Place → List ℕ → Type 0
IsAt (Counted left) b = ⊥
IsAt (Digits count size) b = AtDigits count size b
IsAt (Pad count size) b = AtTail (All IsWhite) count size b
IsAt (Extension count size) b = AtTail IsSemicolonAndText count size b
IsAt (LineFeed size) b = AtFeed size b
IsAt (Data left) b = AtData left b
IsAt DataReturn b = AtEnd [] b
IsAt DataFeed b = AtEnd (13 ∷ []) b
IsAt (TrailerStart count) b = AtTrailer (λ part. part ≡ []) count b
IsAt (TrailerStartReturn count) b = AtTrailer (λ part. part ≡ 13 ∷ []) count b
IsAt (TrailerLine count) b = AtTrailer IsPart count b
IsAt (TrailerLineReturn count) b = AtTrailer IsReturned count b
IsAt Ended b = IsTextOf b
IsAt Failed b = Unit {0}

-- one byte more
more_behind : (b rest : List ℕ) (c : ℕ) → Behind b rest → Behind (b ++ c ∷ []) (rest ++ c ∷ [])
more_behind b rest c h = record {
  chunks = h.chunks;
  are = h.are;
  splits = ap (λ x. x ++ c ∷ []) h.splits ∙ append_assoc (flat_map print_chunk h.chunks) rest (c ∷ []);
}

behind_is : (b rest other : List ℕ) → rest ≡ other → Behind b rest → Behind b other
behind_is b rest other e h = subst (Behind b) e h

-- ---- the line of a chunk

pub digits_on : (n v c : ℕ) (b : List ℕ) → IsHex c → n < 15 → AtDigits n v b → AtDigits (n + 1) (v * 16 + digit_value c) (b ++ c ∷ [])
digits_on n v c b hex room at = record {
  digits = at.digits ++ c ∷ [];
  behind = more_behind b at.digits c at.behind;
  hex = All-push IsHex at.digits c at.hex hex;
  long = omega (arith, length-append at.digits (c ∷ []), at.long);
  few = omega arith;
  value = ap (λ s. s * 16 + digit_value c) at.value ∙ sym (digits_value_push 16 at.digits c);
}

line_short : (ds tail : List ℕ) → length ds + length tail < 255 → length (ds ++ (tail ++ crlf)) ≤ 256
line_short ds tail low = omega (arith, length-append ds (tail ++ crlf), length-append tail crlf)

pub return_on : (n v : ℕ) (b : List ℕ) → 0 < n → AtDigits n v b → AtFeed v (b ++ 13 ∷ [])
return_on n v b some at = record {
  line = record { digits = at.digits; tail = [] };
  is = record {
    digits = (omega (arith, at.long), omega (arith, at.long, at.few), at.hex);
    tail = inl (All-nil IsWhite);
    short = line_short at.digits [] (omega (arith, at.long, at.few));
  };
  value = at.value;
  behind = more_behind b at.digits 13 at.behind;
}

pub pad_begins : (n v c : ℕ) (b : List ℕ) → 0 < n → IsWhite c → AtDigits n v b → AtTail (All IsWhite) (n + 1) v (b ++ c ∷ [])
pad_begins n v c b some white at = record {
  digits = at.digits;
  tail = c ∷ [];
  behind = more_behind b at.digits c at.behind;
  some = omega (arith, at.long);
  few = omega (arith, at.long, at.few);
  hex = at.hex;
  value = at.value;
  kind = All-cons IsWhite c [] white (All-nil IsWhite);
  long = omega (arith, at.long);
}

pub extension_begins : (n v c : ℕ) (b : List ℕ) → 0 < n → c ≡ 59 → AtDigits n v b → AtTail IsSemicolonAndText (n + 1) v (b ++ c ∷ [])
extension_begins n v c b some is at = record {
  digits = at.digits;
  tail = c ∷ [];
  behind = more_behind b at.digits c at.behind;
  some = omega (arith, at.long);
  few = omega (arith, at.long, at.few);
  hex = at.hex;
  value = at.value;
  kind = ([], ap (λ x. x ∷ []) is, All-nil IsExtensionByte);
  long = omega (arith, at.long);
}

pub tail_on : (Kind : List ℕ → Type 0) (n v c : ℕ) (b : List ℕ) → ((tail : List ℕ) → Kind tail → Kind (tail ++ c ∷ [])) → AtTail Kind n v b → AtTail Kind (n + 1) v (b ++ c ∷ [])
tail_on Kind n v c b keeps at = record {
  digits = at.digits;
  tail = at.tail ++ c ∷ [];
  behind = behind_is (b ++ c ∷ []) _ _ (append_assoc at.digits at.tail (c ∷ [])) (more_behind b (at.digits ++ at.tail) c at.behind);
  some = at.some;
  few = at.few;
  hex = at.hex;
  value = at.value;
  kind = keeps at.tail at.kind;
  long = omega (arith, at.long, length-append at.tail (c ∷ []));
}

pub tail_ends : (Kind : List ℕ → Type 0) (n v : ℕ) (b : List ℕ) → ((tail : List ℕ) → Kind tail → IsTail tail) → n < 255 → AtTail Kind n v b → AtFeed v (b ++ 13 ∷ [])
tail_ends Kind n v b fits room at = record {
  line = record { digits = at.digits; tail = at.tail };
  is = record {
    digits = (at.some, at.few, at.hex);
    tail = fits at.tail at.kind;
    short = line_short at.digits at.tail (omega (arith, at.long));
  };
  value = at.value;
  behind = behind_is (b ++ 13 ∷ []) _ _ (append_assoc at.digits at.tail (13 ∷ [])) (more_behind b (at.digits ++ at.tail) 13 at.behind);
}

pub pad_more : (c : ℕ) → IsWhite c → (tail : List ℕ) → All IsWhite tail → All IsWhite (tail ++ c ∷ [])
pad_more c white tail all = All-push IsWhite tail c all white

pub extension_more : (c : ℕ) → IsExtensionByte c → (tail : List ℕ) → IsSemicolonAndText tail → IsSemicolonAndText (tail ++ c ∷ [])
extension_more c byte tail (text, is, all) = (text ++ c ∷ [], ap (λ x. x ++ c ∷ []) is, All-push IsExtensionByte text c all byte)

-- ---- data

line_ends : (v : ℕ) (b : List ℕ) (at : AtFeed v b) → Behind (b ++ 10 ∷ []) (print_line at.line)
line_ends v b at =
    behind_is (b ++ 10 ∷ []) _ _
    (append_assoc at.line.digits (at.line.tail ++ 13 ∷ []) (10 ∷ []) ∙ ap (λ x. at.line.digits ++ x) (append_assoc at.line.tail (13 ∷ []) (10 ∷ [])))
    (more_behind b _ 10 at.behind)

pub data_begins : (v : ℕ) (b : List ℕ) → 0 < v → AtFeed v b → AtData v (b ++ 10 ∷ [])
data_begins v b some at = record {
  line = at.line;
  is = at.is;
  bytes = [];
  behind = behind_is (b ++ 10 ∷ []) _ _ (sym (append-nil (print_line at.line))) (line_ends v b at);
  some = some;
  size = omega (arith, at.value);
}

pub trailer_begins : (v : ℕ) (b : List ℕ) → v ≡ 0 → AtFeed v b → AtTrailer (λ part. part ≡ []) 0 (b ++ 10 ∷ [])
trailer_begins v b none at = record {
  last = at.line;
  is = at.is;
  zero = sym at.value ∙ none;
  lines = [];
  are = All-nil IsTrailerLine;
  part = [];
  kind = refl;
  behind = behind_is (b ++ 10 ∷ []) _ _ (sym (append-nil (print_line at.line))) (line_ends v b at);
  long = refl;
}

pub data_more : (left c : ℕ) (b : List ℕ) → 1 < left → AtData left b → AtData (left - 1) (b ++ c ∷ [])
data_more left c b more at = record {
  line = at.line;
  is = at.is;
  bytes = at.bytes ++ c ∷ [];
  behind = behind_is (b ++ c ∷ []) _ _ (append_assoc (print_line at.line) at.bytes (c ∷ [])) (more_behind b _ c at.behind);
  some = omega arith;
  size = omega (arith, at.size, length-append at.bytes (c ∷ []));
}

pub data_ends : (left c : ℕ) (b : List ℕ) → left < 2 → AtData left b → AtEnd [] (b ++ c ∷ [])
data_ends left c b last at = record {
  chunk = record { line = at.line; bytes = at.bytes ++ c ∷ [] };
  is = record {
    line = at.is;
    some = omega (arith, length-append at.bytes (c ∷ []));
    size = omega (arith, at.size, at.some, length-append at.bytes (c ∷ []));
  };
  behind = behind_is (b ++ c ∷ []) _ _
      (append_assoc (print_line at.line) at.bytes (c ∷ []) ∙ ap (λ x. print_line at.line ++ x) (sym (append-nil (at.bytes ++ c ∷ []))))
      (more_behind b _ c at.behind);
}

pub end_on : (c : ℕ) (rest b : List ℕ) → AtEnd rest b → AtEnd (rest ++ c ∷ []) (b ++ c ∷ [])
end_on c rest b at = record {
  chunk = at.chunk;
  is = at.is;
  behind = behind_is (b ++ c ∷ []) _ _
      (append_assoc (print_line at.chunk.line) (at.chunk.bytes ++ rest) (c ∷ []) ∙ ap (λ x. print_line at.chunk.line ++ x) (append_assoc at.chunk.bytes rest (c ∷ [])))
      (more_behind b _ c at.behind);
}

pub chunk_ends : (b : List ℕ) → AtEnd (13 ∷ []) b → AtDigits 0 0 (b ++ 10 ∷ [])
chunk_ends b at =
    let whole = end_on 10 (13 ∷ []) b at in
    let cs = whole.behind.chunks in record {
      digits = [];
      behind = record {
        chunks = cs ++ whole.chunk ∷ [];
        are = All-push IsChunk cs whole.chunk whole.behind.are whole.is;
        splits = whole.behind.splits ∙ ap (λ x. flat_map print_chunk cs ++ x) (sym (append-nil (print_chunk whole.chunk)))
            ∙ sym (flat_map-append print_chunk cs (whole.chunk ∷ [])) ∙ sym (append-nil (flat_map print_chunk (cs ++ whole.chunk ∷ [])));
      };
      hex = All-nil IsHex;
      long = refl;
      few = omega arith;
      value = refl;
    }

-- ---- the trailer

pub trailer_on : (Kind Next : List ℕ → Type 0) (n c : ℕ) (b : List ℕ) → ((part : List ℕ) → Kind part → Next (part ++ c ∷ [])) → AtTrailer Kind n b → AtTrailer Next (n + 1) (b ++ c ∷ [])
trailer_on Kind Next n c b leads at = record {
  last = at.last;
  is = at.is;
  zero = at.zero;
  lines = at.lines;
  are = at.are;
  part = at.part ++ c ∷ [];
  kind = leads at.part at.kind;
  behind = behind_is (b ++ c ∷ []) _ _
      (append_assoc (print_line at.last) (ended_lines at.lines ++ at.part) (c ∷ []) ∙ ap (λ x. print_line at.last ++ x) (append_assoc (ended_lines at.lines) at.part (c ∷ [])))
      (more_behind b _ c at.behind);
  long = omega (arith, at.long, length-append at.part (c ∷ []));
}

pub line_on : (n : ℕ) (b : List ℕ) → AtTrailer IsReturned n b → AtTrailer (λ part. part ≡ []) (n + 1) (b ++ 10 ∷ [])
line_on n b at =
    let line = at.kind.0 in
    let lines = at.lines ++ line ∷ [] in
    let ends : ended_lines at.lines ++ (at.part ++ 10 ∷ []) ≡ ended_lines lines =
    ap (λ x. ended_lines at.lines ++ (x ++ 10 ∷ [])) at.kind.1
    ∙ ap (λ x. ended_lines at.lines ++ x) (append_assoc line (13 ∷ []) (10 ∷ []) ∙ sym (append-nil (line ++ crlf)))
    ∙ sym (flat_map-append (λ (l : List ℕ). l ++ crlf) at.lines (line ∷ [])) in record {
      last = at.last;
      is = at.is;
      zero = at.zero;
      lines = lines;
      are = All-push IsTrailerLine at.lines line at.are at.kind.2;
      part = [];
      kind = refl;
      behind = behind_is (b ++ 10 ∷ []) _ _
          (append_assoc (print_line at.last) (ended_lines at.lines ++ at.part) (10 ∷ [])
          ∙ ap (λ x. print_line at.last ++ x) (append_assoc (ended_lines at.lines) at.part (10 ∷ []) ∙ ends ∙ sym (append-nil (ended_lines lines))))
          (more_behind b _ 10 at.behind);
      long = omega (arith, at.long, ap length ends, length-append (ended_lines at.lines) (at.part ++ 10 ∷ []), length-append at.part (10 ∷ []));
    }

pub text_ends : (n : ℕ) (b : List ℕ) → n < 8192 → AtTrailer (λ part. part ≡ 13 ∷ []) n b → IsTextOf (b ++ 10 ∷ [])
unfolding more_behind
text_ends n b room at =
    let ends : ended_lines at.lines ++ (at.part ++ 10 ∷ []) ≡ print_trailer at.lines = ap (λ x. ended_lines at.lines ++ (x ++ 10 ∷ [])) at.kind in (
      record { chunks = at.behind.chunks; last = at.last; trailer = at.lines },
      record {
        chunks = at.behind.are;
        last = at.is;
        zero = at.zero;
        trailer = at.are;
        trailer_short = omega (arith, at.long, ap length ends, length-append (ended_lines at.lines) (at.part ++ 10 ∷ []), length-append at.part (10 ∷ []));
      },
      (more_behind b _ 10 at.behind).splits
          ∙ ap (λ x. flat_map print_chunk at.behind.chunks ++ x)
          (append_assoc (print_line at.last) (ended_lines at.lines ++ at.part) (10 ∷ [])
          ∙ ap (λ x. print_line at.last ++ x) (append_assoc (ended_lines at.lines) at.part (10 ∷ []) ∙ ends)),
    )

break_on : (before : Bool) (xs : List ℕ) (c : ℕ) → HasNoBreak before xs → (IsTrue (is_returned before xs) → c ≢ 10) → HasNoBreak before (xs ++ c ∷ [])
break_on before [] c fine next = (next, tt)
break_on before (x ∷ xs) c fine next = (fine.0, break_on (x == 13) xs c fine.1 next)

returned_on : (before : Bool) (xs : List ℕ) (c : ℕ) → is_returned before (xs ++ c ∷ []) ≡ (c == 13)
returned_on before [] c = refl
returned_on before (x ∷ xs) c = returned_on (x == 13) xs c

never_true : (b : Bool) → b ≡ false → IsTrue b → ⊥
never_true b is said = absurd (cc)

longer : (xs : List ℕ) (c : ℕ) → 0 < length (xs ++ c ∷ [])
longer xs c = omega (arith, length-append xs (c ∷ []))

pub part_on : (c : ℕ) → (c == 13) ≡ false → (part : List ℕ) → IsPart part → IsPart (part ++ c ∷ [])
part_on c other part (line, unreturned) =
    ((longer part c, break_on false part c line.1 (λ said. absurd (never_true _ unreturned said))), returned_on false part c ∙ other)

pub part_returns : (c : ℕ) → c ≡ 13 → (part : List ℕ) → IsPart part → IsReturned (part ++ c ∷ [])
part_returns c is part (line, unreturned) = (part, ap (λ x. part ++ x ∷ []) is, line)

pub start_part : (c : ℕ) → (c == 13) ≡ false → (part : List ℕ) → part ≡ [] → IsPart (part ++ c ∷ [])
start_part c other part none = subst (λ (p : List ℕ). IsPart (p ++ c ∷ [])) (sym none) ((omega arith, ((λ never. absurd (never_true _ refl never)), tt)), other)

pub start_returns : (c : ℕ) → c ≡ 13 → (part : List ℕ) → part ≡ [] → part ++ c ∷ [] ≡ 13 ∷ []
start_returns c is part none = ap (λ (p : List ℕ). p ++ c ∷ []) none ∙ ap (λ x. x ∷ []) is

return_line : IsTrailerLine (13 ∷ [])
return_line = (omega arith, ((λ never. absurd (never_true _ refl never)), tt))

-- behind a part and a CR
pub returned_part : (c : ℕ) → c ≢ 10 → (c == 13) ≡ false → (part : List ℕ) → IsReturned part → IsPart (part ++ c ∷ [])
returned_part c feed other part (line, is, ok) =
    ((longer part c, subst (λ (p : List ℕ). HasNoBreak false (p ++ c ∷ [])) (sym is) (break_on false (line ++ 13 ∷ []) c (break_on false line 13 ok.1 (λ _. omega arith)) (λ _. feed))), returned_on false part c ∙ other)

pub returned_again : (c : ℕ) → c ≡ 13 → (part : List ℕ) → IsReturned part → IsReturned (part ++ c ∷ [])
returned_again c again part (line, is, ok) =
    (part, ap (λ x. part ++ x ∷ []) again, subst IsTrailerLine (sym is) (longer line 13, break_on false line 13 ok.1 (λ _. omega arith)))

return_is : (part : List ℕ) → part ≡ 13 ∷ [] → (line : List ℕ) × (part ≡ line ++ 13 ∷ []) × HasNoBreak false part × (0 < length part)
return_is part is = ([], is, subst (HasNoBreak false) (sym is) return_line.1, subst (λ (p : List ℕ). 0 < length p) (sym is) return_line.0)

pub first_part : (c : ℕ) → c ≢ 10 → (c == 13) ≡ false → (part : List ℕ) → part ≡ 13 ∷ [] → IsPart (part ++ c ∷ [])
first_part c feed other part is =
    let r = return_is part is in
    ((longer part c, break_on false part c r.2 (λ _. feed)), returned_on false part c ∙ other)

pub first_again : (c : ℕ) → c ≡ 13 → (part : List ℕ) → part ≡ 13 ∷ [] → IsReturned (part ++ c ∷ [])
first_again c again part is = let r = return_is part is in (part, ap (λ x. part ++ x ∷ []) again, (r.3, r.2))
