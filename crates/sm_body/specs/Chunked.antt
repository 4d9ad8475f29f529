-- A chunked body as a text: chunks, a chunk of size 0, and a trailer.
use Rattle.std.specs.Prelude.{◌≡◌, ◌≢◌, false, ℕ, ◌<◌, ◌≤◌, ◌⊎◌, Bool, ◌&&◌, not, ◌==◌, List, [], ◌∷◌, ◌++◌, length, All, IsTrue}
use Rattle.std.specs.List.{flat_map}
use Rattle.std.specs.Char.{is_digit}
use Rattle.std.specs.Str.Parse.{digits_value}
use Rattle.sm_body.specs.Places.{is_white}

-- CR LF
abbrev pub crlf : List ℕ
crlf = 13 ∷ 10 ∷ []

-- a chunk line: its digits, and what stands between them and CR LF
pub record Line : Type 0 where
  pub digits : List ℕ
  pub tail : List ℕ

abbrev pub IsHex : ℕ → Type 0
IsHex c = IsTrue (is_digit c 16)

abbrev pub IsWhite : ℕ → Type 0
IsWhite c = IsTrue (is_white c)

abbrev pub IsExtensionByte : ℕ → Type 0
IsExtensionByte c = IsTrue (not (c == 13) && not (c == 10))

-- nothing, or white space, or a semicolon and an extension
abbrev pub IsTail : List ℕ → Type 0
IsTail tail = All IsWhite tail ⊎ ((text : List ℕ) × (tail ≡ 59 ∷ text) × All IsExtensionByte text)

abbrev pub print_line : Line → List ℕ
print_line l = l.digits ++ (l.tail ++ crlf)

abbrev pub line_size : Line → ℕ
line_size l = digits_value 16 l.digits

pub record IsLine (l : Line) : Type 0 where
  pub digits : (0 < length l.digits) × (length l.digits ≤ 15) × All IsHex l.digits
  pub tail : IsTail l.tail
  pub short : length (print_line l) ≤ 256

pub record Chunk : Type 0 where
  pub line : Line
  pub bytes : List ℕ

abbrev pub print_chunk : Chunk → List ℕ
print_chunk c = print_line c.line ++ (c.bytes ++ crlf)

pub record IsChunk (c : Chunk) : Type 0 where
  pub line : IsLine c.line
  pub some : 0 < length c.bytes
  pub size : length c.bytes ≡ line_size c.line

-- no line feed stands behind a CR, the first of which may have come just before
abbrev pub HasNoBreak : Bool → List ℕ → Type 0
HasNoBreak returned [] = Unit {0}
HasNoBreak returned (b ∷ bytes) = (IsTrue returned → b ≢ 10) × HasNoBreak (b == 13) bytes

abbrev pub IsTrailerLine : List ℕ → Type 0
IsTrailerLine bytes = (0 < length bytes) × HasNoBreak false bytes

abbrev pub print_trailer : List (List ℕ) → List ℕ
print_trailer lines = flat_map (λ line. line ++ crlf) lines ++ crlf

pub record Text : Type 0 where
  pub chunks : List Chunk
  pub last : Line
  pub trailer : List (List ℕ)

abbrev pub print_text : Text → List ℕ
print_text t = flat_map print_chunk t.chunks ++ (print_line t.last ++ print_trailer t.trailer)

abbrev pub text_body : Text → List ℕ
text_body t = flat_map (λ (c : Chunk). c.bytes) t.chunks

pub record IsText (t : Text) : Type 0 where
  pub chunks : All IsChunk t.chunks
  pub last : IsLine t.last
  pub zero : line_size t.last ≡ 0
  pub trailer : All IsTrailerLine t.trailer
  pub trailer_short : length (print_trailer t.trailer) ≤ 8192
