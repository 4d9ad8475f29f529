-- The machine reads a chunk line.
use Rattle.std.proofs.Common.{◌≡◌, ℕ, ◌+◌, ◌*◌, ◌^◌, ◌<◌, ◌≤◌, List, [], ◌∷◌, ◌++◌, length, refl, ap, ◌∙◌, subst, arith, All, inl, inr, lit<}
use Rattle.std.proofs.Math.Nat.{pow-le-pow_right}
use Rattle.std.proofs.lemmas.Grind.{pow_more}
use Rattle.std.specs.Char.{digit_value}
use Rattle.std.specs.Str.Parse.{digits_value_after}
use Rattle.std.proofs.lemmas.Bool.Decides.{nat_tests}
use Rattle.std.proofs.lemmas.Grind.{common_steps}
use Rattle.std.proofs.lemmas.List.Elements.{All-head, All-tail}
use Rattle.sm_body.specs.declared.place.Place.{Place}
use Rattle.sm_body.specs.declared.place.Place.TheVariants.{Digits, Pad, Extension, Data, DataReturn}
use Rattle.sm_body.specs.Places.{next_place, place_after, behind_line}
use Rattle.std.specs.List.{flat_map}
use Rattle.sm_body.proofs.Runs.{data_wholly}
use Rattle.sm_body.specs.Chunked.{Chunk, IsChunk, print_chunk, Line, IsLine, IsHex, IsWhite, IsExtensionByte, IsTail, print_line, line_size, crlf}

pub place_after-append : (p : Place) (xs ys : List ℕ) → place_after p (xs ++ ys) ≡ place_after (place_after p xs) ys
place_after-append p [] ys = refl
place_after-append p (x ∷ xs) ys = place_after-append (next_place p x) xs ys

pub digit_step : (n v c : ℕ) → IsHex c → n < 15 → v < 2 ^ 56 → next_place (Digits n v) c ≡ Digits (n + 1) (v * 16 + digit_value c)
digit_step n v c hex room small = grind (arith, nat_tests)

pub pad_step : (k v c : ℕ) → IsWhite c → k < 255 → next_place (Pad k v) c ≡ Pad (k + 1) v
pad_step k v c white room = grind (arith, nat_tests)

pub pad_first : (n v c : ℕ) → IsWhite c → 0 < n → n < 255 → next_place (Digits n v) c ≡ Pad (n + 1) v
pad_first n v c white some room = grind (arith, nat_tests)

pub extension_first : (n v c : ℕ) → c ≡ 59 → 0 < n → n < 255 → next_place (Digits n v) c ≡ Extension (n + 1) v
extension_first n v c is some room = grind (arith, nat_tests)

pub extension_step : (k v c : ℕ) → IsExtensionByte c → k < 255 → next_place (Extension k v) c ≡ Extension (k + 1) v
extension_step k v c byte room = grind (arith, nat_tests)

below_56 : (n v : ℕ) → n ≤ 14 → v < 16 ^ n → v < 2 ^ 56
below_56 n v low small = let top : 16 ^ n ≤ 16 ^ 14 = pow-le-pow_right (lit< tt) low in omega arith

digits_run : (n v : ℕ) (ds : List ℕ) → All IsHex ds → n + length ds ≤ 15 → v < 16 ^ n
    → place_after (Digits n v) ds ≡ Digits (n + length ds) (digits_value_after 16 v ds)
digits_run n v [] hex room small = ap (λ k. Digits k v) (omega arith)
digits_run n v (d ∷ ds) hex room small =
    let first : IsHex d = All-head IsHex d ds hex in
    let digit : digit_value d < 16 = grind (arith, nat_tests, first) in
    let low : v < 2 ^ 56 = below_56 n v (omega arith) small in
    let next : v * 16 + digit_value d < 16 ^ (n + 1) = rw pow_more (omega arith) in
    rw (digit_step n v d first (omega arith) low)
    (digits_run (n + 1) (v * 16 + digit_value d) ds (All-tail IsHex d ds hex) (omega arith) next ∙ ap (λ k. Digits k (digits_value_after 16 (v * 16 + digit_value d) ds)) (omega arith))

pad_run : (k v : ℕ) (ws : List ℕ) → All IsWhite ws → k + length ws ≤ 255 → place_after (Pad k v) ws ≡ Pad (k + length ws) v
pad_run k v [] white room = ap (λ n. Pad n v) (omega arith)
pad_run k v (w ∷ ws) white room =
    rw (pad_step k v w (All-head IsWhite w ws white) (omega arith))
    (pad_run (k + 1) v ws (All-tail IsWhite w ws white) (omega arith) ∙ ap (λ n. Pad n v) (omega arith))

extension_run : (k v : ℕ) (es : List ℕ) → All IsExtensionByte es → k + length es ≤ 255 → place_after (Extension k v) es ≡ Extension (k + length es) v
extension_run k v [] bytes room = ap (λ n. Extension n v) (omega arith)
extension_run k v (e ∷ es) bytes room =
    rw (extension_step k v e (All-head IsExtensionByte e es bytes) (omega arith))
    (extension_run (k + 1) v es (All-tail IsExtensionByte e es bytes) (omega arith) ∙ ap (λ n. Extension n v) (omega arith))

-- CR LF behind the digits, the white space or the extension ends the line
end_digits : (n v : ℕ) → 0 < n → n < 255 → place_after (Digits n v) crlf ≡ behind_line v
end_digits n v some room = grind (arith, nat_tests)

end_pad : (n v : ℕ) → n < 255 → place_after (Pad n v) crlf ≡ behind_line v
end_pad n v room = grind (arith, nat_tests)

end_extension : (n v : ℕ) → n < 255 → place_after (Extension n v) crlf ≡ behind_line v
end_extension n v room = grind (arith, nat_tests)

-- what stands behind the digits, with the line's end
tail_run : (n v : ℕ) (tail : List ℕ) → IsTail tail → 0 < n → n ≤ 15 → n + length tail ≤ 254
    → place_after (Digits n v) (tail ++ crlf) ≡ behind_line v
tail_run n v [] form some low room = end_digits n v some (omega arith)
tail_run n v (w ∷ ws) (inl white) some low room =
    place_after-append (next_place (Digits n v) w) ws crlf
    ∙ (rw (pad_first n v w (All-head IsWhite w ws white) some (omega arith))
    (rw (pad_run (n + 1) v ws (All-tail IsWhite w ws white) (omega arith))
    (end_pad (n + 1 + length ws) v (omega arith))))
tail_run n v (w ∷ ws) (inr extension) some low room =
    let is_semicolon : w ≡ 59 = cc in
    let same : extension.0 ≡ ws = cc in
    let text : All IsExtensionByte ws = subst (All IsExtensionByte) same extension.2 in
    place_after-append (next_place (Digits n v) w) ws crlf
    ∙ (rw (extension_first n v w is_semicolon some (omega arith))
    (rw (extension_run (n + 1) v ws text (omega arith))
    (end_extension (n + 1 + length ws) v (omega arith))))

-- the machine reads a line
pub line_run : (l : Line) → IsLine l → place_after (Digits 0 0) (print_line l) ≡ behind_line (line_size l)
line_run l is =
    let short : length l.digits + (length l.tail + 2) ≤ 256 = grind (arith, common_steps, is.short) in
    place_after-append (Digits 0 0) l.digits (l.tail ++ crlf)
    ∙ (rw (digits_run 0 0 l.digits is.digits.2 (omega (arith, is.digits.1)) (lit< tt))
    (tail_run (0 + length l.digits) (line_size l) l.tail is.tail (omega (arith, is.digits.0)) (omega (arith, is.digits.1)) (omega arith)))

data_run : (size : ℕ) (bs : List ℕ) → 0 < length bs → length bs ≡ size → place_after (Data size) bs ≡ DataReturn
data_run size bs some same = data_wholly size bs (omega arith) same

-- the machine reads a chunk, and is where it was
pub chunk_run : (c : Chunk) → IsChunk c → place_after (Digits 0 0) (print_chunk c) ≡ Digits 0 0
chunk_run c is =
    let nonzero : behind_line (line_size c.line) ≡ Data (line_size c.line) = grind (arith, nat_tests, is.some, is.size) in
    place_after-append (Digits 0 0) (print_line c.line) (c.bytes ++ crlf)
    ∙ (rw (line_run c.line is.line, nonzero)
    (place_after-append (Data (line_size c.line)) c.bytes crlf
    ∙ (rw (data_run (line_size c.line) c.bytes is.some is.size) refl)))

pub chunks_run : (cs : List Chunk) → All IsChunk cs → place_after (Digits 0 0) (flat_map print_chunk cs) ≡ Digits 0 0
chunks_run [] is = refl
chunks_run (c ∷ cs) is =
    place_after-append (Digits 0 0) (print_chunk c) (flat_map print_chunk cs)
    ∙ (rw (chunk_run c (All-head IsChunk c cs is)) (chunks_run cs (All-tail IsChunk c cs is)))
