-- The body that the machine finds in a text.
use Rattle.std.proofs.Common.{◌≡◌, ◌≢◌, ℕ, Bool, true, false, List, [], ◌∷◌, ◌++◌, refl, ap, ◌∙◌, sym, subst, arith, All, append_assoc, inl, inr}
use Rattle.std.specs.Prelude.{if◌then◌else◌}
use Rattle.std.specs.List.{flat_map}
use Rattle.std.proofs.lemmas.List.{append-nil}
use Rattle.std.proofs.lemmas.Bool.Decides.{nat_tests}
use Rattle.std.proofs.lemmas.List.Elements.{All-head, All-tail, All-nil, All-cons, All-append, All-weaker}
use Rattle.sm_body.specs.declared.place.Place.{Place}
use Rattle.sm_body.specs.declared.place.Place.TheVariants.{Counted, Digits, Pad, Extension, LineFeed, Data, DataReturn, DataFeed, TrailerStart, TrailerStartReturn, TrailerLine, TrailerLineReturn, Ended, Failed}
use Rattle.sm_body.specs.Places.{next_place, place_after, body_from, is_data, behind_line}
use Rattle.sm_body.specs.Chunked.{crlf, IsHex, IsWhite, IsExtensionByte, IsTail, Line, IsLine, print_line, line_size, Chunk, IsChunk, print_chunk, print_trailer, Text, IsText, print_text, text_body}
use Rattle.sm_body.proofs.Runs.{data_wholly, data_body}
use Rattle.sm_body.proofs.LineLaw.{line_run, chunk_run, chunks_run}

pub body_on : (p : Place) (xs ys : List ℕ) → body_from p (xs ++ ys) ≡ body_from p xs ++ body_from (place_after p xs) ys
body_on p [] ys = refl
body_on p (x ∷ xs) ys =
    ap (λ b. (if is_data p then x ∷ [] else []) ++ b) (body_on (next_place p x) xs ys)
    ∙ sym (append_assoc (if is_data p then x ∷ [] else []) (body_from (next_place p x) xs) (body_from (place_after (next_place p x) xs) ys))

-- without a line feed no data begins
no_data : (p : Place) (c : ℕ) → is_data p ≡ false → c ≢ 10 → is_data (next_place p c) ≡ false
no_data (Counted left) c frame other = absurd (cc)
no_data (Digits n v) c frame other = grind (arith, nat_tests)
no_data (Pad k v) c frame other = grind (arith, nat_tests)
no_data (Extension k v) c frame other = grind (arith, nat_tests)
no_data (LineFeed v) c frame other = grind (arith, nat_tests)
no_data (Data left) c frame other = absurd (cc)
no_data DataReturn c frame other = grind (arith, nat_tests)
no_data DataFeed c frame other = grind (arith, nat_tests)
no_data (TrailerStart n) c frame other = grind (arith, nat_tests)
no_data (TrailerStartReturn n) c frame other = grind (arith, nat_tests)
no_data (TrailerLine n) c frame other = grind (arith, nat_tests)
no_data (TrailerLineReturn n) c frame other = grind (arith, nat_tests)
no_data Ended c frame other = refl
no_data Failed c frame other = refl

none_here : (p : Place) (x : ℕ) (rest : List ℕ) → is_data p ≡ false → (if is_data p then x ∷ [] else []) ++ rest ≡ rest
none_here p x rest frame = ap (λ (b : Bool). (if b then x ∷ [] else []) ++ rest) frame

-- bytes with no line feed but the last have no data
pub quiet : (p : Place) (xs : List ℕ) → is_data p ≡ false → All (λ b. b ≢ 10) xs → body_from p (xs ++ 10 ∷ []) ≡ []
quiet p [] frame none = none_here p 10 [] frame
quiet p (x ∷ xs) frame none =
    none_here p x (body_from (next_place p x) (xs ++ 10 ∷ [])) frame
    ∙ quiet (next_place p x) xs (no_data p x frame (All-head (λ b. b ≢ 10) x xs none)) (All-tail (λ b. b ≢ 10) x xs none)

-- a trailer has no data
abbrev is_behind : Place → Bool
is_behind (TrailerStart n) = true
is_behind (TrailerStartReturn n) = true
is_behind (TrailerLine n) = true
is_behind (TrailerLineReturn n) = true
is_behind Ended = true
is_behind Failed = true
is_behind _ = false

stays_behind : (p : Place) (c : ℕ) → is_behind p ≡ true → (is_behind (next_place p c) ≡ true) × (is_data p ≡ false)
stays_behind (TrailerStart n) c behind = (grind (arith, nat_tests), refl)
stays_behind (TrailerStartReturn n) c behind = (grind (arith, nat_tests), refl)
stays_behind (TrailerLine n) c behind = (grind (arith, nat_tests), refl)
stays_behind (TrailerLineReturn n) c behind = (grind (arith, nat_tests), refl)
stays_behind Ended c behind = (refl, refl)
stays_behind Failed c behind = (refl, refl)
stays_behind _ c behind = absurd (cc)

pub quiet_behind : (p : Place) (xs : List ℕ) → is_behind p ≡ true → body_from p xs ≡ []
quiet_behind p [] behind = refl
quiet_behind p (x ∷ xs) behind =
    let s = stays_behind p x behind in
    none_here p x (body_from (next_place p x) xs) s.1 ∙ quiet_behind (next_place p x) xs s.0

-- ---- the body of a text

hex_no_feed : (c : ℕ) → IsHex c → c ≢ 10
hex_no_feed c hex e = grind (arith, nat_tests)

white_no_feed : (c : ℕ) → IsWhite c → c ≢ 10
white_no_feed c white e = grind (arith, nat_tests)

extension_no_feed : (c : ℕ) → IsExtensionByte c → c ≢ 10
extension_no_feed c byte e = grind (arith, nat_tests)

tail_no_feed : (tail : List ℕ) → IsTail tail → All (λ b. b ≢ 10) tail
tail_no_feed tail (inl white) = All-weaker IsWhite (λ b. b ≢ 10) white_no_feed tail white
tail_no_feed tail (inr (text, is, bytes)) =
    subst (All (λ b. b ≢ 10)) (sym is) (All-cons (λ b. b ≢ 10) 59 text (omega arith) (All-weaker IsExtensionByte (λ b. b ≢ 10) extension_no_feed text bytes))

line_quiet : (p : Place) (l : Line) → is_data p ≡ false → IsLine l → body_from p (print_line l) ≡ []
line_quiet p l frame is =
    let front = l.digits ++ (l.tail ++ 13 ∷ []) in
    let same : print_line l ≡ front ++ 10 ∷ [] = ap (λ x. l.digits ++ x) (sym (append_assoc l.tail (13 ∷ []) (10 ∷ []))) ∙ sym (append_assoc l.digits (l.tail ++ 13 ∷ []) (10 ∷ [])) in
    let none : All (λ b. b ≢ 10) front =
    All-append (λ b. b ≢ 10) l.digits (l.tail ++ 13 ∷ []) (All-weaker IsHex (λ b. b ≢ 10) hex_no_feed l.digits is.digits.2)
    (All-append (λ b. b ≢ 10) l.tail (13 ∷ []) (tail_no_feed l.tail is.tail) (All-cons (λ b. b ≢ 10) 13 [] (omega arith) (All-nil (λ b. b ≢ 10)))) in
    ap (body_from p) same ∙ quiet p front frame none

chunk_body : (c : Chunk) → IsChunk c → body_from (Digits 0 0) (print_chunk c) ≡ c.bytes
chunk_body c is =
    let nonzero : behind_line (line_size c.line) ≡ Data (line_size c.line) = grind (arith, nat_tests, is.some, is.size) in
    body_on (Digits 0 0) (print_line c.line) (c.bytes ++ crlf)
    ∙ ap (λ x. x ++ body_from (place_after (Digits 0 0) (print_line c.line)) (c.bytes ++ crlf)) (line_quiet (Digits 0 0) c.line refl is.line)
    ∙ ap (λ (p : Place). body_from p (c.bytes ++ crlf)) (line_run c.line is.line ∙ nonzero)
    ∙ body_on (Data (line_size c.line)) c.bytes crlf
    ∙ ap (λ x. x ++ body_from (place_after (Data (line_size c.line)) c.bytes) crlf) (data_body (line_size c.line) c.bytes (omega (arith, is.size)))
    ∙ ap (λ (p : Place). c.bytes ++ body_from p crlf) (data_wholly (line_size c.line) c.bytes (omega (arith, is.some, is.size)) is.size)
    ∙ append-nil c.bytes

chunks_body : (cs : List Chunk) → All IsChunk cs → body_from (Digits 0 0) (flat_map print_chunk cs) ≡ flat_map (λ (c : Chunk). c.bytes) cs
chunks_body [] is = refl
chunks_body (c ∷ cs) is =
    body_on (Digits 0 0) (print_chunk c) (flat_map print_chunk cs)
    ∙ ap (λ x. x ++ body_from (place_after (Digits 0 0) (print_chunk c)) (flat_map print_chunk cs)) (chunk_body c (All-head IsChunk c cs is))
    ∙ ap (λ (p : Place). c.bytes ++ body_from p (flat_map print_chunk cs)) (chunk_run c (All-head IsChunk c cs is))
    ∙ ap (λ x. c.bytes ++ x) (chunks_body cs (All-tail IsChunk c cs is))

pub text_body_is : (t : Text) → IsText t → body_from (Digits 0 0) (print_text t) ≡ text_body t
text_body_is t is =
    let chunks = flat_map print_chunk t.chunks in
    let behind = print_line t.last ++ print_trailer t.trailer in
    let zero_size : behind_line (line_size t.last) ≡ TrailerStart 0 = ap behind_line is.zero in
    body_on (Digits 0 0) chunks behind
    ∙ ap (λ (p : Place). body_from (Digits 0 0) chunks ++ body_from p behind) (chunks_run t.chunks is.chunks)
    ∙ ap (λ x. body_from (Digits 0 0) chunks ++ x) (body_on (Digits 0 0) (print_line t.last) (print_trailer t.trailer)
    ∙ ap (λ x. x ++ body_from (place_after (Digits 0 0) (print_line t.last)) (print_trailer t.trailer)) (line_quiet (Digits 0 0) t.last refl is.last)
    ∙ ap (λ (p : Place). body_from p (print_trailer t.trailer)) (line_run t.last is.last ∙ zero_size)
    ∙ quiet_behind (TrailerStart 0) (print_trailer t.trailer) refl)
    ∙ append-nil (body_from (Digits 0 0) chunks) ∙ chunks_body t.chunks is.chunks
