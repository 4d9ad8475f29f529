-- A pushed body is a chunked text, which is read again as that body.
use Rattle.std.proofs.Common.{◌≡◌, ◌<◌, ◌≤◌, ℕ, zero, suc, List, [], ◌∷◌, ◌++◌, length, take, drop, refl, ap, ◌∙◌, sym, arith, inl, append_assoc, length-append, length-take, length-drop, take-append-drop}
use Rattle.std.specs.Prelude.{All, map, false}
use Rattle.std.specs.Fmt.{digits}
use Rattle.std.specs.List.{flat_map, AllByRecursion}
use Rattle.std.proofs.lemmas.List.Elements.{All-from_recursion}
use Rattle.sm_model.specs.declared.framing.Framing.TheVariants as framing
use Rattle.sm_body.specs.declared.place.Place.TheVariants.{Ended}
use Rattle.sm_body.specs.Places.{start, place_after, body_from}
use Rattle.sm_body.specs.Chunked.{Line, IsLine, IsWhite, Chunk, IsChunk, print_chunk, Text, IsText, IsTrailerLine, print_text, text_body}
use Rattle.sm_body.proofs.TextLaw.{text_run}
use Rattle.sm_body.proofs.BodyLaw.{text_body_is}
use Rattle.sm_fetch.specs.Requests.{chunk, pieces, pieces_in, chunked, last_chunk}
use Rattle.sm_fetch.proofs.Hex.{IsHexOf, hex_is_read, one_hex}

line_of : List ℕ → Line
line_of number = record { digits = number; tail = [] }

chunk_of : List ℕ → Chunk
chunk_of piece = record { line = line_of (digits 16 false (length piece)); bytes = piece }

no_tail : All IsWhite []
no_tail = All-from_recursion IsWhite [] tt

line_fits : (n : ℕ) (number : List ℕ) → IsHexOf 15 n number → IsLine (line_of number)
unfolding line_of
line_fits n number w = record {
  digits = (w.some, w.few, w.hex);
  tail = inl no_tail;
  short = omega (arith, w.few, length-append number (13 ∷ 10 ∷ []));
}

chunk_fits : (piece : List ℕ) → 0 < length piece → length piece ≤ 65536 → IsChunk (chunk_of piece)
unfolding line_of chunk_of
chunk_fits piece some few =
    let w = hex_is_read (length piece) (omega (arith, few)) in
    record { line = line_fits (length piece) (digits 16 false (length piece)) w; some = some; size = sym w.value }

all_fit : (n : ℕ) (body : List ℕ) → AllByRecursion IsChunk (map chunk_of (pieces_in n body))
all_fit n [] = tt
all_fit zero (b ∷ body) = tt
all_fit (suc n) (b ∷ body) =
    (chunk_fits (take 65536 (b ∷ body)) (omega (arith, length-take 65536 (b ∷ body))) (omega (arith, length-take 65536 (b ∷ body))), all_fit n (drop 65536 (b ∷ body)))

printed : (piece : List ℕ) → print_chunk (chunk_of piece) ≡ chunk piece
unfolding line_of chunk_of
printed piece = sym (append_assoc (digits 16 false (length piece) ++ (13 ∷ 10 ∷ [])) piece (13 ∷ 10 ∷ []))

all_printed : (ps : List (List ℕ)) → flat_map print_chunk (map chunk_of ps) ≡ flat_map chunk ps
all_printed [] = refl
all_printed (p ∷ ps) = ap (λ t. t ++ flat_map print_chunk (map chunk_of ps)) (printed p) ∙ ap (λ t. chunk p ++ t) (all_printed ps)

all_joined : (n : ℕ) (body : List ℕ) → length body ≤ n → flat_map (λ (c : Chunk). c.bytes) (map chunk_of (pieces_in n body)) ≡ body
unfolding chunk_of
all_joined n [] few = refl
all_joined zero (b ∷ body) few = absurd (omega arith)
all_joined (suc n) (b ∷ body) few =
    ap (λ t. take 65536 (b ∷ body) ++ t) (all_joined n (drop 65536 (b ∷ body)) (omega (arith, few, length-drop 65536 (b ∷ body)))) ∙ take-append-drop 65536 (b ∷ body)

text_for : List ℕ → Text
text_for body = record { chunks = map chunk_of (pieces body); last = line_of (48 ∷ []); trailer = [] }

zero_is_hex : IsHexOf 15 0 (48 ∷ [])
zero_is_hex = record { some = omega arith; few = omega arith; hex = one_hex 48 refl; value = refl }

is_text : (body : List ℕ) → IsText (text_for body)
unfolding text_for line_of pieces
is_text body = record {
  chunks = All-from_recursion IsChunk (map chunk_of (pieces_in (length body) body)) (all_fit (length body) body);
  last = line_fits 0 (48 ∷ []) zero_is_hex;
  zero = refl;
  trailer = All-from_recursion IsTrailerLine [] tt;
  trailer_short = omega arith;
}

text_is : (body : List ℕ) → print_text (text_for body) ≡ chunked body
unfolding text_for line_of
text_is body = ap (λ t. t ++ last_chunk) (all_printed (pieces body))

body_is : (body : List ℕ) → text_body (text_for body) ≡ body
unfolding text_for pieces
body_is body = all_joined (length body) body (omega arith)

pub push_ends : (body : List ℕ) → place_after (start framing.Chunked) (chunked body) ≡ Ended
push_ends body = ap (place_after (start framing.Chunked)) (sym (text_is body)) ∙ text_run (text_for body) (is_text body)

pub push_is_body : (body : List ℕ) → body_from (start framing.Chunked) (chunked body) ≡ body
push_is_body body = ap (body_from (start framing.Chunked)) (sym (text_is body)) ∙ text_body_is (text_for body) (is_text body) ∙ body_is body
