-- Numbers and boxes that were written are read again, whatever stands behind them.
use Rattle.std.proofs.Common.{◌≡◌, ◌<◌, ◌+◌, ◌^◌, ℕ, List, [], ◌∷◌, ◌++◌, length, drop, Some, refl, sym, ap, ◌∙◌, inl, arith}
use Rattle.std.specs.Option.{option_map}
use Rattle.std.proofs.lemmas.List.{length-append, append-nil}
use Rattle.std.proofs.lemmas.Nat.{from_be_bytes-to_be_bytes_4, from_be_bytes-to_be_bytes_8}
use Rattle.sm_model.specs.Numbers.{number32, number64, number32_at, number64_at}
use Rattle.sm_model.specs.FragText.{box}
use Rattle.sm_model.specs.Boxes.{Box, box_len, box_of, boxes, IsOneBox, IsBoxText}
use Rattle.sm_model.proofs.BoxLemmas.{boxes-whole, boxes-nil}
use Rattle.sm_model.proofs.BoxTexts.{drop_past, text_front, one_from}

pub len32 : (n : ℕ) → length (number32 n) ≡ 4
unfolding number32
len32 n = refl

pub len64 : (n : ℕ) → length (number64 n) ≡ 8
unfolding number64
len64 n = refl

pub front32 : (n : ℕ) (rest : List ℕ) → n < 2 ^ 32 → number32_at 0 (number32 n ++ rest) ≡ n
unfolding number32_at number32
front32 n rest lt = from_be_bytes-to_be_bytes_4 n lt

pub front64 : (n : ℕ) (rest : List ℕ) → n < 2 ^ 64 → number64_at 0 (number64 n ++ rest) ≡ n
unfolding number64_at number64
front64 n rest lt = from_be_bytes-to_be_bytes_8 n lt

-- a number behind a front
pub past32 : (xs rest : List ℕ) (i j : ℕ) → length xs + j ≡ i → number32_at i (xs ++ rest) ≡ number32_at j rest
unfolding number32_at
past32 xs rest i j e = rw (drop_past xs rest i j e) refl

pub past64 : (xs rest : List ℕ) (i j : ℕ) → length xs + j ≡ i → number64_at i (xs ++ rest) ≡ number64_at j rest
unfolding number64_at
past64 xs rest i j e = rw (drop_past xs rest i j e) refl

-- ---- a box with a head of eight bytes

abbrev pub made : ℕ → List ℕ → List ℕ → Box
made size kind body = record { kind = kind; head = 8; size = size; body = body }

-- these make a box with a head of eight bytes
pub record IsText (size : ℕ) (kind body : List ℕ) : Type 0 where
  pub size_is : size ≡ 8 + length body
  pub fits : size < 2 ^ 32
  pub kind_is : length kind ≡ 4

-- the text of a box
pub box_is_text : (size : ℕ) (kind body : List ℕ) → IsText size kind body → IsBoxText (box size kind body) (made size kind body)
unfolding number32
box_is_text size kind body t = inl (record {
  field = number32 size;
  says = (len32 size, from_be_bytes-to_be_bytes_4 size t.fits);
  kind = t.kind_is;
  head = refl;
  counts = t.size_is;
  joined = refl;
})

-- a box in front of any bytes
pub one_box : (size : ℕ) (kind body rest : List ℕ) → IsText size kind body → boxes (box size kind body ++ rest) ≡ option_map (λ xs. made size kind body ∷ xs) (boxes rest)
one_box size kind body rest t =
    let f = text_front (box size kind body) rest (made size kind body) (box_is_text size kind body t) in
    let b : List ℕ = box size kind body ++ rest in
    boxes-whole b f.whole
    ∙ ap (λ (x : Box). option_map (λ (xs : List Box). x ∷ xs) (boxes (drop (box_len b) b))) f.box_is
    ∙ ap (λ (r : List ℕ). option_map (λ (xs : List Box). made size kind body ∷ xs) (boxes r)) f.behind

pub box_is : (size : ℕ) (kind body : List ℕ) → IsText size kind body → box_of (box size kind body) ≡ made size kind body
box_is size kind body t = (one_from (box size kind body) (made size kind body) (box_is_text size kind body t)).1

pub box_text_len : (size : ℕ) (kind body : List ℕ) → IsText size kind body → length (box size kind body) ≡ size
box_text_len size kind body t =
    omega (arith, t.size_is, t.kind_is, len32 size, length-append (number32 size) (kind ++ body), length-append kind body)

pub one_whole : (size : ℕ) (kind body : List ℕ) → IsText size kind body → IsOneBox (box size kind body)
one_whole size kind body t = (one_from (box size kind body) (made size kind body) (box_is_text size kind body t)).0

-- the last box
pub boxes-end : (size : ℕ) (kind body : List ℕ) → IsText size kind body → boxes (box size kind body) ≡ Some (made size kind body ∷ [])
boxes-end size kind body t = ap boxes (sym (append-nil (box size kind body))) ∙ one_box size kind body [] t ∙ ap (option_map (λ (xs : List Box). made size kind body ∷ xs)) boxes-nil
