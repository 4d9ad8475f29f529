-- The rows of a run that was written are read again, each at its place, and so are the samples behind them.
use Rattle.std.proofs.Common.{◌≡◌, ◌≤◌, ◌<◌, ◌+◌, ◌*◌, ◌^◌, ℕ, zero, suc, Bool, true, false, eqb, ◌&&◌, List, [], ◌∷◌, ◌++◌, length, take, drop, get_or, map, refl, sym, ap, ◌∙◌, append_assoc, arith}
use Rattle.std.specs.List.{flat_map}
use Rattle.std.proofs.lemmas.List.{length-append, take_at, drop_at, take-append-drop, length-take-le, map-append}
use Rattle.std.proofs.Math.Seq.{take-suc, drop-cons}
use Rattle.std.specs.List.{All}
use Rattle.std.proofs.lemmas.List.Concat.{flat_map-cons, flat_map-append}
use Rattle.sm_model.specs.declared.sample.Sample.{Sample}
use Rattle.sm_model.specs.declared.run.Row.{Row}
use Rattle.sm_model.specs.declared.run.Defaults.{Defaults}
use Rattle.sm_model.specs.Numbers.{number32, number32_at}
use Rattle.sm_model.specs.FragText.{run_word}
use Rattle.sm_model.specs.FragText as text
use Rattle.sm_model.specs.Fields.{has, field, given, row_len, rows_at, row_at, row, rows}
use Rattle.sm_model.specs.Frag.{cut}
use Rattle.sm_model.specs.Fragments.{IsNarrow}
use Rattle.sm_model.specs.Written.{row_of}
use Rattle.sm_model.proofs.WrittenBoxes.{len32, front32, past32}

-- four numbers in a row
pub fours : (a b c d : ℕ) (rest : List ℕ) → a < 2 ^ 32 → b < 2 ^ 32 → c < 2 ^ 32 → d < 2 ^ 32
    → let x : List ℕ = (number32 a ++ (number32 b ++ (number32 c ++ number32 d))) ++ rest in
    (number32_at 0 x ≡ a) × (number32_at 4 x ≡ b) × (number32_at 8 x ≡ c) × (number32_at 12 x ≡ d)
fours a b c d rest la lb lc ld =
    let e : (number32 a ++ (number32 b ++ (number32 c ++ number32 d))) ++ rest ≡ number32 a ++ (number32 b ++ (number32 c ++ (number32 d ++ rest))) = simp append_assoc in
    let p0 = front32 a (number32 b ++ (number32 c ++ (number32 d ++ rest))) la in
    let p1 = past32 (number32 a) (number32 b ++ (number32 c ++ (number32 d ++ rest))) 4 0 (omega (arith, len32 a)) ∙ front32 b (number32 c ++ (number32 d ++ rest)) lb in
    let p2 = past32 (number32 a) (number32 b ++ (number32 c ++ (number32 d ++ rest))) 8 4 (omega (arith, len32 a)) ∙ past32 (number32 b) (number32 c ++ (number32 d ++ rest)) 4 0
    (omega (arith, len32 b)) ∙ front32 c (number32 d ++ rest) lc in
    let p3 = past32 (number32 a) (number32 b ++ (number32 c ++ (number32 d ++ rest))) 12 8 (omega (arith, len32 a)) ∙ past32 (number32 b) (number32 c ++ (number32 d ++ rest)) 8 4
    (omega (arith, len32 b)) ∙ past32 (number32 c) (number32 d ++ rest) 4 0 (omega (arith, len32 c)) ∙ front32 d rest ld in
    (ap (number32_at 0) e ∙ p0, ap (number32_at 4) e ∙ p1, ap (number32_at 8) e ∙ p2, ap (number32_at 12) e ∙ p3)

pub row_text_len : (s : Sample) → length (text.row_text s) ≡ 16
row_text_len s =
    omega (
      arith,
      len32 s.duration,
      len32 (length s.bytes),
      len32 s.flags,
      len32 s.offset,
      length-append (number32 s.duration) (number32 (length s.bytes) ++ (number32 s.flags ++ number32 s.offset)),
      length-append (number32 (length s.bytes)) (number32 s.flags ++ number32 s.offset),
      length-append (number32 s.flags) (number32 s.offset),
    )

pub rows_text_len : (ss : List Sample) → length (flat_map text.row_text ss) ≡ length ss * 16
rows_text_len [] = refl
rows_text_len (s ∷ ss) =
    let e = ap length (flat_map-cons text.row_text s ss) in
    omega (arith, e, length-append (text.row_text s) (flat_map text.row_text ss), row_text_len s, rows_text_len ss)

-- the number at a place of a row that stands at i
pub at_row : (head : List ℕ) (ss : List Sample) (i j : ℕ) (s : Sample) (front back : List Sample) → ss ≡ front ++ s ∷ back → length front ≡ i
    → number32_at (length head + i * 16 + j) (head ++ flat_map text.row_text ss) ≡ number32_at j (text.row_text s ++ flat_map text.row_text back)
at_row head ss i j s front back e n =
    let f : flat_map text.row_text ss ≡ flat_map text.row_text front ++ (text.row_text s ++ flat_map text.row_text back)
    = ap (flat_map text.row_text) e ∙ flat_map-append text.row_text front (s ∷ back) ∙ ap (λ (x : List ℕ). flat_map text.row_text front ++ x) (flat_map-cons text.row_text s back) in
    let l = rows_text_len front in
    past32 head (flat_map text.row_text ss) (length head + i * 16 + j) (i * 16 + j) (omega arith)
    ∙ ap (number32_at (i * 16 + j)) f
    ∙ past32 (flat_map text.row_text front) (text.row_text s ++ flat_map text.row_text back) (i * 16 + j) j (omega (arith, l, ap (λ (k : ℕ). k * 16) n))

-- version and flags of a canonical trun: no first sample flags, and all four fields in each row
pub record IsWord (w : ℕ) : Type 0 where
  pub start : has w 0x1 ≡ true
  pub first : has w 0x4 ≡ false
  pub duration : has w 0x100 ≡ true
  pub size : has w 0x200 ≡ true
  pub flags : has w 0x400 ≡ true
  pub offset : has w 0x800 ≡ true

pub words : (signed : Bool) → IsWord (run_word signed)
unfolding has
words true = record { start = refl; first = refl; duration = refl; size = refl; flags = refl; offset = refl }
words false = record { start = refl; first = refl; duration = refl; size = refl; flags = refl; offset = refl }

pub record IsRow (b : List ℕ) (at : ℕ) (s : Sample) : Type 0 where
  pub duration : number32_at at b ≡ s.duration
  pub size : number32_at (at + 4) b ≡ length s.bytes
  pub flags : number32_at (at + 4 + 4) b ≡ s.flags
  pub offset : number32_at (at + 4 + 4 + 4) b ≡ s.offset

pub row_is : (d : Defaults) (w at : ℕ) (b : List ℕ) (first : Bool) (s : Sample) → IsWord w → IsRow b at s → row_at d w at b first ≡ row_of s
unfolding row_at given field
row_is d w at b first s h r =
    let n : (first && has w 0x4) ≡ false = elim first as (λ v. (v && has w 0x4) ≡ false) [ true ↦ h.first | false ↦ refl ] in
    rw (n, h.duration, h.size, h.flags, h.offset, r.duration, r.size, r.flags, r.offset) refl

pub row_len_is : (w : ℕ) → IsWord w → row_len w ≡ 16
unfolding row_len field
row_len_is w h = rw (h.duration, h.size, h.flags, h.offset) refl

pub rows_at_is : (w : ℕ) → IsWord w → rows_at w ≡ 12
unfolding rows_at field
rows_at_is w h = rw (h.start, h.first) refl

at_is : (b : List ℕ) (x y n : ℕ) → x ≡ y → number32_at y b ≡ n → number32_at x b ≡ n
at_is b x y n e h = ap (λ (k : ℕ). number32_at k b) e ∙ h

is_row : (head : List ℕ) (ss : List Sample) (i at : ℕ) (s : Sample) (front back : List Sample) → ss ≡ front ++ s ∷ back → length front ≡ i → length head + i * 16 ≡ at → IsNarrow s
    → IsRow (head ++ flat_map text.row_text ss) at s
is_row head ss i at s front back e n a f =
    let b = head ++ flat_map text.row_text ss in
    let q = fours s.duration (length s.bytes) s.flags s.offset (flat_map text.row_text back) f.duration f.size f.flags f.offset in
    record {
      duration = at_is b at (length head + i * 16 + 0) s.duration (omega (arith, a)) (at_row head ss i 0 s front back e n ∙ q.0);
      size = at_is b (at + 4) (length head + i * 16 + 4) (length s.bytes) (omega (arith, a)) (at_row head ss i 4 s front back e n ∙ q.1);
      flags = at_is b (at + 4 + 4) (length head + i * 16 + 8) s.flags (omega (arith, a)) (at_row head ss i 8 s front back e n ∙ q.2);
      offset = at_is b (at + 4 + 4 + 4) (length head + i * 16 + 12) s.offset (omega (arith, a)) (at_row head ss i 12 s front back e n ∙ q.3);
    }

split : (ss : List Sample) (i : ℕ) (e : Sample) → i < length ss → ss ≡ take i ss ++ get_or ss i e ∷ drop (suc i) ss
split ss i e lt = sym (take-append-drop i ss) ∙ ap (λ (x : List Sample). take i ss ++ x) (drop-cons ss i e lt)

row_again : (d : Defaults) (head : List ℕ) (ss : List Sample) (w i : ℕ) (e : Sample) → number32_at 0 (head ++ flat_map text.row_text ss) ≡ w → IsWord w → length head ≡ 12 → All IsNarrow ss → i <
    length ss
    → row d (head ++ flat_map text.row_text ss) i ≡ row_of (get_or ss i e)
unfolding row
row_again d head ss w i e z h l n lt =
    let b = head ++ flat_map text.row_text ss in
    let at : length head + i * 16 ≡ rows_at w + i * row_len w = omega (arith, l, rows_at_is w h, ap (λ (k : ℕ). i * k) (row_len_is w h)) in
    let r : IsRow b (rows_at w + i * row_len w) (get_or ss i e)
    = is_row head ss i (rows_at w + i * row_len w) (get_or ss i e) (take i ss) (drop (suc i) ss) (split ss i e lt) (length-take-le i ss (omega arith)) at (n i e lt) in
    ap (λ (k : ℕ). row_at d k (rows_at k + i * row_len k) b (eqb i 0)) z ∙ row_is d w (rows_at w + i * row_len w) b (eqb i 0) (get_or ss i e) h r

pub rows_again : (d : Defaults) (head : List ℕ) (ss : List Sample) (w : ℕ) (e : Sample) → number32_at 0 (head ++ flat_map text.row_text ss) ≡ w → IsWord w → length head ≡ 12 → All IsNarrow ss
    → (i : ℕ) → i ≤ length ss → rows d (head ++ flat_map text.row_text ss) i ≡ map row_of (take i ss)
unfolding rows
rows_again d head ss w e z h l n zero le = refl
rows_again d head ss w e z h l n (suc i) le =
    let b = head ++ flat_map text.row_text ss in
    ap (λ (rs : List Row). rs ++ row d b i ∷ []) (rows_again d head ss w e z h l n i (omega arith))
    ∙ ap (λ (r : Row). map row_of (take i ss) ++ r ∷ []) (row_again d head ss w i e z h l n (omega arith))
    ∙ sym (ap (map row_of) (take-suc ss i e (omega arith)) ∙ map-append row_of (take i ss) (get_or ss i e ∷ []))

-- ---- samples

pub cut_again : (ss : List Sample) → cut (flat_map (λ s. s.bytes) ss) (map row_of ss) ≡ ss
unfolding cut
cut_again [] = refl
cut_again (s ∷ ss) =
    let f : flat_map (λ x. x.bytes) (s ∷ ss) ≡ s.bytes ++ flat_map (λ x. x.bytes) ss = flat_map-cons (λ x. x.bytes) s ss in
    let t : take (length s.bytes) (flat_map (λ x. x.bytes) (s ∷ ss)) ≡ s.bytes = ap (take (length s.bytes)) f ∙ take_at s.bytes (flat_map (λ x. x.bytes) ss) (length s.bytes) refl in
    let d : drop (length s.bytes) (flat_map (λ x. x.bytes) (s ∷ ss)) ≡ flat_map (λ x. x.bytes) ss = ap (drop (length s.bytes)) f ∙ drop_at s.bytes (flat_map (λ x. x.bytes) ss) (length s.bytes) refl in
    ap (λ (x : List ℕ). record { duration = s.duration; flags = s.flags; offset = s.offset; bytes = x } ∷ cut (drop (length s.bytes) (flat_map (λ x. x.bytes) (s ∷ ss))) (map row_of ss)) t
    ∙ ap (λ (x : List ℕ). s ∷ cut x (map row_of ss)) d
    ∙ ap (λ (x : List Sample). s ∷ x) (cut_again ss)
