-- Heads, with further bytes behind them.
use Rattle.std.proofs.Common.{◌≡◌, ℕ, ◌+◌, ◌<◌, ◌≤◌, Bool, true, false, cond, ltb, eqb, List, ◌++◌, length, take, drop, refl, ap, arith, inl, inr}
use Rattle.std.proofs.lemmas.Bool.{cases_lt, cases_Bool, le-ltb, ltb-true, ltb-false}
use Rattle.std.proofs.lemmas.List.{take-append-le, drop-append-le, length-append, length-drop}
use Rattle.std.specs.Int.{w32, w64, from_be_bytes}
use Rattle.sm_model.specs.Numbers.{number32_at, number64_at}
use Rattle.sm_model.specs.Boxes.{IsOneBox, head_len, box_len}
use Rattle.sm_model.proofs.BoxLemmas.{long_head, is_whole}
use Rattle.sm_box.specs.Heads.{head_of}
use Rattle.sm_box.specs.declared.head.Head.{Head}
use Rattle.sm_box.specs.declared.head.Head.TheVariants.{Whole, Short, Bad, OpenEnded}

-- bytes that are there stay
pub part_stable : (i n : ℕ) (h t : List ℕ) → i + n ≤ length h → take n (drop i (h ++ t)) ≡ take n (drop i h)
part_stable i n h t le =
    let short : i ≤ length h = omega arith in
    let room : n ≤ length (drop i h) = omega (arith, length-drop i h) in
    rw (drop-append-le i h t short, take-append-le n (drop i h) t room) refl

field_stable : (h t : List ℕ) → 8 ≤ length h → number32_at 0 (h ++ t) ≡ number32_at 0 h
unfolding number32_at
field_stable h t ge = ap (from_be_bytes w32) (part_stable 0 4 h t (omega arith))

long_stable : (h t : List ℕ) → 16 ≤ length h → number64_at 8 (h ++ t) ≡ number64_at 8 h
unfolding number64_at
long_stable h t ge = ap (from_be_bytes w64) (part_stable 8 8 h t (omega arith))

head_len_stable : (h t : List ℕ) → 8 ≤ length h → head_len (h ++ t) ≡ head_len h
unfolding head_len
head_len_stable h t ge = ap (λ (n : ℕ). cond (eqb n 1) 16 8) (field_stable h t ge)

box_len_stable : (h t : List ℕ) → 8 ≤ length h → head_len h ≤ length h → box_len (h ++ t) ≡ box_len h
unfolding head_len box_len
box_len_stable h t ge le =
    elim (cases_Bool (eqb (number32_at 0 h) 1)) [
      | inl one ↦
          let sixteen : 16 ≤ length h = rw one at le in
          rw (field_stable h t ge, one, long_stable h t sixteen) refl
      | inr other ↦ rw (field_stable h t ge, other) refl
    ]

-- what a head that was read says
pub record WholeIs (b kind : List ℕ) (head size : ℕ) : Type 0 where
  pub eight : 8 ≤ length b
  pub kind_is : kind ≡ take 4 (drop 4 b)
  pub head_is : head ≡ head_len b
  pub size_is : size ≡ box_len b
  pub inside : head ≤ length b
  pub fits : head ≤ size

whole_by : (b kind : List ℕ) (head size : ℕ) (b1 b2 b3 b4 : Bool) → ltb (length b) 8 ≡ b1 → ltb (length b) (head_len b) ≡ b3 → ltb (box_len b) (head_len b) ≡ b4
    → cond b1 Short (cond b2 OpenEnded (cond b3 Short (cond b4 Bad (Whole (take 4 (drop 4 b)) (head_len b) (box_len b))))) ≡ Whole kind head size → WholeIs b kind head size
whole_by b kind head size true b2 b3 b4 p q r e = absurd cc
whole_by b kind head size false true b3 b4 p q r e = absurd cc
whole_by b kind head size false false true b4 p q r e = absurd cc
whole_by b kind head size false false false true p q r e = absurd cc
whole_by b kind head size false false false false p q r e =
    let h : head ≡ head_len b = cc in
    let s : size ≡ box_len b = cc in
    record { eight = ltb-false _ _ p; kind_is = cc; head_is = h; size_is = s; inside = omega (arith, ltb-false _ _ q); fits = omega (arith, ltb-false _ _ r) }

pub whole_is : (b kind : List ℕ) (head size : ℕ) → head_of b ≡ Whole kind head size → WholeIs b kind head size
unfolding head_of
whole_is b kind head size e = whole_by b kind head size _ _ _ _ refl refl refl e

-- bytes of a head's size are one box
pub one_box : (b kind : List ℕ) (head size : ℕ) → head_of b ≡ Whole kind head size → length b ≡ size → IsOneBox b
one_box b kind head size e all =
    let w = whole_is b kind head size e in
    record {
      whole = is_whole b (record { eight = w.eight; head = omega (arith, w.fits, w.head_is, w.size_is); size = omega (arith, w.size_is, all) });
      all = omega (arith, w.size_is, all);
    }

short_by : (b : List ℕ) (b1 b2 b3 b4 : Bool) → ltb (length b) 8 ≡ b1 → ltb (length b) (head_len b) ≡ b3
    → cond b1 Short (cond b2 OpenEnded (cond b3 Short (cond b4 Bad (Whole (take 4 (drop 4 b)) (head_len b) (box_len b))))) ≡ Short → 8 ≤ length b → length b < head_len b
short_by b true b2 b3 b4 p q e ge = absurd (omega (arith, ltb-true _ _ p))
short_by b false true b3 b4 p q e ge = absurd cc
short_by b false false true b4 p q e ge = ltb-true _ _ q
short_by b false false false true p q e ge = absurd cc
short_by b false false false false p q e ge = absurd cc

-- a head that is not whole yet is cut inside its head
short_is : (b : List ℕ) → head_of b ≡ Short → 8 ≤ length b → length b < head_len b
unfolding head_of
short_is b e ge = short_by b _ _ _ _ refl refl e ge

abbrev pub IsRead : Head → Type 0
IsRead Short = ⊥
IsRead Bad = Unit {0}
IsRead OpenEnded = Unit {0}
IsRead (Whole kind head size) = Unit {0}

longer : (n : ℕ) (h t : List ℕ) → n ≤ length h → ltb (length (h ++ t)) n ≡ false
longer n h t le = le-ltb _ _ (omega (arith, length-append h t))

-- a head that was read stays
pub head_stable : (h t : List ℕ) → IsRead (head_of h) → head_of (h ++ t) ≡ head_of h
unfolding head_of
head_stable h t read =
    elim (cases_Bool (ltb (length h) 8)) [
      | inl lt ↦ absurd (rw lt at read)
      | inr ge ↦
          let eight : 8 ≤ length h = ltb-false _ _ ge in
          elim (cases_Bool (eqb (number32_at 0 h) 0)) [
            | inl none ↦ rw (longer 8 h t eight, ge, field_stable h t eight, none) refl
            | inr some ↦ elim (cases_Bool (ltb (length h) (head_len h))) [
              | inl cut ↦ absurd (rw (ge, some, cut) at read)
              | inr there ↦
                  let le : head_len h ≤ length h = ltb-false _ _ there in
                  rw (longer 8 h t eight, ge, field_stable h t eight, some, head_len_stable h t eight, longer (head_len h) h t le, there, box_len_stable h t eight le, part_stable 4 4 h t (omega arith)) refl
            ]
          ]
    ]

abbrev pub Tight : ℕ → Head → Type 0
Tight count Short = Unit {0}
Tight count Bad = Unit {0}
Tight count OpenEnded = Unit {0}
Tight count (Whole kind head size) = (count ≤ head) × (count ≤ size)

tight_at : (h t : List ℕ) (count : ℕ) (hd : Head) → head_of (h ++ t) ≡ hd → head_of h ≡ Short → count ≤ length h + 1 → Tight count hd
tight_at h t count Short is e le = tt
tight_at h t count Bad is e le = tt
tight_at h t count OpenEnded is e le = tt
tight_at h t count (Whole kind head size) is e le =
    let w = whole_is (h ++ t) kind head size is in
    elim (cases_lt (length h) 8) [
      | inl lt ↦ (omega (arith, w.head_is, long_head (h ++ t)), omega (arith, w.fits, w.head_is, long_head (h ++ t)))
      | inr ge ↦ let s = short_is h e ge in (omega (arith, w.head_is, head_len_stable h t ge, s), omega (arith, w.fits, w.head_is, head_len_stable h t ge, s))
    ]

-- the byte that makes a head whole is inside the head
pub head_tight : (h t : List ℕ) (count : ℕ) → head_of h ≡ Short → count ≤ length h + 1 → Tight count (head_of (h ++ t))
head_tight h t count e le = tight_at h t count (head_of (h ++ t)) refl e le

short_tight_at : (b : List ℕ) (count : ℕ) (hd : Head) → head_of b ≡ hd → count ≤ 8 → Tight count hd
short_tight_at b count Short is le = tt
short_tight_at b count Bad is le = tt
short_tight_at b count OpenEnded is le = tt
short_tight_at b count (Whole kind head size) is le =
    let w = whole_is b kind head size is in
    (omega (arith, w.head_is, long_head b), omega (arith, w.fits, w.head_is, long_head b))

-- no head is shorter than 8 bytes
pub short_tight : (b : List ℕ) (count : ℕ) → count ≤ 8 → Tight count (head_of b)
short_tight b count le = short_tight_at b count (head_of b) refl le
