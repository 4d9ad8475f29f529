-- A head that was read, and a whole box in front.
use Rattle.std.proofs.Common.{◌≡◌, ◌≤◌, ◌<◌, ℕ, zero, suc, Bool, true, false, cond, eqb, ltb, leb, List, length, take, drop, refl, subst, ◌∙◌, ◌&&◌, arith}
use Rattle.std.proofs.lemmas.Bool.{ltb-false, lt-leb, le-ltb, ne_eqb, and_right}
use Rattle.sm_model.specs.Numbers.{number32_at, number64_at}
use Rattle.sm_model.specs.Boxes.{head_len, box_len, box_of, starts_whole}
use Rattle.sm_model.proofs.BoxLemmas.{lengths, is_whole}
use Rattle.sm_box.specs.declared.head.Head.{Head}
use Rattle.sm_box.specs.declared.head.Head.TheVariants.{Whole, Short, Bad, OpenEnded}
use Rattle.sm_box.specs.Heads.{head_of}
use Rattle.sm_box.specs.Walks.{IsFront}

no_field : (n m : ℕ) → cond (eqb n 1) 16 8 ≤ cond (eqb n 1) m n → n ≡ 0 → ⊥
no_field zero m le e = omega (arith, le)
no_field (suc n) m le e = omega (arith, e)

-- a size field of 0 leaves the size below the head
pub field_is : (b : List ℕ) → head_len b ≤ box_len b → number32_at 0 b ≡ 0 → ⊥
unfolding head_len box_len
field_is b le e = no_field (number32_at 0 b) (number64_at 8 b) le e

-- a whole box in front is read as what it is
pub whole_head : (b : List ℕ) → starts_whole b ≡ true → head_of b ≡ Whole (take 4 (drop 4 b)) (head_len b) (box_len b)
unfolding head_of
whole_head b e =
    let p = lengths b e in
    let f1 : ltb (length b) 8 ≡ false = le-ltb _ _ p.eight in
    let f2 : eqb (number32_at 0 b) 0 ≡ false = ne_eqb _ _ (field_is b p.head) in
    let f3 : ltb (length b) (head_len b) ≡ false = le-ltb _ _ (omega (arith, p.head, p.size)) in
    let f4 : ltb (box_len b) (head_len b) ≡ false = le-ltb _ _ p.head in
    rw (f1, f2, f3, f4) refl

abbrev pub IsOther : Head → Type 0
IsOther (Whole k h s) = ⊥
IsOther Short = Unit {0}
IsOther Bad = Unit {0}
IsOther OpenEnded = Unit {0}

other : (b : List ℕ) (h : Head) (t : Bool) → starts_whole b ≡ t → h ≡ head_of b → IsOther h → t ≡ false
other b h false w e o = refl
other b h true w e o = absurd (subst IsOther (e ∙ whole_head b w) o)

-- where the head is not read as whole, no whole box stands in front
pub no_whole : (b : List ℕ) (h : Head) → h ≡ head_of b → IsOther h → starts_whole b ≡ false
no_whole b h e o = other b h (starts_whole b) refl e o

-- what a whole head says
pub record Says (b kind : List ℕ) (head size : ℕ) : Type 0 where
  pub eight : 8 ≤ length b
  pub kind_is : kind ≡ take 4 (drop 4 b)
  pub head_is : head ≡ head_len b
  pub size_is : size ≡ box_len b
  pub fits : head ≤ size

says : (b kind : List ℕ) (head size : ℕ) (b1 b2 b3 b4 : Bool) → ltb (length b) 8 ≡ b1 → ltb (box_len b) (head_len b) ≡ b4
    → Whole kind head size ≡ cond b1 Short (cond b2 OpenEnded (cond b3 Short (cond b4 Bad (Whole (take 4 (drop 4 b)) (head_len b) (box_len b))))) → Says b kind head size
says b kind head size true b2 b3 b4 p q e = absurd cc
says b kind head size false true b3 b4 p q e = absurd cc
says b kind head size false false true b4 p q e = absurd cc
says b kind head size false false false true p q e = absurd cc
says b kind head size false false false false p q e =
    let h : head ≡ head_len b = cc in
    let s : size ≡ box_len b = cc in
    record { eight = ltb-false _ _ p; kind_is = cc; head_is = h; size_is = s; fits = omega (arith, ltb-false _ _ q) }

-- the head that is read as whole is the one that stands there
pub head_says : (b kind : List ℕ) (head size : ℕ) → Whole kind head size ≡ head_of b → Says b kind head size
unfolding head_of
head_says b kind head size e = says b kind head size _ _ _ _ refl refl e

-- a body that is cut is no whole box
pub is_cut : (b kind : List ℕ) (head size : ℕ) → Says b kind head size → length b < size → starts_whole b ≡ false
unfolding starts_whole
is_cut b kind head size s lt =
    let q : leb (box_len b) (length b) ≡ false = lt-leb _ _ (omega (arith, s.size_is)) in
    and_right (leb 8 (length b)) (leb (head_len b) (box_len b) && leb (box_len b) (length b)) (and_right (leb (head_len b) (box_len b)) (leb (box_len b) (length b)) q)

-- a body that is there makes a whole box
pub front : (b kind : List ℕ) (head size : ℕ) → Says b kind head size → size ≤ length b → IsFront b head size
unfolding box_of
front b kind head size s le = record {
  whole = is_whole b (record { eight = s.eight; head = omega (arith, s.fits, s.head_is, s.size_is); size = omega (arith, s.size_is) });
  eight = s.eight;
  head_is = s.head_is;
  size_is = s.size_is;
  fits = s.fits;
  inside = le;
}
