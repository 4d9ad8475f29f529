-- A text of boxes, one box at a time.
use Rattle.std.proofs.Common.{◌≡◌, ◌≤◌, ◌<◌, ℕ, zero, suc, Bool, true, false, cond, eqb, leb, ◌&&◌, List, [], ◌∷◌, ◌++◌, length, drop, Option, Some, None, refl, sym, ap, append_assoc, arith}
use Rattle.std.specs.Option.{option_map}
use Rattle.std.proofs.lemmas.Bool.{and_parts, and_from, leb-true, le-leb}
use Rattle.std.proofs.lemmas.List.{length-drop}
use Rattle.sm_model.specs.Numbers.{number32_at}
use Rattle.sm_model.specs.Boxes.{Box, head_len, box_len, box_of, starts_whole, boxes_in, boxes}

pub long_head : (b : List ℕ) → 8 ≤ head_len b
unfolding head_len
long_head b = elim (eqb (number32_at 0 b) 1) as (λ v. 8 ≤ cond v 16 8) [ true ↦ omega arith | false ↦ omega arith ]

-- what a whole box in front says of the lengths
pub record Lengths (b : List ℕ) : Type 0 where
  pub eight : 8 ≤ length b
  pub head : head_len b ≤ box_len b
  pub size : box_len b ≤ length b

pub lengths : (b : List ℕ) → starts_whole b ≡ true → Lengths b
unfolding starts_whole
lengths b w =
    let p = and_parts (leb 8 (length b)) (leb (head_len b) (box_len b) && leb (box_len b) (length b)) w in
    let q = and_parts (leb (head_len b) (box_len b)) (leb (box_len b) (length b)) p.1 in
    record { eight = leb-true _ _ p.0; head = leb-true _ _ q.0; size = leb-true _ _ q.1 }

pub is_whole : (b : List ℕ) → Lengths b → starts_whole b ≡ true
unfolding starts_whole
is_whole b l =
    and_from (leb 8 (length b)) (leb (head_len b) (box_len b) && leb (box_len b) (length b)) (le-leb _ _ l.eight)
    (and_from (leb (head_len b) (box_len b)) (leb (box_len b) (length b)) (le-leb _ _ l.head) (le-leb _ _ l.size))

-- a whole box takes at least eight bytes
pub long_box : (b : List ℕ) → starts_whole b ≡ true → 8 ≤ box_len b
long_box b w = omega (arith, (lengths b w).head, long_head b)

pub long_text : (b : List ℕ) → starts_whole b ≡ true → 8 ≤ length b
long_text b w = (lengths b w).eight

same_by : (b : List ℕ) (x y : Option (List Box)) (t : Bool) → starts_whole b ≡ t → (starts_whole b ≡ true → x ≡ y)
    → cond t (option_map (λ xs. box_of b ∷ xs) x) None ≡ cond t (option_map (λ xs. box_of b ∷ xs) y) None
same_by b x y true w e = ap (option_map (λ (xs : List Box). box_of b ∷ xs)) (e w)
same_by b x y false w e = refl

-- enough steps are enough
pub same : (n m : ℕ) (b : List ℕ) → length b ≤ n → length b ≤ m → boxes_in n b ≡ boxes_in m b
unfolding boxes_in
same n m [] p q = refl
same zero m (c ∷ b) p q = absurd (omega (arith, p))
same (suc n) zero (c ∷ b) p q = absurd (omega (arith, q))
same (suc n) (suc m) (c ∷ b) p q =
    same_by (c ∷ b) (boxes_in n (drop (box_len (c ∷ b)) (c ∷ b))) (boxes_in m (drop (box_len (c ∷ b)) (c ∷ b))) (starts_whole (c ∷ b)) refl
    (λ w. same n m (drop (box_len (c ∷ b)) (c ∷ b)) (omega (arith, p, long_box (c ∷ b) w, length-drop (box_len (c ∷ b)) (c ∷ b)))
    (omega (arith, q, long_box (c ∷ b) w, length-drop (box_len (c ∷ b)) (c ∷ b))))

pub boxes-nil : boxes [] ≡ Some []
unfolding boxes boxes_in
boxes-nil = refl

pub boxes-whole : (b : List ℕ) → starts_whole b ≡ true → boxes b ≡ option_map (λ xs. box_of b ∷ xs) (boxes (drop (box_len b) b))
unfolding boxes boxes_in
boxes-whole [] w = absurd (omega (arith, long_text [] w))
boxes-whole (c ∷ b) w =
    rw w (ap (option_map (λ (xs : List Box). box_of (c ∷ b) ∷ xs)) (same (length b) (length (drop (box_len (c ∷ b)) (c ∷ b))) (drop (box_len (c ∷ b)) (c ∷ b))
    (omega (arith, long_box (c ∷ b) w, length-drop (box_len (c ∷ b)) (c ∷ b))) (omega arith)))

pub boxes-none : (b : List ℕ) → 0 < length b → starts_whole b ≡ false → boxes b ≡ None
unfolding boxes boxes_in
boxes-none [] p w = absurd (omega (arith, p))
boxes-none (c ∷ b) p w = rw w refl

-- the boxes so far, in front of what the rest gives
abbrev pub with_front : List Box → Option (List Box) → Option (List Box)
with_front front rest = option_map (λ xs. front ++ xs) rest

front_more : (front : List Box) (x : Box) (rest : Option (List Box)) → with_front front (option_map (λ xs. x ∷ xs) rest) ≡ with_front (front ++ x ∷ []) rest
front_more front x None = refl
front_more front x (Some xs) = ap (λ (ys : List Box). Some ys) (sym (append_assoc front (x ∷ []) xs))

pub goes_on : (front : List Box) (b : List ℕ) → starts_whole b ≡ true → with_front front (boxes b) ≡ with_front (front ++ box_of b ∷ []) (boxes (drop (box_len b) b))
goes_on front b w = rw (boxes-whole b w) (front_more front (box_of b) (boxes (drop (box_len b) b)))

pub head_below : (b : List ℕ) → starts_whole b ≡ true → head_len b ≤ box_len b
head_below b w = (lengths b w).head

pub size_of : (b : List ℕ) → (box_of b).size ≡ box_len b
unfolding box_of
size_of b = refl
