-- Looking for the first box of a kind.
use Rattle.std.proofs.Common.{◌≡◌, ◌≤◌, ℕ, zero, suc, Bool, true, false, cond, List, [], ◌∷◌, length, drop, Option, Some, None, refl, sym, ap, subst, ◌∙◌, arith}
use Rattle.std.proofs.lemmas.List.{length-drop, drop-drop}
use Rattle.sm_model.specs.Boxes.{Box, box_of, box_len, starts_whole}
use Rattle.sm_model.proofs.BoxLemmas.{long_box, long_text}
use Rattle.sm_box.specs.Place.{Place, left}
use Rattle.sm_box.specs.Walks.{IsItem, IsDone, IsBad}
use Rattle.sm_model.specs.TrackId.{first_in, first_box}

same_by : (p : Box → Bool) (b : List ℕ) (x y : Option Box) (t u : Bool) → starts_whole b ≡ t → (starts_whole b ≡ true → x ≡ y)
    → cond t (cond u (Some (box_of b)) x) None ≡ cond t (cond u (Some (box_of b)) y) None
same_by p b x y false u w e = refl
same_by p b x y true true w e = refl
same_by p b x y true false w e = e w

same : (p : Box → Bool) (n m : ℕ) (b : List ℕ) → length b ≤ n → length b ≤ m → first_in p n b ≡ first_in p m b
unfolding first_in
same p n m [] q r = refl
same p zero m (c ∷ b) q r = absurd (omega (arith, q))
same p (suc n) zero (c ∷ b) q r = absurd (omega (arith, r))
same p (suc n) (suc m) (c ∷ b) q r =
    same_by p (c ∷ b) (first_in p n (drop (box_len (c ∷ b)) (c ∷ b))) (first_in p m (drop (box_len (c ∷ b)) (c ∷ b))) (starts_whole (c ∷ b)) (p (box_of (c ∷ b))) refl
    (λ w. same p n m (drop (box_len (c ∷ b)) (c ∷ b)) (omega (arith, q, long_box (c ∷ b) w, length-drop (box_len (c ∷ b)) (c ∷ b))) (omega (arith, r, long_box (c ∷ b) w, length-drop (box_len (c ∷ b)) (c ∷ b))))

first-nil : (p : Box → Bool) → first_box p [] ≡ None
unfolding first_box first_in
first-nil p = refl

first-none : (p : Box → Bool) (b : List ℕ) → starts_whole b ≡ false → first_box p b ≡ None
unfolding first_box first_in
first-none p [] w = refl
first-none p (c ∷ b) w = rw w refl

first-yes : (p : Box → Bool) (b : List ℕ) → starts_whole b ≡ true → p (box_of b) ≡ true → first_box p b ≡ Some (box_of b)
unfolding first_box first_in
first-yes p [] w e = absurd (omega (arith, long_text [] w))
first-yes p (c ∷ b) w e = rw (w, e) refl

first-no : (p : Box → Bool) (b : List ℕ) → starts_whole b ≡ true → p (box_of b) ≡ false → first_box p b ≡ first_box p (drop (box_len b) b)
unfolding first_box first_in
first-no p [] w e = absurd (omega (arith, long_text [] w))
first-no p (c ∷ b) w e =
    rw (w, e) (same p (length b) (length (drop (box_len (c ∷ b)) (c ∷ b))) (drop (box_len (c ∷ b)) (c ∷ b)) (omega (arith, long_box (c ∷ b) w, length-drop (box_len (c ∷ b)) (c ∷ b))) (omega arith))

-- what is left gives what the whole gives
pub record Seeks (p : Box → Bool) (body : List ℕ) (q : Place) : Type 0 where
  pub body_is : q.body ≡ body
  pub within : q.at ≤ length body
  pub same_first : first_box p (drop q.at body) ≡ first_box p body

pub begins : (p : Box → Bool) (body : List ℕ) (q : Place) → q.body ≡ body → q.at ≡ 0 → Seeks p body q
begins p body q b z = record { body_is = b; within = omega (arith, z); same_first = rw z refl }

size_is : (b : List ℕ) → (box_of b).size ≡ box_len b
unfolding box_of
size_is b = refl

pub passed : (p : Box → Bool) (body : List ℕ) (q r : Place) (kind : List ℕ) (at body_at size : ℕ) → Seeks p body q → IsItem q r kind at body_at size → p (box_of (left q)) ≡ false → Seeks p body r
passed p body q r kind at body_at size s i e =
    let l : left q ≡ drop q.at body = ap (drop q.at) s.body_is in
    let n : size ≡ box_len (left q) = i.size_is ∙ size_is (left q) in
    let d : drop (box_len (left q)) (left q) ≡ drop r.at body
    = ap (λ (k : ℕ). drop k (left q)) (sym n) ∙ drop-drop size q.at q.body ∙ ap (λ (k : ℕ). drop k q.body) (sym i.next) ∙ ap (drop r.at) s.body_is in
    record {
      body_is = i.body ∙ s.body_is;
      within = subst (λ (b : List ℕ). r.at ≤ length b) s.body_is i.inside;
      same_first = sym (ap (first_box p) d) ∙ sym (first-no p (left q) i.whole e) ∙ ap (first_box p) l ∙ s.same_first;
    }

pub found_here : (p : Box → Bool) (body : List ℕ) (q r : Place) (kind : List ℕ) (at body_at size : ℕ) → Seeks p body q → IsItem q r kind at body_at size
    → p (box_of (left q)) ≡ true → first_box p body ≡ Some (box_of (left q))
found_here p body q r kind at body_at size s i e = sym s.same_first ∙ sym (ap (first_box p) (ap (drop q.at) s.body_is)) ∙ first-yes p (left q) i.whole e

pub at_end : (p : Box → Bool) (body : List ℕ) (q r : Place) → Seeks p body q → IsDone q r → first_box p body ≡ None
at_end p body q r s d = sym s.same_first ∙ sym (ap (first_box p) (ap (drop q.at) s.body_is)) ∙ ap (first_box p) d.nothing ∙ first-nil p

pub at_bad : (p : Box → Bool) (body : List ℕ) (q r : Place) (at : ℕ) → Seeks p body q → IsBad q r at → first_box p body ≡ None
at_bad p body q r at s d = sym s.same_first ∙ sym (ap (first_box p) (ap (drop q.at) s.body_is)) ∙ first-none p (left q) d.none
