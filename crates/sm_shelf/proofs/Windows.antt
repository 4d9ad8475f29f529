-- The window of a list.
use Rattle.std.proofs.Common.{◌≡◌, ◌≤◌, ◌<◌, ◌+◌, ◌-◌, ◌^◌, min, inl, inr, ℕ, suc, Bool, true, false, cond, leb, List, [], ◌∷◌, ◌++◌, length, take, get_or, All, refl, sym, ap, subst, ◌∙◌, le_refl, arith}
use Rattle.std.proofs.lemmas.Bool.{cases_lt}
use Rattle.std.proofs.lemmas.Bool.Decides.{nat_tests}
use Rattle.std.proofs.lemmas.List.{length-map, map-append, take_more, get_or-map}
use Rattle.std.proofs.lemmas.List.Elements.{All-append}
use Rattle.std.proofs.lemmas.List.Sums.{sum_by-cons, sum_by-append}
use Rattle.std.specs.Arc.{arc_value}
use Rattle.std.specs.declared.alloc.Global.{Global}
use Rattle.std.specs.declared.sync.Arc.{Arc}
use Rattle.sm_model.specs.declared.fragment.Fragment.{Fragment}
use Rattle.sm_model.specs.Fragments.{IsValid, sample_bytes}
use Rattle.sm_log.specs.Digests.{bytes_of, window_of}
use Rattle.sm_shelf.specs.Parts.{held_in}

pub window_fits : (fs : List Fragment) → bytes_of fs ≤ 67108864 → window_of fs ≡ fs
window_fits [] h = refl
window_fits (f ∷ fs) h =
    let e : leb (bytes_of (f ∷ fs)) 67108864 ≡ true = grind (arith, nat_tests, h) in
    rw e refl

pub window_step : (f : Fragment) (fs : List Fragment) → 67108864 < bytes_of (f ∷ fs) → window_of (f ∷ fs) ≡ window_of fs
window_step f fs h =
    let e : leb (bytes_of (f ∷ fs)) 67108864 ≡ false = grind (arith, nat_tests, h) in
    rw e refl

pub window_short : (fs : List Fragment) → length (window_of fs) ≤ length fs
window_short [] = le_refl 0
window_short (f ∷ fs) = by_test (leb (bytes_of (f ∷ fs)) 67108864) (window_short fs)
  where
    by_test : (b : Bool) → length (window_of fs) ≤ length fs → length (cond b (f ∷ fs) (window_of fs)) ≤ suc (length fs)
    by_test true h = le_refl (suc (length fs))
    by_test false h = omega (arith, h)

-- the window is what is behind some of them
pub window_behind : (fs : List Fragment) → (front : List Fragment) × (fs ≡ front ++ window_of fs)
window_behind [] = ([], refl)
window_behind (f ∷ fs) = by_test (leb (bytes_of (f ∷ fs)) 67108864) (window_behind fs)
  where
    by_test : (b : Bool) → (front : List Fragment) × (fs ≡ front ++ window_of fs) → (front : List Fragment) × (f ∷ fs ≡ front ++ cond b (f ∷ fs) (window_of fs))
    by_test true more = ([], refl)
    by_test false more = (f ∷ more.0, ap (λ (l : List Fragment). f ∷ l) more.1)

-- what is in front of more than fits doesn't count
pub window_over : (front back : List Fragment) → 67108864 < bytes_of back → window_of (front ++ back) ≡ window_of back
window_over [] back over = refl
window_over (f ∷ front) back over =
    let whole = sum_by-append (λ (g : Fragment). sample_bytes g.samples) (f ∷ front) back in
    window_step f (front ++ back) (omega (arith, over, whole)) ∙ window_over front back over

-- the window of a list with one more is that of its window with one more
pub window_grows : (fs : List Fragment) (f : Fragment) → window_of (window_of fs ++ f ∷ []) ≡ window_of (fs ++ f ∷ [])
window_grows [] f = refl
window_grows (g ∷ fs) f = elim (cases_lt 67108864 (bytes_of (g ∷ fs))) [
  | inr fits ↦ ap (λ (l : List Fragment). window_of (l ++ f ∷ [])) (window_fits (g ∷ fs) fits)
  | inl over ↦
      let whole = sum_by-append (λ (h : Fragment). sample_bytes h.samples) (g ∷ fs) (f ∷ []) in
      let more : 67108864 < bytes_of (g ∷ (fs ++ f ∷ [])) = omega (arith, over, whole) in
      ap (λ (l : List Fragment). window_of (l ++ f ∷ [])) (window_step g fs over) ∙ window_grows fs f ∙ sym (window_step g (fs ++ f ∷ []) more)
]

-- so it grows along a list
pub next_window : (fs w w' : List Fragment) (i : ℕ) (f : Fragment) → w ≡ window_of (take i fs) → i < length fs → f ≡ get_or fs i f → w' ≡ window_of (w ++ f ∷ [])
    → w' ≡ window_of (take (i + 1) fs)
next_window fs w w' i f so within is more =
    more ∙ ap (λ (l : List Fragment). window_of (l ++ f ∷ [])) so ∙ window_grows (take i fs) f ∙ ap (λ (g : Fragment). window_of (take i fs ++ g ∷ [])) is
    ∙ ap window_of (sym (take_more fs i f within))

-- the first one leaves
pub popped : (fs gs : List Fragment) (f : Fragment) (left size : ℕ) → fs ≡ f ∷ gs → left ≡ bytes_of fs → 67108864 < left → size ≡ min (sample_bytes f.samples) (2 ^ 64 - 1)
    → All IsValid fs → (window_of gs ≡ window_of fs) × (left - size ≡ bytes_of gs) × All IsValid gs
popped fs gs f left size is sum over of all =
    let whole : left ≡ bytes_of (f ∷ gs) = sum ∙ ap bytes_of is in
    let valid : All IsValid (f ∷ gs) = subst (All IsValid) is all in
    let parts : bytes_of (f ∷ gs) ≡ sample_bytes f.samples + bytes_of gs = sum_by-cons (λ (g : Fragment). sample_bytes g.samples) f gs in
    let more : 67108864 < bytes_of (f ∷ gs) = omega (arith, whole, over) in
    let first : IsValid f = valid 0 f (omega arith) in
    let short = first.short in
    (sym (window_step f gs more) ∙ ap window_of (sym is), omega (arith, whole, parts, of, short), λ k d lt. valid (suc k) d (omega (arith, lt)))

-- ---- of blocks

pub snoc_valid : (fs : List Fragment) (f : Fragment) → All IsValid fs → IsValid f → All IsValid (fs ++ f ∷ [])
snoc_valid fs f all one = All-append IsValid fs (f ∷ []) all (λ k d lt. subst (λ (j : ℕ). IsValid (get_or (f ∷ []) j d)) (sym (first k lt)) one)
  where
    first : (k : ℕ) → k < 1 → k ≡ 0
    first k lt = omega (arith, lt)

pub held_snoc : (old new : List (Arc Fragment Global)) (x : Arc Fragment Global) → new ≡ old ++ x ∷ [] → held_in new ≡ held_in old ++ arc_value x ∷ []
held_snoc old new x is = ap held_in is ∙ map-append arc_value old (x ∷ [])

pub bytes_snoc : (fs : List Fragment) (f : Fragment) → bytes_of (fs ++ f ∷ []) ≡ bytes_of fs + sample_bytes f.samples
bytes_snoc fs f =
    let both = sum_by-append (λ (g : Fragment). sample_bytes g.samples) fs (f ∷ []) in
    let one : bytes_of (f ∷ []) ≡ sample_bytes f.samples = omega arith in
    omega (arith, both, one)

-- one block more is held
pub copied : (items was now : List (Arc Fragment Global)) (i : ℕ) (x y : Arc Fragment Global) → held_in was ≡ take i (held_in items) → i < length items → x ≡ get_or items i x
    → arc_value y ≡ arc_value x → now ≡ was ++ y ∷ [] → held_in now ≡ take (i + 1) (held_in items)
copied items was now i x y so within is same more =
    let long = length-map items arc_value in
    let got : get_or (held_in items) i (arc_value x) ≡ arc_value x = get_or-map arc_value items i x (arc_value x) within ∙ ap arc_value (sym is) in
    let next = take_more (held_in items) i (arc_value x) (omega (arith, within, long)) in
    ap held_in more ∙ map-append arc_value was (y ∷ []) ∙ ap (λ (f : Fragment). held_in was ++ f ∷ []) same ∙ ap (λ (l : List Fragment). l ++ arc_value x ∷ []) so
    ∙ ap (λ (f : Fragment). take i (held_in items) ++ f ∷ []) (sym got) ∙ sym next

-- each block that is held is valid
pub valid_at : (items : List (Arc Fragment Global)) (i : ℕ) (x : Arc Fragment Global) → All IsValid (held_in items) → i < length items → x ≡ get_or items i x → IsValid (arc_value x)
valid_at items i x all within is =
    subst IsValid (get_or-map arc_value items i x (arc_value x) within ∙ ap arc_value (sym is)) (all i (arc_value x) (let long = length-map items arc_value in omega (arith, within, long)))
