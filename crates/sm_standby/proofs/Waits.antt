-- Addresses that wait: the first of a place, and the others.
use Rattle.std.proofs.Common.{◌≡◌, ◌+◌, ◌<◌, ℕ, zero, suc, ltb, ◌≤◌, Bool, true, false, cond, not, eqb, List, [], ◌∷◌, length, get_or, slice_get, Some, None, refl, ap, sym, ◌∙◌, arith}
use Rattle.std.specs.List.{position, position_or_len, prefix_len, remove}
use Rattle.std.proofs.lemmas.List.Folds.{find_at}
use Rattle.std.proofs.lemmas.List.Quantifiers.{position-Some}
use Rattle.sm_standby.specs.declared.held.Later.{Later}
use Rattle.sm_standby.specs.Waiting.{due, without}

has : ℕ → Later → Bool
has place l = eqb l.place place

one-more : (n : ℕ) → 1 + n ≡ suc n
one-more n = omega arith

by : (place : ℕ) (l : Later) (ls : List Later) (b : Bool) → without place ls ≡ remove ls (position_or_len (λ l. eqb l.place place) ls)
    → cond b ls (l ∷ without place ls) ≡ remove (l ∷ ls) (cond (not b) (1 + prefix_len (λ l. not (eqb l.place place)) ls) 0)
by place l ls true more = refl
by place l ls false more = rw (one-more (prefix_len (λ l. not (eqb l.place place)) ls)) (ap (λ (xs : List Later). l ∷ xs) more)

pub without-is : (place : ℕ) (ls : List Later) → without place ls ≡ remove ls (position_or_len (λ l. eqb l.place place) ls)
without-is place [] = refl
without-is place (l ∷ ls) = by place l ls (eqb l.place place) (without-is place ls)

-- ---- places in a list

pub get-here : {X : Type 0} (xs : List X) (i : ℕ) (d : X) → i < length xs → slice_get xs i ≡ Some (get_or xs i d)
get-here [] i d h = absurd (omega (arith, h))
get-here (x ∷ xs) zero d h = refl
get-here (x ∷ xs) (suc i) d h = get-here xs i d (omega (arith, h))

pub get-behind : {X : Type 0} (xs : List X) (i : ℕ) → length xs ≤ i → slice_get xs i ≡ None
get-behind [] i h = refl
get-behind (x ∷ xs) zero h = absurd (omega (arith, h))
get-behind (x ∷ xs) (suc i) h = get-behind xs i (omega (arith, h))

place-is : (b : Bool) (n at : ℕ) → Some at ≡ cond b (Some n) None → n ≡ at
place-is true n at e = cc
place-is false n at e = absurd (cc)

no-place : (b : Bool) (n : ℕ) → None ≡ cond b (Some n) None → b ≡ false
no-place true n e = absurd (cc)
no-place false n e = refl

-- ---- the one that is due

pub taken-due : (place at : ℕ) (items ls : List Later) (l : Later) → items ≡ ls → Some at ≡ position (λ l. eqb l.place place) items → l ≡ get_or ls at l → Some l ≡ due place ls
taken-due place at items ls l same is here =
    let found : Some at ≡ position (λ l. eqb l.place place) ls = is ∙ ap (λ (xs : List Later). position (λ l. eqb l.place place) xs) same in
    let within = position-Some (λ (l : Later). eqb l.place place) ls at l (sym found) in
    let e = place-is (ltb (position_or_len (λ (l : Later). eqb l.place place) ls) (length ls)) (position_or_len (λ (l : Later). eqb l.place place) ls) at found in
    sym (find_at (λ (l : Later). eqb l.place place) ls ∙ (ap (λ (i : ℕ). slice_get ls i) e ∙ (get-here ls at l within.0 ∙ ap (λ (x : Later). Some x) (sym here))))

pub taken-rest : (place at : ℕ) (items ls rest : List Later) → items ≡ ls → Some at ≡ position (λ l. eqb l.place place) items → rest ≡ remove ls at → rest ≡ without place ls
taken-rest place at items ls rest same is r =
    let found : Some at ≡ position (λ l. eqb l.place place) ls = is ∙ ap (λ (xs : List Later). position (λ l. eqb l.place place) xs) same in
    let e = place-is (ltb (position_or_len (λ (l : Later). eqb l.place place) ls) (length ls)) (position_or_len (λ (l : Later). eqb l.place place) ls) at found in
    r ∙ (ap (λ (i : ℕ). remove ls i) (sym e) ∙ sym (without-is place ls))

none-due : (place : ℕ) (ls : List Later) → length ls ≤ position_or_len (λ l. eqb l.place place) ls → (None ≡ due place ls) × (ls ≡ without place ls)
none-due place [] h = (refl, refl)
none-due place (l ∷ ls) h = step (eqb l.place place) h (none-due place ls)
  where
    step : (b : Bool) → length (l ∷ ls) ≤ cond (not b) (1 + prefix_len (λ l. not (eqb l.place place)) ls) 0
        → (length ls ≤ position_or_len (λ l. eqb l.place place) ls → (None ≡ due place ls) × (ls ≡ without place ls))
        → (None ≡ cond b (Some l) (due place ls)) × (l ∷ ls ≡ cond b ls (l ∷ without place ls))
    step true h more = absurd (omega (arith, h))
    step false h more = let m = more (omega (arith, h)) in (m.0, ap (λ (xs : List Later). l ∷ xs) m.1)

pub nothing-due : (place : ℕ) (items ls : List Later) → items ≡ ls → None ≡ position (λ l. eqb l.place place) items → (None ≡ due place ls) × (ls ≡ without place ls)
nothing-due place items ls same is =
    let found : None ≡ position (λ l. eqb l.place place) ls = is ∙ ap (λ (xs : List Later). position (λ l. eqb l.place place) xs) same in
    let f = no-place (ltb (position_or_len (λ (l : Later). eqb l.place place) ls) (length ls)) (position_or_len (λ (l : Later). eqb l.place place) ls) found in
    none-due place ls (grind arith)

pub row-none : {X : Type 0} (xs ys : List X) (i : ℕ) → xs ≡ ys → false ≡ ltb i (length xs) → slice_get ys i ≡ None
row-none xs ys i same f = get-behind ys i (let g : false ≡ ltb i (length ys) = f ∙ ap (λ (zs : List _). ltb i (length zs)) same in grind arith)
