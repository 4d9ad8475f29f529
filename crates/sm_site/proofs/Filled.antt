-- A crash that fills what is pending changes pending bytes alone.
use Rattle.std.proofs.Common.{◌≡◌, ◌⊎◌, inl, inr, ℕ, ◌+◌, ◌≤◌, ◌<◌, false, List, [], ◌∷◌, length, get_or, refl, sym, ◌∙◌, ap, subst, arith, rules}
use Rattle.std.proofs.lemmas.Bool.{cases_eq}
use Rattle.std.proofs.lemmas.List.{places}
use Rattle.std.specs.FinMap as map
use Rattle.sm_site.specs.Image.{Image, bytes_of}
use Rattle.sm_site.specs.Past.{Range, State, IsOutcome, Agrees, is_pending, fill, filled}
use Rattle.sm_site.proofs.Outcomes.{bytes_insert_same, bytes_insert_other, filled_outcome, outside_of, tail_none}

fill_length : (at n byte : ℕ) (bytes : List ℕ) → length (fill at n byte bytes) ≡ length bytes
fill_length at n byte bytes = search (rules, places)

fill_outside : (at n byte i : ℕ) (bytes : List ℕ) → (i < at) ⊎ (at + n ≤ i) → get_or (fill at n byte bytes) i 0 ≡ get_or bytes i 0
fill_outside at n byte i bytes (inl below) = grind (arith, places)
fill_outside at n byte i bytes (inr behind) = grind (arith, places)

pub filled_length : (byte : ℕ) (rs : List Range) (x : Image) (k : ℕ) → length (bytes_of (filled byte x rs) k) ≡ length (bytes_of x k)
filled_length byte [] x k = refl
filled_length byte (r ∷ rs) x k = filled_length byte rs _ k ∙ one
  where
    one : length (bytes_of (map.insert x r.file (fill r.at r.n byte (bytes_of x r.file))) k) ≡ length (bytes_of x k)
    one = elim (cases_eq k r.file) [
      | inl is ↦ subst (λ (q : ℕ). length (bytes_of (map.insert x r.file (fill r.at r.n byte (bytes_of x r.file))) q) ≡ length (bytes_of x q)) (sym is)
          (ap length (bytes_insert_same x r.file (fill r.at r.n byte (bytes_of x r.file))) ∙ fill_length r.at r.n byte (bytes_of x r.file))
      | inr apart ↦ ap length (bytes_insert_other x r.file (fill r.at r.n byte (bytes_of x r.file)) k apart)
    ]

pub filled_kept : (byte : ℕ) (rs : List Range) (x : Image) (k i : ℕ) → is_pending k i rs ≡ false → get_or (bytes_of (filled byte x rs) k) i 0 ≡ get_or (bytes_of x k) i 0
filled_kept byte [] x k i none = refl
filled_kept byte (r ∷ rs) x k i none = filled_kept byte rs _ k i (tail_none _ _ none) ∙ one
  where
    one : get_or (bytes_of (map.insert x r.file (fill r.at r.n byte (bytes_of x r.file))) k) i 0 ≡ get_or (bytes_of x k) i 0
    one = elim (cases_eq k r.file) [
      | inl is ↦
          let out : (i < r.at) ⊎ (r.at + r.n ≤ i) = (outside_of r.file r.at r.n i rs (subst (λ (q : ℕ). is_pending q i (r ∷ rs) ≡ false) is none)).0 in
          subst (λ (q : ℕ). get_or (bytes_of (map.insert x r.file (fill r.at r.n byte (bytes_of x r.file))) q) i 0 ≡ get_or (bytes_of x q) i 0) (sym is)
          (ap (λ (l : List ℕ). get_or l i 0) (bytes_insert_same x r.file (fill r.at r.n byte (bytes_of x r.file))) ∙ fill_outside r.at r.n byte i (bytes_of x r.file) out)
      | inr apart ↦ ap (λ (l : List ℕ). get_or l i 0) (bytes_insert_other x r.file (fill r.at r.n byte (bytes_of x r.file)) k apart)
    ]

pub filled_is_outcome : (byte : ℕ) (s : State) → Agrees s → IsOutcome s (filled byte s.contents s.ranges)
filled_is_outcome byte s agrees = filled_outcome s (filled byte s.contents s.ranges) agrees (λ file. filled_length byte s.ranges s.contents file) (λ file i none. filled_kept byte s.ranges s.contents file i none)
