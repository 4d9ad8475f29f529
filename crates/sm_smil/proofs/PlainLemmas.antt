-- The least of some places, and tracks without a fault.
use Rattle.std.proofs.Common.{◌≡◌, ◌⊎◌, inl, inr, ◌≤◌, ℕ, List, [], ◌∷◌, length, take, drop, get_or, min, ◌-◌, sym, ◌∙◌, subst, arith}
use Rattle.std.specs.List.{Contains, All}
use Rattle.std.proofs.lemmas.List.{take_all}
use Rattle.std.proofs.lemmas.List.Elements.{All-cons}
use Rattle.sm_smil.proofs.WalkRuled.{stands_first, stands_later, min_either}
use Rattle.sm_model.specs.declared.tag.Tag.{Tag}
use Rattle.sm_smil.specs.declared.raw_track.Form.{Form}
use Rattle.sm_smil.specs.declared.raw_track.RawTrack.{RawTrack}
use Rattle.sm_smil.proofs.Fit.{whole_fit}
use Rattle.sm_smil.specs.Answers.{AreFit}
use Rattle.sm_smil.specs.Ruled.{whole_tracks, faults, IsLeast}

least_more : (x at : ℕ) (xs : List ℕ) → IsLeast at xs → IsLeast (min at x) (x ∷ xs)
least_more x at xs h = record {
  there = placed_by (min_either at x);
  least = All-cons (λ p. min at x ≤ p) x xs (grind arith) (λ k d lt. let le = h.least k d lt in grind (arith, le));
}
  where
    placed_by : ((min at x ≡ at) ⊎ (min at x ≡ x)) → Contains (x ∷ xs) (min at x)
    placed_by (inl e) = subst (λ (k : ℕ). Contains (x ∷ xs) k) (sym e) (stands_later x at xs h.there)
    placed_by (inr e) = subst (λ (k : ℕ). Contains (x ∷ xs) k) (sym e) (stands_first x xs)

pub least_all : (xs : List ℕ) (d n at : ℕ) → 1 ≤ length xs → IsLeast at (take (length xs - 1) (drop 1 xs)) → n ≡ min at (get_or xs 0 d) → IsLeast n xs
least_all [] d n at some h e = absurd (omega arith)
least_all (x ∷ xs) d n at some h e =
    let all : take (length (x ∷ xs) - 1) xs ≡ xs = take_all (length (x ∷ xs) - 1) xs (omega arith) in
    rw e (least_more x at xs (rw all at h))

-- the tracks of a text in which nothing is at fault, where the lists were lent on the way
pub faultless_fit : (form : Form) (size : ℕ) (tags a b : List Tag) (places lent : List ℕ) (tracks lent_tracks : List RawTrack) → a ≡ tags → b ≡ tags
    → places ≡ faults form size a → lent ≡ places → lent ≡ [] → tracks ≡ whole_tracks form b → lent_tracks ≡ tracks → All (λ t. AreFit t.params) lent_tracks
faultless_fit form size tags a b places lent tracks lent_tracks ea eb p l none t lt =
    rw (lt, t, eb) (whole_fit form (whole_tracks form tags) _ (sym (rw ea at p) ∙ (sym l ∙ none)))
