-- What is walked over says what the rule says.
use Rattle.std.proofs.Common.{◌≡◌, ◌⊎◌, inl, inr, ◌≤◌, ℕ, zero, suc, Bool, List, [], ◌∷◌, ◌++◌, map, take, min, Option, Some, None, option_to_list, Result, Ok, Err, refl, ap, sym, ◌∙◌, subst, arith}
use Rattle.std.specs.List.{Contains, flat_map, AllByRecursion}
use Rattle.std.proofs.lemmas.List.Concat.{flat_map-cons}
use Rattle.std.proofs.lemmas.List.Elements.{All-from_recursion, All-contains}
use Rattle.sm_model.specs.declared.tag.Tag.{Tag}
use Rattle.sm_smil.specs.declared.raw_track.Form.{Form}
use Rattle.sm_smil.specs.declared.raw_track.RawTrack.{RawTrack}
use Rattle.sm_smil.specs.LiveWalk.{nothing_met, walk_tags}
use Rattle.sm_smil.specs.LiveFaults.{inner_faults, tracks_faults, open_faults, text_faults, faults_of}
use Rattle.sm_model.specs.Places.{least_from}
use Rattle.sm_tag.specs.Elements.{bad_of}
use Rattle.sm_smil.specs.LiveManifests.{fault_of, tracks_or_fault}
use Rattle.sm_tag.proofs.WrittenTags.{append_nil}
use Rattle.sm_smil.proofs.WalkPlaced.{Walked, reaches, or_first}
use Rattle.sm_smil.specs.Placed.{placed, place_behind, other_places}
use Rattle.sm_smil.specs.Ruled.{all_tracks, whole_tracks, cut_tracks, faults, IsLeast, IsRuled}

-- ---- the least of some places

pub stands_first : (x : ℕ) (xs : List ℕ) → Contains (x ∷ xs) x
stands_first x xs = (0, omega arith, refl)

pub stands_later : (x y : ℕ) (xs : List ℕ) → Contains xs y → Contains (x ∷ xs) y
stands_later x y xs (k, within, is) = (suc k, omega (arith, within), is)

stands_nowhere : (y : ℕ) → Contains [] y → ⊥
stands_nowhere y (k, within, is) = omega (arith, within)

-- the least of a place and others
record LeastOf (m n : ℕ) (xs : List ℕ) : Type 0 where
  found : least_from (Some m) xs ≡ Some n
  first : n ≤ m
  others : AllByRecursion (λ p. n ≤ p) xs
  there : (n ≡ m) ⊎ Contains xs n

pub min_either : (m x : ℕ) → (min m x ≡ m) ⊎ (min m x ≡ x)
min_either m x = grind arith

least_some : (m : ℕ) (xs : List ℕ) → (n : ℕ) × LeastOf m n xs
least_some m [] = (m, record { found = refl; first = omega arith; others = tt; there = inl refl })
least_some m (x ∷ xs) =
    let w = least_some (min m x) xs in
    let n = w.0 in
    let h = w.1 in
    let le : n ≤ min m x = h.first in
    (n, record { found = h.found; first = omega (arith, le); others = (omega (arith, le), h.others); there = placed_by n h.there })
  where
    placed_by : (n : ℕ) → ((n ≡ min m x) ⊎ Contains xs n) → (n ≡ m) ⊎ Contains (x ∷ xs) n
    placed_by n (inr c) = inr (stands_later x n xs c)
    placed_by n (inl e) = elim (min_either m x) [
      | inl f ↦ inl (e ∙ f)
      | inr f ↦ inr (subst (λ (k : ℕ). Contains (x ∷ xs) k) (sym (e ∙ f)) (stands_first x xs))
    ]

least_there : (x : ℕ) (xs : List ℕ) → (n : ℕ) × (least_from None (x ∷ xs) ≡ Some n) × IsLeast n (x ∷ xs)
least_there x xs =
    let w = least_some x xs in
    let n = w.0 in
    let h = w.1 in
    (n, h.found, record { there = at_first n h.there; least = All-from_recursion (λ (p : ℕ). n ≤ p) (x ∷ xs) (h.first, h.others) })
  where
    at_first : (n : ℕ) → ((n ≡ x) ⊎ Contains xs n) → Contains (x ∷ xs) n
    at_first n (inl e) = subst (λ (k : ℕ). Contains (x ∷ xs) k) (sym e) (stands_first x xs)
    at_first n (inr c) = stands_later x n xs c

one_least : (a b : ℕ) (xs : List ℕ) → IsLeast a xs → IsLeast b xs → a ≡ b
one_least a b xs h k =
    let below : a ≤ b = All-contains (λ (p : ℕ). a ≤ p) xs b h.least k.there in
    let above : b ≤ a = All-contains (λ (p : ℕ). b ≤ p) xs a k.least h.there in
    omega (arith, below, above)

least_found : (a : ℕ) (xs : List ℕ) → IsLeast a xs → least_from None xs ≡ Some a
least_found a [] h = absurd (stands_nowhere a h.there)
least_found a (x ∷ xs) h =
    let w = least_there x xs in
    w.1 ∙ ap (λ (k : ℕ). Some k) (one_least w.0 a (x ∷ xs) w.2 h)

-- ---- the faults

open_is : (o : Option RawTrack) → open_faults o ≡ flat_map inner_faults (option_to_list o)
open_is None = refl
open_is (Some t) = sym (flat_map-cons inner_faults t [] ∙ append_nil (inner_faults t))

first_is : (xs : List ℕ) → option_to_list (or_first None xs) ≡ take 1 xs
first_is [] = refl
first_is (x ∷ xs) = refl

behind_is : (n : ℕ) (ts : List (RawTrack × Bool)) → option_to_list (or_first None (place_behind n ts)) ≡ place_behind n ts
behind_is n [] = refl
behind_is zero (t ∷ ts) = refl
behind_is (suc n) (t ∷ ts) = behind_is n ts

walked : (form : Form) (tags : List Tag) → Walked 64 [] None None (all_tracks form tags) (other_places (placed [] tags)) (walk_tags form nothing_met tags)
walked form tags = reaches form tags 64 [] None [] None None refl tt

done_is : (form : Form) (tags : List Tag) → (walk_tags form nothing_met tags).done ≡ whole_tracks form tags
done_is form tags = (walked form tags).ended

faults_are : (form : Form) (size : ℕ) (tags : List Tag) → faults_of form size (bad_of tags) (walk_tags form nothing_met tags) ≡ faults form size tags
faults_are form size tags =
    let w = walked form tags in
    let current : open_faults (walk_tags form nothing_met tags).current ≡ flat_map inner_faults (cut_tracks form tags) = open_is (walk_tags form nothing_met tags).current ∙ ap (flat_map inner_faults) w.current in
    let other : option_to_list (walk_tags form nothing_met tags).other ≡ take 1 (other_places (placed [] tags)) = ap option_to_list w.other_is ∙ first_is (other_places (placed [] tags)) in
    let over : option_to_list (walk_tags form nothing_met tags).over ≡ place_behind 64 (all_tracks form tags) = ap option_to_list w.over_is ∙ behind_is 64 (all_tracks form tags) in
    let done = done_is form tags in
    parts _ _ _ _ _ _ _ _ _ _ (ap (tracks_faults form []) done) current other over (ap (text_faults size (bad_of tags)) done)
  where
    parts : (a b c d e f g h i j : List ℕ) → a ≡ f → b ≡ g → c ≡ h → d ≡ i → e ≡ j → a ++ (b ++ (c ++ (d ++ e))) ≡ f ++ (g ++ (h ++ (i ++ j)))
    parts a b c d e f g h i j p q r s t = rw (p, q, r, s, t) refl

fault_is : (form : Form) (size : ℕ) (tags : List Tag) → fault_of form size tags ≡ least_from None (faults form size tags)
fault_is form size tags = ap (least_from None) (faults_are form size tags)

-- ---- what a text says

pub ruled : {X : Type 0} (track : RawTrack → X) (form : Form) (size : ℕ) (tags : List Tag) → IsRuled track form size tags (tracks_or_fault track (fault_of form size tags) (walk_tags form nothing_met tags).done)
ruled track form size tags =
    subst (λ o. IsRuled track form size tags (tracks_or_fault track o (walk_tags form nothing_met tags).done)) (sym (fault_is form size tags)) (by_faults (faults form size tags) refl)
  where
    by_faults : (fs : List ℕ) → faults form size tags ≡ fs → IsRuled track form size tags (tracks_or_fault track (least_from None fs) (walk_tags form nothing_met tags).done)
    by_faults [] e = (e, ap (map track) (done_is form tags))
    by_faults (x ∷ xs) e =
        let w = least_there x xs in
        subst (λ o. IsRuled track form size tags (tracks_or_fault track o (walk_tags form nothing_met tags).done)) (sym w.1) (subst (λ (l : List ℕ). IsLeast w.0 l) (sym e) w.2)

pub ruled_so : {X : Type 0} (track : RawTrack → X) (form : Form) (size : ℕ) (tags : List Tag) (r : Result (List X) ℕ) → IsRuled track form size tags r
    → r ≡ tracks_or_fault track (fault_of form size tags) (walk_tags form nothing_met tags).done
ruled_so track form size tags (Ok xs) h =
    let none : fault_of form size tags ≡ None = fault_is form size tags ∙ ap (least_from None) h.0 in
    let same : map track (walk_tags form nothing_met tags).done ≡ xs = ap (map track) (done_is form tags) ∙ sym h.1 in
    sym (ap (λ o. tracks_or_fault track o (walk_tags form nothing_met tags).done) none ∙ ap Ok same)
ruled_so track form size tags (Err at) h =
    let some : fault_of form size tags ≡ Some at = fault_is form size tags ∙ least_found at (faults form size tags) h in
    sym (ap (λ o. tracks_or_fault track o (walk_tags form nothing_met tags).done) some)
