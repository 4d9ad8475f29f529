-- The least of two lists of places, one behind the other.
use Rattle.std.proofs.Common.{◌≡◌, ℕ, List, [], ◌∷◌, ◌++◌, Option, refl, sym, ◌+◌, ◌<◌, length, take, drop, get_or, drop-cons, add-one}
use Rattle.std.proofs.lemmas.List.{take_more}
use Rattle.sm_smil.specs.declared.raw_track.Form.{Form}
use Rattle.sm_smil.specs.declared.raw_track.RawTrack.{RawTrack}
use Rattle.sm_model.specs.Places.{least_from, sooner}
use Rattle.sm_smil.specs.LiveFaults.{inner_faults, end_faults, tracks_faults}

pub least_from_append : (f : Option ℕ) (xs ys : List ℕ) → least_from f (xs ++ ys) ≡ least_from (least_from f xs) ys
least_from_append f [] ys = refl
least_from_append f (x ∷ xs) ys = least_from_append (sooner f x) xs ys

-- one track more
pub note_more : (form : Form) (f : Option ℕ) (ts : List RawTrack) (i : ℕ) (t : RawTrack) → i < length ts → t ≡ get_or ts i t
    → least_from (least_from f (inner_faults t ++ end_faults form (take i ts) t)) (tracks_faults form (take (i + 1) ts) (drop (i + 1) ts)) ≡ least_from f (tracks_faults form (take i ts) (drop i ts))
note_more form f ts i t within is =
    let rest = drop-cons ts i t within in
    let front = take_more ts i t within in
    rw (rest, front, ← is, add-one) (sym (least_from_append f (inner_faults t ++ end_faults form (take i ts) t) _))
