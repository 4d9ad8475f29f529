-- Reading tracks or samples one after the other, as a loop does.
use Rattle.std.proofs.Common.{Bool, true, false, if◌then◌else◌, take, drop, length, subst, zero, ◌≡◌, ℕ, suc, ◌-◌, ◌+◌, ◌≤◌, ◌<◌, List, [], ◌∷◌, ◌++◌, Option, Some, None, refl, sym, ap, ◌∙◌, append_assoc, arith}
use Rattle.std.specs.Prelude.{nat_lt}
use Rattle.std.specs.List.{flat_map}
use Rattle.std.proofs.lemmas.List.{append-nil, take-append-drop, nil_from_length}
use Rattle.std.proofs.lemmas.List.Concat.{flat_map-cons}
use Rattle.sm_record.proofs.Steps.{bind_some, some_is}
use Rattle.sm_model.specs.declared.track.Track.{Track}
use Rattle.sm_model.specs.declared.sample.Sample.{Sample}
use Rattle.sm_record.specs.declared.fault.RecordFault.{RecordFault}
use Rattle.sm_record.specs.declared.fault.RecordFault.TheVariants as faults
use Rattle.sm_record.specs.declared.fields.Row.{Row}
use Rattle.sm_record.specs.Reading.{◌>>=◌, Fails, taken, track_at, tracks_at, row_at, sample_of, samples_at}

module _ {A : Type 0} where
  -- what was read before, and what is still read
  abbrev pub with_front : List A → Option (List A × List ℕ) → Option (List A × List ℕ)
  with_front front read = read >>= λ x. Some (front ++ x.0, x.1)

  pub regroup : (front : List A) (n : A) (read : Option (List A × List ℕ)) → with_front front (read >>= λ x. Some (n ∷ x.0, x.1)) ≡ with_front (front ++ n ∷ []) read
  regroup front n None = refl
  regroup front n (Some x) = ap (λ (ns : List A). Some (ns, x.1)) (simp append_assoc)

-- ---- tracks

pub track_goes_on : (front : List Track) (count i : ℕ) (bytes : List ℕ) (t : Track) (after : List ℕ) (total : Option (List Track × List ℕ)) → i < count → track_at bytes ≡ Some (t, after)
    → with_front front (tracks_at (count - i) bytes) ≡ total → with_front (front ++ t ∷ []) (tracks_at (count - (i + 1)) after) ≡ total
unfolding tracks_at
track_goes_on front count i bytes t after total lt h so_far =
    let k : count - i ≡ suc (count - (i + 1)) = omega arith in
    let one : with_front front (tracks_at (count - i) bytes) ≡ with_front (front ++ t ∷ []) (tracks_at (count - (i + 1)) after) = rw (k, h) (regroup front t (tracks_at (count - (i + 1)) after)) in
    sym one ∙ so_far

pub tracks_end : (e : RecordFault) (front : List Track) (count i : ℕ) (bytes : List ℕ) (total : Option (List Track × List ℕ)) → i < count → Fails e (track_at bytes)
    → with_front front (tracks_at (count - i) bytes) ≡ total → Fails e total
unfolding tracks_at
tracks_end faults.NoMemory front count i bytes total lt h so_far = tt
tracks_end faults.Damaged front count i bytes total lt h so_far =
    let k : count - i ≡ suc (count - (i + 1)) = omega arith in
    let one : with_front front (tracks_at (count - i) bytes) ≡ None = rw (k, h) refl in
    sym so_far ∙ one

pub tracks_done : (front : List Track) (count i : ℕ) (bytes : List ℕ) (total : Option (List Track × List ℕ)) → count ≤ i → with_front front (tracks_at (count - i) bytes) ≡ total → total ≡ Some
    (front, bytes)
unfolding tracks_at
tracks_done front count i bytes total le so_far =
    let k : count - i ≡ 0 = omega arith in
    let one : with_front front (tracks_at (count - i) bytes) ≡ Some (front, bytes) = rw k (ap (λ (ns : List Track). Some (ns, bytes)) (append-nil front)) in
    sym so_far ∙ one

-- ---- samples

pub sample_goes_on : (front : List Sample) (count i : ℕ) (table bytes : List ℕ) (row : Row) (behind own after : List ℕ) (total : Option (List Sample × List ℕ)) → i < count → row_at table ≡ Some
    (row, behind)
    → taken row.size bytes ≡ Some (own, after)
    → with_front front (samples_at (count - i) table bytes) ≡ total → with_front (front ++ sample_of row own ∷ []) (samples_at (count - (i + 1)) behind after) ≡ total
unfolding samples_at
sample_goes_on front count i table bytes row behind own after total lt h g so_far =
    let k : count - i ≡ suc (count - (i + 1)) = omega arith in
    let one : with_front front (samples_at (count - i) table bytes) ≡ with_front (front ++ sample_of row own ∷ []) (samples_at (count - (i + 1)) behind after) = rw (k, h, g)
    (regroup front (sample_of row own) (samples_at (count - (i + 1)) behind after)) in
    sym one ∙ so_far

pub rows_end : (e : RecordFault) (front : List Sample) (count i : ℕ) (table bytes : List ℕ) (total : Option (List Sample × List ℕ)) → i < count → Fails e (row_at table)
    → with_front front (samples_at (count - i) table bytes) ≡ total → Fails e total
unfolding samples_at
rows_end faults.NoMemory front count i table bytes total lt h so_far = tt
rows_end faults.Damaged front count i table bytes total lt h so_far =
    let k : count - i ≡ suc (count - (i + 1)) = omega arith in
    let one : with_front front (samples_at (count - i) table bytes) ≡ None = rw (k, h) refl in
    sym so_far ∙ one

pub owns_end : (e : RecordFault) (front : List Sample) (count i : ℕ) (table bytes : List ℕ) (row : Row) (behind : List ℕ) (total : Option (List Sample × List ℕ)) → i < count → row_at table ≡ Some
    (row, behind)
    → Fails e (taken row.size bytes)
    → with_front front (samples_at (count - i) table bytes) ≡ total → Fails e total
unfolding samples_at
owns_end faults.NoMemory front count i table bytes row behind total lt h g so_far = tt
owns_end faults.Damaged front count i table bytes row behind total lt h g so_far =
    let k : count - i ≡ suc (count - (i + 1)) = omega arith in
    let one : with_front front (samples_at (count - i) table bytes) ≡ None = rw (k, h, g) refl in
    sym so_far ∙ one

pub samples_done : (front : List Sample) (count i : ℕ) (table bytes : List ℕ) (total : Option (List Sample × List ℕ)) → count ≤ i → with_front front (samples_at (count - i) table bytes) ≡ total →
    total ≡ Some (front, bytes)
unfolding samples_at
samples_done front count i table bytes total le so_far =
    let k : count - i ≡ 0 = omega arith in
    let one : with_front front (samples_at (count - i) table bytes) ≡ Some (front, bytes) = rw k (ap (λ (ns : List Sample). Some (ns, bytes)) (append-nil front)) in
    sym so_far ∙ one

none_is_not_some : {A : Type 0} (x : A) → None ≡ Some x → ⊥
none_is_not_some x e = cc

by_test : (t : Bool) (n : ℕ) (bytes : List ℕ) (x : List ℕ × List ℕ) → (if t then None else Some (take n bytes, drop n bytes)) ≡ Some x → bytes ≡ x.0 ++ x.1
by_test true n bytes x e = absurd (none_is_not_some x e)
by_test false n bytes x e = subst (λ (y : List ℕ × List ℕ). bytes ≡ y.0 ++ y.1) (some_is (take n bytes, drop n bytes) x e) (sym (take-append-drop n bytes))

taken_join : (n : ℕ) (bytes : List ℕ) (x : List ℕ × List ℕ) → taken n bytes ≡ Some x → bytes ≡ x.0 ++ x.1
taken_join n bytes x e = by_test (nat_lt (length bytes) n) n bytes x e

-- the bytes of all samples, joined, and the rest are the bytes
pub samples_join : (n : ℕ) (table bytes : List ℕ) (x : List Sample × List ℕ) → samples_at n table bytes ≡ Some x → bytes ≡ flat_map (λ (s : Sample). s.bytes) x.0 ++ x.1
unfolding samples_at
samples_join zero table bytes x e =
    subst (λ (y : List Sample × List ℕ). bytes ≡ flat_map (λ (s : Sample). s.bytes) y.0 ++ y.1) (some_is ([], bytes) x e) refl
samples_join (suc n) table bytes x e =
    let a = bind_some (row_at table) (λ row. taken row.0.size bytes >>= λ own. samples_at n row.1 own.1 >>= λ others. Some (sample_of row.0 own.0 ∷ others.0, others.1)) x e in
    let b = bind_some (taken a.0.0.size bytes) (λ own. samples_at n a.0.1 own.1 >>= λ others. Some (sample_of a.0.0 own.0 ∷ others.0, others.1)) x a.2 in
    let d = bind_some (samples_at n a.0.1 b.0.1) (λ others. Some (sample_of a.0.0 b.0.0 ∷ others.0, others.1)) x b.2 in
    let more = samples_join n a.0.1 b.0.1 d.0 d.1 in
    let own : bytes ≡ b.0.0 ++ b.0.1 = taken_join a.0.0.size bytes b.0 b.1 in
    let s = sample_of a.0.0 b.0.0 in
    let all : bytes ≡ flat_map (λ (y : Sample). y.bytes) (s ∷ d.0.0) ++ d.0.1 =
    own ∙ ap (λ (r : List ℕ). b.0.0 ++ r) more ∙ sym (append_assoc b.0.0 (flat_map (λ (y : Sample). y.bytes) d.0.0) d.0.1)
    ∙ ap (λ (r : List ℕ). r ++ d.0.1) (sym (flat_map-cons (λ (y : Sample). y.bytes) s d.0.0)) in
    subst (λ (y : List Sample × List ℕ). bytes ≡ flat_map (λ (z : Sample). z.bytes) y.0 ++ y.1) (some_is (s ∷ d.0.0, d.0.1) x d.2) all

-- with nothing behind them they are all of it
pub samples_all : (n : ℕ) (table bytes whole : List ℕ) (samples : List Sample) (rest : List ℕ) → samples_at n table bytes ≡ Some (samples, rest)
    → length rest ≡ 0 → whole ≡ bytes → whole ≡ flat_map (λ (s : Sample). s.bytes) samples
samples_all n table bytes whole samples rest e none is =
    is ∙ samples_join n table bytes (samples, rest) e ∙ ap (λ (r : List ℕ). flat_map (λ (s : Sample). s.bytes) samples ++ r) (nil_from_length rest none) ∙ append-nil (flat_map (λ (s : Sample). s.bytes) samples)
