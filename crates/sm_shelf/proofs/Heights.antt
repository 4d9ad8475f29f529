-- How much of a log a digest stands for.
use Rattle.std.proofs.Common.{◌≡◌, ◌≤◌, ◌+◌, ◌⊎◌, inl, inr, ℕ, zero, suc, Some, List, [], ◌∷◌, ◌++◌, length, map, take, refl, sym, ap, ◌∙◌, arith}
use Rattle.std.proofs.lemmas.List.{length-append, length-map}
use Rattle.std.specs.List.{slice_get}
use Rattle.sm_model.specs.declared.entry.Entry.{Entry}
use Rattle.sm_model.specs.declared.entry.Entry.TheVariants.{Declare, Keep}
use Rattle.sm_model.specs.declared.track.Track.{Track}
use Rattle.sm_log.specs.Logs.{IsSound}
use Rattle.sm_log.specs.Digests.{Digest, digest_of, keeps_of}
use Rattle.sm_shelf.specs.Laying.{Op, Whole, Next}
use Rattle.sm_shelf.specs.Shelf.{height_of, IsFront, IsOf}
use Rattle.sm_shelf.proofs.Fronts.{AreKeeps, keeps_long, shape_of, told, take_long, sound_take}

shaped_height : (log : List Entry) → (log ≡ []) ⊎ ((tracks : List Track) × (rest : List Entry) × (log ≡ Declare tracks ∷ rest) × AreKeeps rest) → height_of (digest_of log) ≡ length log
shaped_height log (inl none) = ap (λ (l : List Entry). height_of (digest_of l)) none ∙ sym (ap length none)
shaped_height log (inr s) =
    let mapped = length-map (keeps_of s.1) told in
    let many = keeps_long s.1 s.3 in
    let shaped : height_of (digest_of log) ≡ length (map told (keeps_of s.1)) + 1 = ap (λ (l : List Entry). height_of (digest_of l)) s.2 in
    let long : length log ≡ suc (length s.1) = ap length s.2 in
    omega (arith, mapped, many, shaped, long)

log_height : (log : List Entry) → IsSound log → height_of (digest_of log) ≡ length log
log_height log sound = shaped_height log (shape_of log sound)

taken_height : (log : List Entry) (n : ℕ) → IsSound log → n ≤ length log → height_of (digest_of (take n log)) ≡ n
taken_height log n sound le = log_height (take n log) (sound_take log n sound) ∙ take_long log n le

pub front_height : (log : List Entry) (d : Digest) → IsSound log → IsFront log d → height_of d ≤ length log
front_height log d sound on =
    let high = ap height_of on.2 ∙ taken_height log on.0 sound on.1 in
    omega (arith, high, on.1)

take_all : (log : List Entry) (n : ℕ) → n ≡ length log → take n log ≡ log
take_all [] zero is = refl
take_all [] (suc n) is = refl
take_all (x ∷ log) zero is = absurd (omega (arith, is))
take_all (x ∷ log) (suc n) is = ap (λ (l : List Entry). x ∷ l) (take_all log n (omega (arith, is)))

pub whole_is : (log : List Entry) (d : Digest) → IsSound log → IsFront log d → height_of d ≡ length log → d ≡ digest_of log
whole_is log d sound on high =
    let here : on.0 ≡ length log = sym (ap height_of on.2 ∙ taken_height log on.0 sound on.1) ∙ high in
    on.2 ∙ ap digest_of (take_all log on.0 here)

pub whole_height : (log : List Entry) (d : Digest) → IsSound log → d ≡ digest_of log → height_of d ≡ length log
whole_height log d sound is = ap height_of is ∙ log_height log sound

take_front : (log more : List Entry) (n : ℕ) → n ≤ length log → take n (log ++ more) ≡ take n log
take_front log more zero le = refl
take_front [] more (suc n) le = absurd (omega (arith, le))
take_front (x ∷ log) more (suc n) le = ap (λ (l : List Entry). x ∷ l) (take_front log more n (omega (arith, le)))

pub front_later : (log more : List Entry) (d : Digest) → IsFront log d → IsFront (log ++ more) d
front_later log more d on =
    let long = length-append log more in
    (on.0, omega (arith, on.1, long), on.2 ∙ ap digest_of (sym (take_front log more on.0 on.1)))

get_front : (log more : List Entry) (n : ℕ) (e : Entry) → slice_get log n ≡ Some e → slice_get (log ++ more) n ≡ Some e
get_front [] more n e at = absurd cc
get_front (x ∷ log) more zero e at = at
get_front (x ∷ log) more (suc n) e at = get_front log more n e at

pub of_later : (log more : List Entry) (op : Op) → IsOf log op → IsOf (log ++ more) op
of_later log more (Whole all) of = front_later log more all of
of_later log more (Next place f) of = get_front log more place (Keep f) of
