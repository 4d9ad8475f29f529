-- What the plain programs lean on.
use Rattle.std.proofs.Common.{◌≡◌, ◌<◌, ◌+◌, ◌^◌, ℕ, zero, suc, ◌-◌, ◌≤◌, take, Bool, true, false, cond, leb, List, [], ◌∷◌, length, drop, Option, Some, None, is_some, refl, sym, ap, ◌∙◌, ◌++◌, get_or, subst, arith}
use Rattle.sm_model.specs.declared.entry.Entry.{Entry}
use Rattle.sm_model.specs.declared.fragment.Fragment.{Fragment}
use Rattle.sm_model.specs.declared.track.Track.{Track}
use Rattle.sm_log.specs.Times.{AreTimes, ends, do_overlap, overlapped_end, decision}
use Rattle.sm_log.specs.Adds.{track_at, place_of, judged_by, verdict}
use Rattle.sm_model.specs.Entries.{address_of}
use Rattle.std.proofs.lemmas.List.{length-append}
use Rattle.sm_log.specs.Logs.{FitsBehind, IsSound, channel_of, adds_of, times_in, verdict_by, verdict_on}
use Rattle.sm_log.proofs.AllLogs.{sound_push}
use Rattle.sm_log.specs.Digests.{bytes_of, window_of}

-- the end of a time that overlaps is below 2^63
pub over_fits : (t d e : ℕ) (xs : List (ℕ × ℕ)) → AreTimes xs → overlapped_end (t, d) xs ≡ Some e → e < 2 ^ 63
over_fits t d e [] times is = absurd cc
over_fits t d e (x ∷ xs) times is = by_test (do_overlap x (t, d)) is (λ k. over_fits t d e xs times.2 k)
  where
    by_test : (b : Bool) → cond b (Some (ends x)) (overlapped_end (t, d) xs) ≡ Some e → (overlapped_end (t, d) xs ≡ Some e → e < 2 ^ 63) → e < 2 ^ 63
    by_test true is rest = let same : ends x ≡ e = cc in omega (arith, same, times.0.1)
    by_test false is rest = rest is

pub window_past : (fs : List Fragment) (i : ℕ) → i < length fs → leb (bytes_of (drop i fs)) 67108864 ≡ false → window_of (drop (suc i) fs) ≡ window_of (drop i fs)
window_past [] i h is = absurd (omega (arith, h))
window_past (f ∷ fs) zero h is = rw is refl
window_past (f ∷ fs) (suc i) h is = window_past fs i (omega (arith, h)) is

whole : (n : ℕ) (fs : List Fragment) → length fs ≤ n → take n fs ≡ fs
whole zero [] h = refl
whole (suc n) [] h = refl
whole zero (f ∷ fs) h = absurd (omega arith)
whole (suc n) (f ∷ fs) h = ap (λ (gs : List Fragment). f ∷ gs) (whole n fs (omega arith))

-- the slice from a place on
rest : (n k : ℕ) (fs : List Fragment) → length fs ≤ n + k → take n (drop k fs) ≡ drop k fs
rest n zero fs h = whole n fs (omega arith)
rest n (suc k) [] h = whole n [] (omega arith)
rest n (suc k) (f ∷ fs) h = rest n k fs (omega arith)

pub window_past_slice : (fs : List Fragment) (i : ℕ) → i < length fs → leb (bytes_of (take (length fs - i) (drop i fs))) 67108864 ≡ false → window_of (drop (suc i) fs) ≡ window_of (drop i fs)
window_past_slice fs i h is =
    let same : take (length fs - i) (drop i fs) ≡ drop i fs = rest (length fs - i) i fs (omega (arith, h)) in
    window_past fs i h (ap (λ (gs : List Fragment). leb (bytes_of gs) 67108864) (sym same) ∙ is)

verdict_by_is : (o : Option (List Track)) (ch : List Track) (log : List Entry) (f : Fragment) → Some ch ≡ o → is_some (track_at f.stream f.bitrate ch) ≡ true
    → verdict_by o (adds_of log) (address_of f) f.duration ≡ judged_by (place_of (address_of f) (adds_of log)) (decision (times_in log f.stream) f.time f.duration)
verdict_by_is None ch log f e is = absurd cc
verdict_by_is (Some c) ch log f e is =
    let same : c ≡ ch = cc in
    ap (λ (x : List Track). verdict x (adds_of log) (address_of f) f.duration) same ∙ rw is refl

-- the verdict on a fragment whose track is declared
pub verdict_is : (ch : List Track) (log : List Entry) (f : Fragment) → Some ch ≡ channel_of log → is_some (track_at f.stream f.bitrate ch) ≡ true
    → verdict_on log f ≡ judged_by (place_of (address_of f) (adds_of log)) (decision (times_in log f.stream) f.time f.duration)
verdict_is ch log f e is = verdict_by_is (channel_of log) ch log f e is

-- ---- whether a log is sound

one_more_taken : (log : List Entry) (i : ℕ) (e : Entry) → i < length log → e ≡ get_or log i e → take (suc i) log ≡ take i log ++ e ∷ []
one_more_taken [] i e h is = absurd (omega (arith, h))
one_more_taken (x ∷ log) zero e h is = ap (λ (y : Entry). y ∷ []) (sym is)
one_more_taken (x ∷ log) (suc i) e h is = ap (λ (l : List Entry). x ∷ l) (one_more_taken log i e (omega (arith, h)) is)

taken : (n : ℕ) (log : List Entry) → length (take n log) ≤ length log
taken zero log = omega arith
taken (suc n) [] = omega arith
taken (suc n) (x ∷ log) = omega (arith, taken n log)

pub sound_taken : (log : List Entry) (i : ℕ) (e : Entry) → length log < 2 ^ 32 → i < length log → e ≡ get_or log i e → IsSound (take i log) → FitsBehind (take i log) e → IsSound (take (suc i) log)
sound_taken log i e few h is sound fits =
    let same = one_more_taken log i e h is in
    let short : length (take i log) + 1 < 2 ^ 32 = omega (arith, few, taken (suc i) log, ap length same, length-append (take i log) (e ∷ [])) in
    subst IsSound (sym same) (sound_push (take i log) e sound fits short)

split_at : (log : List Entry) (i : ℕ) (e : Entry) → i < length log → e ≡ get_or log i e → log ≡ take i log ++ e ∷ drop (suc i) log
split_at [] i e h is = absurd (omega (arith, h))
split_at (x ∷ log) zero e h is = ap (λ (y : Entry). y ∷ log) (sym is)
split_at (x ∷ log) (suc i) e h is = ap (λ (l : List Entry). x ∷ l) (split_at log i e (omega (arith, h)) is)

-- each entry of a sound log fits what stands before it
pub fits_at : (log : List Entry) (i : ℕ) (e : Entry) → i < length log → e ≡ get_or log i e → IsSound log → FitsBehind (take i log) e
fits_at log i e h is sound = sound.each (take i log) (drop (suc i) log) e (split_at log i e h is)

pub whole_log : (log : List Entry) → take (length log) log ≡ log
whole_log [] = refl
whole_log (x ∷ log) = ap (λ (l : List Entry). x ∷ l) (whole_log log)
