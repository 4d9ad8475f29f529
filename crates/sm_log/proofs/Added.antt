-- Times stay apart where a new one is decided to be new.
use Rattle.std.proofs.Common.{◌≡◌, ◌≤◌, ◌<◌, ◌+◌, ℕ, Bool, true, false, cond, eqb, ltb, List, [], ◌∷◌, Option, Some, None, refl, inl, inr, arith}
use Rattle.std.proofs.lemmas.Bool.{eqb-true, eqb-false, ltb-true, ltb-false, and_cases}
use Rattle.sm_log.specs.declared.verdict.Decision.TheVariants.{New, There, Clash}
use Rattle.sm_log.specs.Times.{entry_at, with_entry, decision, decided, AreTimes, IsSpan, ends, do_overlap, overlapped_end}
use Rattle.sm_log.proofs.Entries.{all_with}
use Rattle.sm_log.proofs.Apart.{all_behind}

-- ---- what a decision says

decided_new : (d : ℕ) (kept over : Option ℕ) → decided d kept over ≡ New → (kept ≡ None) × (over ≡ None)
decided_new d (Some k) over e = by_test (eqb k d) e
  where
    by_test : (b : Bool) → cond b There (Clash k) ≡ New → (Some k ≡ None) × (over ≡ None)
    by_test true e = absurd cc
    by_test false e = absurd cc
decided_new d None None e = (refl, refl)
decided_new d None (Some end) e = absurd cc

pub new_means : (xs : List (ℕ × ℕ)) (t d : ℕ) → decision xs t d ≡ New → (entry_at t xs ≡ None) × (overlapped_end (t, d) xs ≡ None)
new_means xs t d e = decided_new d (entry_at t xs) (overlapped_end (t, d) xs) e

decided_there : (d : ℕ) (kept over : Option ℕ) → decided d kept over ≡ There → kept ≡ Some d
decided_there d (Some k) over e = by_test (eqb k d) refl e
  where
    by_test : (b : Bool) → eqb k d ≡ b → cond b There (Clash k) ≡ There → Some k ≡ Some d
    by_test true is e = let same : k ≡ d = eqb-true k d is in cc
    by_test false is e = absurd cc
decided_there d None None e = absurd cc
decided_there d None (Some end) e = absurd cc

pub there_means : (xs : List (ℕ × ℕ)) (t d : ℕ) → decision xs t d ≡ There → entry_at t xs ≡ Some d
there_means xs t d e = decided_there d (entry_at t xs) (overlapped_end (t, d) xs) e

-- ---- no overlap

-- where no time overlaps, the first doesn't, and no later one does
none_over : (x : ℕ × ℕ) (xs : List (ℕ × ℕ)) (t d : ℕ) → overlapped_end (t, d) (x ∷ xs) ≡ None → (do_overlap x (t, d) ≡ false) × (overlapped_end (t, d) xs ≡ None)
none_over x xs t d e = by_test (do_overlap x (t, d)) refl e
  where
    by_test : (b : Bool) → do_overlap x (t, d) ≡ b → cond b (Some (ends x)) (overlapped_end (t, d) xs) ≡ None → (do_overlap x (t, d) ≡ false) × (overlapped_end (t, d) xs ≡ None)
    by_test true is e = absurd cc
    by_test false is e = (is, e)

-- so one that starts later starts behind the span, and one that starts earlier ends before it
pub starts_behind : (x : ℕ × ℕ) (t d : ℕ) → do_overlap x (t, d) ≡ false → t < ends x → t + d ≤ x.0
starts_behind x t d e h =
    elim (and_cases (ltb x.0 (t + d)) (ltb t (ends x)) e) [ inl a ↦ ltb-false x.0 (t + d) a | inr b ↦ absurd (omega (arith, ltb-false t (ends x) b, h)) ]

pub ends_before : (x : ℕ × ℕ) (t d : ℕ) → do_overlap x (t, d) ≡ false → x.0 < t + d → ends x ≤ t
ends_before x t d e h =
    elim (and_cases (ltb x.0 (t + d)) (ltb t (ends x)) e) [ inl a ↦ absurd (omega (arith, ltb-false x.0 (t + d) a, h)) | inr b ↦ ltb-false t (ends x) b ]

pub apart_with : (t d : ℕ) (xs : List (ℕ × ℕ)) → IsSpan (t, d) → AreTimes xs → entry_at t xs ≡ None → overlapped_end (t, d) xs ≡ None → AreTimes (with_entry t d xs)
apart_with t d [] span times none over = (span, tt, tt)
apart_with t d (x ∷ xs) span times none over =
    let free = none_over x xs t d over in
    by_test (ltb t x.0) (eqb x.0 t) refl refl free.0 none (λ n. apart_with t d xs span times.2 n free.1)
  where
    by_test : (b c : Bool) → ltb t x.0 ≡ b → eqb x.0 t ≡ c → do_overlap x (t, d) ≡ false → cond c (Some x.1) (entry_at t xs) ≡ None → (entry_at t xs ≡ None → AreTimes (with_entry t d xs))
        → AreTimes (cond b ((t, d) ∷ x ∷ xs) (cond c (x ∷ xs) (x ∷ with_entry t d xs)))
    by_test b true r u free none rest = absurd cc
    by_test true false r u free none rest =
        let less : t < x.0 = ltb-true t x.0 r in
        let far : t + d ≤ x.0 = starts_behind x t d free (omega (arith, less)) in
        (span, (far, all_behind (t + d) (ends x) xs (omega (arith, far)) times.1), times)
    by_test false false r u free none rest =
        let least = ltb-false t x.0 r in
        let apart = eqb-false x.0 t u in
        let far : ends x ≤ t = ends_before x t d free (omega (arith, least, apart)) in
        (times.0, all_with (λ (y : ℕ × ℕ). ends x ≤ y.0) t d xs far times.1, rest none)

pub apart_added : (xs : List (ℕ × ℕ)) (t d : ℕ) → IsSpan (t, d) → AreTimes xs → decision xs t d ≡ New → AreTimes (with_entry t d xs)
apart_added xs t d span times e = let free = new_means xs t d e in apart_with t d xs span times free.0 free.1
