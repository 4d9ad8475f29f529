-- The fields of a Url, filled byte by byte.
use Rattle.std.proofs.Common.{◌≡◌, ◌<◌, ◌≤◌, ℕ, ◌+◌, ◌-◌, true, false, List, [], ◌∷◌, ◌++◌, length, take, drop, get_or, refl, ap, ◌∙◌, sym, arith}
use Rattle.std.specs.Prelude.{decimal}
use Rattle.std.proofs.lemmas.Bool.Decides.{nat_tests}
use Rattle.std.proofs.lemmas.List.{drop-drop}
use Rattle.sm_fetch.proofs.Framing.{tail_is}
use Rattle.sm_manin.specs.Patterns.{is_bitrate_field, is_start_field}
use Rattle.sm_fetch.specs.Patterns.{filled_behind}

pub passed : (bitrate time skip : ℕ) (text : List ℕ) → 0 < length text → 0 < skip
    → filled_behind (skip - 1) bitrate time (drop 1 text) ≡ filled_behind skip bitrate time text
passed bitrate time skip [] some more = absurd (omega arith)
passed bitrate time skip (c ∷ text) some more = grind (arith, nat_tests)

-- at a byte that isn't the rest of a field
pub filled_bitrate : (bitrate time skip : ℕ) (text : List ℕ) → 0 < length text → skip ≤ 0 → is_bitrate_field text ≡ true
    → decimal bitrate ++ filled_behind 8 bitrate time (drop 1 text) ≡ filled_behind skip bitrate time text
filled_bitrate bitrate time skip [] some none is = absurd (omega arith)
filled_bitrate bitrate time skip (c ∷ text) some none is = let e : skip ≡ 0 = omega arith in rw e (rw is refl)

pub filled_start : (bitrate time skip : ℕ) (text : List ℕ) → 0 < length text → skip ≤ 0 → is_bitrate_field text ≡ false → is_start_field text ≡ true
    → decimal time ++ filled_behind 11 bitrate time (drop 1 text) ≡ filled_behind skip bitrate time text
filled_start bitrate time skip [] some none not is = absurd (omega arith)
filled_start bitrate time skip (c ∷ text) some none not is = let e : skip ≡ 0 = omega arith in rw e (rw not (rw is refl))

pub filled_other : (bitrate time skip : ℕ) (text : List ℕ) → 0 < length text → skip ≤ 0 → is_bitrate_field text ≡ false → is_start_field text ≡ false
    → get_or text 0 0 ∷ filled_behind 0 bitrate time (drop 1 text) ≡ filled_behind skip bitrate time text
filled_other bitrate time skip [] some none not neither = absurd (omega arith)
filled_other bitrate time skip (c ∷ text) some none not neither = let e : skip ≡ 0 = omega arith in rw e (rw not (rw neither refl))

one_more : (i : ℕ) (xs : List ℕ) → drop 1 (drop i xs) ≡ drop (i + 1) xs
one_more i xs = drop-drop 1 i xs ∙ ap (λ n. drop n xs) (omega arith)

-- one byte more of the Url
pub filling_on : (url out more goal : List ℕ) (bitrate time skip next i : ℕ)
    → more ++ filled_behind next bitrate time (drop 1 (take (length url - i) (drop i url))) ≡ out ++ filled_behind skip bitrate time (take (length url - i) (drop i url))
    → out ++ filled_behind skip bitrate time (drop i url) ≡ goal
    → more ++ filled_behind next bitrate time (drop (i + 1) url) ≡ goal
filling_on url out more goal bitrate time skip next i step is =
    ap (λ b. more ++ filled_behind next bitrate time b) (sym (one_more i url) ∙ ap (drop 1) (sym (tail_is url i)))
    ∙ step ∙ ap (λ b. out ++ filled_behind skip bitrate time b) (tail_is url i) ∙ is
