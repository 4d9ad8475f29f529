-- A Url made of its two fields and what stands beside them.
use Rattle.std.proofs.Common.{arith, ◌≡◌, ℕ, ◌==◌, ◌||◌, Bool, true, false, List, [], ◌∷◌, ◌++◌, refl, ap, ◌∙◌, sym, inl, inr}
use Rattle.std.specs.Prelude.{decimal}
use Rattle.std.proofs.lemmas.List.{append-nil}
use Rattle.std.proofs.lemmas.Bool.Decides.{nat_tests}
use Rattle.sm_manin.specs.Patterns.{is_bitrate_field, is_start_field}
use Rattle.sm_fetch.specs.Patterns.{filled_behind, filled, HasNoBrace, IsBitrateField, IsStartField}

or_left : (a b : Bool) → (a || b) ≡ false → a ≡ false
or_left true b e = absurd (cc)
or_left false b e = refl

or_right : (a b : Bool) → (a || b) ≡ false → b ≡ false
or_right true b e = absurd (cc)
or_right false b e = e

-- at a byte that is no brace no field begins
no_bitrate : (c : ℕ) (rest : List ℕ) → (c == 123) ≡ false → is_bitrate_field (c ∷ rest) ≡ false
no_bitrate c rest is = grind (arith, nat_tests)

no_start : (c : ℕ) (rest : List ℕ) → (c == 123) ≡ false → is_start_field (c ∷ rest) ≡ false
no_start c rest is = grind (arith, nat_tests)

plain_on : (bitrate time : ℕ) (xs rest : List ℕ) → HasNoBrace xs → filled_behind 0 bitrate time (xs ++ rest) ≡ xs ++ filled_behind 0 bitrate time rest
plain_on bitrate time [] rest none = refl
plain_on bitrate time (c ∷ xs) rest none =
    let here = or_left (c == 123) _ none in
    rw (no_bitrate c (xs ++ rest) here) (rw (no_start c (xs ++ rest) here) (ap (λ t. c ∷ t) (plain_on bitrate time xs rest (or_right (c == 123) _ none))))

bitrate_on : (bitrate time : ℕ) (field rest : List ℕ) → IsBitrateField field → filled_behind 0 bitrate time (field ++ rest) ≡ decimal bitrate ++ filled_behind 0 bitrate time rest
bitrate_on bitrate time field rest (inl is) = rw is refl
bitrate_on bitrate time field rest (inr is) = rw is refl

start_on : (bitrate time : ℕ) (field rest : List ℕ) → IsStartField field → filled_behind 0 bitrate time (field ++ rest) ≡ decimal time ++ filled_behind 0 bitrate time rest
start_on bitrate time field rest (inl is) = rw is refl
start_on bitrate time field rest (inr is) = rw is refl

plain_end : (bitrate time : ℕ) (xs : List ℕ) → HasNoBrace xs → filled_behind 0 bitrate time xs ≡ xs
plain_end bitrate time xs none = ap (filled_behind 0 bitrate time) (sym (append-nil xs)) ∙ plain_on bitrate time xs [] none ∙ append-nil xs

pub bitrate_first : (bitrate time : ℕ) (before middle after first second : List ℕ) → HasNoBrace before → HasNoBrace middle → HasNoBrace after → IsBitrateField first → IsStartField second
    → filled bitrate time (before ++ (first ++ (middle ++ (second ++ after)))) ≡ before ++ (decimal bitrate ++ (middle ++ (decimal time ++ after)))
bitrate_first bitrate time before middle after first second a b c is also =
    plain_on bitrate time before (first ++ (middle ++ (second ++ after))) a
    ∙ ap (λ t. before ++ t) (bitrate_on bitrate time first (middle ++ (second ++ after)) is
    ∙ ap (λ t. decimal bitrate ++ t) (plain_on bitrate time middle (second ++ after) b
    ∙ ap (λ t. middle ++ t) (start_on bitrate time second after also ∙ ap (λ t. decimal time ++ t) (plain_end bitrate time after c))))

pub start_first : (bitrate time : ℕ) (before middle after first second : List ℕ) → HasNoBrace before → HasNoBrace middle → HasNoBrace after → IsStartField first → IsBitrateField second
    → filled bitrate time (before ++ (first ++ (middle ++ (second ++ after)))) ≡ before ++ (decimal time ++ (middle ++ (decimal bitrate ++ after)))
start_first bitrate time before middle after first second a b c is also =
    plain_on bitrate time before (first ++ (middle ++ (second ++ after))) a
    ∙ ap (λ t. before ++ t) (start_on bitrate time first (middle ++ (second ++ after)) is
    ∙ ap (λ t. decimal time ++ t) (plain_on bitrate time middle (second ++ after) b
    ∙ ap (λ t. middle ++ t) (bitrate_on bitrate time second after also ∙ ap (λ t. decimal bitrate ++ t) (plain_end bitrate time after c))))
