-- What is escaped, byte by byte.
use Rattle.std.proofs.Common.{◌≡◌, ℕ, ◌<◌, ◌≤◌, Bool, true, false, List, [], ◌∷◌, ◌++◌, refl, ap, ◌∙◌, sym, arith, ⊎_elim}
use Rattle.std.specs.Prelude.{not}
use Rattle.std.proofs.lemmas.Bool.{agree_below, agree_below_at, cases_lt, cond-true, cond-false}
use Rattle.std.proofs.lemmas.Bool.Decides.{nat_tests}
use Rattle.percent_encoding.specs.AsciiSet.{contains, should_percent_encode}
use Rattle.percent_encoding.specs.Percent.{percent_encode, percent_encode_byte}
use Rattle.percent_encoding.proofs.PercentLemmas.{percent_encode-nil, percent_encode_escaped, percent_encode_kept}
use Rattle.sm_manout.specs.declared.put.TheConstants.{NAME_ESCAPES}
use Rattle.sm_manout.specs.ManifestText.{is_plain, escaped}

not_again : (a b : Bool) → a ≡ not b → (b ≡ true → a ≡ false) × (b ≡ false → a ≡ true)
not_again a true e = (λ _. e, λ h. absurd (cc))
not_again a false e = (λ h. absurd (cc), λ _. e)

plain_is_ascii : (b : ℕ) → 128 ≤ b → is_plain b ≡ false
plain_is_ascii b high = grind (arith, nat_tests)

-- the set holds the bytes of ASCII that aren't plain
ascii : agree_below (contains NAME_ESCAPES) (λ b. not (is_plain b)) 128 ≡ true
ascii = refl

should : (b : ℕ) → should_percent_encode NAME_ESCAPES b ≡ not (is_plain b)
unfolding should_percent_encode
should b = ⊎_elim
    (λ (low : b < 128). let same = agree_below_at (contains NAME_ESCAPES) (λ c. not (is_plain c)) 128 b ascii low in grind (arith, nat_tests, same))
    (λ (high : 128 ≤ b). let none = plain_is_ascii b high in grind (arith, nat_tests, none))
    (cases_lt b 128)

one_escaped : (b : ℕ) (bytes : List ℕ) → percent_encode NAME_ESCAPES bytes ≡ escaped bytes → (p : Bool) → is_plain b ≡ p → percent_encode NAME_ESCAPES (b ∷ bytes) ≡ escaped (b ∷ bytes)
one_escaped b bytes rest true is =
    percent_encode_kept NAME_ESCAPES b bytes ((not_again _ _ (should b)).0 is)
    ∙ ap (λ x. b ∷ x) rest ∙ ap (λ x. x ++ escaped bytes) (sym (cond-true _ _ _ is))
one_escaped b bytes rest false is =
    percent_encode_escaped NAME_ESCAPES b bytes ((not_again _ _ (should b)).1 is)
    ∙ ap (λ x. percent_encode_byte b ++ x) rest ∙ ap (λ x. x ++ escaped bytes) (sym (cond-false _ _ _ is))

pub name_escaped : (bytes : List ℕ) → percent_encode NAME_ESCAPES bytes ≡ escaped bytes
name_escaped [] = percent_encode-nil NAME_ESCAPES
name_escaped (b ∷ bytes) = one_escaped b bytes (name_escaped bytes) (is_plain b) refl
