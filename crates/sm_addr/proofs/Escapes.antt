-- What is escaped, byte by byte.
use Rattle.std.proofs.Common.{◌≡◌, ℕ, ◌<◌, ◌≤◌, Bool, true, false, List, [], ◌∷◌, ◌++◌, refl, ap, ◌∙◌, sym, arith, ⊎_elim}
use Rattle.std.specs.Prelude.{not}
use Rattle.std.proofs.lemmas.Bool.{agree_below, agree_below_at, cases_lt, cond-true, cond-false}
use Rattle.std.proofs.lemmas.Bool.Decides.{nat_tests}
use Rattle.percent_encoding.specs.declared.ascii_set.AsciiSet.{AsciiSet}
use Rattle.percent_encoding.specs.AsciiSet.{contains, should_percent_encode}
use Rattle.percent_encoding.specs.Percent.{percent_encode, percent_encode_byte}
use Rattle.percent_encoding.proofs.PercentLemmas.{percent_encode-nil, percent_encode_escaped, percent_encode_kept}
use Rattle.sm_addr.specs.declared.put.TheConstants.{NAME_ESCAPES, PATH_ESCAPES}
use Rattle.sm_addr.specs.Written.{is_plain, is_plain_in_path, escaped}

-- the set holds the bytes of ASCII that aren't plain, and no byte beyond is plain
pub record Splits (set : AsciiSet) (plain : ℕ → Bool) : Type 0 where
  pub ascii : agree_below (contains set) (λ b. not (plain b)) 128 ≡ true
  pub beyond : (b : ℕ) → 128 ≤ b → plain b ≡ false

not_again : (a b : Bool) → a ≡ not b → (b ≡ true → a ≡ false) × (b ≡ false → a ≡ true)
not_again a true e = (λ _. e, λ h. absurd (cc))
not_again a false e = (λ h. absurd (cc), λ _. e)

should : (set : AsciiSet) (plain : ℕ → Bool) → Splits set plain → (b : ℕ) → should_percent_encode set b ≡ not (plain b)
unfolding should_percent_encode
should set plain s b = ⊎_elim
    (λ (low : b < 128). let same = agree_below_at (contains set) (λ c. not (plain c)) 128 b s.ascii low in grind (arith, nat_tests, same))
    (λ (high : 128 ≤ b). let none = s.beyond b high in grind (arith, nat_tests, none))
    (cases_lt b 128)

one_escaped : (set : AsciiSet) (plain : ℕ → Bool) → Splits set plain → (b : ℕ) (bytes : List ℕ) → percent_encode set bytes ≡ escaped plain bytes
    → (p : Bool) → plain b ≡ p → percent_encode set (b ∷ bytes) ≡ escaped plain (b ∷ bytes)
one_escaped set plain s b bytes rest true is =
    percent_encode_kept set b bytes ((not_again _ _ (should set plain s b)).0 is)
    ∙ ap (λ x. b ∷ x) rest ∙ ap (λ x. x ++ escaped plain bytes) (sym (cond-true _ _ _ is))
one_escaped set plain s b bytes rest false is =
    percent_encode_escaped set b bytes ((not_again _ _ (should set plain s b)).1 is)
    ∙ ap (λ x. percent_encode_byte b ++ x) rest ∙ ap (λ x. x ++ escaped plain bytes) (sym (cond-false _ _ _ is))

all_escaped : (set : AsciiSet) (plain : ℕ → Bool) → Splits set plain → (bytes : List ℕ) → percent_encode set bytes ≡ escaped plain bytes
all_escaped set plain s [] = percent_encode-nil set
all_escaped set plain s (b ∷ bytes) = one_escaped set plain s b bytes (all_escaped set plain s bytes) (plain b) refl

plain_is_ascii : (b : ℕ) → 128 ≤ b → is_plain b ≡ false
plain_is_ascii b high = grind (arith, nat_tests)

plain_in_path_is_ascii : (b : ℕ) → 128 ≤ b → is_plain_in_path b ≡ false
plain_in_path_is_ascii b high = grind (arith, nat_tests)

pub name_splits : Splits NAME_ESCAPES is_plain
name_splits = record { ascii = refl; beyond = plain_is_ascii }

pub path_splits : Splits PATH_ESCAPES is_plain_in_path
path_splits = record { ascii = refl; beyond = plain_in_path_is_ascii }

pub name_escaped : (bytes : List ℕ) → percent_encode NAME_ESCAPES bytes ≡ escaped is_plain bytes
name_escaped bytes = all_escaped NAME_ESCAPES is_plain name_splits bytes

pub path_escaped : (bytes : List ℕ) → percent_encode PATH_ESCAPES bytes ≡ escaped is_plain_in_path bytes
path_escaped bytes = all_escaped PATH_ESCAPES is_plain_in_path path_splits bytes
