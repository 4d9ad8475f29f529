-- The Url that an origin writes, filled, names the fragment.
use Rattle.std.proofs.Common.{◌≡◌, ◌<◌, ℕ, ◌/◌, ◌%◌, ◌==◌, ◌||◌, if◌then◌else◌, Bool, true, false, List, [], ◌∷◌, ◌++◌, refl, ap, ◌∙◌, sym, arith, inl, append_assoc}
use Rattle.std.specs.Prelude.{codes, decimal}
use Rattle.std.specs.List.{list_any}
use Rattle.std.specs.Fmt.{digit_glyph}
use Rattle.std.proofs.lemmas.Bool.{agree_below, agree_below_at}
use Rattle.std.proofs.lemmas.Bool.Decides.{nat_tests}
use Rattle.percent_encoding.specs.Percent.{percent_encode_byte}
use Rattle.sm_model.specs.declared.address.Address.{Address}
use Rattle.sm_model.specs.declared.target.Target.TheVariants as target
use Rattle.sm_addr.specs.Paths.{isml}
use Rattle.sm_addr.specs.Written.{escaped, is_plain, is_plain_in_path, level_text, place_text, target_written}
use Rattle.sm_fetch.specs.declared.place.Place.{Place}
use Rattle.sm_fetch.specs.Patterns.{filled, HasNoBrace, written_url}
use Rattle.sm_fetch.specs.Requests.{fragment_target}
use Rattle.sm_fetch.proofs.Fields.{bitrate_first}

or_false : (a b : Bool) → a ≡ false → b ≡ false → (a || b) ≡ false
or_false a b x y = rw x y

any_on : (xs ys : List ℕ) → list_any (λ c. c == 123) xs ≡ false → list_any (λ c. c == 123) ys ≡ false → list_any (λ c. c == 123) (xs ++ ys) ≡ false
any_on [] ys x y = y
any_on (b ∷ xs) ys x y = or_false (b == 123) (list_any (λ c. c == 123) (xs ++ ys)) (left (b == 123) _ x) (any_on xs ys (right (b == 123) _ x) y)
  where
    left : (a b : Bool) → (a || b) ≡ false → a ≡ false
    left true b e = absurd (cc)
    left false b e = refl

    right : (a b : Bool) → (a || b) ≡ false → b ≡ false
    right true b e = absurd (cc)
    right false b e = e

-- a digit is no brace
checked : agree_below (λ d. digit_glyph true d == 123) (λ d. false) 16 ≡ true
checked = refl

no_glyph : (d : ℕ) → d < 16 → (digit_glyph true d == 123) ≡ false
no_glyph d low = agree_below_at (λ d. digit_glyph true d == 123) (λ d. false) 16 d checked low

no_escape : (b : ℕ) → list_any (λ c. c == 123) (percent_encode_byte b) ≡ false
unfolding percent_encode_byte
no_escape b =
    or_false (digit_glyph true (b / 16 % 16) == 123) _ (no_glyph (b / 16 % 16) (omega arith))
    (or_false (digit_glyph true (b % 16) == 123) _ (no_glyph (b % 16) (omega arith)) refl)

plain_isnt : (b : ℕ) (t : Bool) → (b == 123) ≡ t → is_plain b ≡ true → (b == 123) ≡ false
plain_isnt b false is plain = is
plain_isnt b true is plain = absurd (not_plain b (same b is) plain)
  where
    same : (b : ℕ) → (b == 123) ≡ true → b ≡ 123
    same b is = grind (arith, nat_tests)

    not_plain : (b : ℕ) → b ≡ 123 → is_plain b ≡ true → ⊥
    not_plain b is plain = let wrong : false ≡ true = sym (ap is_plain is) ∙ plain in absurd (cc)

one_byte : (b : ℕ) (t : Bool) → is_plain b ≡ t → list_any (λ c. c == 123) (if t then b ∷ [] else percent_encode_byte b) ≡ false
one_byte b true is = or_false (b == 123) false (plain_isnt b (b == 123) refl is) refl
one_byte b false is = no_escape b

name_has_none : (name : List ℕ) → HasNoBrace (escaped is_plain name)
name_has_none [] = refl
name_has_none (b ∷ name) =
    any_on (if is_plain b then b ∷ [] else percent_encode_byte b) (escaped is_plain name) (one_byte b (is_plain b) refl) (name_has_none name)

laid : (q b s f e i t c : List ℕ) → q ++ (b ++ (((s ++ f) ++ (e ++ i)) ++ (t ++ c))) ≡ ((q ++ b) ++ s) ++ ((((f ++ e) ++ i) ++ t) ++ c)
laid q b s f e i t c = simp append_assoc refl

filled_names : (stream : List ℕ) (bitrate time : ℕ) → filled bitrate time (written_url stream) ≡ level_text bitrate ++ place_text stream time
filled_names stream bitrate time =
    let name = escaped is_plain stream in
    let middle = codes ")/Fragments(" ++ (name ++ codes "=") in
    ap (λ t. filled bitrate time (codes "QualityLevels({bitrate})/Fragments(" ++ t)) (sym (append_assoc name (codes "=") (codes "{start time})")))
    ∙ bitrate_first bitrate time (codes "QualityLevels(") middle (codes ")") (codes "{bitrate}") (codes "{start time}") refl
    (any_on (codes ")/Fragments(") (name ++ codes "=") refl (any_on name (codes "=") (name_has_none stream) refl)) refl (inl refl) (inl refl)
    ∙ laid (codes "QualityLevels(") (decimal bitrate) (codes ")/") (codes "Fragments(") name (codes "=") (decimal time) (codes ")")

pub url_names : (place : Place) (a : Address) → fragment_target place (written_url a.stream) a ≡ target_written place.path (target.Fragment a)
url_names place a = ap (λ t. codes "/" ++ escaped is_plain_in_path place.path ++ isml ++ t) (filled_names a.stream a.bitrate a.time)
