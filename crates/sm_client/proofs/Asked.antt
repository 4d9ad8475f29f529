-- The targets of a place may be asked for: they are short, and visible text.
use Rattle.std.proofs.Common.{◌≡◌, ◌<◌, ◌≤◌, ◌+◌, ◌*◌, ◌^◌, ◌&&◌, ℕ, zero, suc, Bool, true, false, List, [], ◌∷◌, ◌++◌, length, slice_index, refl, arith, length-append}
use Rattle.std.specs.Prelude.{codes, decimal, not, nat_lt, nat_le, All, ◌==◌, if◌then◌else◌}
use Rattle.std.specs.List.{list_all, list_any, AllByRecursion}
use Rattle.std.proofs.lemmas.Bool.{and_parts, ltb-true, leb-true}
use Rattle.std.proofs.lemmas.Bool.Decides.{nat_tests}
use Rattle.std.proofs.lemmas.Fmt.{length-decimal-le}
use Rattle.std.proofs.lemmas.List.Elements.{All-from_recursion, All-head, All-tail}
use Rattle.std.proofs.lemmas.Str.{IsUtf8-from_ascii}
use Rattle.httparse.specs.Grammar.{is_uri_byte}
use Rattle.percent_encoding.specs.Percent.{percent_encode_byte}
use Rattle.percent_encoding.proofs.PercentLemmas.{IsEscapeByte, All-percent_encode_byte}
use Rattle.sm_model.specs.declared.address.Address.{Address}
use Rattle.sm_model.specs.declared.target.Target.{Target}
use Rattle.sm_model.specs.declared.target.Target.TheVariants as target
use Rattle.sm_model.specs.Digits.{is_digit}
use Rattle.sm_model.specs.Names.{is_name}
use Rattle.sm_addr.specs.Paths.{isml, IsPath}
use Rattle.sm_addr.specs.Written.{escaped, is_plain, is_plain_in_path, level_text, place_text, form_text, target_written, IsNamed}
use Rattle.sm_addr.proofs.Without.{all_on, decimal_digits}
use Rattle.sm_fetch.specs.declared.place.Place.{Place}
use Rattle.sm_fetch.specs.Origins.{MayBeAsked}
use Rattle.sm_client.specs.Served.{IsPlace}

-- ---- visible bytes

abbrev visible : ℕ → Bool
visible b = nat_lt 32 b && nat_lt b 127

all_from : (P : ℕ → Type 0) (q : ℕ → Bool) → ((b : ℕ) → P b → q b ≡ true) → (xs : List ℕ) → All P xs → list_all q xs ≡ true
all_from P q says [] all = refl
all_from P q says (x ∷ xs) all = rw (says x (All-head P x xs all), all_from P q says xs (All-tail P x xs all)) refl

all_to : (p q : ℕ → Bool) → ((b : ℕ) → p b ≡ true → q b ≡ true) → (xs : List ℕ) → list_all p xs ≡ true → list_all q xs ≡ true
all_to p q says [] all = refl
all_to p q says (x ∷ xs) all = let parts = and_parts (p x) (list_all p xs) all in rw (says x parts.0, all_to p q says xs parts.1) refl

escape_shows : (b : ℕ) → IsEscapeByte b → visible b ≡ true
escape_shows b is = grind (arith, nat_tests, is)

digit_shows : (b : ℕ) → is_digit b ≡ true → visible b ≡ true
digit_shows b is = grind (arith, nat_tests, is)

plain_shows : (b : ℕ) → is_plain_in_path b ≡ true → visible b ≡ true
plain_shows b is = grind (arith, nat_tests, is)

plain_in : (b : ℕ) → is_plain b ≡ true → is_plain_in_path b ≡ true
plain_in b is = rw is refl

escaped_one : (p : ℕ → Bool) → ((b : ℕ) → p b ≡ true → visible b ≡ true) → (b : ℕ) (t : Bool) → p b ≡ t → list_all visible (if t then b ∷ [] else percent_encode_byte b) ≡ true
escaped_one p shows b true is = rw (shows b is) refl
escaped_one p shows b false is = all_from IsEscapeByte visible escape_shows (percent_encode_byte b) (All-percent_encode_byte b)

escaped_shows : (p : ℕ → Bool) → ((b : ℕ) → p b ≡ true → visible b ≡ true) → (xs : List ℕ) → list_all visible (escaped p xs) ≡ true
escaped_shows p shows [] = refl
escaped_shows p shows (x ∷ xs) = all_on visible (if p x then x ∷ [] else percent_encode_byte x) (escaped p xs) (escaped_one p shows x (p x) refl) (escaped_shows p shows xs)

number_shows : (n : ℕ) → n < 2 ^ 64 → list_all visible (decimal n) ≡ true
number_shows n low = all_to is_digit visible digit_shows (decimal n) (decimal_digits n low)

form_shows : (t : Target) → IsNamed t → list_all visible (form_text t) ≡ true
form_shows target.Manifest named = refl
form_shows (target.Fragment a) named =
    let name = escaped is_plain a.stream in
    let name_shows : list_all visible name ≡ true = escaped_shows is_plain (λ b is. plain_shows b (plain_in b is)) a.stream in
    all_on visible (level_text a.bitrate) (place_text a.stream a.time)
    (all_on visible (codes "QualityLevels(" ++ decimal a.bitrate) (codes ")/") (all_on visible (codes "QualityLevels(") (decimal a.bitrate) refl (number_shows a.bitrate (omega (arith, named.0)))) refl)
    (all_on visible (codes "Fragments(" ++ name ++ codes "=" ++ decimal a.time) (codes ")")
    (all_on visible (codes "Fragments(" ++ name ++ codes "=") (decimal a.time)
    (all_on visible (codes "Fragments(" ++ name) (codes "=") (all_on visible (codes "Fragments(") name refl name_shows) refl) (number_shows a.time named.1)) refl)
form_shows (target.Streams id) named =
    all_on visible (codes "Streams(" ++ escaped is_plain id) (codes ")") (all_on visible (codes "Streams(") (escaped is_plain id) refl (escaped_shows is_plain (λ b is. plain_shows b (plain_in b is)) id)) refl
form_shows target.Unknown named = absurd named

target_shows : (path : List ℕ) (t : Target) → IsNamed t → list_all visible (target_written path t) ≡ true
target_shows path t named =
    all_on visible (codes "/" ++ escaped is_plain_in_path path ++ isml) (form_text t)
    (all_on visible (codes "/" ++ escaped is_plain_in_path path) isml (all_on visible (codes "/") (escaped is_plain_in_path path) refl (escaped_shows is_plain_in_path plain_shows path)) refl)
    (form_shows t named)

-- ---- what that gives

shown_uri : (b : ℕ) → visible b ≡ true → is_uri_byte b ≡ true
shown_uri b is = grind (arith, nat_tests, is)

uri_all : (xs : List ℕ) → list_all visible xs ≡ true → AllByRecursion (λ (b : ℕ). is_uri_byte b ≡ true) xs
uri_all [] all = tt
uri_all (x ∷ xs) all = let parts = and_parts (visible x) (list_all visible xs) all in (shown_uri x parts.0, uri_all xs parts.1)

ascii_all : (xs : List ℕ) → list_all visible xs ≡ true → (i : ℕ) → slice_index xs i < 128
ascii_all [] all i = omega arith
ascii_all (x ∷ xs) all zero = let parts = and_parts (visible x) (list_all visible xs) all in let low = and_parts (nat_lt 32 x) (nat_lt x 127) parts.0 in omega (arith, ltb-true x 127 low.1)
ascii_all (x ∷ xs) all (suc i) = ascii_all xs (and_parts (visible x) (list_all visible xs) all).1 i

some-target : (path : List ℕ) (t : Target) → 0 < length (target_written path t)
some-target path t =
    omega (
      arith,
      length-append (codes "/" ++ escaped is_plain_in_path path ++ isml) (form_text t),
      length-append (codes "/" ++ escaped is_plain_in_path path) isml,
      length-append (codes "/") (escaped is_plain_in_path path),
    )

pub may-ask : (place : Place) (t : Target) → IsPlace place → IsNamed t → MayBeAsked place.host place.port (target_written place.path t)
may-ask place t is named =
    let shows = target_shows place.path t named in
    record {
      printable = is.host;
      few = is.few;
      narrow = is.port;
      some = some-target place.path t;
      visible = All-from_recursion (λ (b : ℕ). is_uri_byte b ≡ true) (target_written place.path t) (uri_all (target_written place.path t) shows);
      text = IsUtf8-from_ascii (target_written place.path t) (ascii_all (target_written place.path t) shows);
    }

-- ---- short

length-one : (p : ℕ → Bool) (b : ℕ) (t : Bool) → p b ≡ t → length (if t then b ∷ [] else percent_encode_byte b) ≤ 3
unfolding percent_encode_byte
length-one p b true is = omega arith
length-one p b false is = omega arith

length-escaped : (p : ℕ → Bool) (xs : List ℕ) → length (escaped p xs) ≤ 3 * length xs
length-escaped p [] = omega arith
length-escaped p (x ∷ xs) =
    omega (arith, length-append (if p x then x ∷ [] else percent_encode_byte x) (escaped p xs), length-one p x (p x) refl, length-escaped p xs)

length-number : (n : ℕ) → n < 2 ^ 64 → length (decimal n) ≤ 20
length-number n low = length-decimal-le 20 n (omega arith) (omega (arith, low)) (omega arith)

short-name : (name : List ℕ) → is_name name ≡ true → length name ≤ 64
unfolding is_name
short-name name is = let second = and_parts (nat_le 1 (length name)) _ is in leb-true (length name) 64 (and_parts (nat_le (length name) 64) _ second.1).0

short-path : (path : List ℕ) → IsPath path → length path ≤ 512
short-path path is =
    let first = and_parts (nat_lt 0 (length path) && nat_le (length path) 512) (not (list_any (λ b. b == 63) path)) is.short in
    leb-true (length path) 512 (and_parts (nat_lt 0 (length path)) (nat_le (length path) 512) first.0).1

length-fragment : (a : Address) → IsNamed (target.Fragment a) → length (form_text (target.Fragment a)) ≤ 1000
length-fragment a named =
    let name = escaped is_plain a.stream in
    omega (
      arith,
      length-append (level_text a.bitrate) (place_text a.stream a.time),
      length-append (codes "QualityLevels(" ++ decimal a.bitrate) (codes ")/"),
      length-append (codes "QualityLevels(") (decimal a.bitrate),
      length-append (codes "Fragments(" ++ name ++ codes "=" ++ decimal a.time) (codes ")"),
      length-append (codes "Fragments(" ++ name ++ codes "=") (decimal a.time),
      length-append (codes "Fragments(" ++ name) (codes "="),
      length-append (codes "Fragments(") name,
      length-number a.bitrate (omega (arith, named.0)),
      length-number a.time named.1,
      length-escaped is_plain a.stream,
      short-name a.stream named.2,
    )

length-target : (path : List ℕ) (t : Target) (n : ℕ) → IsPath path → length (form_text t) ≤ n → length (target_written path t) ≤ 2000 + n
length-target path t n is few =
    omega (
      arith,
      length-append (codes "/" ++ escaped is_plain_in_path path ++ isml) (form_text t),
      length-append (codes "/" ++ escaped is_plain_in_path path) isml,
      length-append (codes "/") (escaped is_plain_in_path path),
      length-escaped is_plain_in_path path,
      short-path path is,
      few,
    )

pub short-manifest : (place : Place) → IsPlace place → length (target_written place.path target.Manifest) ≤ 7000
short-manifest place is = omega (arith, length-target place.path target.Manifest 1000 is.path (omega arith))

pub short-fragment : (place : Place) (a : Address) → IsPlace place → IsNamed (target.Fragment a) → length (target_written place.path (target.Fragment a)) ≤ 7000
short-fragment place a is named = omega (arith, length-target place.path (target.Fragment a) 1000 is.path (length-fragment a named))
