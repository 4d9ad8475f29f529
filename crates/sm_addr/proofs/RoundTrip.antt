-- A written target is read as what it names.
use Rattle.std.proofs.Common.{◌≡◌, ℕ, ◌<◌, ◌≤◌, ◌^◌, Bool, true, false, List, [], ◌∷◌, ◌++◌, length, take, drop, refl, ap, ◌∙◌, sym, arith, All, append_assoc, inl, inr, ◌⊎◌, Option, Some, None}
use Rattle.std.specs.Prelude.{codes, decimal, nat_eq, option_map, option_and_then, if◌then◌else◌}
use Rattle.std.specs.List.{list_all, starts_with}
use Rattle.std.proofs.lemmas.Bool.{and_parts, cond-true, cases_Bool}
use Rattle.std.proofs.lemmas.Bool.Decides.{nat_tests}
use Rattle.std.proofs.lemmas.List.{length-take, take-append-le, drop-append-le}
use Rattle.std.specs.Cmp.Lexicographic.{pointwise}
use Rattle.sm_addr.proofs.CutLaw.{not_here, is_here}
use Rattle.std.proofs.lemmas.List.Elements.{All-head, All-tail}
use Rattle.percent_encoding.specs.Percent.{percent_encode_byte, percent_decode}
use Rattle.percent_encoding.proofs.PercentLemmas.{percent_decode-nil, percent_decode_not_percent, percent_decode-percent_encode_byte}
use Rattle.sm_model.specs.declared.address.Address.{Address}
use Rattle.sm_model.specs.declared.target.Target.{Target}
use Rattle.sm_model.specs.declared.target.Target.TheVariants.{Manifest, Fragment, Streams, Unknown}
use Rattle.sm_model.specs.Digits.{is_digit, number_of}
use Rattle.sm_model.specs.Names.{is_name, is_name_byte}
use Rattle.sm_addr.specs.Cuts.{behind, from}
use Rattle.sm_addr.specs.Paths.{isml, cut_isml, IsPath}
use Rattle.sm_addr.specs.Times.{time_of}
use Rattle.sm_addr.specs.Targets.{target_text, target_of, target_in, target_parts, target_behind, level_if, fragment_if, time_in, streams_at}
use Rattle.sm_addr.specs.Written.{is_plain, is_plain_in_path, escaped, level_text, place_text, form_text, target_written, IsNamed}
use Rattle.sm_addr.proofs.Without.{isnt, all_isnt, all_on, escaped_isnt, decimal_digits, bitrate_again, time_again, name_bytes, up_to_behind, from_behind, up_to_whole, before_last}

-- ---- the escapes

abbrev IsByte : ℕ → Type 0
IsByte b = b < 256

pub decode_plain : (lit rest : List ℕ) → list_all (isnt 37) lit ≡ true → percent_decode (lit ++ rest) ≡ lit ++ percent_decode rest
decode_plain [] rest all = refl
decode_plain (x ∷ lit) rest all =
    let parts = and_parts (isnt 37 x) (list_all (isnt 37) lit) all in
    percent_decode_not_percent x (lit ++ rest) (λ e. grind (arith, nat_tests, parts.0)) ∙ ap (λ t. x ∷ t) (decode_plain lit rest parts.1)

decode_one : (p : ℕ → Bool) → p 37 ≡ false → (b : ℕ) (rest : List ℕ) → b < 256 → (t : Bool) → p b ≡ t
    → percent_decode ((if t then b ∷ [] else percent_encode_byte b) ++ rest) ≡ b ∷ percent_decode rest
decode_one p fails b rest small true is = percent_decode_not_percent b rest (λ e. absurd (cc (ap p e)))
decode_one p fails b rest small false is = percent_decode-percent_encode_byte b rest small

pub decode_escaped : (p : ℕ → Bool) → p 37 ≡ false → (bytes rest : List ℕ) → All IsByte bytes → percent_decode (escaped p bytes ++ rest) ≡ bytes ++ percent_decode rest
decode_escaped p fails [] rest small = refl
decode_escaped p fails (b ∷ bytes) rest small =
    ap percent_decode (append_assoc (if p b then b ∷ [] else percent_encode_byte b) (escaped p bytes) rest)
    ∙ decode_one p fails b (escaped p bytes ++ rest) (All-head IsByte b bytes small) (p b) refl
    ∙ ap (λ t. b ∷ t) (decode_escaped p fails bytes rest (All-tail IsByte b bytes small))

-- ---- the forms, with the names as they are

abbrev place_form : List ℕ → List ℕ → List ℕ
place_form stream time = codes "Fragments(" ++ (stream ++ (61 ∷ (time ++ 41 ∷ [])))

abbrev place_read : List ℕ → ℕ → List ℕ
place_read stream time = place_form stream (decimal time)

place_joins : (stream : List ℕ) (time : ℕ) → place_text stream time ≡ place_form (escaped is_plain stream) (decimal time)
place_joins stream time =
    ap (λ t. codes "Fragments(" ++ t)
    (append_assoc (escaped is_plain stream ++ 61 ∷ []) (decimal time) (41 ∷ []) ∙ append_assoc (escaped is_plain stream) (61 ∷ []) (decimal time ++ 41 ∷ []))

abbrev form_read : Target → List ℕ
form_read Manifest = codes "Manifest"
form_read (Fragment a) = level_text a.bitrate ++ place_read a.stream a.time
form_read (Streams id) = codes "Streams(" ++ id ++ codes ")"
form_read Unknown = []

digits_plain : (n : ℕ) → n < 2 ^ 64 → list_all (isnt 37) (decimal n) ≡ true
digits_plain n lt = all_isnt is_digit 37 (decimal n) (decimal_digits n lt) refl

decode_place : (stream : List ℕ) (time : ℕ) → time < 2 ^ 64 → All IsByte stream → percent_decode (place_text stream time) ≡ place_read stream time
decode_place stream time fits small =
    ap percent_decode (place_joins stream time)
    ∙ decode_plain (codes "Fragments(") (escaped is_plain stream ++ (61 ∷ (decimal time ++ 41 ∷ []))) refl
    ∙ ap (λ t. codes "Fragments(" ++ t)
    (decode_escaped is_plain refl stream (61 ∷ (decimal time ++ 41 ∷ [])) small
    ∙ ap (λ t. stream ++ t)
    (decode_plain (codes "=") (decimal time ++ 41 ∷ []) refl
    ∙ ap (λ t. 61 ∷ t) (decode_plain (decimal time) (41 ∷ []) (digits_plain time fits) ∙ ap (λ t. decimal time ++ t) (decode_plain (codes ")") [] refl ∙ ap (λ t. 41 ∷ t) percent_decode-nil))))

level_plain : (bitrate : ℕ) → bitrate < 2 ^ 32 → list_all (isnt 37) (level_text bitrate) ≡ true
level_plain bitrate fits = all_on (isnt 37) (decimal bitrate) (codes ")/") (digits_plain bitrate (omega arith)) refl

pub decode_form : (t : Target) → IsNamed t → percent_decode (form_text t) ≡ form_read t
decode_form Manifest named = decode_plain (codes "Manifest") [] refl ∙ ap (λ t. codes "Manifest" ++ t) percent_decode-nil
decode_form (Fragment a) named =
    decode_plain (level_text a.bitrate) (place_text a.stream a.time) (level_plain a.bitrate named.0)
    ∙ ap (λ t. level_text a.bitrate ++ t) (decode_place a.stream a.time named.1 named.3)
decode_form (Streams id) named =
    decode_plain (codes "Streams(") (escaped is_plain id ++ codes ")") refl
    ∙ ap (λ t. codes "Streams(" ++ t)
    (decode_escaped is_plain refl id (codes ")") named.1 ∙ ap (λ t. id ++ t) (decode_plain (codes ")") [] refl ∙ ap (λ t. codes ")" ++ t) percent_decode-nil))
decode_form Unknown named = absurd named

-- ---- no `?`

form_asks : (t : Target) → IsNamed t → list_all (isnt 63) (form_text t) ≡ true
form_asks Manifest named = refl
form_asks (Fragment a) named =
    all_on (isnt 63) (level_text a.bitrate) (place_text a.stream a.time)
    (all_on (isnt 63) (decimal a.bitrate) (codes ")/") (all_isnt is_digit 63 (decimal a.bitrate) (decimal_digits a.bitrate (omega (arith, named.0))) refl) refl)
    (ap (list_all (isnt 63)) (place_joins a.stream a.time)
    ∙ all_on (isnt 63) (escaped is_plain a.stream) (61 ∷ (decimal a.time ++ 41 ∷ [])) (escaped_isnt is_plain refl a.stream)
    (all_on (isnt 63) (decimal a.time) (41 ∷ []) (all_isnt is_digit 63 (decimal a.time) (decimal_digits a.time named.1) refl) refl))
form_asks (Streams id) named = all_on (isnt 63) (escaped is_plain id) (codes ")") (escaped_isnt is_plain refl id) refl
form_asks Unknown named = absurd named

written_asks : (path : List ℕ) (t : Target) → IsNamed t → list_all (isnt 63) (target_written path t) ≡ true
written_asks path t named =
    all_on (isnt 63) (escaped is_plain_in_path path ++ isml) (form_text t)
    (all_on (isnt 63) (escaped is_plain_in_path path) isml (escaped_isnt is_plain_in_path refl path) refl) (form_asks t named)

-- the text that is read again
text_read : (path : List ℕ) (t : Target) → All IsByte path → IsNamed t → target_text (target_written path t) ≡ 47 ∷ (path ++ (isml ++ form_read t))
text_read path t small named =
    ap percent_decode (up_to_whole 63 (target_written path t) (written_asks path t named))
    ∙ ap (λ r. percent_decode (47 ∷ r)) (append_assoc (escaped is_plain_in_path path) isml (form_text t))
    ∙ decode_plain (codes "/") (escaped is_plain_in_path path ++ (isml ++ form_text t)) refl
    ∙ ap (λ r. 47 ∷ r) (decode_escaped is_plain_in_path refl path (isml ++ form_text t) small
    ∙ ap (λ r. path ++ r) (decode_plain isml (form_text t) refl ∙ ap (λ r. isml ++ r) (decode_form t named)))

-- ---- the cut

same_length : (xs ys : List ℕ) → pointwise nat_eq xs ys ≡ true → length xs ≡ length ys
same_length [] [] is = refl
same_length [] (y ∷ ys) is = absurd (cc)
same_length (x ∷ xs) [] is = absurd (cc)
same_length (x ∷ xs) (y ∷ ys) is = omega (arith, same_length xs ys (and_parts (nat_eq x y) (pointwise nat_eq xs ys) is).1)

starts_long : (text : List ℕ) → starts_with nat_eq text isml ≡ true → 6 ≤ length text
starts_long text is = omega (arith, same_length isml (take 6 text) is, length-take 6 text)

mapped : (f : List ℕ × List ℕ → List ℕ × List ℕ) (r : Option (List ℕ × List ℕ)) (p : List ℕ × List ℕ) → option_map f r ≡ Some p
    → (q : List ℕ × List ℕ) × (r ≡ Some q) × (f q ≡ p)
mapped f None p is = absurd (cc)
mapped f (Some q) p is = (q, refl, cc)

cut_long : (text : List ℕ) (p : List ℕ × List ℕ) → cut_isml text ≡ Some p → 6 ≤ length text
cut_long [] p is = absurd (cc)
cut_long (x ∷ text) p is = one_long x text p is (λ q same. cut_long text q same) (cases_Bool (starts_with nat_eq (x ∷ text) isml))
  where
    one_long : (x : ℕ) (text : List ℕ) (p : List ℕ × List ℕ) → cut_isml (x ∷ text) ≡ Some p
        → ((q : List ℕ × List ℕ) → cut_isml text ≡ Some q → 6 ≤ length text)
        → (starts_with nat_eq (x ∷ text) isml ≡ true) ⊎ (starts_with nat_eq (x ∷ text) isml ≡ false) → 6 ≤ length (x ∷ text)
    one_long x text p is rest (inl here) = starts_long (x ∷ text) here
    one_long x text p is rest (inr other) =
        let m = mapped (λ (q : List ℕ × List ℕ). (x ∷ q.0, q.1)) (cut_isml text) p (sym (not_here x text other) ∙ is) in
        let long = rest m.0 m.1 in omega arith

starts_more : (text more : List ℕ) → 6 ≤ length text → starts_with nat_eq (text ++ more) isml ≡ starts_with nat_eq text isml
starts_more text more long = ap (pointwise nat_eq isml) (take-append-le 6 text more long)

pub cut_more : (text more : List ℕ) (p : List ℕ × List ℕ) → cut_isml text ≡ Some p → cut_isml (text ++ more) ≡ Some (p.0, p.1 ++ more)
cut_more [] more p is = absurd (cc)
cut_more (x ∷ text) more p is = one_more x text more p is (λ q same. cut_more text more q same) (cases_Bool (starts_with nat_eq (x ∷ text) isml))
  where
    one_more : (x : ℕ) (text more : List ℕ) (p : List ℕ × List ℕ) → cut_isml (x ∷ text) ≡ Some p
        → ((q : List ℕ × List ℕ) → cut_isml text ≡ Some q → cut_isml (text ++ more) ≡ Some (q.0, q.1 ++ more))
        → (starts_with nat_eq (x ∷ text) isml ≡ true) ⊎ (starts_with nat_eq (x ∷ text) isml ≡ false) → cut_isml (x ∷ text ++ more) ≡ Some (p.0, p.1 ++ more)
    one_more x text more p is rest (inl here) =
        let long = starts_long (x ∷ text) here in
        let cut : ([], drop 6 (x ∷ text)) ≡ p = cc (sym (is_here x text here) ∙ is) in
        is_here x (text ++ more) (starts_more (x ∷ text) more long ∙ here)
        ∙ ap (λ d. Some ([], d)) (drop-append-le 6 (x ∷ text) more long)
        ∙ ap (λ (c : List ℕ × List ℕ). Some (c.0, c.1 ++ more)) cut
    one_more x text more p is rest (inr other) =
        let m = mapped (λ (q : List ℕ × List ℕ). (x ∷ q.0, q.1)) (cut_isml text) p (sym (not_here x text other) ∙ is) in
        let long = cut_long text m.0 m.1 in
        not_here x (text ++ more) (starts_more (x ∷ text) more (omega arith) ∙ other)
        ∙ ap (option_map (λ (q : List ℕ × List ℕ). (x ∷ q.0, q.1))) (rest m.0 m.1)
        ∙ ap (λ (c : List ℕ × List ℕ). Some (c.0, c.1 ++ more)) m.2

-- the path ends where it does
path_cut : (path rest : List ℕ) → IsPath path → cut_isml (47 ∷ path ++ (isml ++ rest)) ≡ Some (47 ∷ path, rest)
path_cut path rest is =
    not_here 47 (path ++ (isml ++ rest)) refl
    ∙ ap (λ t. option_map (λ (q : List ℕ × List ℕ). (47 ∷ q.0, q.1)) (cut_isml t)) (sym (append_assoc path isml rest))
    ∙ ap (option_map (λ (q : List ℕ × List ℕ). (47 ∷ q.0, q.1))) (cut_more (path ++ isml) rest (path, []) is.ends)

-- ---- what is named

streams_again : (id : List ℕ) → is_name id ≡ true → target_behind (codes "Streams(" ++ id ++ codes ")") ≡ Streams id
streams_again id named = ap streams_at (before_last 41 id) ∙ cond-true _ _ _ named

fragment_again : (a : Address) → IsNamed (Fragment a) → target_behind (level_text a.bitrate ++ place_read a.stream a.time) ≡ Fragment a
fragment_again a named =
    let rest = place_read a.stream a.time in
    let joins : level_text a.bitrate ++ rest ≡ codes "QualityLevels(" ++ (decimal a.bitrate ++ (41 ∷ 47 ∷ rest)) =
    ap (λ t. codes "QualityLevels(" ++ t) (append_assoc (decimal a.bitrate) (codes ")/") rest) in
    let bitrate_isnt = all_isnt is_digit 41 (decimal a.bitrate) (decimal_digits a.bitrate (omega (arith, named.0))) refl in
    let stream_isnt = all_isnt is_name_byte 61 a.stream (name_bytes a.stream named.2) refl in
    let behind_stream = decimal a.time ++ codes ")" in
    ap target_behind joins
    ∙ ap (λ t. level_if t (behind (codes ")/Fragments(") (from 41 (decimal a.bitrate ++ (41 ∷ 47 ∷ rest))))) (ap number_of (up_to_behind 41 (decimal a.bitrate) (47 ∷ rest) bitrate_isnt) ∙ bitrate_again a.bitrate named.0)
    ∙ ap (λ t. level_if (Some a.bitrate) (behind (codes ")/Fragments(") t)) (from_behind 41 (decimal a.bitrate) (47 ∷ rest) bitrate_isnt)
    ∙ ap (λ t. fragment_if a.bitrate t (time_in (from 61 (a.stream ++ (61 ∷ behind_stream))))) (up_to_behind 61 a.stream behind_stream stream_isnt)
    ∙ ap (λ t. fragment_if a.bitrate a.stream (time_in t)) (from_behind 61 a.stream behind_stream stream_isnt)
    ∙ ap (λ t. fragment_if a.bitrate a.stream (option_and_then time_of t)) (before_last 41 (decimal a.time))
    ∙ ap (fragment_if a.bitrate a.stream) (time_again a.time named.1)
    ∙ cond-true _ _ _ named.2

form_again : (t : Target) → IsNamed t → target_behind (form_read t) ≡ t
form_again Manifest named = refl
form_again (Fragment a) named = fragment_again a named
form_again (Streams id) named = streams_again id named.0
form_again Unknown named = absurd named

pub target_again : (path : List ℕ) (t : Target) → IsPath path → All IsByte path → IsNamed t → target_of (target_written path t) ≡ t
target_again path t is small named =
    ap target_in (text_read path t small named)
    ∙ ap target_parts (path_cut path (form_read t) is)
    ∙ cond-true _ _ _ is.short
    ∙ form_again t named
