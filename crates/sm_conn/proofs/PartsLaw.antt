-- What a connection reads, piece after piece.
use Rattle.std.proofs.Common.{◌≡◌, ℕ, ◌+◌, ◌≤◌, List, [], ◌∷◌, ◌++◌, length, take, refl, ap, ◌∙◌, sym, subst, arith, inl, inr, append_assoc, length-append, lit<, eqb}
use Rattle.std.specs.Prelude.{map, drop, Bool, true, Result, Err, if◌then◌else◌, suc, zero}
use Rattle.std.proofs.lemmas.List.{map-append}
use Rattle.std.proofs.lemmas.Bool.{eqb-true}
use Rattle.std.proofs.lemmas.List.{append-nil, take-append-le, drop-append-le}
use Rattle.std.proofs.lemmas.Grind.{common_steps}
use Rattle.httparse.specs.Grammar.{ReadsRequest, HasNoRequest}
use Rattle.httparse.proofs.GrammarLemmas.{ReadsRequest-append}
use Rattle.sm_body.specs.declared.place.Place.{Place}
use Rattle.sm_body.specs.Places.{place_after, body_from, next_place, is_data}
use Rattle.sm_head.specs.Heads.{IsHopeless}
use Rattle.sm_head.proofs.HeadLaw.{none_empty}
use Rattle.sm_model.specs.declared.cause.Cause.{Cause}
use Rattle.sm_model.specs.declared.cause.Cause.TheVariants.{BadChunk}
use Rattle.sm_head.specs.declared.asked.Asked.{Asked}
use Rattle.sm_head.specs.Requests.{window, IsWaiting, IsRefused, IsHeadAt}
use Rattle.sm_conn.specs.Parts.{PartItem, byte, ended, bad, Mode, in_head, in_body, closed, opening, Reads, waiting, refused, whole, body, stopped, failed, shut}

-- ---- without a byte

empty_front : (xs ys : List ℕ) → [] ≡ xs ++ 10 ∷ ys → ⊥
empty_front [] ys e = cc
empty_front (x ∷ xs) ys e = cc

empty_waits : IsWaiting []
empty_waits = record { none = none_empty; hopeful = λ h. empty_front h.front h.rest h.splits; short = lit< tt }

no_byte : (bytes : List ℕ) → eqb (length bytes) 0 ≡ true → bytes ≡ []
no_byte [] e = refl
no_byte (b ∷ bytes) e = absurd (omega (arith, eqb-true (length (b ∷ bytes)) 0 e))

-- where a head begins no byte gives nothing
pub nothing_yet : (mode last : Mode) (bytes : List ℕ) → eqb (length bytes) 0 ≡ true → mode ≡ in_head [] → last ≡ in_head [] → Reads mode bytes [] last
nothing_yet mode last bytes none begins ends =
    let is : bytes ≡ [] = no_byte bytes none in
    waiting mode last bytes [] [] begins (subst IsWaiting (sym is) empty_waits) refl (ends ∙ ap (λ (b : List ℕ). in_head b) (sym is))

-- ---- more bytes

-- what is hopeless stays so
pub hopeless_on : (xs more : List ℕ) → IsHopeless xs → IsHopeless (xs ++ more)
hopeless_on xs more h = record {
  front = h.front;
  rest = h.rest ++ more;
  splits = ap (λ b. b ++ more) h.splits ∙ append_assoc h.front (10 ∷ h.rest) more;
  never = h.never;
}

window_full : (xs more : List ℕ) → 8192 ≤ length xs → window (xs ++ more) ≡ window xs
window_full xs more full = take-append-le 8192 xs more full

pub place_on : (p : Place) (xs ys : List ℕ) → place_after p (xs ++ ys) ≡ place_after (place_after p xs) ys
place_on p [] ys = refl
place_on p (x ∷ xs) ys = place_on (next_place p x) xs ys

take_on : (n : ℕ) (xs ys : List ℕ) → (cut : List ℕ) × (take n (xs ++ ys) ≡ take n xs ++ cut)
take_on n [] ys = (take n ys, grind (arith, common_steps))
take_on zero (x ∷ xs) ys = ([], refl)
take_on (suc n) (x ∷ xs) ys = let below = take_on n xs ys in (below.0, ap (λ b. x ∷ b) below.1)

window_on : (xs more : List ℕ) → (cut : List ℕ) × (window (xs ++ more) ≡ window xs ++ cut)
window_on xs more = take_on 8192 xs more

-- a whole head stays one
pub head_at_on : (xs more : List ℕ) (len : ℕ) (j : Result Asked Cause) → IsHeadAt xs len j → IsHeadAt (xs ++ more) len j
head_at_on xs more len j at = record {
  h = at.h;
  reads = subst (λ (r : List ℕ). ReadsRequest (xs ++ more) at.h r) (sym (drop-append-le len xs more at.fits)) (ReadsRequest-append xs at.h (drop len xs) more at.reads);
  fits = omega (arith, length-append xs more, at.fits);
  some = at.some;
  short = at.short;
  judged_is = at.judged_is;
}

pub refused_on : (xs more : List ℕ) (cause : Cause) → IsRefused xs cause → IsRefused (xs ++ more) cause
refused_on xs more cause (inl (len, at)) = inl (len, head_at_on xs more len (Err cause) at)
refused_on xs more cause (inr (inl (is, h))) = let w = window_on xs more in inr (inl (is, subst IsHopeless (sym w.1) (hopeless_on (window xs) w.0 h)))
refused_on xs more cause (inr (inr (is, long))) =
    let w = window_full xs more long.full in
    inr (inr (is, record { none = subst HasNoRequest (sym w) long.none; hopeful = λ h. long.hopeful (subst IsHopeless w h); full = omega (arith, length-append xs more, long.full) }))

-- the items of the data among bytes
abbrev pub data_items : Place → List ℕ → List PartItem
data_items p xs = map (λ b. byte b) (body_from p xs)

pub data_on : (p : Place) (xs ys : List ℕ) → data_items p (xs ++ ys) ≡ data_items p xs ++ data_items (place_after p xs) ys
data_on p xs ys = ap (map (λ b. byte b)) (body_on p xs ys) ∙ map-append (λ b. byte b) (body_from p xs) (body_from (place_after p xs) ys)
  where
    body_on : (p : Place) (xs ys : List ℕ) → body_from p (xs ++ ys) ≡ body_from p xs ++ body_from (place_after p xs) ys
    body_on p [] ys = refl
    body_on p (x ∷ xs) ys =
        ap (λ b. (if is_data p then x ∷ [] else []) ++ b) (body_on (next_place p x) xs ys)
        ∙ sym (append_assoc (if is_data p then x ∷ [] else []) (body_from (next_place p x) xs) (body_from (place_after (next_place p x) xs) ys))

-- what a head in progress reads on
head_on : (kept xs ys : List ℕ) (a b c : Mode) (vs : List PartItem) → a ≡ in_head kept → b ≡ in_head (kept ++ xs) → Reads b ys vs c → Reads a (xs ++ ys) vs c
head_on kept xs ys a b c vs at on (waiting b' c' ys' vs' k is wait none last) =
    let e : k ++ ys ≡ kept ++ (xs ++ ys) = ap (λ n. n ++ ys) (kept_is k kept xs b is on) ∙ append_assoc kept xs ys in
    waiting a c (xs ++ ys) vs kept at (subst IsWaiting e wait) none (last ∙ ap (λ n. in_head n) e)
  where
    kept_is : (k kept xs : List ℕ) (b : Mode) → b ≡ in_head k → b ≡ in_head (kept ++ xs) → k ≡ kept ++ xs
    kept_is k kept xs b is on = cc
head_on kept xs ys a b c vs at on (refused b' c' ys' vs' k cause is refuse said last) =
    let e : k ++ ys ≡ kept ++ (xs ++ ys) = ap (λ n. n ++ ys) (kept_is k kept xs b is on) ∙ append_assoc kept xs ys in
    refused a c (xs ++ ys) vs kept cause at (subst (λ (n : List ℕ). IsRefused n cause) e refuse) said last
  where
    kept_is : (k kept xs : List ℕ) (b : Mode) → b ≡ in_head k → b ≡ in_head (kept ++ xs) → k ≡ kept ++ xs
    kept_is k kept xs b is on = cc
head_on kept xs ys a b c vs at on (whole b' c' ys' vs' k rest h asked others is reads short judge inner said) =
    let e : k ++ ys ≡ kept ++ (xs ++ ys) = ap (λ n. n ++ ys) (kept_is k kept xs b is on) ∙ append_assoc kept xs ys in
    whole a c (xs ++ ys) vs kept rest h asked others at (subst (λ (n : List ℕ). ReadsRequest n h rest) e reads) (subst (λ (n : List ℕ). length n ≤ length rest + 8192) e short) judge inner said
  where
    kept_is : (k kept xs : List ℕ) (b : Mode) → b ≡ in_head k → b ≡ in_head (kept ++ xs) → k ≡ kept ++ xs
    kept_is k kept xs b is on = cc
head_on kept xs ys a b c vs at on (body b' c' ys' vs' place shuts is still fine said last) = absurd (cc)
head_on kept xs ys a b c vs at on (stopped b' c' ys' vs' place shuts front rest others is splits stops inner said) = absurd (cc)
head_on kept xs ys a b c vs at on (failed b' c' ys' vs' place shuts front x rest is splits still fine stops said last) = absurd (cc)
head_on kept xs ys a b c vs at on (shut b' c' ys' vs' is none last) = absurd (cc)

-- what a body in progress reads on
pub body_on : (p : Place) (shut_ : Bool) (xs ys : List ℕ) (a b c : Mode) (us vs : List PartItem) → a ≡ in_body p shut_ → b ≡ in_body (place_after p xs) shut_ → us ≡ data_items p xs
    → Reads b ys vs c → Reads a (xs ++ ys) (us ++ vs) c
body_on p shut_ xs ys a b c us vs at on said1 (body b' c' ys' vs' q shuts is still fine said last) =
    let same : q ≡ place_after p xs = cc in
    let here : a ≡ in_body p shuts = let k : shut_ ≡ shuts = cc in at ∙ ap (λ z. in_body p z) k in
    let e : place_after q ys ≡ place_after p (xs ++ ys) = ap (λ (r : Place). place_after r ys) same ∙ sym (place_on p xs ys) in
    body a c (xs ++ ys) (us ++ vs) p shuts here (λ h. still (e ∙ h)) (λ h. fine (e ∙ h))
    (ap (λ u. u ++ vs) said1 ∙ ap (λ v. data_items p xs ++ v) (said ∙ ap (λ (r : Place). data_items r ys) same) ∙ sym (data_on p xs ys))
    (last ∙ ap (λ r. in_body r shuts) e)
body_on p shut_ xs ys a b c us vs at on said1 (stopped b' c' ys' vs' q shuts front rest others is splits stops inner said) =
    let same : q ≡ place_after p xs = cc in
    let here : a ≡ in_body p shuts = let k : shut_ ≡ shuts = cc in at ∙ ap (λ z. in_body p z) k in
    let e : place_after q front ≡ place_after p (xs ++ front) = ap (λ (r : Place). place_after r front) same ∙ sym (place_on p xs front) in
    stopped a c (xs ++ ys) (us ++ vs) p shuts (xs ++ front) rest others here (ap (λ n. xs ++ n) splits ∙ sym (append_assoc xs front rest)) (sym e ∙ stops) inner
    (ap (λ u. u ++ vs) said1 ∙ ap (λ v. data_items p xs ++ v) (said ∙ ap (λ (r : Place). data_items r front ++ (ended shuts ∷ others)) same)
    ∙ sym (append_assoc (data_items p xs) (data_items (place_after p xs) front) (ended shuts ∷ others)) ∙ ap (λ v. v ++ (ended shuts ∷ others)) (sym (data_on p xs front)))
body_on p shut_ xs ys a b c us vs at on said1 (failed b' c' ys' vs' q shuts front x rest is splits still fine stops said last) =
    let same : q ≡ place_after p xs = cc in
    let here : a ≡ in_body p shuts = let k : shut_ ≡ shuts = cc in at ∙ ap (λ z. in_body p z) k in
    let e : place_after q front ≡ place_after p (xs ++ front) = ap (λ (r : Place). place_after r front) same ∙ sym (place_on p xs front) in
    failed a c (xs ++ ys) (us ++ vs) p shuts (xs ++ front) x rest here (ap (λ n. xs ++ n) splits ∙ sym (append_assoc xs front (x ∷ rest)))
    (λ h. still (e ∙ h)) (λ h. fine (e ∙ h)) (ap (λ (r : Place). next_place r x) (sym e) ∙ stops)
    (ap (λ u. u ++ vs) said1 ∙ ap (λ v. data_items p xs ++ v) (said ∙ ap (λ (r : Place). data_items r front ++ (bad BadChunk ∷ [])) same)
    ∙ sym (append_assoc (data_items p xs) (data_items (place_after p xs) front) (bad BadChunk ∷ [])) ∙ ap (λ v. v ++ (bad BadChunk ∷ [])) (sym (data_on p xs front)))
    last
body_on p shut_ xs ys a b c us vs at on said1 (waiting b' c' ys' vs' k is wait none last) = absurd (cc)
body_on p shut_ xs ys a b c us vs at on said1 (refused b' c' ys' vs' k cause is refuse said last) = absurd (cc)
body_on p shut_ xs ys a b c us vs at on said1 (whole b' c' ys' vs' k rest h asked others is reads short judge inner said) = absurd (cc)
body_on p shut_ xs ys a b c us vs at on said1 (shut b' c' ys' vs' is none last) = absurd (cc)

-- a closed connection gives nothing
shut_on : (ys : List ℕ) (b c : Mode) (vs : List PartItem) → b ≡ closed → Reads b ys vs c → (vs ≡ []) × (c ≡ closed)
shut_on ys b c vs on (shut b' c' ys' vs' is none last) = (none, last)
shut_on ys b c vs on (waiting b' c' ys' vs' k is wait none last) = absurd (cc)
shut_on ys b c vs on (refused b' c' ys' vs' k cause is refuse said last) = absurd (cc)
shut_on ys b c vs on (whole b' c' ys' vs' k rest h asked others is reads short judge inner said) = absurd (cc)
shut_on ys b c vs on (body b' c' ys' vs' place shuts is still fine said last) = absurd (cc)
shut_on ys b c vs on (stopped b' c' ys' vs' place shuts front rest others is splits stops inner said) = absurd (cc)
shut_on ys b c vs on (failed b' c' ys' vs' place shuts front x rest is splits still fine stops said last) = absurd (cc)

nothing_more : (us vs ws : List PartItem) → us ≡ ws → vs ≡ [] → us ++ vs ≡ ws
nothing_more us vs ws same none = ap (λ v. us ++ v) none ∙ append-nil us ∙ same

-- a connection that reads on reads the joined bytes
pub reads_on : (a b c : Mode) (xs ys : List ℕ) (us vs : List PartItem) → Reads a xs us b → Reads b ys vs c → Reads a (xs ++ ys) (us ++ vs) c
reads_on a b c xs ys us vs (waiting a' b' xs' us' kept is wait none last) next =
    subst (λ (u : List PartItem). Reads a (xs ++ ys) (u ++ vs) c) (sym none) (head_on kept xs ys a b c vs is last next)
reads_on a b c xs ys us vs (refused a' b' xs' us' kept cause is refuse said last) next =
    let shut = shut_on ys b c vs last next in
    refused a c (xs ++ ys) (us ++ vs) kept cause is (subst (λ (n : List ℕ). IsRefused n cause) (append_assoc kept xs ys) (refused_on (kept ++ xs) ys cause refuse)) (nothing_more us vs _ said shut.0) shut.1
reads_on a b c xs ys us vs (whole a' b' xs' us' kept rest h asked others is reads short judge inner said) next =
    let joined = append_assoc kept xs ys in
    whole a c (xs ++ ys) (us ++ vs) kept (rest ++ ys) h asked (others ++ vs) is
    (subst (λ (n : List ℕ). ReadsRequest n h (rest ++ ys)) joined (ReadsRequest-append (kept ++ xs) h rest ys reads))
    (subst (λ (n : List ℕ). length n ≤ length (rest ++ ys) + 8192) joined (omega (arith, length-append (kept ++ xs) ys, length-append rest ys, short))) judge
    (reads_on _ b c rest ys others vs inner next)
    (ap (λ u. u ++ vs) said ∙ append_assoc (opening asked) others vs)
reads_on a b c xs ys us vs (body a' b' xs' us' place shuts is still fine said last) next = body_on place shuts xs ys a b c us vs is last said next
reads_on a b c xs ys us vs (stopped a' b' xs' us' place shuts front rest others is splits stops inner said) next =
    stopped a c (xs ++ ys) (us ++ vs) place shuts front (rest ++ ys) (others ++ vs) is
    (ap (λ n. n ++ ys) splits ∙ append_assoc front rest ys) stops
    (reads_on _ b c rest ys others vs inner next)
    (ap (λ u. u ++ vs) said ∙ append_assoc (data_items place front) (ended shuts ∷ others) vs)
reads_on a b c xs ys us vs (failed a' b' xs' us' place shuts front x rest is splits still fine stops said last) next =
    let shut = shut_on ys b c vs last next in
    failed a c (xs ++ ys) (us ++ vs) place shuts front x (rest ++ ys) is (ap (λ n. n ++ ys) splits ∙ append_assoc front (x ∷ rest) ys) still fine stops (nothing_more us vs _ said shut.0) shut.1
reads_on a b c xs ys us vs (shut a' b' xs' us' is none last) next =
    let more = shut_on ys b c vs last next in
    shut a c (xs ++ ys) (us ++ vs) is (nothing_more us vs _ none more.0) more.1

-- ---- one act

-- the bytes kept of a head are read with those that follow
pub unkept : (kept xs : List ℕ) (a b c : Mode) (us : List PartItem) → a ≡ in_head [] → b ≡ in_head kept → Reads a (kept ++ xs) us c → Reads b xs us c
unkept kept xs a b c us at on (waiting a' c' ys' us' k is wait none last) =
    let e : k ≡ [] = cc in
    let f : k ++ (kept ++ xs) ≡ kept ++ xs = ap (λ n. n ++ (kept ++ xs)) e in
    waiting b c xs us kept on (subst IsWaiting f wait) none (last ∙ ap (λ n. in_head n) f)
unkept kept xs a b c us at on (refused a' c' ys' us' k cause is refuse said last) =
    let e : k ≡ [] = cc in
    let f : k ++ (kept ++ xs) ≡ kept ++ xs = ap (λ n. n ++ (kept ++ xs)) e in
    refused b c xs us kept cause on (subst (λ (n : List ℕ). IsRefused n cause) f refuse) said last
unkept kept xs a b c us at on (whole a' c' ys' us' k rest h asked others is reads short judge inner said) =
    let e : k ≡ [] = cc in
    let f : k ++ (kept ++ xs) ≡ kept ++ xs = ap (λ n. n ++ (kept ++ xs)) e in
    whole b c xs us kept rest h asked others on (subst (λ (n : List ℕ). ReadsRequest n h rest) f reads) (subst (λ (n : List ℕ). length n ≤ length rest + 8192) f short) judge inner said
unkept kept xs a b c us at on (body a' c' ys' us' place shuts is still fine said last) = absurd (cc)
unkept kept xs a b c us at on (stopped a' c' ys' us' place shuts front rest others is splits stops inner said) = absurd (cc)
unkept kept xs a b c us at on (failed a' c' ys' us' place shuts front x rest is splits still fine stops said last) = absurd (cc)
unkept kept xs a b c us at on (shut a' c' ys' us' is none last) = absurd (cc)
