-- The manifest of a channel has each of its tracks.
use Rattle.std.proofs.Common.{◌≡◌, ◌<◌, ◌+◌, ◌||◌, ◌⊎◌, ℕ, zero, suc, Bool, true, false, cond, eqb, ltb, List, [], ◌∷◌, ◌++◌, length, get_or, Option, Some, refl, ap, sym, ◌∙◌, subst, ⊎_elim, inl, inr, arith}
use Rattle.std.specs.Prelude.{Contains, AllPairs}
use Rattle.std.specs.List.{list_any}
use Rattle.std.proofs.lemmas.Bool.{eq-eqb, cases_lt}
use Rattle.std.proofs.lemmas.Slice.Eq.{bytes_eq-Decides}
use Rattle.sm_model.specs.declared.track.Track.{Track}
use Rattle.sm_model.specs.Channels.{IsChannel, Agree}
use Rattle.sm_model.specs.Same.{is_same}
use Rattle.sm_log.specs.Adds.{tracks_of}
use Rattle.sm_manin.specs.declared.listing.Level.{Level}
use Rattle.sm_manin.specs.declared.listing.StreamListing.{StreamListing}
use Rattle.sm_manin.specs.Listings.{with_level}
use Rattle.sm_manout.specs.ReadAgain.{levels_again, stream_again, streams_again, listing_again}
use Rattle.sm_client.specs.Stands.{listed}
use Rattle.sm_pull.specs.Tracks.{has_quality, has_track}

by_bool : (b : Bool) (P : Bool → Type 0) → (b ≡ true → P true) → (b ≡ false → P false) → P b
by_bool true P so other = so refl
by_bool false P so other = other refl

same_is : (a b : List ℕ) → is_same a b ≡ true → a ≡ b
same_is a b e = (bytes_eq-Decides a b).0 e

is_the_same : (a b : List ℕ) → a ≡ b → is_same a b ≡ true
is_the_same a b e = (bytes_eq-Decides a b).1 e

-- ---- levels

abbrev rated : ℕ → List Level → Bool
rated b ls = list_any (λ l. eqb l.bitrate b) ls

or_left : (p q : Bool) → p ≡ true → (p || q) ≡ true
or_left p q e = rw e refl

or_right : (p q : Bool) → q ≡ true → (p || q) ≡ true
or_right true q e = refl
or_right false q e = e

or_either : (p q : Bool) → (p || q) ≡ true → (p ≡ true) ⊎ (q ≡ true)
or_either true q e = inl refl
or_either false q e = inr e

rated_with : (b : ℕ) (l : Level) (ks : List Level) → (eqb l.bitrate b || rated b ks) ≡ true → rated b (with_level l ks) ≡ true
rated_with b l [] e = e
rated_with b l (k ∷ ks) e =
    by_bool (ltb l.bitrate k.bitrate) (λ t. rated b (cond t (l ∷ k ∷ ks) (k ∷ with_level l ks)) ≡ true) (λ is. e)
    (λ is.
    ⊎_elim (λ one. or_right (eqb k.bitrate b) _ (rated_with b l ks (or_left (eqb l.bitrate b) (rated b ks) one)))
    (λ more. ⊎_elim (λ here. or_left (eqb k.bitrate b) _ here) (λ behind. or_right (eqb k.bitrate b) _ (rated_with b l ks (or_right (eqb l.bitrate b) (rated b ks) behind)))
    (or_either (eqb k.bitrate b) (rated b ks) more))
    (or_either (eqb l.bitrate b) (eqb k.bitrate b || rated b ks) e))

rated_again : (b : ℕ) (sorted : List Level) (index : ℕ) (ts : List Track) → (rated b sorted || list_any (λ t. eqb t.bitrate b) ts) ≡ true → rated b (levels_again sorted index ts) ≡ true
rated_again b sorted index [] e = ⊎_elim (λ is. is) (λ none. absurd cc) (or_either (rated b sorted) false e)
rated_again b sorted index (t ∷ ts) e =
    rated_again b (with_level (record { index = index; bitrate = t.bitrate }) sorted) (index + 1) ts
    (⊎_elim (λ is. or_left _ _ (rated_with b (record { index = index; bitrate = t.bitrate }) sorted (or_right (eqb t.bitrate b) (rated b sorted) is)))
    (λ more. ⊎_elim (λ here. or_left _ _ (rated_with b (record { index = index; bitrate = t.bitrate }) sorted (or_left (eqb t.bitrate b) (rated b sorted) here)))
    (λ behind. or_right (rated b (with_level (record { index = index; bitrate = t.bitrate }) sorted)) _ behind)
    (or_either (eqb t.bitrate b) (list_any (λ t. eqb t.bitrate b) ts) more))
    (or_either (rated b sorted) (eqb t.bitrate b || list_any (λ t. eqb t.bitrate b) ts) e))

-- a track among those of its name
among : (name : List ℕ) (b : ℕ) (ts : List Track) (u : Track) → Contains ts u → u.name ≡ name → u.bitrate ≡ b → list_any (λ t. eqb t.bitrate b) (tracks_of name ts) ≡ true
among name b [] u (k, lt, e) is rate = absurd (omega (arith, lt))
among name b (t ∷ ts) u (zero, lt, e) is rate =
    let same : is_same t.name name ≡ true = is_the_same t.name name (ap (λ (v : Track). v.name) e ∙ is) in
    let rated : eqb t.bitrate b ≡ true = eq-eqb t.bitrate b (ap (λ (v : Track). v.bitrate) e ∙ rate) in
    rw (same, rated) refl
among name b (t ∷ ts) u (suc k, lt, e) is rate =
    by_bool (is_same t.name name) (λ p. list_any (λ t. eqb t.bitrate b) (cond p (t ∷ tracks_of name ts) (tracks_of name ts)) ≡ true)
    (λ here. or_right (eqb t.bitrate b) _ (among name b ts u (k, omega (arith, lt), e) is rate)) (λ other. among name b ts u (k, omega (arith, lt), e) is rate)

-- ---- streams

any_more : (name : List ℕ) (xs : List Track) (x : Track) → list_any (λ u. is_same u.name name) xs ≡ false → is_same x.name name ≡ false → list_any (λ u. is_same u.name name) (xs ++ x ∷ []) ≡ false
any_more name [] x a e = rw e refl
any_more name (y ∷ ys) x a e =
    by_bool (is_same y.name name) (λ b. (b || list_any (λ u. is_same u.name name) ys) ≡ false → (b || list_any (λ u. is_same u.name name) (ys ++ x ∷ [])) ≡ false) (λ t h. absurd (cc)) (λ f h. any_more name ys x h e) a

abbrev Leads : List Track → (List ℕ → List (ℕ × ℕ)) → List ℕ → List Track → List StreamListing → Type 0
Leads channel times name ts streams = (v : Track) × Contains ts v × (v.name ≡ name) × (listed name streams ≡ Some (stream_again channel (times v.name) v))

later : (channel : List Track) (times : List ℕ → List (ℕ × ℕ)) (name : List ℕ) (t : Track) (ts : List Track) (streams : List StreamListing) → Leads channel times name ts streams → Leads channel times name (t ∷ ts) streams
later channel times name t ts streams l = (l.0, (suc l.1.0, omega (arith, l.1.1), l.1.2), l.2, l.3)

leads : (channel : List Track) (times : List ℕ → List (ℕ × ℕ)) (name : List ℕ) (earlier ts : List Track) → list_any (λ u. is_same u.name name) earlier ≡ false
    → list_any (λ t. is_same t.name name) ts ≡ true → Leads channel times name ts (streams_again channel times earlier ts)
leads channel times name earlier [] none some = absurd (cc)
leads channel times name earlier (t ∷ ts) none some =
    by (is_same t.name name) refl (list_any (λ u. is_same u.name t.name) earlier) refl
    (λ other. leads channel times name (earlier ++ t ∷ []) ts (any_more name earlier t none other)
    (⊎_elim (λ here. absurd (let no' : true ≡ false = sym here ∙ other in cc)) (λ behind. behind) (or_either (is_same t.name name) (list_any (λ t. is_same t.name name) ts) some)))
  where
    one : StreamListing
    one = stream_again channel (times t.name) t

    rest : List StreamListing
    rest = streams_again channel times (earlier ++ t ∷ []) ts

    by : (b : Bool) → is_same t.name name ≡ b → (c : Bool) → list_any (λ u. is_same u.name t.name) earlier ≡ c → (is_same t.name name ≡ false → Leads channel times name ts rest)
        → Leads channel times name (t ∷ ts) ((cond c [] (one ∷ [])) ++ rest)
    by true same false first after = (t, (0, omega arith, refl), same_is t.name name same, ap (λ b. cond b (Some one) (listed name rest)) same)
    by true same true first after =
        absurd (let none' : list_any (λ u. is_same u.name t.name) earlier ≡ false = ap (λ n. list_any (λ u. is_same u.name n) earlier) (same_is t.name name same) ∙ none in cc)
    by false other true first after = later channel times name t ts rest (after other)
    by false other false first after =
        let l = after other in
        later channel times name t ts (one ∷ rest) (l.0, l.1, l.2, ap (λ b. cond b (Some one) (listed name rest)) other ∙ l.3)

any_there : (name : List ℕ) (ts : List Track) (u : Track) → Contains ts u → u.name ≡ name → list_any (λ t. is_same t.name name) ts ≡ true
any_there name [] u (k, lt, e) is = absurd (omega (arith, lt))
any_there name (t ∷ ts) u (zero, lt, e) is = or_left (is_same t.name name) _ (is_the_same t.name name (ap (λ (v : Track). v.name) e ∙ is))
any_there name (t ∷ ts) u (suc k, lt, e) is = or_right (is_same t.name name) _ (any_there name ts u (k, omega (arith, lt), e) is)

-- ---- tracks of one name

one_timescale : (channel : List Track) (u v : Track) → AllPairs Agree channel → Contains channel u → Contains channel v → u.name ≡ v.name → u.timescale ≡ v.timescale
one_timescale channel u v agree (i, low, is) (j, less, at) name =
    ⊎_elim
    (λ before.
    let a : Agree u v = by (subst (λ (x : Track). Agree x (get_or channel j u)) is (agree i j u before less)) (at_any channel j u v less at) in
    a.timescale name)
    (λ other. ⊎_elim
    (λ behind.
    let a : Agree v u = by (subst (λ (x : Track). Agree x (get_or channel i v)) at (agree j i v behind low)) (at_any channel i v u low is) in
    sym (a.timescale (sym name)))
    (λ same.
    let e : i ≡ j = omega (arith, other, same) in
    ap (λ (x : Track). x.timescale) (sym is ∙ ap (λ (k : ℕ). get_or channel k u) e ∙ at_any channel j u v less at))
    (cases_lt j i))
    (cases_lt i j)
  where
    by : {x y z : Track} → Agree x y → y ≡ z → Agree x z
    by {x = x} a e = subst (λ (w : Track). Agree x w) e a

    at_any : (xs : List Track) (k : ℕ) (d x : Track) → k < length xs → get_or xs k x ≡ x → get_or xs k d ≡ x
    at_any [] k d x lt e = absurd (omega (arith, lt))
    at_any (y ∷ ys) zero d x lt e = e
    at_any (y ∷ ys) (suc k) d x lt e = at_any ys k d x (omega (arith, lt)) e

-- ---- the manifest

quality_of : (t : Track) (o : Option StreamListing) (s : StreamListing) → o ≡ Some s → s.timescale ≡ t.timescale → rated t.bitrate s.levels ≡ true → has_quality t o ≡ true
quality_of t o s is timescale levels = rw is (rw (eq-eqb s.timescale t.timescale timescale, levels) refl)

pub offered : (channel : List Track) (times : List ℕ → List (ℕ × ℕ)) (t u : Track) → IsChannel channel → Contains channel u → u.name ≡ t.name → u.bitrate ≡ t.bitrate → u.timescale ≡ t.timescale
    → has_track (listing_again channel times) t ≡ true
offered channel times t u is there name bitrate timescale =
    let l = leads channel times t.name [] channel refl (any_there t.name channel u there name) in
    quality_of t (listed t.name (listing_again channel times).streams) (stream_again channel (times l.0.name) l.0) l.3
    (one_timescale channel l.0 u is.agree l.1 there (l.2 ∙ sym name) ∙ timescale)
    (rated_again t.bitrate [] 0 (tracks_of l.0.name channel) (among l.0.name t.bitrate channel u there (name ∙ sym l.2) bitrate))
