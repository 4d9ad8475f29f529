-- Each address to which a primary's manifest leads may be asked for, by the Url that its stream has in any manifest of it.
use Rattle.std.proofs.Common.{◌≡◌, ◌<◌, ◌+◌, ◌-◌, ◌^◌, ℕ, zero, suc, Bool, true, false, cond, eqb, List, [], ◌∷◌, ◌++◌, Option, Some, None, refl, ap, sym, ◌∙◌, subst, arith}
use Rattle.std.specs.Prelude.{is_some, map, filter, min, slice_get, All}
use Rattle.std.specs.List.{AllByRecursion, list_any}
use Rattle.std.proofs.lemmas.Bool.{eqb-true, and_parts}
use Rattle.std.proofs.lemmas.List.Elements.{recursion_from_All}
use Rattle.sm_model.specs.declared.address.Address.{Address}
use Rattle.sm_model.specs.declared.entry.Entry.{Entry}
use Rattle.sm_model.specs.declared.track.Track.{Track}
use Rattle.sm_model.specs.Same.{is_same}
use Rattle.sm_log.specs.Adds.{track_at, tracks_of, names_of}
use Rattle.sm_log.specs.Logs.{listed_in, IsSound}
use Rattle.sm_log.specs.Times.{IsSpan}
use Rattle.sm_log.proofs.ListedKept.{spans_sound}
use Rattle.sm_manin.specs.declared.listing.Level.{Level}
use Rattle.sm_manin.specs.declared.listing.Listing.{Listing}
use Rattle.sm_manin.specs.declared.listing.StreamListing.{StreamListing}
use Rattle.sm_manout.specs.ManifestText.{url}
use Rattle.sm_manout.specs.ReadAgain.{stream_again, streams_again}
use Rattle.sm_manout.proofs.ShownDeclared.{same_is}
use Rattle.sm_client.specs.Origins.{IsQuality, again}
use Rattle.sm_client.specs.Stands.{listed, times_of}
use Rattle.sm_client.proofs.Serving.{listed-found}
use Rattle.sm_pull.specs.Tracks.{has_quality, has_track, HasTracks}
use Rattle.sm_pull.proofs.Tried.{both_all}
use Rattle.sm_standby.specs.Candidates.{Candidates, end_of, start_behind, bounds_behind, candidates, candidates_by, address_in, addresses_at, row, rows, longest}
use Rattle.sm_standby.specs.Rounds.{addresses_of}
use Rattle.sm_standby.specs.Turns.{url_in, url_of}
use Rattle.sm_standby.proofs.Opens.{by_bool}
use Rattle.sm_standby.proofs.Primary.{IsAskable}

-- ---- lists

pub all_to : {A : Type 0} (P Q : A → Type 0) (xs : List A) → ((x : A) → P x → Q x) → AllByRecursion P xs → AllByRecursion Q xs
all_to P Q [] so all = tt
all_to P Q (x ∷ xs) so all = (so x all.0, all_to P Q xs so all.1)

all_filtered : {A : Type 0} (P : A → Type 0) (p : A → Bool) (xs : List A) → AllByRecursion P xs → AllByRecursion P (filter p xs)
all_filtered P p [] all = tt
all_filtered P p (x ∷ xs) all = by_bool (p x) (λ b. AllByRecursion P (cond b (x ∷ filter p xs) (filter p xs))) (λ t. (all.0, all_filtered P p xs all.1)) (λ f. all_filtered P p xs all.1)

all_map : {A B : Type 0} (P : B → Type 0) (f : A → B) (xs : List A) → AllByRecursion (λ x. P (f x)) xs → AllByRecursion P (map f xs)
all_map P f [] all = tt
all_map P f (x ∷ xs) all = (all.0, all_map P f xs all.1)

-- ---- rows

-- of each of the tracks at this time
abbrev AtTime : (Address → Type 0) → List Track → ℕ → Type 0
AtTime P channel time = AllByRecursion (λ t. P (address_in time t)) channel

at_place : (P : Address → Type 0) (channel : List Track) (name : List ℕ) (times : List ℕ) (j : ℕ) → AllByRecursion (AtTime P channel) times → AllByRecursion P (addresses_at channel name (slice_get times j))
at_place P channel name [] j all = tt
at_place P channel name (t ∷ ts) zero all =
    all_map P (address_in t) (tracks_of name channel) (all_filtered (λ u. P (address_in t u)) (λ u. is_same u.name name) channel all.0)
at_place P channel name (t ∷ ts) (suc j) all = at_place P channel name ts j all.1

in_row : (P : Address → Type 0) (channel : List Track) (j : ℕ) (all : List Candidates) → AllByRecursion (λ c. AllByRecursion (AtTime P channel) c.times) all → AllByRecursion P (row channel j all)
in_row P channel j [] a = tt
in_row P channel j (c ∷ more) a = both_all P (addresses_at channel c.name (slice_get c.times j)) (row channel j more) (at_place P channel c.name c.times j a.0) (in_row P channel j more a.1)

in_rows : (P : Address → Type 0) (channel : List Track) (all : List Candidates) (j n : ℕ) → AllByRecursion (λ c. AllByRecursion (AtTime P channel) c.times) all → AllByRecursion P (rows channel all j n)
in_rows P channel all j zero a = tt
in_rows P channel all j (suc n) a = both_all P (row channel j all) (rows channel all (j + 1) n) (in_row P channel j all a) (in_rows P channel all (j + 1) n a)

by_names : (P : List ℕ → Type 0) (times : List ℕ → List (ℕ × ℕ)) (names : List (List ℕ)) → ((name : List ℕ) → P (candidates (times name))) → AllByRecursion (λ c. P c.times) (candidates_by times names)
by_names P times [] each = tt
by_names P times (name ∷ names) each = (each name, by_names P times names each)

-- ---- times of 64 bits

abbrev Low : ℕ → Type 0
Low n = n < 2 ^ 64

start_low : (end : Option ℕ) (n : ℕ) → Low n → AllByRecursion Low (start_behind end n)
start_low None n low = (low, tt)
start_low (Some e) n low = by_bool (eqb e n) (λ b. AllByRecursion Low (cond b [] (n ∷ []))) (λ same. tt) (λ other. (low, tt))

min_low : (n : ℕ) → min n (2 ^ 64 - 1) < 2 ^ 64
min_low n = grind arith

bounds_low : (end : Option ℕ) (ts : List (ℕ × ℕ)) → AllByRecursion IsSpan ts → AllByRecursion Low (bounds_behind end ts)
bounds_low end [] spans = tt
bounds_low end (t ∷ more) spans =
    let below = spans.0.1 in
    both_all Low (start_behind end t.0) (end_of t ∷ bounds_behind (Some (end_of t)) more) (start_low end t.0 (omega (arith, below)))
    (min_low (t.0 + t.1), bounds_low (Some (end_of t)) more spans.1)

candidates_low : (ts : List (ℕ × ℕ)) → AllByRecursion IsSpan ts → AllByRecursion Low (candidates ts)
candidates_low [] spans = (omega arith, tt)
candidates_low (t ∷ more) spans = bounds_low None (t ∷ more) spans

-- ---- streams of the primary

or_true : (t : Track) (ts : List Track) (name : List ℕ) → is_same t.name name ≡ true → list_any (λ u. is_same u.name name) (t ∷ ts) ≡ true
or_true t ts name is = rw is refl

or_false : (t : Track) (ts : List Track) (name : List ℕ) → is_same t.name name ≡ false → list_any (λ u. is_same u.name name) (t ∷ ts) ≡ false → list_any (λ u. is_same u.name name) ts ≡ false
or_false t ts name is none = rw is at none

-- a stream that is none of the channel isn't listed
listed_none : (up : List Track) (times : List ℕ → List (ℕ × ℕ)) (name : List ℕ) (earlier ts : List Track) → list_any (λ t. is_same t.name name) ts ≡ false
    → listed name (streams_again up times earlier ts) ≡ None
listed_none up times name earlier [] none = refl
listed_none up times name earlier (t ∷ ts) none =
    by_bool (is_same t.name name) (λ b. is_same t.name name ≡ b → listed name (streams_again up times earlier (t ∷ ts)) ≡ None)
    (λ yes is. absurd (let e : true ≡ false = sym (or_true t ts name is) ∙ none in cc))
    (λ other is.
    by_bool (list_any (λ u. is_same u.name t.name) earlier)
    (λ c. listed name ((cond c [] (stream_again up (times t.name) t ∷ [])) ++ streams_again up times (earlier ++ t ∷ []) ts) ≡ None)
    (λ first. listed_none up times name (earlier ++ t ∷ []) ts (or_false t ts name is none))
    (λ first. ap (λ b. cond b (Some (stream_again up (times t.name) t)) (listed name (streams_again up times (earlier ++ t ∷ []) ts))) is
    ∙ listed_none up times name (earlier ++ t ∷ []) ts (or_false t ts name is none)))
    refl

level_there : (up : List Track) (name : List ℕ) (b : ℕ) (ls : List Level) → AllByRecursion (IsQuality up name) ls → list_any (λ l. eqb l.bitrate b) ls ≡ true → is_some (track_at name b up) ≡ true
level_there up name b [] all some = absurd (cc)
level_there up name b (l ∷ ls) all some =
    by_bool (eqb l.bitrate b) (λ c. eqb l.bitrate b ≡ c → is_some (track_at name b up) ≡ true)
    (λ yes is. subst (λ (n : ℕ). is_some (track_at name n up) ≡ true) (eqb-true l.bitrate b is) all.0) (λ off is. level_there up name b ls all.1 (rw is at some)) refl

name_bytes : (name : List ℕ) (ts : List Track) → AllByRecursion (λ (t : Track). All (λ b. b < 256) t.name) ts → list_any (λ t. is_same t.name name) ts ≡ true → All (λ b. b < 256) name
name_bytes name [] all some = absurd (cc)
name_bytes name (t ∷ ts) all some =
    by_bool (is_same t.name name) (λ c. is_same t.name name ≡ c → All (λ b. b < 256) name)
    (λ yes is. subst (All (λ b. b < 256)) (same_is t.name name is) all.0) (λ off is. name_bytes name ts all.1 (rw is at some)) refl

none_has : (t : Track) (o : Option StreamListing) → o ≡ None → has_quality t o ≡ true → ⊥
none_has t o is e = let f : has_quality t None ≡ true = subst (λ (x : Option StreamListing). has_quality t x ≡ true) is e in no_quality f
  where
    no_quality : false ≡ true → ⊥
    no_quality h = cc

module _ (up : List Track) (names : AllByRecursion (λ (t : Track). All (λ b. b < 256) t.name) up) (moment : List Entry) where
  -- a track that the manifest has may be asked for
  track_askable : (t : Track) (time : ℕ) → has_track (again up moment) t ≡ true → Low time → IsAskable up (address_in time t)
  track_askable t time has low =
      by_bool (list_any (λ u. is_same u.name t.name) up) (λ b. list_any (λ u. is_same u.name t.name) up ≡ b → IsAskable up (address_in time t))
      (λ yes some.
      let l = listed-found up (listed_in moment) t.name some in
      let quality : has_quality t (Some l.0) ≡ true = subst (λ (o : Option StreamListing). has_quality t o ≡ true) l.1 has in
      record {
        stream = record { bytes = name_bytes t.name up names some; track = some };
        declared = level_there up t.name t.bitrate l.0.levels l.2.levels (and_parts (eqb l.0.timescale t.timescale) (list_any (λ k. eqb k.bitrate t.bitrate) l.0.levels) quality).1;
        time = low;
      })
      (λ off none. absurd (none_has t (listed t.name (again up moment).streams) (listed_none up (listed_in moment) t.name [] up none) has)) refl

  spans : IsSound moment → (name : List ℕ) → AllByRecursion IsSpan (times_of (listed name (again up moment).streams))
  spans sound name =
      by_bool (list_any (λ u. is_same u.name name) up) (λ b. list_any (λ u. is_same u.name name) up ≡ b → AllByRecursion IsSpan (times_of (listed name (again up moment).streams)))
      (λ yes some.
      let l = listed-found up (listed_in moment) name some in
      subst (AllByRecursion IsSpan) (sym (ap times_of l.1 ∙ l.3)) (recursion_from_All IsSpan (listed_in moment name) (spans_sound moment name sound)))
      (λ off none. subst (AllByRecursion IsSpan) (sym (ap times_of (listed_none up (listed_in moment) name [] up none))) tt) refl

  -- what the manifest leads to
  pub leads_to_askable : (channel : List Track) (listing : Listing) → IsSound moment → listing ≡ again up moment → HasTracks listing channel → AllByRecursion (IsAskable up) (addresses_of channel listing)
  leads_to_askable channel listing sound is tracks =
      let times : List ℕ → List (ℕ × ℕ) = λ name. times_of (listed name listing.streams) in
      let all = candidates_by times (names_of channel) in
      in_rows (IsAskable up) channel all 0 (longest all)
      (by_names (λ (ts : List ℕ). AllByRecursion (AtTime (IsAskable up) channel) ts) times (names_of channel)
      (λ name.
      all_to Low (AtTime (IsAskable up) channel) (candidates (times name))
      (λ time low. all_to (λ t. has_track listing t ≡ true) (λ t. IsAskable up (address_in time t)) channel
      (λ t has. track_askable t time (subst (λ (l : Listing). has_track l t ≡ true) is has) low) tracks)
      (candidates_low (times name) (subst (λ (l : Listing). AllByRecursion IsSpan (times_of (listed name l.streams))) (sym is) (spans sound name)))))

  -- the Url by which it is asked for
  pub url_there : (listing : Listing) (a : Address) → listing ≡ again up moment → IsAskable up a → url_of listing a ≡ url a.stream
  url_there listing a is k =
      let l = listed-found up (listed_in moment) a.stream k.stream.track in
      ap (λ (m : Listing). url_of m a) is ∙ ap url_in l.1 ∙ l.2.pattern
