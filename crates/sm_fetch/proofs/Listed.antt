-- Each stream that a manifest lists has a quality.
use Rattle.std.proofs.Common.{◌≡◌, ◌<◌, ℕ, ◌+◌, ◌==◌, ◌||◌, if◌then◌else◌, Bool, true, false, List, [], ◌∷◌, ◌++◌, length, refl, sym, subst, arith}
use Rattle.std.specs.Prelude.{Option, Some, None, Ok, Result, map, nat_lt}
use Rattle.std.specs.List.{AllByRecursion}
use Rattle.std.specs.Option.{option_to_list}
use Rattle.std.proofs.lemmas.List.Elements.{All-from_recursion}
use Rattle.sm_model.specs.Places.{least_from}
use Rattle.sm_tag.specs.Elements.{bad_of}
use Rattle.sm_manin.specs.declared.listing.Level.{Level}
use Rattle.sm_manin.specs.declared.listing.StreamListing.{StreamListing}
use Rattle.sm_manin.specs.declared.listing.Listing.{Listing}
use Rattle.sm_manin.specs.declared.raw.RawLevel.{RawLevel}
use Rattle.sm_manin.specs.declared.raw.RawStream.{RawStream}
use Rattle.sm_manin.specs.ManifestWalk.{Walk, none_met, walk}
use Rattle.sm_manin.specs.ManifestFaults.{at_if, root_faults, is_stream_at_fault, lacks_levels, stream_faults, streams_faults, open_faults, faults_of}
use Rattle.sm_manin.specs.Listings.{with_level, level_in, levels_from, listing_of, timescale_of, read_of}
use Rattle.sm_manin.specs.ManifestRead.{judged, IsManifest}
use Rattle.sm_manin.proofs.NoFaults.{left_none, right_none}
use Rattle.sm_fetch.specs.declared.got.Got.{Got}
use Rattle.sm_fetch.specs.declared.got.Got.TheVariants as got
use Rattle.sm_fetch.specs.Spelt.{SpellsListing}
use Rattle.sm_fetch.specs.Fetched.{HasLevels, StreamsHaveLevels}

some_with : (l : Level) (ks : List Level) → 0 < length (with_level l ks)
some_with l [] = omega arith
some_with l (k ∷ ks) = either (nat_lt l.bitrate k.bitrate) l k ks
  where
    either : (b : Bool) (l k : Level) (ks : List Level) → 0 < length (if b then l ∷ k ∷ ks else k ∷ with_level l ks)
    either true l k ks = omega arith
    either false l k ks = omega arith

some_levels : (sorted : List Level) (place : ℕ) (ls : List RawLevel) → 0 < length sorted + length ls → 0 < length (levels_from sorted place ls)
some_levels sorted place [] some = omega (arith, some)
some_levels sorted place (l ∷ ls) some = let first = some_with (level_in place l) sorted in some_levels (with_level (level_in place l) sorted) (place + 1) ls (omega (arith, first))

-- ---- a text without a fault

some_least : (xs : List ℕ) (a : ℕ) → least_from (Some a) xs ≡ None → ⊥
some_least [] a e = cc
some_least (x ∷ xs) a e = some_least xs _ e

no_places : (xs : List ℕ) → least_from None xs ≡ None → xs ≡ []
no_places [] e = refl
no_places (x ∷ xs) e = absurd (some_least xs x e)

not_at : (b : Bool) (at : ℕ) → at_if b at ≡ [] → b ≡ false
not_at true at e = absurd cc
not_at false at e = refl

or_right : (a b : Bool) → (a || b) ≡ false → b ≡ false
or_right true b e = absurd cc
or_right false b e = e

has_some : (ls : List RawLevel) → (length ls == 0) ≡ false → 0 < length ls
has_some [] e = absurd (cc)
has_some (l ∷ ls) e = omega arith

some_raw : (earlier : List RawStream) (s : RawStream) → stream_faults false earlier s ≡ [] → 0 < length s.levels
some_raw earlier s e =
    has_some s.levels (or_right (is_stream_at_fault earlier s) (lacks_levels false s) (not_at _ s.at (left_none (at_if (is_stream_at_fault earlier s || lacks_levels false s) s.at) _ e)))

all_some : (timescale : ℕ) (earlier ss : List RawStream) → streams_faults earlier ss ≡ [] → AllByRecursion (λ (s : StreamListing). 0 < length s.levels) (map (listing_of timescale) ss)
all_some timescale earlier [] e = tt
all_some timescale earlier (s ∷ ss) e =
    let raw = some_raw earlier s (left_none (stream_faults false earlier s) _ e) in (
      some_levels [] 0 s.levels (omega (arith, raw)),
      all_some timescale (earlier ++ s ∷ []) ss (right_none (stream_faults false earlier s) _ e),
    )

done_faults : (bad : Option ℕ) (w : Walk) → faults_of bad w ≡ [] → streams_faults [] w.done ≡ []
done_faults bad w e =
    let behind = open_faults w.done w.current ++ option_to_list bad in
    let third = streams_faults [] w.done ++ behind in
    let second = option_to_list w.protection ++ third in
    left_none (streams_faults [] w.done) behind (right_none (option_to_list w.protection) third (right_none (option_to_list w.other) second (right_none (root_faults w.root) (option_to_list w.other ++ second) e)))

read_has : (listing : Listing) (bad : Option ℕ) (w : Walk) (least : Option ℕ) → least_from None (faults_of bad w) ≡ least → ◌≡◌ {A = Result Listing ℕ} (Ok listing) (judged least w)
    → StreamsHaveLevels listing
read_has listing bad w (Some at) none is = absurd (cc)
read_has listing bad w None none is =
    let read : listing ≡ read_of w = cc in
    subst StreamsHaveLevels (sym read) (All-from_recursion (λ (s : StreamListing). 0 < length s.levels) (map (listing_of (timescale_of w.root)) w.done)
    (all_some (timescale_of w.root) [] w.done (done_faults bad w (no_places (faults_of bad w) none))))

pub listed_have_levels : (text : List ℕ) (listing : Listing) → IsManifest text (Ok listing) → StreamsHaveLevels listing
listed_have_levels text listing (tags, reads, is) =
    read_has listing (bad_of tags) (walk none_met tags) (least_from None (faults_of (bad_of tags) (walk none_met tags))) refl is

pub got_has_levels : (bytes : List ℕ) (g : Got) → SpellsListing bytes g → HasLevels g
got_has_levels bytes (got.Manifest listing) (at, body, whole, is) = listed_have_levels body listing is
got_has_levels bytes (got.Fragment raw) is = tt
got_has_levels bytes (got.Status s) is = tt
got_has_levels bytes got.Cut is = tt
got_has_levels bytes (got.Unreadable at) is = tt
got_has_levels bytes got.Lost is = tt
got_has_levels bytes got.NoMemory is = tt
