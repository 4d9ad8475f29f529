-- A stream that a manifest lists has 1 to 64 qualities.
use Rattle.std.proofs.Common.{◌≡◌, ◌+◌, ◌<◌, ◌≤◌, ℕ, Bool, true, false, not, cond, eqb, ltb, ◌||◌, List, [], ◌∷◌, ◌++◌, length, map, Option, Some, None, Ok, min, refl, sym, arith, bytes_eq}
use Rattle.std.proofs.lemmas.Bool.{leb-false, eqb-false}
use Rattle.std.proofs.lemmas.List.{length-append}
use Rattle.std.specs.List.{AllByRecursion}
use Rattle.std.specs.Option.{option_to_list}
use Rattle.sm_model.specs.Places.{least_from}
use Rattle.sm_tag.specs.Elements.{bad_of}
use Rattle.sm_manin.specs.declared.listing.Level.{Level}
use Rattle.sm_manin.specs.declared.listing.StreamListing.{StreamListing}
use Rattle.sm_manin.specs.declared.listing.Listing.{Listing}
use Rattle.sm_manin.specs.declared.raw.RawLevel.{RawLevel}
use Rattle.sm_manin.specs.declared.raw.RawStream.{RawStream}
use Rattle.sm_manin.specs.ManifestWalk.{Walk, none_met, walk}
use Rattle.sm_manin.specs.ManifestFaults.{at_if, root_faults, is_stream_at_fault, is_level_at_fault, level_faults, lacks_levels, stream_faults, streams_faults, open_faults, faults_of}
use Rattle.sm_manin.specs.Listings.{with_level, level_in, levels_from, listing_of, timescale_of, read_of}
use Rattle.sm_manin.specs.ManifestRead.{IsManifest, judged}
use Rattle.sm_fetch.specs.declared.dial.Answer.{Answer}
use Rattle.sm_fetch.specs.declared.dial.Answer.TheVariants as answers
use Rattle.sm_fetch.specs.declared.got.Got.TheVariants as got
use Rattle.sm_fetch.specs.Spelt.{SpellsManifest}
use Rattle.sm_client.specs.Stands.{listed}
use Rattle.sm_client.specs.Calls.{HasLevels}
use Rattle.sm_client.proofs.Rows.{by_bool}

-- ---- no faults

some_least : (xs : List ℕ) (a : ℕ) → least_from (Some a) xs ≡ None → ⊥
some_least [] a e = cc
some_least (x ∷ xs) a e = some_least xs (min a x) e

no_places : (xs : List ℕ) → least_from None xs ≡ None → xs ≡ []
no_places [] e = refl
no_places (x ∷ xs) e = absurd (some_least xs x e)

left_none : (xs ys : List ℕ) → xs ++ ys ≡ [] → xs ≡ []
left_none [] ys e = refl
left_none (x ∷ xs) ys e = absurd (cc)

right_none : (xs ys : List ℕ) → xs ++ ys ≡ [] → ys ≡ []
right_none [] ys e = e
right_none (x ∷ xs) ys e = absurd (cc)

not_at : (b : Bool) (at : ℕ) → at_if b at ≡ [] → b ≡ false
not_at true at e = absurd (cc)
not_at false at e = refl

or_left : (a b : Bool) → (a || b) ≡ false → a ≡ false
or_left true b e = absurd (cc)
or_left false b e = refl

or_right : (a b : Bool) → (a || b) ≡ false → b ≡ false
or_right true b e = absurd (cc)
or_right false b e = e

few_before : (earlier : List RawLevel) (l : RawLevel) → is_level_at_fault earlier l ≡ false → length earlier < 64
unfolding is_level_at_fault
few_before earlier l e = leb-false 64 (length earlier) (or_left _ _ e)

few_levels : (earlier ls : List RawLevel) → level_faults earlier ls ≡ [] → length earlier ≤ 64 → length earlier + length ls ≤ 64
few_levels earlier [] e few = omega (arith, few)
few_levels earlier (l ∷ ls) e few =
    let first = few_before earlier l (not_at _ _ (left_none (at_if (is_level_at_fault earlier l) l.at) _ e)) in
    let more = length-append earlier (l ∷ []) in
    let rest = few_levels (earlier ++ l ∷ []) ls (right_none (at_if (is_level_at_fault earlier l) l.at) _ e) (omega (arith, first, more)) in
    omega (arith, rest, more)

abbrev pub IsPlayable : RawStream → Type 0
IsPlayable s = (0 < length s.levels) × (length s.levels ≤ 64)

no_zero : (n : ℕ) → not (eqb n 0) ≡ true → 0 < n
no_zero n e = grind arith

lacks_none : (n : ℕ) → eqb n 0 ≡ false → 0 < n
lacks_none n e = omega (arith, eqb-false n 0 e)

playable : (earlier : List RawStream) (s : RawStream) → stream_faults false earlier s ≡ [] → IsPlayable s
playable earlier s e =
    let first = not_at _ _ (left_none (at_if (is_stream_at_fault earlier s || lacks_levels false s) s.at) _ e) in
    let rest = right_none (at_if (is_stream_at_fault earlier s || lacks_levels false s) s.at) _ e in
    (lacks_none (length s.levels) (or_right (is_stream_at_fault earlier s) (lacks_levels false s) first), omega (arith, few_levels [] s.levels (left_none (level_faults [] s.levels) _ rest) (omega arith)))

all_playable : (earlier ss : List RawStream) → streams_faults earlier ss ≡ [] → AllByRecursion IsPlayable ss
all_playable earlier [] e = tt
all_playable earlier (s ∷ ss) e =
    (playable earlier s (left_none (stream_faults false earlier s) _ e), all_playable (earlier ++ s ∷ []) ss (right_none (stream_faults false earlier s) _ e))

done_faults : (bad : Option ℕ) (w : Walk) → faults_of bad w ≡ [] → streams_faults [] w.done ≡ []
done_faults bad w e =
    let behind = open_faults w.done w.current ++ option_to_list bad in
    let third = streams_faults [] w.done ++ behind in
    let second = option_to_list w.protection ++ third in
    left_none (streams_faults [] w.done) behind (right_none (option_to_list w.protection) third (right_none (option_to_list w.other) second (right_none (root_faults w.root) (option_to_list w.other ++ second) e)))

-- ---- what is listed

length-with_level : (l : Level) (ls : List Level) → length (with_level l ls) ≡ length ls + 1
length-with_level l [] = refl
length-with_level l (k ∷ ks) =
    by_bool (ltb l.bitrate k.bitrate) (λ b. length (cond b (l ∷ k ∷ ks) (k ∷ with_level l ks)) ≡ length (k ∷ ks) + 1) (λ t. omega arith) (λ f. omega (arith, length-with_level l ks))

length-levels_from : (sorted : List Level) (place : ℕ) (ls : List RawLevel) → length (levels_from sorted place ls) ≡ length sorted + length ls
length-levels_from sorted place [] = omega arith
length-levels_from sorted place (l ∷ ls) = omega (arith, length-levels_from (with_level (level_in place l) sorted) (place + 1) ls, length-with_level (level_in place l) sorted)

found-levels : (name : List ℕ) (timescale : ℕ) (ss : List RawStream) → AllByRecursion IsPlayable ss → HasLevels (listed name (map (listing_of timescale) ss))
found-levels name timescale [] all = tt
found-levels name timescale (s ∷ ss) all =
    let one : StreamListing = listing_of timescale s in
    let len : length one.levels ≡ length s.levels = omega (arith, length-levels_from [] 0 s.levels) in
    by_bool (bytes_eq one.name name) (λ b. HasLevels (cond b (Some one) (listed name (map (listing_of timescale) ss))))
    (λ t. (omega (arith, len, all.0.0), omega (arith, len, all.0.1))) (λ f. found-levels name timescale ss all.1)

judged-levels : (name : List ℕ) (bad : Option ℕ) (w : Walk) (listing : Listing) (o : Option ℕ) → o ≡ least_from None (faults_of bad w) → Ok listing ≡ judged o w → HasLevels (listed name listing.streams)
judged-levels name bad w listing (Some at) e is = absurd (cc)
judged-levels name bad w listing None e is =
    let same : listing ≡ read_of w = cc in
    rw same (found-levels name (timescale_of w.root) w.done (all_playable [] w.done (done_faults bad w (no_places (faults_of bad w) (sym e)))))

manifest-levels : (name text : List ℕ) (listing : Listing) → IsManifest text (Ok listing) → HasLevels (listed name listing.streams)
manifest-levels name text listing m = judged-levels name (bad_of m.0) (walk none_met m.0) listing _ refl m.2

pub spelled-levels : (name : List ℕ) (answer : Answer) (listing : Listing) → SpellsManifest answer (got.Manifest listing) → HasLevels (listed name listing.streams)
spelled-levels name (answers.Bytes bytes) listing s = manifest-levels name s.1 listing s.3
spelled-levels name answers.Lost listing s = absurd (cc)
spelled-levels name answers.NoMemory listing s = absurd (cc)
