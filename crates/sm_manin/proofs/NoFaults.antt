-- What a text without fault says of its streams.
use Rattle.std.proofs.Common.{◌≡◌, ◌+◌, ◌<◌, ◌≤◌, ◌^◌, ℕ, Bool, true, false, not, leb, ◌||◌, List, [], ◌∷◌, ◌++◌, length, Option, Some, None, All, min, refl, arith}
use Rattle.std.proofs.lemmas.Bool.{leb-false}
use Rattle.std.proofs.lemmas.List.{length-append}
use Rattle.std.proofs.lemmas.List.Elements.{All-from_recursion}
use Rattle.std.specs.List.{AllByRecursion, list_any}
use Rattle.std.specs.Option.{is_none, option_to_list}
use Rattle.sm_model.specs.Places.{least_from}
use Rattle.sm_model.specs.Names.{is_name}
use Rattle.sm_model.specs.Same.{is_same}
use Rattle.sm_manin.specs.Values.{narrow_or, kind_in_type}
use Rattle.sm_manin.specs.declared.raw.RawLevel.{RawLevel}
use Rattle.sm_manin.specs.declared.raw.RawStream.{RawStream}
use Rattle.sm_manin.specs.ManifestWalk.{Walk}
use Rattle.sm_manin.specs.ManifestFaults.{at_if, root_faults, name_of, is_misfit, is_stream_at_fault, is_level_at_fault, level_faults, lacks_levels, stream_faults, streams_faults, open_faults, faults_of}

-- ---- the least of no places

some_least : (xs : List ℕ) (a : ℕ) → least_from (Some a) xs ≡ None → ⊥
some_least [] a e = cc
some_least (x ∷ xs) a e = some_least xs (min a x) e

no_places : (xs : List ℕ) → least_from None xs ≡ None → xs ≡ []
no_places [] e = refl
no_places (x ∷ xs) e = absurd (some_least xs x e)

pub left_none : (xs ys : List ℕ) → xs ++ ys ≡ [] → xs ≡ []
left_none [] ys e = refl
left_none (x ∷ xs) ys e = absurd cc

pub right_none : (xs ys : List ℕ) → xs ++ ys ≡ [] → ys ≡ []
right_none [] ys e = e
right_none (x ∷ xs) ys e = absurd cc

not_at : (b : Bool) (at : ℕ) → at_if b at ≡ [] → b ≡ false
not_at true at e = absurd cc
not_at false at e = refl

or_left : (a b : Bool) → (a || b) ≡ false → a ≡ false
or_left true b e = absurd cc
or_left false b e = refl

or_right : (a b : Bool) → (a || b) ≡ false → b ≡ false
or_right true b e = absurd cc
or_right false b e = e

not_not : (b : Bool) → not b ≡ false → b ≡ true
not_not true e = refl
not_not false e = absurd cc

fourth : (a b c n r : Bool) → (a || (b || (c || (not n || r)))) ≡ false → n ≡ true
fourth a b c n r e = not_not n (or_left (not n) r (or_right c (not n || r) (or_right b (c || (not n || r)) (or_right a (b || (c || (not n || r))) e))))

-- ---- streams

named : (earlier : List RawStream) (s : RawStream) → is_stream_at_fault earlier s ≡ false → is_name (name_of s) ≡ true
unfolding is_stream_at_fault
named earlier s e =
    fourth (leb 64 (length earlier)) (is_none (kind_in_type s.kind_text)) (is_misfit s.url) (is_name (name_of s))
    (is_none (narrow_or 0 s.timescale) || list_any (λ (e : RawStream). is_same (name_of e) (name_of s)) earlier) e

few_before : (earlier : List RawLevel) (l : RawLevel) → is_level_at_fault earlier l ≡ false → length earlier < 64
unfolding is_level_at_fault
few_before earlier l e = leb-false 64 (length earlier) (or_left _ _ e)

few_levels : (earlier ls : List RawLevel) → level_faults earlier ls ≡ [] → length earlier ≤ 64 → length earlier + length ls ≤ 64
few_levels earlier [] e few = omega (arith, few)
few_levels earlier (l ∷ ls) e few =
    let first = few_before earlier l (not_at _ _ (left_none (at_if (is_level_at_fault earlier l) l.at) _ e)) in
    let more = length-append earlier (l ∷ []) in
    let rest = few_levels (earlier ++ l ∷ []) ls (right_none (at_if (is_level_at_fault earlier l) l.at) _ e) (omega (arith, first, more)) in
    omega (arith, rest, more)

pub record IsReadable (s : RawStream) : Type 0 where
  pub name : is_name (name_of s) ≡ true
  pub few : length s.levels < 2 ^ 32

readable : (earlier : List RawStream) (s : RawStream) → stream_faults false earlier s ≡ [] → IsReadable s
readable earlier s e =
    let first = not_at _ _ (left_none (at_if (is_stream_at_fault earlier s || lacks_levels false s) s.at) _ e) in
    let rest = right_none (at_if (is_stream_at_fault earlier s || lacks_levels false s) s.at) _ e in
    let levels = few_levels [] s.levels (left_none (level_faults [] s.levels) _ rest) (omega arith) in
    record { name = named earlier s (or_left _ _ first); few = omega (arith, levels) }

all_readable : (earlier ss : List RawStream) → streams_faults earlier ss ≡ [] → AllByRecursion IsReadable ss
all_readable earlier [] e = tt
all_readable earlier (s ∷ ss) e =
    (readable earlier s (left_none (stream_faults false earlier s) _ e), all_readable (earlier ++ s ∷ []) ss (right_none (stream_faults false earlier s) _ e))

done_faults : (bad : Option ℕ) (w : Walk) → faults_of bad w ≡ [] → streams_faults [] w.done ≡ []
done_faults bad w e =
    let behind = open_faults w.done w.current ++ option_to_list bad in
    let third = streams_faults [] w.done ++ behind in
    let second = option_to_list w.protection ++ third in
    left_none (streams_faults [] w.done) behind (right_none (option_to_list w.protection) third (right_none (option_to_list w.other) second (right_none (root_faults w.root) (option_to_list w.other ++ second) e)))

pub streams_readable : (bad : Option ℕ) (w : Walk) → least_from None (faults_of bad w) ≡ None → All IsReadable w.done
streams_readable bad w e = All-from_recursion IsReadable w.done (all_readable [] w.done (done_faults bad w (no_places (faults_of bad w) e)))
