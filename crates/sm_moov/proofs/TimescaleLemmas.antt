-- The tracks of a moov have a timescale of at least one tick a second.
use Rattle.std.proofs.Common.{◌≡◌, ◌≢◌, ◌<◌, ℕ, Bool, true, false, cond, eqb, List, [], ◌∷◌, map, Option, Some, None, refl, subst, All, arith}
use Rattle.std.proofs.lemmas.Bool.{eqb-false}
use Rattle.std.proofs.lemmas.List.Elements.{All-from_recursion}
use Rattle.std.specs.Prelude.{option_and_then, codes}
use Rattle.std.specs.Option.{option_map}
use Rattle.std.specs.List.{AllByRecursion}
use Rattle.sm_model.specs.declared.heads.TrackHead.{TrackHead}
use Rattle.sm_model.specs.declared.run.Defaults.{Defaults}
use Rattle.sm_model.specs.Boxes.{Box, boxes}
use Rattle.sm_model.specs.Found.{bodies}
use Rattle.sm_model.specs.Moov.{first_child, joined, gather, tkhd_id, unless_zero, number_behind_times, timescale, entry_type, head_of, trak, with_defaults, repeats, settled, single, traks_of, trexes_of, moov_of, moov}

abbrev pub HasTicks : TrackHead → Type 0
HasTicks h = 0 < h.timescale

-- ---- one track

some_ticks : (o : Option ℕ) (n : ℕ) → option_and_then unless_zero o ≡ Some n → 0 < n
some_ticks None n e = absurd cc
some_ticks (Some m) n e = by_test (eqb m 0) refl e
  where
    by_test : (zero : Bool) → eqb m 0 ≡ zero → cond zero None (Some m) ≡ Some n → 0 < n
    by_test true is e = absurd cc
    by_test false isnt e =
        let same : m ≡ n = cc in
        let other : m ≢ 0 = eqb-false m 0 isnt in
        omega arith

timescale_ticks : (mdia : List ℕ) (n : ℕ) → timescale mdia ≡ Some n → 0 < n
unfolding timescale
timescale_ticks mdia n e = some_ticks (option_and_then number_behind_times (first_child (codes "mdhd") mdia)) n e

by_entry : (id ticks : ℕ) (entry : Option (List ℕ)) (h : TrackHead) → 0 < ticks → option_map (head_of id ticks) entry ≡ Some h → HasTicks h
by_entry id ticks None h some e = absurd cc
by_entry id ticks (Some kind) h some e = let same : head_of id ticks kind ≡ h = cc in subst HasTicks same some

by_ticks : (id : ℕ) (mdia : List ℕ) (ticks : Option ℕ) (h : TrackHead) → ((n : ℕ) → ticks ≡ Some n → 0 < n) → option_and_then (λ n. option_map (head_of id n) (entry_type mdia)) ticks ≡ Some h → HasTicks h
by_ticks id mdia None h some e = absurd cc
by_ticks id mdia (Some n) h some e = by_entry id n (entry_type mdia) h (some n refl) e

by_media : (id : ℕ) (mdia : Option (List ℕ)) (h : TrackHead) → option_and_then (λ m. option_and_then (λ n. option_map (head_of id n) (entry_type m)) (timescale m)) mdia ≡ Some h → HasTicks h
by_media id None h e = absurd cc
by_media id (Some mdia) h e = by_ticks id mdia (timescale mdia) h (λ n is. timescale_ticks mdia n is) e

by_id : (b : List ℕ) (id : Option ℕ) (h : TrackHead)
    → option_and_then (λ i. option_and_then (λ m. option_and_then (λ n. option_map (head_of i n) (entry_type m)) (timescale m)) (first_child (codes "mdia") b)) id ≡ Some h → HasTicks h
by_id b None h e = absurd cc
by_id b (Some id) h e = by_media id (first_child (codes "mdia") b) h e

trak_ticks : (b : List ℕ) (h : TrackHead) → trak b ≡ Some h → HasTicks h
unfolding trak
trak_ticks b h e = by_id b (tkhd_id b) h e

-- ---- all tracks

one_more : (o : Option TrackHead) (rest : Option (List TrackHead)) (hs : List TrackHead) → ((h : TrackHead) → o ≡ Some h → HasTicks h) → ((more : List TrackHead) → rest ≡ Some more → AllByRecursion HasTicks more)
    → joined (single o) rest ≡ Some hs → AllByRecursion HasTicks hs
one_more None rest hs first others e = absurd cc
one_more (Some h) None hs first others e = absurd cc
one_more (Some h) (Some more) hs first others e = let same : h ∷ more ≡ hs = cc in subst (AllByRecursion HasTicks) same (first h refl, others more refl)

traks_ticks : (bs : List (List ℕ)) (hs : List TrackHead) → gather (λ b. single (trak b)) bs ≡ Some hs → AllByRecursion HasTicks hs
unfolding gather
traks_ticks [] hs e = let same : [] ≡ hs = cc in subst (AllByRecursion HasTicks) same tt
traks_ticks (b ∷ bs) hs e = one_more (trak b) (gather (λ c. single (trak c)) bs) hs (λ h is. trak_ticks b h is) (λ more is. traks_ticks bs more is) e

map_ticks : (ts : List (ℕ × Defaults)) (hs : List TrackHead) → AllByRecursion HasTicks hs → AllByRecursion HasTicks (map (with_defaults ts) hs)
map_ticks ts [] all = tt
map_ticks ts (h ∷ hs) all = (all.0, map_ticks ts hs all.1)

settled_ticks : (ts : List (ℕ × Defaults)) (hs found : List TrackHead) → AllByRecursion HasTicks hs → settled ts hs ≡ Some found → AllByRecursion HasTicks found
unfolding settled
settled_ticks ts hs found all e = by_test (repeats (map (λ h. h.id) hs)) e
  where
    by_test : (twice : Bool) → cond twice None (Some (map (with_defaults ts) hs)) ≡ Some found → AllByRecursion HasTicks found
    by_test true e = absurd cc
    by_test false e = let same : map (with_defaults ts) hs ≡ found = cc in subst (AllByRecursion HasTicks) same (map_ticks ts hs all)

by_traks : (ts : List (ℕ × Defaults)) (traks : Option (List TrackHead)) (found : List TrackHead) → ((hs : List TrackHead) → traks ≡ Some hs → AllByRecursion HasTicks hs)
    → option_and_then (settled ts) traks ≡ Some found → AllByRecursion HasTicks found
by_traks ts None found all e = absurd cc
by_traks ts (Some hs) found all e = settled_ticks ts hs found (all hs refl) e

by_trexes : (xs : List Box) (trexes : Option (List (ℕ × Defaults))) (found : List TrackHead) → option_and_then (λ ts. option_and_then (settled ts) (traks_of xs)) trexes ≡ Some found → AllByRecursion HasTicks found
by_trexes xs None found e = absurd cc
by_trexes xs (Some ts) found e = by_traks ts (traks_of xs) found (λ hs is. traks_ticks (bodies (codes "trak") xs) hs is) e

by_boxes : (o : Option (List Box)) (found : List TrackHead) → option_and_then moov_of o ≡ Some found → AllByRecursion HasTicks found
unfolding moov_of
by_boxes None found e = absurd cc
by_boxes (Some xs) found e = by_trexes xs (trexes_of xs) found e

pub moov_ticks : (b : List ℕ) (found : List TrackHead) → moov b ≡ Some found → All HasTicks found
unfolding moov
moov_ticks b found e = All-from_recursion HasTicks found (by_boxes (boxes b) found e)
