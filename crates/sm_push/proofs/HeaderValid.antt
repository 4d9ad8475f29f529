-- The channel of a header is valid.
use Rattle.std.proofs.Common.{◌≡◌, ◌<◌, ℕ, zero, suc, Bool, true, false, not, cond, eqb, List, [], ◌∷◌, length, Option, Some, None, Result, Ok, Err, refl, ap, subst, All, AllPairs, inl, inr, arith}
use Rattle.std.proofs.lemmas.Bool.{eqb-true, not-false, and_cases, or_parts}
use Rattle.std.proofs.lemmas.List.Elements.{All-from_recursion, recursion_from_All}
use Rattle.std.proofs.lemmas.List.Kept.{AllPairs-cons}
use Rattle.std.proofs.lemmas.Slice.Eq.{bytes_eq-Decides}
use Rattle.std.specs.Prelude.{option_and_then}
use Rattle.std.specs.Option.{option_map, option_map_or}
use Rattle.std.specs.List.{list_any, AllByRecursion}
use Rattle.sm_model.specs.declared.cause.Cause.{Cause}
use Rattle.sm_model.specs.declared.cause.Cause.TheVariants.{BadMoov, Protected}
use Rattle.sm_model.specs.declared.heads.TrackHead.{TrackHead}
use Rattle.sm_model.specs.declared.smil.SmilTrack.{SmilTrack}
use Rattle.sm_model.specs.declared.track.Track.{Track}
use Rattle.sm_model.specs.declared.header.Header.{Header}
use Rattle.sm_model.specs.Channels.{IsTrack, Agree, IsChannel, IsUntimed, Differ, IsSmil}
use Rattle.sm_model.specs.Same.{is_same}
use Rattle.sm_smil.specs.LiveRead.{live_manifest}
use Rattle.sm_model.specs.Moov.{moov}
use Rattle.sm_push.specs.Header.{head_for, heads_for, timed, tracks_of, keys_of, is_off, has_two_timescales, names_protected, header_with, header_by, header_of}
use Rattle.sm_push.proofs.HeaderLemmas.{as_many}

-- a track's head has ticks
abbrev pub HasTicks : TrackHead → Type 0
HasTicks h = 0 < h.timescale

-- ---- each track's timescale

head_ticks : (id : ℕ) (heads : List TrackHead) (h : TrackHead) → AllByRecursion HasTicks heads → head_for id heads ≡ Some h → HasTicks h
head_ticks id [] h all e = absurd cc
head_ticks id (x ∷ heads) h all e = by_test (eqb x.id id) (λ later. head_ticks id heads h all.1 later) e
  where
    by_test : (here : Bool) → (head_for id heads ≡ Some h → HasTicks h) → cond here (Some x) (head_for id heads) ≡ Some h → HasTicks h
    by_test true later e = let same : x ≡ h = cc in subst HasTicks same all.0
    by_test false later e = later e

one_more : (o : Option TrackHead) (rest : Option (List TrackHead)) (hs : List TrackHead) → ((h : TrackHead) → o ≡ Some h → HasTicks h) → ((more : List TrackHead) → rest ≡ Some more → AllByRecursion HasTicks more)
    → option_and_then (λ h. option_map (λ xs. h ∷ xs) rest) o ≡ Some hs → AllByRecursion HasTicks hs
one_more None rest hs first others e = absurd cc
one_more (Some h) None hs first others e = absurd cc
one_more (Some h) (Some more) hs first others e = let same : h ∷ more ≡ hs = cc in subst (AllByRecursion HasTicks) same (first h refl, others more refl)

heads_ticks : (heads : List TrackHead) (ts : List SmilTrack) (hs : List TrackHead) → AllByRecursion HasTicks heads → heads_for heads ts ≡ Some hs → AllByRecursion HasTicks hs
unfolding heads_for
heads_ticks heads [] hs all e = let same : [] ≡ hs = cc in subst (AllByRecursion HasTicks) same tt
heads_ticks heads (t ∷ ts) hs all e = one_more (head_for t.id heads) (heads_for heads ts) hs (λ h is. head_ticks t.id heads h all is) (λ more is. heads_ticks heads ts more all is) e

-- ---- tracks with their heads

tracks_len : (ts : List SmilTrack) (hs : List TrackHead) → length hs ≡ length ts → length (tracks_of ts hs) ≡ length ts
tracks_len [] hs e = refl
tracks_len (t ∷ ts) [] e = absurd (omega arith)
tracks_len (t ∷ ts) (h ∷ hs) e = ap suc (tracks_len ts hs (omega arith))

tracks_timed : (ts : List SmilTrack) (hs : List TrackHead) → AllByRecursion (λ (s : SmilTrack). IsUntimed s.track) ts → AllByRecursion HasTicks hs → AllByRecursion IsTrack (tracks_of ts hs)
tracks_timed [] hs each ticks = tt
tracks_timed (t ∷ ts) [] each ticks = tt
tracks_timed (t ∷ ts) (h ∷ hs) each ticks = (record { ticks = ticks.0; fourcc = each.0.fourcc; short = each.0.short }, tracks_timed ts hs each.1 ticks.1)

one_timescale : (a b : Track) → is_off a b ≡ false → a.name ≡ b.name → a.timescale ≡ b.timescale
one_timescale a b e same =
    let named : is_same a.name b.name ≡ true = (bytes_eq-Decides a.name b.name).1 same in
    elim (and_cases (is_same a.name b.name) (not (eqb a.timescale b.timescale)) e) [
      | inl other ↦ absurd cc
      | inr one ↦ eqb-true a.timescale b.timescale (not-false _ one)
    ]

agrees : (t : SmilTrack) (h : TrackHead) (ts : List SmilTrack) (hs : List TrackHead) → AllByRecursion (Differ t) ts → list_any (is_off (timed t h)) (tracks_of ts hs) ≡ false → AllByRecursion (Agree (timed t h)) (tracks_of ts hs)
agrees t h [] hs differ e = tt
agrees t h (u ∷ ts) [] differ e = tt
agrees t h (u ∷ ts) (k ∷ hs) differ e =
    let parts = or_parts (is_off (timed t h) (timed u k)) (list_any (is_off (timed t h)) (tracks_of ts hs)) e in
    (record { apart = differ.0.apart; kind = differ.0.kind; timescale = λ same. one_timescale (timed t h) (timed u k) parts.0 same }, agrees t h ts hs differ.1 parts.1)

first_pairs : {X : Type 0} (R : X → X → Type 0) (x : X) (xs : List X) → AllPairs R (x ∷ xs) → All (R x) xs
first_pairs {X} R x xs all = λ i d lt. all zero (suc i) d (omega arith) (omega arith)

later_pairs : {X : Type 0} (R : X → X → Type 0) (x : X) (xs : List X) → AllPairs R (x ∷ xs) → AllPairs R xs
later_pairs {X} R x xs all = λ i j d lt within. all (suc i) (suc j) d (omega arith) (omega arith)

agree : (ts : List SmilTrack) (hs : List TrackHead) → AllPairs Differ ts → has_two_timescales (tracks_of ts hs) ≡ false → AllPairs Agree (tracks_of ts hs)
unfolding has_two_timescales
agree [] hs differ e = λ i j d lt within. absurd (omega arith)
agree (t ∷ ts) [] differ e = λ i j d lt within. absurd (omega arith)
agree (t ∷ ts) (h ∷ hs) differ e =
    let parts = or_parts (list_any (is_off (timed t h)) (tracks_of ts hs)) (has_two_timescales (tracks_of ts hs)) e in
    let first = agrees t h ts hs (recursion_from_All (Differ t) ts (first_pairs Differ t ts differ)) parts.0 in
    AllPairs-cons Agree (timed t h) (tracks_of ts hs) (All-from_recursion (Agree (timed t h)) (tracks_of ts hs) first) (agree ts hs (later_pairs Differ t ts differ) parts.1)

channel_valid : (ts : List SmilTrack) (hs : List TrackHead) → IsSmil ts → AllByRecursion HasTicks hs → length hs ≡ length ts → has_two_timescales (tracks_of ts hs) ≡ false → IsChannel (tracks_of ts hs)
channel_valid ts hs smil ticks many one = record {
  some = omega (arith, tracks_len ts hs many, smil.some);
  few = omega (arith, tracks_len ts hs many, smil.few);
  each = All-from_recursion IsTrack (tracks_of ts hs) (tracks_timed ts hs (recursion_from_All (λ (s : SmilTrack). IsUntimed s.track) ts smil.each) ticks);
  agree = agree ts hs smil.differ one;
}

-- ---- the header

with_valid : (ts : List SmilTrack) (hs : List TrackHead) (h : Header) (two encrypted : Bool) → (two ≡ false → IsChannel (tracks_of ts hs))
    → cond two (Err BadMoov) (cond encrypted (Err Protected) (Ok (record { channel = tracks_of ts hs; tracks = keys_of ts hs }))) ≡ Ok h → IsChannel h.channel
with_valid ts hs h true encrypted valid e = absurd cc
with_valid ts hs h false true valid e = absurd cc
with_valid ts hs h false false valid e = let same : tracks_of ts hs ≡ h.channel = ap (λ (r : Result Header Cause). channel_in r) e in subst IsChannel same (valid refl)
  where
    channel_in : Result Header Cause → List Track
    channel_in (Ok h) = h.channel
    channel_in (Err cause) = []

heads_valid : (ts : List SmilTrack) (heads : List TrackHead) (found : Option (List TrackHead)) (h : Header) → IsSmil ts → AllByRecursion HasTicks heads → heads_for heads ts ≡ found
    → option_map_or (header_with ts) found (Err BadMoov) ≡ Ok h → IsChannel h.channel
unfolding header_with
heads_valid ts heads None h smil ticks is e = absurd cc
heads_valid ts heads (Some hs) h smil ticks is e =
    with_valid ts hs h (has_two_timescales (tracks_of ts hs)) (names_protected hs) (λ one. channel_valid ts hs smil (heads_ticks heads ts hs ticks is) (as_many heads ts hs is) one) e

parts_valid : (said : Result (List SmilTrack) ℕ) (heads : Option (List TrackHead)) (h : Header) → ((ts : List SmilTrack) → said ≡ Ok ts → IsSmil ts) → ((hs : List TrackHead) → heads ≡ Some hs → All HasTicks hs)
    → header_by said heads ≡ Ok h → IsChannel h.channel
parts_valid (Err inside) heads h smil ticks e = absurd cc
parts_valid (Ok ts) None h smil ticks e = absurd cc
parts_valid (Ok ts) (Some heads) h smil ticks e = heads_valid ts heads (heads_for heads ts) h (smil ts refl) (recursion_from_All HasTicks heads (ticks heads refl)) refl e

-- where live manifests and movie boxes are what their readers say, so is a header of both
pub header_valid : ((text : List ℕ) (ts : List SmilTrack) → live_manifest text ≡ Ok ts → IsSmil ts) → ((body : List ℕ) (hs : List TrackHead) → moov body ≡ Some hs → All HasTicks hs)
    → (text body : List ℕ) (h : Header) → header_of text body ≡ Ok h → IsChannel h.channel
unfolding header_of
header_valid smil ticks text body h e = parts_valid (live_manifest text) (moov body) h (smil text) (ticks body) e
