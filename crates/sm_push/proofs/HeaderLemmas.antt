-- The header out of two boxes, and its tracks.
use Rattle.std.proofs.Common.{◌≡◌, ◌≢◌, ◌<◌, ◌≤◌, ◌+◌, ℕ, zero, suc, true, false, eqb, List, [], ◌∷◌, ◌++◌, length, drop, get_or, refl, sym, ap, ◌∙◌, append_assoc, arith}
use Rattle.std.specs.Prelude.{Option, Some, None, option_and_then}
use Rattle.std.specs.Option.{option_map}
use Rattle.std.specs.List.{list_any}
use Rattle.std.proofs.lemmas.Bool.{ne_eqb, eq-eqb}
use Rattle.std.proofs.lemmas.List.{append-nil, drop_all}
use Rattle.sm_model.specs.declared.heads.TrackHead.{TrackHead}
use Rattle.sm_model.specs.declared.smil.SmilTrack.{SmilTrack}
use Rattle.sm_model.specs.declared.track.Track.{Track}
use Rattle.sm_model.specs.declared.header.HeaderTrack.{HeaderTrack}
use Rattle.sm_push.specs.Header.{head_for, heads_for, track_with, id_for, is_named, tracks_of, keys_of, timed, key_of, is_off, has_two_timescales}

as_many_by : (heads : List TrackHead) (t : SmilTrack) (ts : List SmilTrack) (hs : List TrackHead) (h : Option TrackHead) (rest : Option (List TrackHead))
    → ((more : List TrackHead) → rest ≡ Some more → length more ≡ length ts)
    → option_and_then (λ x. option_map (λ xs. x ∷ xs) rest) h ≡ Some hs → length hs ≡ suc (length ts)
as_many_by heads t ts hs None rest step e = absurd cc
as_many_by heads t ts hs (Some h) None step e = absurd cc
as_many_by heads t ts hs (Some h) (Some more) step e = let m : hs ≡ h ∷ more = cc in ap length m ∙ ap suc (step more refl)

-- each track has one head
pub as_many : (heads : List TrackHead) (ts : List SmilTrack) (hs : List TrackHead) → heads_for heads ts ≡ Some hs → length hs ≡ length ts
unfolding heads_for
as_many heads [] hs e = let n : hs ≡ [] = cc in ap length n
as_many heads (t ∷ ts) hs e = as_many_by heads t ts hs (head_for t.id heads) (heads_for heads ts) (λ more q. as_many heads ts more q) e

by_suc : {A : Type 0} (s : List A) (i : ℕ) (x : A) → i < length s → x ≡ get_or s i x → drop i s ≡ x ∷ drop (suc i) s
by_suc {A} [] i x lt e = absurd (omega arith)
by_suc {A} (y ∷ s) zero x lt e = ap (λ (z : A). z ∷ s) (sym e)
by_suc {A} (y ∷ s) (suc i) x lt e = by_suc s i x (omega arith) e

-- the element at a place stands in front of those behind it
pub front_is : {A : Type 0} (s : List A) (i : ℕ) (x : A) → i < length s → x ≡ get_or s i x → drop i s ≡ x ∷ drop (i + 1) s
front_is {A} s i x lt e = let n : suc i ≡ i + 1 = omega arith in by_suc s i x lt e ∙ ap (λ (k : ℕ). x ∷ drop k s) n

by_suc_or : {A : Type 0} (s : List A) (i : ℕ) (d : A) → i < length s → drop i s ≡ get_or s i d ∷ drop (suc i) s
by_suc_or {A} [] i d lt = absurd (omega arith)
by_suc_or {A} (y ∷ s) zero d lt = refl
by_suc_or {A} (y ∷ s) (suc i) d lt = by_suc_or s i d (omega arith)

-- the same for an element that is read by a default
pub front_or : {A : Type 0} (s : List A) (i : ℕ) (d : A) → i < length s → drop i s ≡ get_or s i d ∷ drop (i + 1) s
front_or {A} s i d lt = let n : suc i ≡ i + 1 = omega arith in by_suc_or s i d lt ∙ ap (λ (k : ℕ). get_or s i d ∷ drop k s) n

-- ---- searches

pub head_here : (id : ℕ) (hs : List TrackHead) (i : ℕ) (d : TrackHead) → i < length hs → (get_or hs i d).id ≡ id → head_for id (drop i hs) ≡ Some (get_or hs i d)
head_here id hs i d lt is = let same : eqb (get_or hs i d).id id ≡ true = eq-eqb _ _ is in rw (front_or hs i d lt, same) refl

pub head_on : (id : ℕ) (hs : List TrackHead) (i : ℕ) (d : TrackHead) → i < length hs → (get_or hs i d).id ≢ id → head_for id (drop (i + 1) hs) ≡ head_for id (drop i hs)
head_on id hs i d lt isnt = let other : eqb (get_or hs i d).id id ≡ false = ne_eqb _ _ isnt in rw (front_or hs i d lt, other) refl

pub head_end : (id : ℕ) (hs : List TrackHead) (i : ℕ) → length hs ≤ i → head_for id (drop i hs) ≡ None
head_end id hs i le = rw (drop_all i hs le) refl

pub track_here : (id : ℕ) (ts : List HeaderTrack) (i : ℕ) (x : HeaderTrack) → i < length ts → x ≡ get_or ts i x → x.id ≡ id → track_with id (drop i ts) ≡ Some x
track_here id ts i x lt e is = let same : eqb x.id id ≡ true = eq-eqb _ _ is in rw (front_is ts i x lt e, same) refl

pub track_on : (id : ℕ) (ts : List HeaderTrack) (i : ℕ) (x : HeaderTrack) → i < length ts → x ≡ get_or ts i x → x.id ≢ id → track_with id (drop (i + 1) ts) ≡ track_with id (drop i ts)
track_on id ts i x lt e isnt = let other : eqb x.id id ≡ false = ne_eqb _ _ isnt in rw (front_is ts i x lt e, other) refl

pub name_here : (stream : List ℕ) (bitrate : ℕ) (ts : List HeaderTrack) (i : ℕ) (x : HeaderTrack) → i < length ts → x ≡ get_or ts i x → is_named stream bitrate x ≡ true → id_for stream bitrate
    (drop i ts) ≡ Some x.id
name_here stream bitrate ts i x lt e is = rw (front_is ts i x lt e, is) refl

pub name_on : (stream : List ℕ) (bitrate : ℕ) (ts : List HeaderTrack) (i : ℕ) (x : HeaderTrack) → i < length ts → x ≡ get_or ts i x → is_named stream bitrate x ≡ false → id_for stream bitrate
    (drop (i + 1) ts) ≡ id_for stream bitrate (drop i ts)
name_on stream bitrate ts i x lt e isnt = rw (front_is ts i x lt e, isnt) refl

pub track_end : (id : ℕ) (ts : List HeaderTrack) (i : ℕ) → length ts ≤ i → track_with id (drop i ts) ≡ None
track_end id ts i le = rw (drop_all i ts le) refl

pub name_end : (stream : List ℕ) (bitrate : ℕ) (ts : List HeaderTrack) (i : ℕ) → length ts ≤ i → id_for stream bitrate (drop i ts) ≡ None
name_end stream bitrate ts i le = rw (drop_all i ts le) refl

-- ---- the lists of a header

pub heads_on : (heads : List TrackHead) (ts : List SmilTrack) (i : ℕ) (t : SmilTrack) (h : TrackHead) (found found' : List TrackHead) → i < length ts → t ≡ get_or ts i t → Some h ≡ head_for t.id heads
    → heads_for heads ts ≡ option_map (λ hs. found ++ hs) (heads_for heads (drop i ts)) → found' ≡ found ++ h ∷ []
    → heads_for heads ts ≡ option_map (λ hs. found' ++ hs) (heads_for heads (drop (i + 1) ts))
unfolding heads_for
heads_on heads ts i t h found found' lt e is before more =
    before ∙ rw (front_is ts i t lt e, sym is, more) (by_rest (heads_for heads (drop (i + 1) ts)))
  where
    by_rest : (rest : Option (List TrackHead)) → option_map (λ hs. found ++ hs) (option_map (λ hs. h ∷ hs) rest) ≡ option_map (λ hs. (found ++ h ∷ []) ++ hs) rest
    by_rest None = refl
    by_rest (Some hs) = ap Some (sym (append_assoc found (h ∷ []) hs))

pub heads_none : (heads : List TrackHead) (ts : List SmilTrack) (i : ℕ) (t : SmilTrack) (found : List TrackHead) → i < length ts → t ≡ get_or ts i t → None ≡ head_for t.id heads
    → heads_for heads ts ≡ option_map (λ hs. found ++ hs) (heads_for heads (drop i ts)) → None ≡ heads_for heads ts
unfolding heads_for
heads_none heads ts i t found lt e is before = sym (before ∙ rw (front_is ts i t lt e, sym is) refl)

pub heads_all : (heads : List TrackHead) (ts : List SmilTrack) (i : ℕ) (found : List TrackHead) → length ts ≤ i
    → heads_for heads ts ≡ option_map (λ hs. found ++ hs) (heads_for heads (drop i ts)) → Some found ≡ heads_for heads ts
unfolding heads_for
heads_all heads ts i found le before = sym (before ∙ rw (drop_all i ts le, append-nil found) refl)

pub tracks_on : (ts : List SmilTrack) (hs : List TrackHead) (i : ℕ) (t : SmilTrack) (h : TrackHead) (done : List Track) → i < length ts → i < length hs → t ≡ get_or ts i t → h ≡ get_or hs i h
    → (done ++ timed t h ∷ []) ++ tracks_of (drop (i + 1) ts) (drop (i + 1) hs) ≡ done ++ tracks_of (drop i ts) (drop i hs)
tracks_on ts hs i t h done lt lt' e e' = rw (front_is ts i t lt e, front_is hs i h lt' e') (append_assoc done (timed t h ∷ []) (tracks_of (drop (i + 1) ts) (drop (i + 1) hs)))

pub tracks_all : (ts : List SmilTrack) (hs : List TrackHead) (i : ℕ) (done : List Track) → length ts ≤ i → done ++ tracks_of (drop i ts) (drop i hs) ≡ done
tracks_all ts hs i done le = rw (drop_all i ts le) (append-nil done)

pub keys_on : (ts : List SmilTrack) (hs : List TrackHead) (i : ℕ) (t : SmilTrack) (h : TrackHead) (done : List HeaderTrack) → i < length ts → i < length hs → t ≡ get_or ts i t → h ≡ get_or hs i h
    → (done ++ key_of t h ∷ []) ++ keys_of (drop (i + 1) ts) (drop (i + 1) hs) ≡ done ++ keys_of (drop i ts) (drop i hs)
keys_on ts hs i t h done lt lt' e e' = rw (front_is ts i t lt e, front_is hs i h lt' e') (append_assoc done (key_of t h ∷ []) (keys_of (drop (i + 1) ts) (drop (i + 1) hs)))

pub keys_all : (ts : List SmilTrack) (hs : List TrackHead) (i : ℕ) (done : List HeaderTrack) → length ts ≤ i → done ++ keys_of (drop i ts) (drop i hs) ≡ done
keys_all ts hs i done le = rw (drop_all i ts le) (append-nil done)

pub off_here : (ts : List Track) (i : ℕ) (t : Track) → i < length ts → t ≡ get_or ts i t → list_any (is_off t) (drop (i + 1) ts) ≡ true → has_two_timescales (drop i ts) ≡ true
unfolding has_two_timescales
off_here ts i t lt e is = rw (front_is ts i t lt e, is) refl

pub off_on : (ts : List Track) (i : ℕ) (t : Track) → i < length ts → t ≡ get_or ts i t → list_any (is_off t) (drop (i + 1) ts) ≡ false → has_two_timescales (drop (i + 1) ts) ≡ has_two_timescales
    (drop i ts)
unfolding has_two_timescales
off_on ts i t lt e isnt = rw (front_is ts i t lt e, isnt) refl

pub off_all : (ts : List Track) (i : ℕ) → length ts ≤ i → has_two_timescales (drop i ts) ≡ false
unfolding has_two_timescales
off_all ts i le = rw (drop_all i ts le) refl
