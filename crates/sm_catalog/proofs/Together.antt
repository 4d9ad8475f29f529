-- A catalog as a whole, to which a fragment was added.
use Rattle.std.proofs.Common.{◌≡◌, ◌≢◌, ◌≤◌, ◌<◌, ◌+◌, ◌-◌, ℕ, zero, suc, Bool, true, false, cond, eqb, List, [], ◌∷◌, ◌++◌, length, map, get_or, set, Some, refl, sym, ap, subst, ◌∙◌, All, inl, inr, ◌⊎◌, arith}
use Rattle.std.proofs.lemmas.Bool.{eqb-true, eq-eqb, and_parts, and_from, cases_eq, false_from_ne_true}
use Rattle.std.proofs.lemmas.List.{get_or-set_same, get_or-set_other, length-set, length-map, map_push, length_push, get_or-map}
use Rattle.std.proofs.lemmas.List.Elements.{All-push, AllZip-get_or, length_all_zip, All-from_recursion, recursion_from_All}
use Rattle.std.proofs.lemmas.List.Sums.{sum_by-set, sum_by-cons}
use Rattle.std.proofs.Math.Seq.{map-set_same}
use Rattle.std.proofs.lemmas.List.Quantifiers.{position-Some}
use Rattle.std.proofs.lemmas.Slice.Eq.{bytes_eq-Decides}
use Rattle.std.specs.List.{AllByRecursion, position, sum_by}
use Rattle.sm_model.specs.declared.address.Address.{Address}
use Rattle.sm_model.specs.declared.track.Track.{Track}
use Rattle.sm_model.specs.Channels.{IsChannel}
use Rattle.sm_model.specs.Same.{is_same}
use Rattle.sm_log.specs.Times.{with_entry}
use Rattle.sm_log.specs.Adds.{Add, tracks_of, names_of, times_of, is_kept, listed}
use Rattle.sm_timeline.specs.Lines.{Entries, more, count_at}
use Rattle.sm_catalog.specs.declared.added.Added.{Added}
use Rattle.sm_catalog.specs.Content.{Lane, spare_of, HaveMoreRoom, IsCopy, AreCopies, IsFresh}
use Rattle.sm_catalog.specs.Kept.{is_track, places_of}
use Rattle.sm_catalog.specs.Whole.{address_in, add_in, adds_in, spares_in, IsLane, IsWhole}
use Rattle.sm_catalog.proofs.Snoc.{places_snoc}
use Rattle.sm_catalog.proofs.Counting.{passing, HasBitrate}
use Rattle.sm_log.specs.declared.verdict.Decision.TheVariants as decision
use Rattle.sm_log.specs.Times.{decision}
use Rattle.sm_catalog.proofs.Lookups.{is_the, FoundTrack, found_track, declared_any, found_lane}
use Rattle.sm_catalog.proofs.Adding.{same_name, differ_names, lanes_apart, tracks_apart, has_bitrate}
use Rattle.sm_log.proofs.New.{IsNew}
use Rattle.sm_catalog.proofs.Lanes.{IsAddedTo, lane_added, lane_other}

-- ---- spares

pub spare_first : (s : List ℕ) (lanes : List Lane) (j : ℕ) (d : Lane) → j < length lanes → is_same (get_or lanes j d).name s ≡ true → ((k : ℕ) → k < j → is_same (get_or lanes k d).name s ≡ false)
    → spare_of s (spares_in lanes) ≡ (get_or lanes j d).spare
spare_first s [] j d h is before = absurd (omega arith)
spare_first s (l ∷ lanes) zero d h is before = rw is refl
spare_first s (l ∷ lanes) (suc j) d h is before =
    let first : is_same l.name s ≡ false = before 0 (omega arith) in
    rw first (spare_first s lanes j d (omega arith) is (λ k less. before (suc k) (omega (arith, less))))

pub spare_at : (s : List ℕ) (lanes : List Lane) (j : ℕ) (d : Lane) → position (λ (l : Lane). is_same l.name s) lanes ≡ Some j → spare_of s (spares_in lanes) ≡ (get_or lanes j d).spare
spare_at s lanes j d e =
    let h = position-Some (λ (l : Lane). is_same l.name s) lanes j d e in
    spare_first s lanes j d h.0 h.1 h.2

-- the spare of the stream whose lane was changed
pub spare_set : (s : List ℕ) (lanes : List Lane) (j : ℕ) (m d : Lane) → position (λ (l : Lane). is_same l.name s) lanes ≡ Some j → m.name ≡ (get_or lanes j d).name → spare_of s (spares_in (set lanes j m)) ≡ m.spare
spare_set s lanes j m d e name =
    let h = position-Some (λ (l : Lane). is_same l.name s) lanes j d e in
    let same : get_or (set lanes j m) j d ≡ m = get_or-set_same lanes j m d h.0 in
    spare_first s (set lanes j m) j d (rw (length-set lanes j m) h.0) (rw (same, name) h.1) (λ k less. let ne : k ≢ j = omega (arith, less) in rw (get_or-set_other lanes j k m d ne) (h.2 k less))
    ∙ ap (λ (l : Lane). l.spare) same

pub spare_other : (s : List ℕ) (lanes : List Lane) (j : ℕ) (m d : Lane) → m.name ≡ (get_or lanes j d).name → is_same m.name s ≡ false → spare_of s (spares_in (set lanes j m)) ≡ spare_of s (spares_in lanes)
spare_other s [] j m d name other = refl
spare_other s (l ∷ lanes) zero m d name other =
    let was : is_same l.name s ≡ false = ap (λ (n : List ℕ). is_same n s) (sym name) ∙ other in
    rw (other, was) refl
spare_other s (l ∷ lanes) (suc j) m d name other = ap (λ (n : ℕ). cond (is_same l.name s) l.spare n) (spare_other s lanes j m d name other)

-- ---- the address of what was added

pub address_is : (channel : List Track) (k time : ℕ) (d : Track) → k < length channel → address_in channel k time ≡ record { stream = (get_or channel k d).name; bitrate = (get_or channel k d).bitrate; time = time }
address_is [] k time d h = absurd (omega arith)
address_is (t ∷ ts) zero time d h = refl
address_is (t ∷ ts) (suc k) time d h = address_is ts k time d (omega arith)

-- what was put, and where
pub record IsPut (channel : List Track) (kept : List Entries) (lanes : List Lane) (x : Address) (d p k j : ℕ) (e : Entries) (m : Lane) : Type 0 where
  pub track : position (is_the x.stream x.bitrate) channel ≡ Some k
  pub lane : position (λ (l : Lane). is_same l.name x.stream) lanes ≡ Some j
  pub entries : (f : Entries) → e.entries ≡ with_entry x.time p (get_or kept k f).entries
  pub room : (f : Entries) → (get_or kept k f).room ≤ e.room + 1
  pub added : (l : Lane) → IsAddedTo (get_or lanes j l) m (record { address = x; duration = d; place = p })

-- the list of adds has it at its end
pub adds_more : (channel : List Track) (added : List Added) (x : Address) (k d p : ℕ) → position (is_the x.stream x.bitrate) channel ≡ Some k
    → adds_in channel (added ++ (record { track = k; time = x.time; duration = d; place = p }) ∷ []) ≡ adds_in channel added ++ (record { address = x; duration = d; place = p }) ∷ []
adds_more [] added x k d p e = absurd cc
adds_more (t ∷ ts) added x k d p e =
    let found = found_track x.stream x.bitrate (t ∷ ts) k e in
    let is : address_in (t ∷ ts) k x.time ≡ x =
    address_is (t ∷ ts) k x.time t found.within
    ∙ ap (λ (s : List ℕ). record { stream = s; bitrate = (get_or (t ∷ ts) k t).bitrate; time = x.time }) (found.name t)
    ∙ ap (λ (r : ℕ). record { stream = x.stream; bitrate = r; time = x.time }) (found.bitrate t) in
    map_push (add_in (t ∷ ts)) added _ ∙ ap (λ (a : Address). adds_in (t ∷ ts) added ++ (record { address = a; duration = d; place = p }) ∷ []) is

pub whole_added : (channel : List Track) (added : List Added) (kept : List Entries) (lanes : List Lane) (reserved capacity more k j d p : ℕ) (x : Address) (e : Entries) (m : Lane)
    → IsWhole channel added kept lanes reserved capacity → IsPut channel kept lanes x d p k j e m → IsNew (adds_in channel added) x d → capacity ≤ more
    → IsWhole channel (added ++ (record { track = k; time = x.time; duration = d; place = p }) ∷ []) (set kept k e) (set lanes j m) (reserved - 1) more
whole_added channel added kept lanes reserved capacity more k j d p x e m whole put new enough = record {
  valid = whole.valid;
  within = All-push (λ (y : Added). y.track < length channel) added y whole.within found.within;
  as_many = length-set kept k e ∙ whole.as_many;
  places = λ i f t h. ap (λ (l : List (ℕ × ℕ)). l) (place_now i f t h);
  names = map-set_same (λ (l : Lane). l.name) lanes j m m (put.added m).name ∙ whole.names;
  each = λ i l h. each_now i l (rw (length-set lanes j m) at h);
  rooms = λ i q l t f h w same. rooms_now i q l t f (rw (length-set lanes j m) at h) w same;
  sum = omega (arith, summed, (put.added m).spare, whole.sum);
  room = omega (arith, length_push added y, summed, (put.added m).spare, whole.sum, whole.room, enough);
}
  where
    y : Added
    y = record { track = k; time = x.time; duration = d; place = p }

    a : Add
    a = record { address = x; duration = d; place = p }

    found : FoundTrack x.stream x.bitrate channel k
    found = found_track x.stream x.bitrate channel k put.track

    adds : adds_in channel (added ++ y ∷ []) ≡ adds_in channel added ++ a ∷ []
    adds = adds_more channel added x k d p put.track

    within_lanes : j < length lanes
    within_lanes = (position-Some (λ (l : Lane). is_same l.name x.stream) lanes j m put.lane).0

    stream : (l : Lane) → (get_or lanes j l).name ≡ x.stream
    stream l = (bytes_eq-Decides (get_or lanes j l).name x.stream).0 (position-Some (λ (n : Lane). is_same n.name x.stream) lanes j l put.lane).1

    summed : sum_by (λ (l : Lane). l.spare) (set lanes j m) + (get_or lanes j m).spare ≡ sum_by (λ (l : Lane). l.spare) lanes + m.spare
    summed = sum_by-set (λ (l : Lane). l.spare) lanes j m m within_lanes

    within_kept : k < length kept
    within_kept = omega (arith, whole.as_many, found.within)

    adds₀ : List Add
    adds₀ = adds_in channel added

    -- ---- places

    mine : (t : Track) → is_track (get_or channel k t).name (get_or channel k t).bitrate a ≡ true
    mine t = and_from _ _ (same_name x.stream (get_or channel k t).name (sym (found.name t))) (eq-eqb x.bitrate (get_or channel k t).bitrate (sym (found.bitrate t)))

    others : (i : ℕ) (t : Track) → i < length channel → i ≢ k → is_track (get_or channel i t).name (get_or channel i t).bitrate a ≡ false
    others i t h ne = false_from_ne_true _ (λ yes.
        let parts = and_parts (is_same x.stream (get_or channel i t).name) (eqb x.bitrate (get_or channel i t).bitrate) yes in
        tracks_apart channel i k t whole.valid h found.within ne (sym ((bytes_eq-Decides x.stream (get_or channel i t).name).0 parts.0) ∙ sym (found.name t))
        (sym (eqb-true x.bitrate (get_or channel i t).bitrate parts.1) ∙ sym (found.bitrate t)))

    place_here : (f : Entries) (t : Track) → (get_or (set kept k e) k f).entries ≡ places_of (get_or channel k t).name (get_or channel k t).bitrate (adds_in channel (added ++ y ∷ []))
    place_here f t =
        ap (λ (n : Entries). n.entries) (get_or-set_same kept k e f within_kept) ∙ put.entries f
        ∙ ap (λ (l : List (ℕ × ℕ)). with_entry x.time p l) (whole.places k f t found.within)
        ∙ sym (places_snoc (get_or channel k t).name (get_or channel k t).bitrate [] adds₀ a ∙ rw (mine t) refl)
        ∙ ap (λ (l : List Add). places_of (get_or channel k t).name (get_or channel k t).bitrate l) (sym adds)

    place_there : (i : ℕ) (f : Entries) (t : Track) → i < length channel → i ≢ k → (get_or (set kept k e) i f).entries ≡ places_of (get_or channel i t).name (get_or channel i t).bitrate (adds_in channel (added ++ y ∷ []))
    place_there i f t h ne =
        ap (λ (n : Entries). n.entries) (get_or-set_other kept k i e f ne) ∙ whole.places i f t h
        ∙ sym (places_snoc (get_or channel i t).name (get_or channel i t).bitrate [] adds₀ a ∙ rw (others i t h ne) refl)
        ∙ ap (λ (l : List Add). places_of (get_or channel i t).name (get_or channel i t).bitrate l) (sym adds)

    place_now : (i : ℕ) (f : Entries) (t : Track) → i < length channel → (get_or (set kept k e) i f).entries ≡ places_of (get_or channel i t).name (get_or channel i t).bitrate (adds_in channel (added ++ y ∷ []))
    place_now i f t h = elim (cases_eq i k) [
      | inl at ↦ subst (λ (n : ℕ). (get_or (set kept k e) n f).entries ≡ places_of (get_or channel n t).name (get_or channel n t).bitrate (adds_in channel (added ++ y ∷ []))) (sym at) (place_here f t)
      | inr ne ↦ place_there i f t h ne
    ]

    -- ---- streams

    has : (l : Lane) → HasBitrate x.bitrate (tracks_of (get_or lanes j l).name channel)
    has l =
        subst (λ (n : List ℕ). HasBitrate x.bitrate (tracks_of n channel)) (sym (stream l)) (sym (has_bitrate x.stream x.bitrate channel) ∙ sym (declared_any x.stream x.bitrate channel) ∙ found.declared)

    lane_here : (l : Lane) → IsLane channel (adds_in channel (added ++ y ∷ [])) (get_or (set lanes j m) j l)
    lane_here l =
        subst (IsLane channel (adds_in channel (added ++ y ∷ []))) (sym (get_or-set_same lanes j m l within_lanes))
        (subst (λ (as' : List Add). IsLane channel as' m) (sym adds) (lane_added channel adds₀ (get_or lanes j l) m a whole.valid (whole.each j l within_lanes) (put.added l) (sym (stream l)) new (has l)))

    lane_there : (i : ℕ) (l : Lane) → i < length lanes → i ≢ j → IsLane channel (adds_in channel (added ++ y ∷ [])) (get_or (set lanes j m) i l)
    lane_there i l h ne =
        let other : is_same x.stream (get_or lanes i l).name ≡ false = differ_names x.stream (get_or lanes i l).name (λ e'. lanes_apart channel lanes i j l whole.names h within_lanes ne (sym e' ∙ sym (stream l))) in
        subst (IsLane channel (adds_in channel (added ++ y ∷ []))) (sym (get_or-set_other lanes j i m l ne))
        (subst (λ (as' : List Add). IsLane channel as' (get_or lanes i l)) (sym adds) (lane_other channel adds₀ (get_or lanes i l) a (whole.each i l h) other))

    each_now : (i : ℕ) (l : Lane) → i < length lanes → IsLane channel (adds_in channel (added ++ y ∷ [])) (get_or (set lanes j m) i l)
    each_now i l h = elim (cases_eq i j) [
      | inl at ↦ subst (λ (n : ℕ). IsLane channel (adds_in channel (added ++ y ∷ [])) (get_or (set lanes j m) n l)) (sym at) (lane_here l)
      | inr ne ↦ lane_there i l h ne
    ]

    -- ---- room

    rooms_here : (q : ℕ) (l : Lane) (t : Track) (f : Entries) → q < length channel → (get_or channel q t).name ≡ (get_or (set lanes j m) j l).name → (get_or (set lanes j m) j l).spare ≤ (get_or (set kept k e) q f).room
    rooms_here q l t f w same =
        let is : get_or (set lanes j m) j l ≡ m = get_or-set_same lanes j m l within_lanes in
        let name : (get_or channel q t).name ≡ (get_or lanes j l).name = same ∙ ap (λ (n : Lane). n.name) is ∙ (put.added l).name in
        let was = whole.rooms j q l t f within_lanes w name in
        let spare = ap (λ (n : Lane). n.spare) is in
        let less = (put.added l).spare in
        elim (cases_eq q k) [
          | inl at ↦ subst (λ (n : ℕ). (get_or (set lanes j m) j l).spare ≤ (get_or (set kept k e) n f).room) (sym at)
              (omega (arith, spare, less, ap (λ (n : Entries). n.room) (get_or-set_same kept k e f within_kept), put.room f, subst (λ (n : ℕ). (get_or lanes j l).spare ≤ (get_or kept n f).room) at was))
          | inr ne ↦ omega (arith, spare, less, was, ap (λ (n : Entries). n.room) (get_or-set_other kept k q e f ne))
        ]

    rooms_there : (i q : ℕ) (l : Lane) (t : Track) (f : Entries) → i < length lanes → q < length channel → i ≢ j → (get_or channel q t).name ≡ (get_or (set lanes j m) i l).name
        → (get_or (set lanes j m) i l).spare ≤ (get_or (set kept k e) q f).room
    rooms_there i q l t f h w ne same =
        let is : get_or (set lanes j m) i l ≡ get_or lanes i l = get_or-set_other lanes j i m l ne in
        let name : (get_or channel q t).name ≡ (get_or lanes i l).name = same ∙ ap (λ (n : Lane). n.name) is in
        let was = whole.rooms i q l t f h w name in
        let spare = ap (λ (n : Lane). n.spare) is in
        elim (cases_eq q k) [
          | inl at ↦ absurd (lanes_apart channel lanes i j l whole.names h within_lanes ne (sym name ∙ ap (λ (n : ℕ). (get_or channel n t).name) at ∙ found.name t ∙ sym (stream l)))
          | inr apart ↦ omega (arith, spare, was, ap (λ (n : Entries). n.room) (get_or-set_other kept k q e f apart))
        ]

    rooms_now : (i q : ℕ) (l : Lane) (t : Track) (f : Entries) → i < length lanes → q < length channel → (get_or channel q t).name ≡ (get_or (set lanes j m) i l).name
        → (get_or (set lanes j m) i l).spare ≤ (get_or (set kept k e) q f).room
    rooms_now i q l t f h w same = elim (cases_eq i j) [
      | inl at ↦ subst (λ (n : ℕ). (get_or channel q t).name ≡ (get_or (set lanes j m) n l).name → (get_or (set lanes j m) n l).spare ≤ (get_or (set kept k e) q f).room) (sym at) (rooms_here q l t f w) same
      | inr ne ↦ rooms_there i q l t f h w ne same
    ]

-- ---- before the add

pub rooms_there : (channel : List Track) (added : List Added) (kept : List Entries) (lanes : List Lane) (reserved capacity k j : ℕ) (x : Address) (l : Lane) (f : Entries) → IsWhole channel added kept lanes reserved capacity
    → position (is_the x.stream x.bitrate) channel ≡ Some k → position (λ (n : Lane). is_same n.name x.stream) lanes ≡ Some j
    → 1 ≤ spare_of x.stream (spares_in lanes) → (1 ≤ (get_or lanes j l).spare) × (1 ≤ (get_or kept k f).room)
rooms_there [] added kept lanes reserved capacity k j x l f whole e at some = absurd cc
rooms_there (t ∷ ts) added kept lanes reserved capacity k j x l f whole e at some =
    let found = found_track x.stream x.bitrate (t ∷ ts) k e in
    let h = position-Some (λ (n : Lane). is_same n.name x.stream) lanes j l at in
    let name : (get_or lanes j l).name ≡ x.stream = (bytes_eq-Decides (get_or lanes j l).name x.stream).0 h.1 in
    let spare = spare_at x.stream lanes j l at in
    let room = whole.rooms j k l t f h.0 found.within (found.name t ∙ sym name) in
    (omega (arith, some, spare), omega (arith, some, spare, room))

pub decided_there : (channel : List Track) (added : List Added) (kept : List Entries) (lanes : List Lane) (reserved capacity j : ℕ) (x : Address) (d : ℕ) (l : Lane) → IsWhole channel added kept lanes reserved capacity
    → position (λ (n : Lane). is_same n.name x.stream) lanes ≡ Some j → l ≡ get_or lanes j l → IsNew (adds_in channel added) x d → (decision l.times x.time d ≡ decision.New) ⊎ (decision l.times x.time d ≡ decision.There)
decided_there channel added kept lanes reserved capacity j x d l whole at is new =
    let f = found_lane x.stream channel added kept lanes reserved capacity j l whole at is in
    subst (λ (ts : List (ℕ × ℕ)). (decision ts x.time d ≡ decision.New) ⊎ (decision ts x.time d ≡ decision.There)) (sym f.times) new.decision

pub room_there : (channel : List Track) (added : List Added) (kept : List Entries) (lanes : List Lane) (reserved capacity k j : ℕ) (x : Address) (f : Entries) → IsWhole channel added kept lanes reserved capacity
    → position (is_the x.stream x.bitrate) channel ≡ Some k → position (λ (n : Lane). is_same n.name x.stream) lanes ≡ Some j → 1 ≤ spare_of x.stream (spares_in lanes) → 1 ≤ (get_or kept k f).room
room_there channel added kept [] reserved capacity k j x f whole e at some = absurd cc
room_there channel added kept (l ∷ lanes) reserved capacity k j x f whole e at some = (rooms_there channel added kept (l ∷ lanes) reserved capacity k j x l f whole e at some).1

-- ---- more room

pub whole_roomier : (channel : List Track) (added : List Added) (kept more : List Entries) (lanes : List Lane) (reserved capacity larger : ℕ) → IsWhole channel added kept lanes reserved capacity → HaveMoreRoom kept more
    → capacity ≤ larger → IsWhole channel added more lanes reserved larger
whole_roomier channel added kept more lanes reserved capacity larger whole roomier enough = record {
  valid = whole.valid;
  within = whole.within;
  as_many = roomier.as_many ∙ whole.as_many;
  places = λ k d t h. (roomier.each k d (inside k h)).entries ∙ whole.places k d t h;
  names = whole.names;
  each = whole.each;
  rooms = λ j k l t f h w same. omega (arith, whole.rooms j k l t f h w same, (roomier.each k f (inside k w)).room);
  sum = whole.sum;
  room = omega (arith, whole.room, enough);
}
  where
    inside : (k : ℕ) → k < length channel → k < length kept
    inside k h = omega (arith, whole.as_many)

-- the same stream with more spare
pub record IsRaised (l m : Lane) (extra : ℕ) : Type 0 where
  pub name : m.name ≡ l.name
  pub tracks : m.tracks ≡ l.tracks
  pub times : m.times ≡ l.times
  pub counts : m.counts ≡ l.counts
  pub listed : m.listed ≡ l.listed
  pub spare : m.spare ≡ l.spare + extra
  pub backed : m.spare ≤ m.room

pub whole_raised : (channel : List Track) (added : List Added) (kept : List Entries) (lanes : List Lane) (reserved capacity j extra : ℕ) (s : List ℕ) (m : Lane) → IsWhole channel added kept lanes reserved capacity
    → position (λ (l : Lane). is_same l.name s) lanes ≡ Some j → ((l : Lane) → IsRaised (get_or lanes j l) m extra)
    → ((k : ℕ) (d : Entries) (t : Track) → k < length channel → is_same (get_or channel k t).name s ≡ true → m.spare ≤ (get_or kept k d).room)
    → length added + (reserved + extra) ≤ capacity → IsWhole channel added kept (set lanes j m) (reserved + extra) capacity
whole_raised channel added kept lanes reserved capacity j extra s m whole at raised rooms enough = record {
  valid = whole.valid;
  within = whole.within;
  as_many = whole.as_many;
  places = whole.places;
  names = map-set_same (λ (l : Lane). l.name) lanes j m m (raised m).name ∙ whole.names;
  each = λ i l h. each_now i l (rw (length-set lanes j m) at h);
  rooms = λ i q l t f h w same. rooms_now i q l t f (rw (length-set lanes j m) at h) w same;
  sum = omega (arith, summed, (raised m).spare, whole.sum);
  room = enough;
}
  where
    within_lanes : j < length lanes
    within_lanes = (position-Some (λ (l : Lane). is_same l.name s) lanes j m at).0

    stream : (l : Lane) → (get_or lanes j l).name ≡ s
    stream l = (bytes_eq-Decides (get_or lanes j l).name s).0 (position-Some (λ (n : Lane). is_same n.name s) lanes j l at).1

    summed : sum_by (λ (l : Lane). l.spare) (set lanes j m) + (get_or lanes j m).spare ≡ sum_by (λ (l : Lane). l.spare) lanes + m.spare
    summed = sum_by-set (λ (l : Lane). l.spare) lanes j m m within_lanes

    lane_same : (l : Lane) → IsLane channel (adds_in channel added) m
    lane_same l =
        let r = raised l in
        let lane = whole.each j l within_lanes in
        record {
          times = r.times ∙ lane.times ∙ ap (λ (n : List ℕ). times_of n (adds_in channel added)) (sym r.name);
          counts = λ t. ap (λ (ts : List (ℕ × ℕ)). count_at t ts m.counts) r.times ∙ ap (λ (cs : List ℕ). count_at t (get_or lanes j l).times cs) r.counts ∙ lane.counts t
              ∙ ap (λ (n : List ℕ). passing (is_kept (adds_in channel added) n t) (tracks_of n channel)) (sym r.name);
          listed = r.listed ∙ lane.listed ∙ ap (λ (n : List ℕ). listed channel (adds_in channel added) n) (sym r.name);
          tracks = r.tracks ∙ lane.tracks ∙ ap (λ (n : List ℕ). length (tracks_of n channel)) (sym r.name);
          backed = r.backed;
        }

    each_now : (i : ℕ) (l : Lane) → i < length lanes → IsLane channel (adds_in channel added) (get_or (set lanes j m) i l)
    each_now i l h = elim (cases_eq i j) [
      | inl e ↦ subst (λ (n : ℕ). IsLane channel (adds_in channel added) (get_or (set lanes j m) n l)) (sym e) (subst (IsLane channel (adds_in channel added)) (sym (get_or-set_same lanes j m l within_lanes)) (lane_same l))
      | inr ne ↦ subst (IsLane channel (adds_in channel added)) (sym (get_or-set_other lanes j i m l ne)) (whole.each i l h)
    ]

    rooms_here : (q : ℕ) (l : Lane) (t : Track) (f : Entries) → q < length channel → (get_or channel q t).name ≡ (get_or (set lanes j m) j l).name → (get_or (set lanes j m) j l).spare ≤ (get_or kept q f).room
    rooms_here q l t f w same =
        let is : get_or (set lanes j m) j l ≡ m = get_or-set_same lanes j m l within_lanes in
        let name : (get_or channel q t).name ≡ s = same ∙ ap (λ (n : Lane). n.name) is ∙ (raised l).name ∙ stream l in
        omega (arith, ap (λ (n : Lane). n.spare) is, rooms q f t w (same_name (get_or channel q t).name s name))

    rooms_now : (i q : ℕ) (l : Lane) (t : Track) (f : Entries) → i < length lanes → q < length channel
        → (get_or channel q t).name ≡ (get_or (set lanes j m) i l).name → (get_or (set lanes j m) i l).spare ≤ (get_or kept q f).room
    rooms_now i q l t f h w same = elim (cases_eq i j) [
      | inl e ↦ subst (λ (n : ℕ). (get_or channel q t).name ≡ (get_or (set lanes j m) n l).name → (get_or (set lanes j m) n l).spare ≤ (get_or kept q f).room) (sym e) (rooms_here q l t f w) same
      | inr ne ↦
          let is : get_or (set lanes j m) i l ≡ get_or lanes i l = get_or-set_other lanes j i m l ne in
          omega (arith, ap (λ (n : Lane). n.spare) is, whole.rooms i q l t f h w (same ∙ ap (λ (n : Lane). n.name) is))
    ]

-- spares only rise
pub spares_rise : (s n : List ℕ) (lanes : List Lane) (j extra : ℕ) (m d : Lane) → position (λ (l : Lane). is_same l.name s) lanes ≡ Some j → IsRaised (get_or lanes j d) m extra
    → spare_of n (spares_in lanes) ≤ spare_of n (spares_in (set lanes j m))
spares_rise s n lanes j extra m d at raised = rising lanes j raised
  where
    rising : (ls : List Lane) (i : ℕ) → IsRaised (get_or ls i d) m extra → spare_of n (spares_in ls) ≤ spare_of n (spares_in (set ls i m))
    rising [] i r = omega arith
    rising (l ∷ ls) zero r = by_test (is_same l.name n) refl
      where
        by_test : (b : Bool) → is_same l.name n ≡ b → cond b l.spare (spare_of n (spares_in ls)) ≤ cond (is_same m.name n) m.spare (spare_of n (spares_in ls))
        by_test b is = rw (ap (λ (x : List ℕ). is_same x n) r.name ∙ is) (by_bool b)
          where
            by_bool : (b : Bool) → cond b l.spare (spare_of n (spares_in ls)) ≤ cond b m.spare (spare_of n (spares_in ls))
            by_bool true = omega (arith, r.spare)
            by_bool false = omega arith
    rising (l ∷ ls) (suc i) r = by_bool (is_same l.name n) (rising ls i r)
      where
        by_bool : (b : Bool) → spare_of n (spares_in ls) ≤ spare_of n (spares_in (set ls i m)) → cond b l.spare (spare_of n (spares_in ls)) ≤ cond b l.spare (spare_of n (spares_in (set ls i m)))
        by_bool true h = omega arith
        by_bool false h = h

-- ---- a copy

sum_none : (ls : List Lane) → AllByRecursion (λ (l : Lane). l.spare ≡ 0) ls → 0 ≡ sum_by (λ (l : Lane). l.spare) ls
sum_none [] all = refl
sum_none (l ∷ ls) all = omega (arith, sum_by-cons (λ (m : Lane). m.spare) l ls, all.0, sum_none ls all.1)

copied_names : (ls ms : List Lane) → AreCopies ls ms → map (λ (l : Lane). l.name) ms ≡ map (λ (l : Lane). l.name) ls
copied_names [] [] e = refl
copied_names [] (m ∷ ms) e = absurd e
copied_names (l ∷ ls) [] e = absurd e
copied_names (l ∷ ls) (m ∷ ms) e =
    ap (λ (n : List ℕ). n ∷ map (λ (x : Lane). x.name) ms) e.0.name ∙ ap (λ (ns : List (List ℕ)). l.name ∷ ns) (copied_names ls ms e.1)

copied_spares : (ls ms : List Lane) → AreCopies ls ms → AllByRecursion (λ (l : Lane). l.spare ≡ 0) ms
copied_spares [] [] e = tt
copied_spares [] (m ∷ ms) e = absurd e
copied_spares (l ∷ ls) [] e = absurd e
copied_spares (l ∷ ls) (m ∷ ms) e = (e.0.spare, copied_spares ls ms e.1)

pub whole_copied : (channel : List Track) (added : List Added) (kept kept' : List Entries) (lanes lanes' : List Lane) (reserved capacity larger : ℕ) → IsWhole channel added kept lanes reserved capacity
    → map (λ (e : Entries). e.entries) kept' ≡ map (λ (e : Entries). e.entries) kept → AreCopies lanes lanes' → length added ≤ larger → IsWhole channel added kept' lanes' 0 larger
whole_copied channel added kept kept' lanes lanes' reserved capacity larger whole same copies enough = record {
  valid = whole.valid;
  within = whole.within;
  as_many = as_many ∙ whole.as_many;
  places = λ k d t h. place k d (inside k h) ∙ whole.places k d t h;
  names = copied_names lanes lanes' copies ∙ whole.names;
  each = λ i l h. each_now i l (omega (arith, as_long, h));
  rooms = λ j k l t f h w e. let none = spare_none j l h in omega (arith, none);
  sum = sum_none lanes' (copied_spares lanes lanes' copies);
  room = omega (arith, enough);
}
  where
    as_many : length kept' ≡ length kept
    as_many = omega (arith, length-map kept' (λ (e : Entries). e.entries), length-map kept (λ (e : Entries). e.entries), ap length same)

    as_long : length lanes ≡ length lanes'
    as_long = length_all_zip IsCopy lanes lanes' copies

    inside : (k : ℕ) → k < length channel → k < length kept
    inside k h = omega (arith, whole.as_many)

    place : (k : ℕ) (d : Entries) → k < length kept → (get_or kept' k d).entries ≡ (get_or kept k d).entries
    place k d h =
        sym (get_or-map (λ (e : Entries). e.entries) kept' k d [] (omega (arith, as_many))) ∙ ap (λ (xs : List (List (ℕ × ℕ))). get_or xs k []) same ∙ get_or-map (λ (e : Entries). e.entries) kept k d [] h

    spare_none : (j : ℕ) (l : Lane) → j < length lanes' → (get_or lanes' j l).spare ≡ 0
    spare_none j l h = All-from_recursion (λ (m : Lane). m.spare ≡ 0) lanes' (copied_spares lanes lanes' copies) j l h

    each_now : (i : ℕ) (l : Lane) → i < length lanes → IsLane channel (adds_in channel added) (get_or lanes' i l)
    each_now i l h =
        let is : IsCopy (get_or lanes i l) (get_or lanes' i l) = AllZip-get_or IsCopy lanes lanes' i l l copies h in
        let lane = whole.each i l h in
        record {
          times = is.times ∙ lane.times ∙ ap (λ (n : List ℕ). times_of n (adds_in channel added)) (sym is.name);
          counts = λ t. ap (λ (ts : List (ℕ × ℕ)). count_at t ts (get_or lanes' i l).counts) is.times ∙ ap (λ (cs : List ℕ). count_at t (get_or lanes i l).times cs) is.counts ∙ lane.counts t
              ∙ ap (λ (n : List ℕ). passing (is_kept (adds_in channel added) n t) (tracks_of n channel)) (sym is.name);
          listed = is.listed ∙ lane.listed ∙ ap (λ (n : List ℕ). listed channel (adds_in channel added) n) (sym is.name);
          tracks = is.tracks ∙ lane.tracks ∙ ap (λ (n : List ℕ). length (tracks_of n channel)) (sym is.name);
          backed = omega (arith, is.spare);
        }

-- ---- a new catalog

none_passing : (ts : List Track) → passing (λ (t : Track). false) ts ≡ 0
none_passing [] = refl
none_passing (t ∷ ts) = none_passing ts

fresh_spares : (channel : List Track) (ls : List Lane) → AllByRecursion (IsFresh channel) ls → AllByRecursion (λ (l : Lane). l.spare ≡ 0) ls
fresh_spares channel [] all = tt
fresh_spares channel (l ∷ ls) all = (all.0.spare, fresh_spares channel ls all.1)

pub whole_new : (channel : List Track) (added : List Added) (kept : List Entries) (lanes : List Lane) (capacity : ℕ) → IsChannel channel → added ≡ []
    → length kept ≡ length channel → All (λ (e : Entries). e.entries ≡ []) kept
    → map (λ (l : Lane). l.name) lanes ≡ names_of channel → All (IsFresh channel) lanes → IsWhole channel added kept lanes 0 capacity
whole_new channel added kept lanes capacity valid none as_many empty names fresh = subst (λ (as' : List Added). IsWhole channel as' kept lanes 0 capacity) (sym none) (record {
  valid = valid;
  within = λ k d h. absurd (omega (arith, h));
  as_many = as_many;
  places = λ k d t h. empty k d (omega (arith, as_many, h));
  names = names;
  each = λ i l h. lane (get_or lanes i l) (fresh i l h);
  rooms = λ j k l t f h w e. omega (arith, (fresh j l h).spare);
  sum = sum_none lanes (fresh_spares channel lanes (recursion_from_All (IsFresh channel) lanes fresh));
  room = omega arith;
})
  where
    lane : (l : Lane) → IsFresh channel l → IsLane channel [] l
    lane l is = record {
      times = is.times;
      counts = λ t. ap (λ (ts : List (ℕ × ℕ)). count_at t ts l.counts) is.times ∙ sym (none_passing (tracks_of l.name channel));
      listed = is.listed;
      tracks = is.tracks;
      backed = omega (arith, is.spare);
    }
