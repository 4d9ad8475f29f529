-- What is met on the way through the tags is what stands at its place.
use Rattle.std.proofs.Common.{◌≡◌, ◌≤◌, ◌<◌, ◌+◌, ◌-◌, ℕ, zero, suc, Bool, true, false, ◌&&◌, cond, eqb, leb, List, [], ◌∷◌, ◌++◌, length, take, Option, Some, None, option_to_list, is_some, refl, ap, sym, ◌∙◌, subst, arith, append_assoc, length-append, length-take}
use Rattle.std.specs.Prelude.{codes}
use Rattle.std.proofs.lemmas.Bool.{eqb-true, eqb-false, eq-eqb, ne_eqb, le-leb, lt-leb}
use Rattle.sm_model.specs.declared.tag.Attribute.{Attribute}
use Rattle.sm_model.specs.declared.tag.Tag.{Tag}
use Rattle.sm_model.specs.declared.tag.Tag.TheVariants.{Start, Finish, Text, End, Bad}
use Rattle.sm_model.specs.declared.track.Kind.{Kind}
use Rattle.sm_smil.specs.declared.raw_track.Form.{Form}
use Rattle.sm_smil.specs.declared.raw_track.ParamName.{ParamName}
use Rattle.sm_smil.specs.declared.raw_track.SmilParam.{SmilParam}
use Rattle.sm_smil.specs.declared.raw_track.RawTrack.{RawTrack}
use Rattle.sm_model.specs.Same.{is_same}
use Rattle.sm_smil.specs.LiveTracks.{value_of}
use Rattle.sm_smil.specs.LiveWalk.{Walk, track_kind, with_element, with_pair, with_named, with_param, is_read, param_name, meets, walk_tags}
use Rattle.sm_tag.specs.Elements.{enters, attribute_of}
use Rattle.sm_model.specs.Places.{first_place}
use Rattle.sm_tag.proofs.WrittenTags.{append_nil}
use Rattle.sm_smil.proofs.WalkLemmas.{at_switch}
use Rattle.sm_smil.specs.Placed.{Placed, placed, started, with_child, ends_track, holding, track_from, tracks_in, ended_tracks, open_tracks, place_behind, other_places}

-- the place that was kept, else the first of these
abbrev pub or_first : Option ℕ → List ℕ → Option ℕ
or_first (Some at) places = Some at
or_first None [] = None
or_first None (at ∷ places) = Some at

-- a walk at its end, behind these tracks, of which room more are taken, and these places of other outermost elements
pub record Walked (room : ℕ) (done : List RawTrack) (other over : Option ℕ) (ts : List (RawTrack × Bool)) (places : List ℕ) (v : Walk) : Type 0 where
  pub ended : v.done ≡ done ++ ended_tracks (take room ts)
  pub current : option_to_list v.current ≡ open_tracks (take room ts)
  pub over_is : v.over ≡ or_first over (place_behind room ts)
  pub other_is : v.other ≡ or_first other places

-- the track that hasn't ended, by what is left
abbrev pub pending : Form → Option RawTrack → List Placed → List (RawTrack × Bool)
pending form None ps = []
pending form (Some t) ps = holding form t ps ∷ []

abbrev pub Open : Option RawTrack → List (List ℕ) → ℕ → Type 0
Open None path room = Unit {0}
Open (Some t) path room = (4 ≤ length path) × (0 < room)

abbrev pub Reached : Form → List Tag → ℕ → List (List ℕ) → Option ℕ → List RawTrack → Option RawTrack → Option ℕ → Walk → Type 0
Reached form tags room path other done c over v =
    Walked room done other over (pending form c (placed path tags) ++ tracks_in form (placed path tags)) (other_places (placed path tags)) v

abbrev pub Reaches : Form → List Tag → Type 0
Reaches form tags =
    (room : ℕ) (path : List (List ℕ)) (other : Option ℕ) (done : List RawTrack) (c : Option RawTrack) (over : Option ℕ) → room + length done ≡ 64 → Open c path room
    → Reached form tags room path other done c over (walk_tags form (record { path = path; other = other; done = done; current = c; over = over }) tags)

or_first_place : (o : Option ℕ) (at : ℕ) (places rest : List ℕ) → or_first (first_place o at) rest ≡ or_first o (at ∷ places)
or_first_place None at places rest = refl
or_first_place (Some b) at places rest = refl

param_at : (t : RawTrack) (p : SmilParam) → (with_param t p).at ≡ t.at
param_at t p = tested (is_some (value_of p.name t.params))
  where
    tested : (b : Bool) → (cond b (record t { again = first_place t.again p.at }) (record t { params = t.params ++ p ∷ [] })).at ≡ t.at
    tested true = refl
    tested false = refl

named_at : (form : Form) (t : RawTrack) (at : ℕ) (o : Option ParamName) (value : List ℕ) → (with_named form t at o value).at ≡ t.at
named_at form t at None value = refl
named_at form t at (Some name) value = tested (is_read form t name)
  where
    tested : (b : Bool) → (cond b (with_param t (record { name = name; value = value; at = at })) t).at ≡ t.at
    tested true = param_at t (record { name = name; value = value; at = at })
    tested false = refl

pair_at : (form : Form) (t : RawTrack) (at : ℕ) (o u : Option (List ℕ)) → (with_pair form t at o u).at ≡ t.at
pair_at form t at (Some name) (Some value) = named_at form t at (param_name name) value
pair_at form t at (Some name) None = refl
pair_at form t at None u = refl

child_at : (form : Form) (t : RawTrack) (ancestors : List (List ℕ)) (tag : Tag) → (with_child form t ancestors tag).at ≡ t.at
child_at form t ancestors (Start name attributes empty at) = tested (eqb (length ancestors) 4 && is_same name (codes "param"))
  where
    tested : (b : Bool) → (cond b (with_element form attributes at t) t).at ≡ t.at
    tested true = pair_at form t at (attribute_of (codes "name") attributes) (attribute_of (codes "value") attributes)
    tested false = refl
child_at form t ancestors (Finish name at) = refl
child_at form t ancestors (Text at) = refl
child_at form t ancestors End = refl
child_at form t ancestors (Bad at) = refl

holding_at : (form : Form) (t : RawTrack) (ps : List Placed) → (holding form t ps).0.at ≡ t.at
holding_at form t [] = refl
holding_at form t (p ∷ ps) = tested (ends_track p.ancestors p.tag) (holding_at form (with_child form t p.ancestors p.tag) ps ∙ child_at form t p.ancestors p.tag)
  where
    tested : (b : Bool) → (holding form (with_child form t p.ancestors p.tag) ps).0.at ≡ t.at → (cond b (t, true) (holding form (with_child form t p.ancestors p.tag) ps)).0.at ≡ t.at
    tested true h = refl
    tested false h = h

-- one more track has ended
one_ended : (r : ℕ) (done : List RawTrack) (other over : Option ℕ) (t : RawTrack) (ts : List (RawTrack × Bool)) (places : List ℕ) (v : Walk)
    → Walked r (done ++ t ∷ []) other over ts places v → Walked (suc r) done other over ((t, true) ∷ ts) places v
one_ended r done other over t ts places v w = record {
  ended = w.ended ∙ append_assoc done (t ∷ []) (ended_tracks (take r ts));
  current = w.current;
  over_is = w.over_is;
  other_is = w.other_is;
}

-- an end tag
finish_case : (form : Form) (tags : List Tag) (name : List ℕ) (at : ℕ) → Reaches form tags → Reaches form (Finish name at ∷ tags)
finish_case form tags name at ih room path other done None over count is = tested (eqb (length (take (length path - 1) path)) 3)
  where
    tested : (b : Bool) → Reached form (Finish name at ∷ tags) room path other done None over
        (walk_tags form (cond b (record { path = take (length path - 1) path; other = other; done = done ++ []; current = None; over = over })
        (record { path = take (length path - 1) path; other = other; done = done; current = None; over = over })) tags)
    tested true =
        subst (λ (d : List RawTrack). Reached form (Finish name at ∷ tags) room path other done None over
        (walk_tags form (record { path = take (length path - 1) path; other = other; done = d; current = None; over = over }) tags)) (sym (append_nil done))
        (ih room (take (length path - 1) path) other done None over count tt)
    tested false = ih room (take (length path - 1) path) other done None over count tt
finish_case form tags name at ih zero path other done (Some t) over count is = absurd (omega (arith, is.1))
finish_case form tags name at ih (suc r) path other done (Some t) over count is = tested (eqb (length path) 4) refl
  where
    shorter : length (take (length path - 1) path) ≡ length path - 1
    shorter = omega (arith, length-take (length path - 1) path)

    tested : (b : Bool) → eqb (length path) 4 ≡ b → Reached form (Finish name at ∷ tags) (suc r) path other done (Some t) over
        (walk_tags form (cond (eqb (length (take (length path - 1) path)) 3) (record { path = take (length path - 1) path; other = other; done = done ++ t ∷ []; current = None; over = over })
        (record { path = take (length path - 1) path; other = other; done = done; current = Some t; over = over })) tags)
    tested true e =
        let four = eqb-true (length path) 4 e in
        let three : eqb (length (take (length path - 1) path)) 3 ≡ true = eq-eqb (length (take (length path - 1) path)) 3 (omega (arith, shorter, four)) in
        rw (e, three) (one_ended r done other over t _ _ _ (ih r (take (length path - 1) path) other (done ++ t ∷ []) None over (omega (arith, count, length-append done (t ∷ []))) tt))
    tested false e =
        let other_len = eqb-false (length path) 4 e in
        let three : eqb (length (take (length path - 1) path)) 3 ≡ false = ne_eqb (length (take (length path - 1) path)) 3 (λ s. omega (arith, shorter, other_len, s, is.0)) in
        rw (e, three) (ih (suc r) (take (length path - 1) path) other done (Some t) over count (omega (arith, shorter, other_len, is.0), omega arith))

-- ---- start tags

abbrev Begun : Form → List Tag → List ℕ → List Attribute → Bool → ℕ → ℕ → List (List ℕ) → Option ℕ → List RawTrack → Option RawTrack → Option ℕ → Option Kind → Type 0
Begun form tags name attributes empty at room path other done c over k =
    Walked room done other over
    (pending form c (record { ancestors = path; tag = Start name attributes empty at } ∷ placed (enters empty name path) tags) ++
    (track_from form k attributes at empty (placed (enters empty name path) tags) ++ tracks_in form (placed (enters empty name path) tags)))
    (other_places (record { ancestors = path; tag = Start name attributes empty at } ∷ placed (enters empty name path) tags))
    (walk_tags form (record (meets form (record { path = path; other = other; done = done; current = c; over = over }) name attributes empty at k) { path = enters empty name path }) tags)

-- what stands in others is no outermost element
no_other : (n : ℕ) (b : Bool) (at : ℕ) (places : List ℕ) → (n ≡ 0 → ⊥) → cond (eqb n 0) (cond b [] (at ∷ [])) [] ++ places ≡ places
no_other n b at places other =
    let e : eqb n 0 ≡ false = ne_eqb n 0 other in
    rw e refl

entered_len : (empty : Bool) (name : List ℕ) (path : List (List ℕ)) → length path ≤ length (enters empty name path)
entered_len true name path = omega arith
entered_len false name path = omega (arith, length-append path (name ∷ []))

-- a track begins, which no other is open around
track_case : (form : Form) (tags : List Tag) (name : List ℕ) (attributes : List Attribute) (empty : Bool) (at : ℕ) → Reaches form tags
    → (room : ℕ) (path : List (List ℕ)) (other : Option ℕ) (done : List RawTrack) (over : Option ℕ) (k : Kind)
    → room + length done ≡ 64 → length path ≡ 3 → Begun form tags name attributes empty at room path other done None over (Some k)
track_case form tags name attributes empty at ih zero path other done over k count three =
    let full : leb 64 (length done) ≡ true = le-leb 64 (length done) (omega (arith, count)) in
    let w = ih zero (enters empty name path) other done None (first_place over at) count tt in
    rw full (record {
      ended = w.ended;
      current = w.current;
      over_is = w.over_is ∙ (or_first_place over at [] _ ∙ ap (λ (n : ℕ). or_first over (n ∷ [])) (sym (begun_at empty)));
      other_is = w.other_is ∙ ap (or_first other) (sym (no_other (length path) _ at _ (λ e. omega (arith, e, three))));
    })
  where
    begun_at : (b : Bool) → (cond b (started k attributes at, true) (holding form (started k attributes at) (placed (enters empty name path) tags))).0.at ≡ at
    begun_at true = refl
    begun_at false = holding_at form (started k attributes at) (placed (enters empty name path) tags)
track_case form tags name attributes true at ih (suc r) path other done over k count three =
    let room : leb 64 (length done) ≡ false = lt-leb 64 (length done) (omega (arith, count)) in
    let t = started k attributes at in
    let w = one_ended r done other over t _ _ _ (ih r path other (done ++ t ∷ []) None over (omega (arith, count, length-append done (t ∷ []))) tt) in
    rw room (record {
      ended = w.ended;
      current = w.current;
      over_is = w.over_is;
      other_is = w.other_is ∙ ap (or_first other) (sym (no_other (length path) _ at _ (λ e. omega (arith, e, three))));
    })
track_case form tags name attributes false at ih (suc r) path other done over k count three =
    let room : leb 64 (length done) ≡ false = lt-leb 64 (length done) (omega (arith, count)) in
    let t = started k attributes at in
    let w = ih (suc r) (path ++ name ∷ []) other done (Some t) over count (omega (arith, three, length-append path (name ∷ [])), omega arith) in
    rw room (record {
      ended = w.ended;
      current = w.current;
      over_is = w.over_is;
      other_is = w.other_is ∙ ap (or_first other) (sym (no_other (length path) _ at _ (λ e. omega (arith, e, three))));
    })

-- another element, where no track is open
free_case : (form : Form) (tags : List Tag) (name : List ℕ) (attributes : List Attribute) (empty : Bool) (at : ℕ) → Reaches form tags → (room : ℕ) (path : List (List ℕ)) (other : Option ℕ)
    (done : List RawTrack) (over : Option ℕ)
    → room + length done ≡ 64 → Begun form tags name attributes empty at room path other done None over None
free_case form tags name attributes empty at ih room path other done over count =
    tested (eqb (length path) 0) (is_same name (codes "smil")) (eqb (length path) 4 && is_same name (codes "param"))
  where
    tested : (a b d : Bool) → Walked room done other over (tracks_in form (placed (enters empty name path) tags))
        (cond a (cond b [] (at ∷ [])) [] ++ other_places (placed (enters empty name path) tags))
        (walk_tags form (record (cond a (cond b (record { path = path; other = other; done = done; current = None; over = over })
        (record { path = path; other = first_place other at; done = done; current = None; over = over }))
        (cond d (record { path = path; other = other; done = done; current = None; over = over }) (record { path = path; other = other; done = done; current = None; over = over })))
        { path = enters empty name path }) tags)
    tested true true d = ih room (enters empty name path) other done None over count tt
    tested true false d =
        let w = ih room (enters empty name path) (first_place other at) done None over count tt in
        record { ended = w.ended; current = w.current; over_is = w.over_is; other_is = w.other_is ∙ or_first_place other at _ _ }
    tested false b true = ih room (enters empty name path) other done None over count tt
    tested false b false = ih room (enters empty name path) other done None over count tt

-- another element, inside a track
inside_case : (form : Form) (tags : List Tag) (name : List ℕ) (attributes : List Attribute) (empty : Bool) (at : ℕ) → Reaches form tags
    → (room : ℕ) (path : List (List ℕ)) (other : Option ℕ) (done : List RawTrack) (t : RawTrack) (over : Option ℕ)
    → room + length done ≡ 64 → (4 ≤ length path) × (0 < room) → Begun form tags name attributes empty at room path other done (Some t) over None
inside_case form tags name attributes empty at ih room path other done t over count is =
    let inner : eqb (length path) 0 ≡ false = ne_eqb (length path) 0 (λ e. omega (arith, e, is.0)) in
    rw inner (tested (eqb (length path) 4 && is_same name (codes "param")))
  where
    tested : (d : Bool)
        → Walked room done other over (holding form (cond d (with_element form attributes at t) t) (placed (enters empty name path) tags) ∷ tracks_in form (placed (enters empty name path) tags))
        (other_places (placed (enters empty name path) tags))
        (walk_tags form (record (cond d (record { path = path; other = other; done = done; current = Some (with_element form attributes at t); over = over })
        (record { path = path; other = other; done = done; current = Some t; over = over })) { path = enters empty name path }) tags)
    tested true = ih room (enters empty name path) other done (Some (with_element form attributes at t)) over count (omega (arith, is.0, entered_len empty name path), is.1)
    tested false = ih room (enters empty name path) other done (Some t) over count (omega (arith, is.0, entered_len empty name path), is.1)

-- a start tag
start_case : (form : Form) (tags : List Tag) (name : List ℕ) (attributes : List Attribute) (empty : Bool) (at : ℕ) → Reaches form tags → Reaches form (Start name attributes empty at ∷ tags)
start_case form tags name attributes empty at ih room path other done None over count is = by_kind (track_kind path name) (λ k e. at_switch path name k e)
  where
    by_kind : (o : Option Kind) → ((k : Kind) → o ≡ Some k → length path ≡ 3) → Begun form tags name attributes empty at room path other done None over o
    by_kind None three = free_case form tags name attributes empty at ih room path other done over count
    by_kind (Some k) three = track_case form tags name attributes empty at ih room path other done over k count (three k refl)
start_case form tags name attributes empty at ih room path other done (Some t) over count is = by_kind (track_kind path name) (λ k e. at_switch path name k e)
  where
    by_kind : (o : Option Kind) → ((k : Kind) → o ≡ Some k → length path ≡ 3) → Begun form tags name attributes empty at room path other done (Some t) over o
    by_kind None three = inside_case form tags name attributes empty at ih room path other done t over count is
    by_kind (Some k) three = absurd (omega (arith, three k refl, is.0))

-- ---- any tags

abbrev empty_tracks : List (RawTrack × Bool)
empty_tracks = []

take_none : (n : ℕ) → take n empty_tracks ≡ []
take_none zero = refl
take_none (suc n) = refl

or_none : (o : Option ℕ) → o ≡ or_first o []
or_none None = refl
or_none (Some at) = refl

no_end : (room : ℕ) (done : List RawTrack) → done ≡ done ++ ended_tracks (take room empty_tracks)
no_end room done = rw (take_none room) (sym (append_nil done))

no_open : (room : ℕ) → [] ≡ open_tracks (take room empty_tracks)
no_open room = rw (take_none room) refl

pub reaches : (form : Form) (tags : List Tag) → Reaches form tags
reaches form [] room path other done None over count is = record { ended = no_end room done; current = no_open room; over_is = or_none over; other_is = or_none other }
reaches form [] zero path other done (Some t) over count is = absurd (omega (arith, is.1))
reaches form [] (suc r) path other done (Some t) over count is =
    record { ended = no_end r done; current = ap (λ (l : List RawTrack). t ∷ l) (no_open r); over_is = or_none over; other_is = or_none other }
reaches form (Start name attributes empty at ∷ tags) room path other done c over count is = start_case form tags name attributes empty at (reaches form tags) room path other done c over count is
reaches form (Finish name at ∷ tags) room path other done c over count is = finish_case form tags name at (reaches form tags) room path other done c over count is
reaches form (Text at ∷ tags) room path other done None over count is = reaches form tags room path other done None over count is
reaches form (Text at ∷ tags) room path other done (Some t) over count is = reaches form tags room path other done (Some t) over count is
reaches form (End ∷ tags) room path other done None over count is = reaches form tags room path other done None over count is
reaches form (End ∷ tags) room path other done (Some t) over count is = reaches form tags room path other done (Some t) over count is
reaches form (Bad at ∷ tags) room path other done None over count is = reaches form tags room path other done None over count is
reaches form (Bad at ∷ tags) room path other done (Some t) over count is = reaches form tags room path other done (Some t) over count is
