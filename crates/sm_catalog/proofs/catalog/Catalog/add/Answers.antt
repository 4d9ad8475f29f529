use Rattle.std.proofs.Common.{◌≡◌, ◌≤◌, ◌<◌, ◌+◌, ◌-◌, ◌++◌, ◌∷◌, [], ℕ, Bool, true, false, cond, List, length, get_or, Some, None, is_some, refl, sym, ap, subst, ◌∙◌, arith, vec_len, vec_capacity}
use Rattle.std.proofs.lemmas.List.{get_or_default}
use Rattle.std.proofs.lemmas.List.Sums.{get_or-le-sum_by}
use Rattle.std.proofs.lemmas.List.Quantifiers.{position-Some}
use Rattle.std.proofs.lemmas.Slice.Eq.{bytes_eq-Decides}
use Rattle.std.specs.List.{position}
use Rattle.sm_log.specs.declared.verdict.Judged.TheVariants as judged
use Rattle.sm_model.specs.Same.{is_same}
use Rattle.sm_log.specs.Times.{entry_at, with_entry}
use Rattle.sm_log.specs.Adds.{verdict}
use Rattle.sm_timeline.specs.Lines.{Entries}
use Rattle.sm_catalog.specs.Content.{Content, Lane, spare_of}
use Rattle.sm_catalog.specs.Whole.{adds_in, spares_in}
use Rattle.sm_catalog.proofs.Lookups.{is_the, no_track, found_track, not_declared, none_named, undeclared}
use Rattle.sm_log.proofs.New.{is_new}
use Rattle.sm_catalog.proofs.Adding.{not_same}
use Rattle.sm_catalog.proofs.Lanes.{IsAddedTo}
use Rattle.sm_catalog.proofs.Together.{IsPut, whole_added, adds_more, rooms_there, decided_there, room_there, spare_at, spare_set, spare_other}
use Rattle.sm_catalog.proofs.catalog.Catalog.add.Goals as goal

at_most_one_less : (b : Bool) (m n : ℕ) → n ≡ cond b m (m - 1) → m ≤ n + 1
at_most_one_less true m n e = omega arith
at_most_one_less false m n e = omega arith

-- ---- both are found, since the verdict is New

no_track_is_left : (c : goal.In_default) → ⊥
no_track_is_left c =
    let x = c.args.address.now in
    let i = c.self.inside in
    let e : position (is_the x.stream x.bitrate) i.channel ≡ None = sym (rw (c.as_slice.ensures, c.as_bytes-stream.ensures.same) at c.in_default.ensures) in
    let not = undeclared i.channel (adds_in i.channel i.adds.items) x c.args.duration (no_track x.stream x.bitrate i.channel e) in
    let new = ap (λ (t : Content). verdict t.channel t.adds x c.args.duration) c.self.view_is ∙ c.requires.verdict in
    let both : judged.NotDeclared ≡ judged.New = not ∙ new in
    cc

no_lane_is_left : (c : goal.In_default-stream_place) → ⊥
no_lane_is_left c =
    let x = c.args.address.now in
    let i = c.self.inside in
    let e : position (λ (l : Lane). is_same l.name x.stream) i.streams.items ≡ None = sym (rw (c.deref.ensures.value, c.as_bytes-stream.ensures.same) at c.in_default-stream_place.ensures) in
    let none = none_named x.stream i.channel i.streams.items c.self.invariant.names e in
    let not = undeclared i.channel (adds_in i.channel i.adds.items) x c.args.duration (not_declared x.stream x.bitrate i.channel none) in
    let new = ap (λ (t : Content). verdict t.channel t.adds x c.args.duration) c.self.view_is ∙ c.requires.verdict in
    let both : judged.NotDeclared ≡ judged.New = not ∙ new in
    cc

pub returns-in_default-clause-adds : goal.returns-in_default-clause-adds
returns-in_default-clause-adds c = absurd (no_track_is_left c)

pub returns-in_default-clause-spare : goal.returns-in_default-clause-spare
returns-in_default-clause-spare c = absurd (no_track_is_left c)

pub returns-in_default-stream_place-clause-adds : goal.returns-in_default-stream_place-clause-adds
returns-in_default-stream_place-clause-adds c = absurd (no_lane_is_left c)

pub returns-in_default-stream_place-clause-spare : goal.returns-in_default-stream_place-clause-spare
returns-in_default-stream_place-clause-spare c = absurd (no_lane_is_left c)

pub put-requires : goal.put-requires
put-requires c =
    let x = c.args.address.now in
    let i = c.self.inside in
    let e : position (is_the x.stream x.bitrate) i.channel ≡ Some c.in-Some.track = sym (rw (c.as_slice.ensures, c.as_bytes-stream.ensures.same) at c.in-Some.ensures) in
    let at : position (λ (l : Lane). is_same l.name x.stream) i.streams.items ≡ Some c.in-Some-stream_place.lane = sym (rw (c.deref.ensures.value, c.as_bytes-stream.ensures.same) at c.in-Some-stream_place.ensures) in
    let some : 1 ≤ spare_of x.stream (spares_in i.streams.items) = omega (arith, c.requires.spare, ap (λ (t : Content). spare_of x.stream t.spares) c.self.view_is) in
    let room = room_there i.channel i.adds.items i.kept.items i.streams.items _ _ c.in-Some.track c.in-Some-stream_place.lane x c.index_mut.result.now c.self.invariant e at some in
    subst (λ (n : Entries). 1 ≤ n.room) (sym c.index_mut.ensures.value) room

pub add-requires-clause-decision : goal.add-requires-clause-decision
add-requires-clause-decision c =
    let x = c.args.address.now in
    let i = c.self.inside in
    let e : position (is_the x.stream x.bitrate) i.channel ≡ Some c.in-Some.track = sym (rw (c.as_slice.ensures, c.as_bytes-stream.ensures.same) at c.in-Some.ensures) in
    let at : position (λ (l : Lane). is_same l.name x.stream) i.streams.items ≡ Some c.in-Some-stream_place.lane = sym (rw (c.deref.ensures.value, c.as_bytes-stream.ensures.same) at c.in-Some-stream_place.ensures) in
    let found = found_track x.stream x.bitrate i.channel c.in-Some.track e in
    let new = is_new i.channel (adds_in i.channel i.adds.items) x c.args.duration found.declared (ap (λ (t : Content). verdict t.channel t.adds x c.args.duration) c.self.view_is ∙ c.requires.verdict) in
    decided_there i.channel i.adds.items i.kept.items i.streams.items _ _ c.in-Some-stream_place.lane x c.args.duration c.index_mut-2.result.now c.self.invariant at c.index_mut-2.ensures.value new

pub add-requires-clause-spare : goal.add-requires-clause-spare
add-requires-clause-spare c =
    let x = c.args.address.now in
    let i = c.self.inside in
    let e : position (is_the x.stream x.bitrate) i.channel ≡ Some c.in-Some.track = sym (rw (c.as_slice.ensures, c.as_bytes-stream.ensures.same) at c.in-Some.ensures) in
    let at : position (λ (l : Lane). is_same l.name x.stream) i.streams.items ≡ Some c.in-Some-stream_place.lane = sym (rw (c.deref.ensures.value, c.as_bytes-stream.ensures.same) at c.in-Some-stream_place.ensures) in
    let some : 1 ≤ spare_of x.stream (spares_in i.streams.items) = omega (arith, c.requires.spare, ap (λ (t : Content). spare_of x.stream t.spares) c.self.view_is) in
    let spare = (rooms_there i.channel i.adds.items i.kept.items i.streams.items _ _ c.in-Some.track c.in-Some-stream_place.lane x c.index_mut-2.result.now c.index_mut.result.now c.self.invariant e at some).0 in
    subst (λ (n : Lane). 1 ≤ n.spare) (sym c.index_mut-2.ensures.value) spare

-- what was put
the_put : (c : goal.After-self-3-1) → IsPut c.self.inside.channel c.self.inside.kept.items c.self.inside.streams.items c.args.address.now c.args.duration
    c.args.place c.in-Some.track c.in-Some-stream_place.lane c.put.new.self c.add.new.self
the_put c =
    let x = c.args.address.now in
    let i = c.self.inside in
    let e : position (is_the x.stream x.bitrate) i.channel ≡ Some c.in-Some.track = sym (rw (c.as_slice.ensures, c.as_bytes-stream.ensures.same) at c.in-Some.ensures) in
    let at : position (λ (l : Lane). is_same l.name x.stream) i.streams.items ≡ Some c.in-Some-stream_place.lane = sym (rw (c.deref.ensures.value, c.as_bytes-stream.ensures.same) at c.in-Some-stream_place.ensures) in
    let found = found_track x.stream x.bitrate i.channel c.in-Some.track e in
    let h = position-Some (λ (l : Lane). is_same l.name x.stream) i.streams.items c.in-Some-stream_place.lane c.index_mut-2.result.now at in
    let within : c.in-Some.track < length i.kept.items = omega (arith, found.within, c.self.invariant.as_many) in
    record {
      track = e;
      lane = at;
      entries = λ f. c.put.ensures.entries ∙ ap (λ (n : Entries). with_entry x.time c.args.place n.entries) (c.index_mut.ensures.value ∙ get_or_default i.kept.items c.in-Some.track c.index_mut.result.now f within);
      room = λ f. subst (λ (n : Entries). n.room ≤ c.put.new.self.room + 1) (c.index_mut.ensures.value ∙ get_or_default i.kept.items c.in-Some.track c.index_mut.result.now f within)
          (at_most_one_less (is_some (entry_at x.time c.index_mut.result.now.entries)) c.index_mut.result.now.room c.put.new.self.room c.put.ensures.room);
      added = λ l. subst (λ (n : Lane). IsAddedTo n c.add.new.self (record { address = x; duration = c.args.duration; place = c.args.place }))
          (c.index_mut-2.ensures.value ∙ get_or_default i.streams.items c.in-Some-stream_place.lane c.index_mut-2.result.now l h.0) (record {
            name = c.add.ensures.name;
            tracks = c.add.ensures.tracks;
            times = c.add.ensures.times;
            count = c.add.ensures.count;
            listed = c.add.ensures.listed;
            spare = c.add.ensures.spare;
            backed = c.add.ensures.backed;
          });
    }

-- the push has room
pushed : (c : goal.After-self-3-1) → c.push.new.self.items ≡ c.self.inside.adds.items ++ (record { track = c.in-Some.track; time = c.args.address.now.time; duration = c.args.duration; place = c.args.place }) ∷ []
pushed c =
    let x = c.args.address.now in
    let i = c.self.inside in
    let e : position (is_the x.stream x.bitrate) i.channel ≡ Some c.in-Some.track = sym (rw (c.as_slice.ensures, c.as_bytes-stream.ensures.same) at c.in-Some.ensures) in
    let at : position (λ (l : Lane). is_same l.name x.stream) i.streams.items ≡ Some c.in-Some-stream_place.lane = sym (rw (c.deref.ensures.value, c.as_bytes-stream.ensures.same) at c.in-Some-stream_place.ensures) in
    let some : 1 ≤ spare_of x.stream (spares_in i.streams.items) = omega (arith, c.requires.spare, ap (λ (t : Content). spare_of x.stream t.spares) c.self.view_is) in
    let spare = spare_at x.stream i.streams.items c.in-Some-stream_place.lane c.index_mut-2.result.now at in
    let h = position-Some (λ (l : Lane). is_same l.name x.stream) i.streams.items c.in-Some-stream_place.lane c.index_mut-2.result.now at in
    let one = get_or-le-sum_by (λ (l : Lane). l.spare) i.streams.items c.in-Some-stream_place.lane c.index_mut-2.result.now h.0 in
    let room : vec_len i.adds < vec_capacity i.adds = omega (arith, some, spare, one, c.self.invariant.sum, c.self.invariant.room) in
    rw (c.push.ensures.items, c.push.ensures.succeeds room) refl

pub invariant_of-self : goal.invariant_of-self
invariant_of-self c =
    let x = c.args.address.now in
    let i = c.self.inside in
    let e : position (is_the x.stream x.bitrate) i.channel ≡ Some c.in-Some.track = sym (rw (c.as_slice.ensures, c.as_bytes-stream.ensures.same) at c.in-Some.ensures) in
    let at : position (λ (l : Lane). is_same l.name x.stream) i.streams.items ≡ Some c.in-Some-stream_place.lane = sym (rw (c.deref.ensures.value, c.as_bytes-stream.ensures.same) at c.in-Some-stream_place.ensures) in
    let found = found_track x.stream x.bitrate i.channel c.in-Some.track e in
    let new = is_new i.channel (adds_in i.channel i.adds.items) x c.args.duration found.declared (ap (λ (t : Content). verdict t.channel t.adds x c.args.duration) c.self.view_is ∙ c.requires.verdict) in
    rw (pushed c) (whole_added i.channel i.adds.items i.kept.items i.streams.items i.reserved (vec_capacity i.adds)
    (vec_capacity c.push.new.self) c.in-Some.track c.in-Some-stream_place.lane c.args.duration c.args.place x c.put.new.self c.add.new.self c.self.invariant (the_put c) new c.push.ensures.capacity)

pub returns-clause-adds : goal.returns-clause-adds
returns-clause-adds c =
    let x = c.args.address.now in
    let i = c.self.inside in
    let e : position (is_the x.stream x.bitrate) i.channel ≡ Some c.in-Some.track = sym (rw (c.as_slice.ensures, c.as_bytes-stream.ensures.same) at c.in-Some.ensures) in
    let at : position (λ (l : Lane). is_same l.name x.stream) i.streams.items ≡ Some c.in-Some-stream_place.lane = sym (rw (c.deref.ensures.value, c.as_bytes-stream.ensures.same) at c.in-Some-stream_place.ensures) in
    rw (pushed c) (adds_more i.channel i.adds.items x c.in-Some.track c.args.duration c.args.place e ∙ ap (λ (t : Content). t.adds ++ (record { address = x; duration = c.args.duration; place = c.args.place }) ∷ []) c.self.view_is)

pub returns-clause-spare : goal.returns-clause-spare
returns-clause-spare c =
    let x = c.args.address.now in
    let i = c.self.inside in
    let e : position (is_the x.stream x.bitrate) i.channel ≡ Some c.in-Some.track = sym (rw (c.as_slice.ensures, c.as_bytes-stream.ensures.same) at c.in-Some.ensures) in
    let at : position (λ (l : Lane). is_same l.name x.stream) i.streams.items ≡ Some c.in-Some-stream_place.lane = sym (rw (c.deref.ensures.value, c.as_bytes-stream.ensures.same) at c.in-Some-stream_place.ensures) in
    let l = c.index_mut-2.result.now in
    let put = the_put c in
    omega (
      arith,
      spare_set x.stream i.streams.items c.in-Some-stream_place.lane c.add.new.self l at (put.added l).name,
      (put.added l).spare,
      spare_at x.stream i.streams.items c.in-Some-stream_place.lane l at,
      ap
          (λ (t : Content). spare_of x.stream t.spares) c.self.view_is,
    )

pub returns-clause-others : goal.returns-clause-others
returns-clause-others c = λ n other.
    let x = c.args.address.now in
    let i = c.self.inside in
    let e : position (is_the x.stream x.bitrate) i.channel ≡ Some c.in-Some.track = sym (rw (c.as_slice.ensures, c.as_bytes-stream.ensures.same) at c.in-Some.ensures) in
    let at : position (λ (l : Lane). is_same l.name x.stream) i.streams.items ≡ Some c.in-Some-stream_place.lane = sym (rw (c.deref.ensures.value, c.as_bytes-stream.ensures.same) at c.in-Some-stream_place.ensures) in
    let l = c.index_mut-2.result.now in
    let put = the_put c in
    let h = position-Some (λ (m : Lane). is_same m.name x.stream) i.streams.items c.in-Some-stream_place.lane l at in
    let name : c.add.new.self.name ≡ x.stream = (put.added l).name ∙ (bytes_eq-Decides (get_or i.streams.items c.in-Some-stream_place.lane l).name x.stream).0 h.1 in
    spare_other n i.streams.items c.in-Some-stream_place.lane c.add.new.self l (put.added l).name (ap (λ (m : List ℕ). is_same m n) name ∙ not_same n x.stream other) ∙ ap (λ (t : Content). spare_of n t.spares) c.self.view_is
