use Rattle.std.proofs.Common.{◌≡◌, ◌≤◌, ◌<◌, ◌+◌, ℕ, true, List, length, get_or, set, Some, None, is_some, sym, ap, subst, ◌∙◌, arith, vec_capacity, add-zero}
use Rattle.std.proofs.lemmas.List.{get_or_default}
use Rattle.std.proofs.lemmas.Slice.Eq.{bytes_eq-Decides}
use Rattle.std.specs.List.{position}
use Rattle.sm_model.specs.declared.track.Track.{Track}
use Rattle.sm_model.specs.Same.{is_same}
use Rattle.sm_log.specs.Adds.{track_at}
use Rattle.sm_timeline.specs.Lines.{Entries}
use Rattle.sm_catalog.specs.declared.added.Added.{Added}
use Rattle.sm_catalog.specs.Content.{Content, Lane, spare_of}
use Rattle.sm_catalog.specs.Whole.{IsWhole}
use Rattle.sm_catalog.proofs.Lookups.{not_declared, none_named, found_within, found_name}
use Rattle.sm_catalog.proofs.Together.{IsRaised, whole_roomier, whole_raised, spares_rise, spare_set}
use Rattle.sm_catalog.proofs.catalog.Catalog.reserve.Goals as goal

pub returns-in_default-clause-ok : goal.returns-in_default-clause-ok
returns-in_default-clause-ok c = λ declared.
    let x = c.args.address.now in
    let i = c.self.inside in
    let e : position (λ (l : Lane). is_same l.name x.stream) i.streams.items ≡ None = sym (rw (c.deref.ensures.value, c.as_bytes-stream.ensures.same) at c.in_default.ensures) in
    let not = not_declared x.stream x.bitrate i.channel (none_named x.stream i.channel i.streams.items c.self.invariant.names e) in
    let was : is_some (track_at x.stream x.bitrate i.channel) ≡ true = ap (λ (t : Content). is_some (track_at x.stream x.bitrate t.channel)) c.self.view_is ∙ declared in
    absurd cc

pub invariant_of-self-in_err-reserve-2 : goal.invariant_of-self-in_err-reserve-2
invariant_of-self-in_err-reserve-2 c =
    let s = c.args.address.now.stream in
    let i = c.self.inside in
    let j = c.in-Some.lane in
    let at : position (λ (l : Lane). is_same l.name s) i.streams.items ≡ Some j = sym (rw (c.deref.ensures.value, c.as_bytes-stream.ensures.same) at c.in-Some.ensures) in
    let roomy = whole_roomier i.channel i.adds.items i.kept.items c.reserve_places.new.kept.items i.streams.items i.reserved (vec_capacity i.adds)
    (vec_capacity c.reserve.new.self) c.self.invariant c.in_ok-reserve_places.ensures.more c.reserve.ensures.capacity in
    let raised : (l : Lane) → IsRaised (get_or i.streams.items j l) c.reserve-2.new.self 0 = λ l. subst (λ (n : Lane). IsRaised n c.reserve-2.new.self 0)
    (c.index_mut.ensures.value ∙ get_or_default i.streams.items j c.index_mut.result.now l (found_within s i.streams.items j at)) (record {
      name = c.reserve-2.ensures.name;
      tracks = c.reserve-2.ensures.tracks;
      times = c.reserve-2.ensures.times;
      counts = c.reserve-2.ensures.counts;
      listed = c.reserve-2.ensures.listed;
      spare = omega (arith, c.in_err-reserve-2.ensures.err);
      backed = c.reserve-2.ensures.backed;
    }) in
    let spare : (l : Lane) → c.reserve-2.new.self.spare ≡ (get_or i.streams.items j l).spare = λ l. omega (arith, (raised l).spare) in
    let raised_whole = whole_raised i.channel i.adds.items c.reserve_places.new.kept.items i.streams.items i.reserved (vec_capacity c.reserve.new.self) j 0 s c.reserve-2.new.self roomy at raised
    (λ k d t h same. let room = roomy.rooms j k c.index_mut.result.now t d (found_within s i.streams.items j at) h ((bytes_eq-Decides _ _).0 same ∙ sym (found_name s i.streams.items j c.index_mut.result.now at)) in omega
    (arith, spare c.index_mut.result.now, room))
    (omega (arith, roomy.room)) in
    subst (λ (as' : List Added). IsWhole i.channel as' c.reserve_places.new.kept.items (set i.streams.items j c.reserve-2.new.self) i.reserved (vec_capacity c.reserve.new.self)) (sym c.reserve.ensures.items)
    (subst (λ (n : ℕ). IsWhole i.channel i.adds.items c.reserve_places.new.kept.items (set i.streams.items j c.reserve-2.new.self) n (vec_capacity c.reserve.new.self)) (add-zero i.reserved) raised_whole)

pub returns-in_err-reserve-2-clause-spares : goal.returns-in_err-reserve-2-clause-spares
returns-in_err-reserve-2-clause-spares c = λ n.
    let s = c.args.address.now.stream in
    let i = c.self.inside in
    let j = c.in-Some.lane in
    let at : position (λ (l : Lane). is_same l.name s) i.streams.items ≡ Some j = sym (rw (c.deref.ensures.value, c.as_bytes-stream.ensures.same) at c.in-Some.ensures) in
    let raised : (l : Lane) → IsRaised (get_or i.streams.items j l) c.reserve-2.new.self 0 = λ l. subst (λ (n : Lane). IsRaised n c.reserve-2.new.self 0)
    (c.index_mut.ensures.value ∙ get_or_default i.streams.items j c.index_mut.result.now l (found_within s i.streams.items j at)) (record {
      name = c.reserve-2.ensures.name;
      tracks = c.reserve-2.ensures.tracks;
      times = c.reserve-2.ensures.times;
      counts = c.reserve-2.ensures.counts;
      listed = c.reserve-2.ensures.listed;
      spare = omega (arith, c.in_err-reserve-2.ensures.err);
      backed = c.reserve-2.ensures.backed;
    }) in
    omega (arith, spares_rise s n i.streams.items j 0 c.reserve-2.new.self c.index_mut.result.now at (raised c.index_mut.result.now), ap (λ (t : Content). spare_of n t.spares) c.self.view_is)

pub invariant_of-self-2 : goal.invariant_of-self-2
invariant_of-self-2 c =
    let s = c.args.address.now.stream in
    let i = c.self.inside in
    let j = c.in-Some.lane in
    let at : position (λ (l : Lane). is_same l.name s) i.streams.items ≡ Some j = sym (rw (c.deref.ensures.value, c.as_bytes-stream.ensures.same) at c.in-Some.ensures) in
    let roomy = whole_roomier i.channel i.adds.items i.kept.items c.reserve_places.new.kept.items i.streams.items i.reserved (vec_capacity i.adds)
    (vec_capacity c.reserve.new.self) c.self.invariant c.in_ok-reserve_places.ensures.more c.reserve.ensures.capacity in
    let raised : (l : Lane) → IsRaised (get_or i.streams.items j l) c.reserve-2.new.self c.saturating_sub.result = λ l. subst (λ (n : Lane). IsRaised n c.reserve-2.new.self c.saturating_sub.result)
    (c.index_mut.ensures.value ∙ get_or_default i.streams.items j c.index_mut.result.now l (found_within s i.streams.items j at)) (record {
      name = c.reserve-2.ensures.name;
      tracks = c.reserve-2.ensures.tracks;
      times = c.reserve-2.ensures.times;
      counts = c.reserve-2.ensures.counts;
      listed = c.reserve-2.ensures.listed;
      spare = omega (
        arith,
        c.in_ok-reserve-2.ensures.ok,
        c.saturating_sub.ensures,
        c.spare-before.ensures.spare,
        ap (λ (n : Lane). n.spare)
            (c.index.ensures ∙ get_or_default i.streams.items j c.index.result.now c.index_mut.result.now (found_within s i.streams.items j at) ∙ sym c.index_mut.ensures.value),
      );
      backed = c.reserve-2.ensures.backed;
    }) in
    let ok : (k : ℕ) (d : Entries) (t : Track) → k < length i.channel → is_same (get_or i.channel k t).name s ≡ true
    → 2 ≤ (get_or c.reserve_places.new.kept.items k d).room = rw (c.as_slice.ensures, c.as_bytes-stream.ensures.same) at c.in_ok-reserve_places.ensures.ok in
    let spare : (l : Lane) → c.reserve-2.new.self.spare ≡ (get_or i.streams.items j l).spare + c.saturating_sub.result = λ l. (raised l).spare in
    let enough : length i.adds.items + (i.reserved + c.saturating_sub.result) ≤ vec_capacity c.reserve.new.self = omega (arith, c.in_ok-reserve.ensures.ok, c.reserve.ensures.len, c.saturating_sub.ensures) in
    rw c.reserve.ensures.items (whole_raised i.channel i.adds.items c.reserve_places.new.kept.items i.streams.items i.reserved (vec_capacity c.reserve.new.self) j c.saturating_sub.result s c.reserve-2.new.self roomy at raised
    (λ k d t h same. let room = roomy.rooms j k c.index_mut.result.now t d (found_within s i.streams.items j at) h
    ((bytes_eq-Decides _ _).0 same ∙ sym (found_name s i.streams.items j c.index_mut.result.now at)) in let two = ok k d t h same in omega
    (arith, ap (λ (n : Lane). n.spare) c.index_mut.ensures.value, c.in_ok-reserve-2.ensures.ok, room, two))
    enough)

pub returns-clause-ok : goal.returns-clause-ok
returns-clause-ok c = λ _.
    let s = c.args.address.now.stream in
    let i = c.self.inside in
    let j = c.in-Some.lane in
    let at : position (λ (l : Lane). is_same l.name s) i.streams.items ≡ Some j = sym (rw (c.deref.ensures.value, c.as_bytes-stream.ensures.same) at c.in-Some.ensures) in
    let raised : (l : Lane) → IsRaised (get_or i.streams.items j l) c.reserve-2.new.self c.saturating_sub.result = λ l. subst (λ (n : Lane). IsRaised n c.reserve-2.new.self c.saturating_sub.result)
    (c.index_mut.ensures.value ∙ get_or_default i.streams.items j c.index_mut.result.now l (found_within s i.streams.items j at)) (record {
      name = c.reserve-2.ensures.name;
      tracks = c.reserve-2.ensures.tracks;
      times = c.reserve-2.ensures.times;
      counts = c.reserve-2.ensures.counts;
      listed = c.reserve-2.ensures.listed;
      spare = omega (
        arith,
        c.in_ok-reserve-2.ensures.ok,
        c.saturating_sub.ensures,
        c.spare-before.ensures.spare,
        ap (λ (n : Lane). n.spare)
            (c.index.ensures ∙ get_or_default i.streams.items j c.index.result.now c.index_mut.result.now (found_within s i.streams.items j at) ∙ sym c.index_mut.ensures.value),
      );
      backed = c.reserve-2.ensures.backed;
    }) in
    omega (arith, spare_set s i.streams.items j c.reserve-2.new.self c.index_mut.result.now at (raised c.index_mut.result.now).name, c.in_ok-reserve-2.ensures.ok)

pub returns-clause-spares : goal.returns-clause-spares
returns-clause-spares c = λ n.
    let s = c.args.address.now.stream in
    let i = c.self.inside in
    let j = c.in-Some.lane in
    let at : position (λ (l : Lane). is_same l.name s) i.streams.items ≡ Some j = sym (rw (c.deref.ensures.value, c.as_bytes-stream.ensures.same) at c.in-Some.ensures) in
    let raised : (l : Lane) → IsRaised (get_or i.streams.items j l) c.reserve-2.new.self c.saturating_sub.result = λ l. subst (λ (n : Lane). IsRaised n c.reserve-2.new.self c.saturating_sub.result)
    (c.index_mut.ensures.value ∙ get_or_default i.streams.items j c.index_mut.result.now l (found_within s i.streams.items j at)) (record {
      name = c.reserve-2.ensures.name;
      tracks = c.reserve-2.ensures.tracks;
      times = c.reserve-2.ensures.times;
      counts = c.reserve-2.ensures.counts;
      listed = c.reserve-2.ensures.listed;
      spare = omega (
        arith,
        c.in_ok-reserve-2.ensures.ok,
        c.saturating_sub.ensures,
        c.spare-before.ensures.spare,
        ap (λ (n : Lane). n.spare)
            (c.index.ensures ∙ get_or_default i.streams.items j c.index.result.now c.index_mut.result.now (found_within s i.streams.items j at) ∙ sym c.index_mut.ensures.value),
      );
      backed = c.reserve-2.ensures.backed;
    }) in
    omega (arith, spares_rise s n i.streams.items j c.saturating_sub.result c.reserve-2.new.self c.index_mut.result.now at (raised c.index_mut.result.now), ap (λ (t : Content). spare_of n t.spares) c.self.view_is)
