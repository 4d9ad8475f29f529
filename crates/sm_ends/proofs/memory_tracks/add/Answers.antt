use Rattle.std.proofs.Common.{◌≡◌, sym, ◌∙◌, ap, arith, get_or}
use Rattle.std.proofs.Math.ListN.{set}
use Rattle.std.proofs.lemmas.List.{set-get_or}
use Rattle.std.proofs.lemmas.Grind.{common_steps}
use Rattle.sm_ends.specs.TracksHeld.{held_at}
use Rattle.sm_ends.proofs.Held.{held_there, held_was, held_elsewhere, track_there, held_nowhere, held_begun, found_place, no_place}
use Rattle.sm_ends.proofs.memory_tracks.add.Goals as goal

pub returns-in-Some-clause-ok : goal.returns-in-Some-clause-ok
returns-in-Some-clause-ok c =
    let xs = c.args.tracks.now.items in
    let i = c.in-Some.place in
    let old = c.index_mut.result.now in
    let place = found_place c.args.track xs i (sym c.place_of.ensures ∙ c.in-Some.is) in
    let same : c.add.new.self.track ≡ (get_or xs i old).track = c.add.ensures.track ∙ ap (λ t. t.track) c.index_mut.ensures.value in
    let there = held_there c.args.track xs i c.add.new.self old place.0 place.1 same in
    let was = held_was c.args.track xs i old place.0 place.1 in
    let bytes : old.bytes ≡ held_at xs c.args.track = ap (λ t. t.bytes) c.index_mut.ensures.value ∙ sym was in
    rw (there, ← bytes) c.add.ensures.ok

pub returns-in-Some-clause-others : goal.returns-in-Some-clause-others
returns-in-Some-clause-others c k other =
    let xs = c.args.tracks.now.items in
    let i = c.in-Some.place in
    let old = c.index_mut.result.now in
    let place = found_place c.args.track xs i (sym c.place_of.ensures ∙ c.in-Some.is) in
    let same : c.add.new.self.track ≡ (get_or xs i old).track = c.add.ensures.track ∙ ap (λ t. t.track) c.index_mut.ensures.value in
    held_elsewhere k xs i c.add.new.self old same (λ is. other (sym is ∙ track_there c.args.track xs i old place.0 place.1))

pub returns-in-Some-clause-bad : goal.returns-in-Some-clause-bad
returns-in-Some-clause-bad c =
    let back : set c.args.tracks.now.items c.in-Some.place c.index_mut.result.now ≡ c.args.tracks.now.items =
    ap (λ t. set c.args.tracks.now.items c.in-Some.place t) c.index_mut.ensures.value ∙ set-get_or c.args.tracks.now.items c.in-Some.place c.index_mut.result.now in
    grind (arith, common_steps, back)

pub returns-in_ok-insert-in-None-clause-ok : goal.returns-in_ok-insert-in-None-clause-ok
returns-in_ok-insert-in-None-clause-ok c =
    let none = held_nowhere c.args.track c.args.tracks.now.items (no_place c.args.track c.args.tracks.now.items (sym c.place_of.ensures ∙ c.in-None.is)) in
    held_begun c.args.track _ _ _ _ c.in_ok-insert-in-None.ensures.items c.in_ok-begun-in-None.ensures none
