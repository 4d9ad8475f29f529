use Rattle.std.proofs.Common.{rules, ◌≡◌, ◌+◌, ◌≤◌, ℕ, List, [], ◌++◌, ◌∷◌, length, take, drop, true, false, refl, sym, ◌∙◌, subst, arith}
use Rattle.std.proofs.lemmas.Iterator.Adapters.{YieldsList-from_vec}
use Rattle.std.proofs.lemmas.Iterator.Consumers.{YieldsList-turn, YieldsList-end}
use Rattle.std.proofs.lemmas.List.{length_push, take_all}
use Rattle.sm_conn.specs.declared.part.Part.{Part}
use Rattle.sm_conn.specs.Stands.{items_of, joined}
use Rattle.sm_players.specs.Taking.{standing}
use Rattle.sm_players.proofs.Going.{leaves_then}
use Rattle.sm_players.proofs.Handling.{Taken, taken_nothing, taken_then, taken_stops, joined_take, joined_split}
use Rattle.sm_players.proofs.parts.take_parts.Goals as goal

pub loop-part-init : goal.loop-part-init
loop-part-init g c = record {
  leaves = record { wire = record { live = λ is. c.requires.live; others = λ m other live. live; link_faults = refl }; later = omega arith };
  takes = taken_nothing c.args.number (standing c.args.reader.now.seen c.args.counts.now.answered) (g.W.Link.seen.view c.args.wire.now).transcript (g.F.Forward.asked c.args.forward.now);
}

pub loop-part-preserved : goal.loop-part-preserved
loop-part-preserved g c =
    let V = g.W.Link.seen.view in
    let A = g.F.Forward.asked in
    let n = c.args.number in
    let parts = c.args.parts.items in
    let gives = c.into_iter-part-iterator.ensures.into_iter_gives in
    let t = YieldsList-turn (YieldsList-from_vec parts gives.0 (gives.1 ∙ search rules)) c.loop-part.yielded c.loop-part.part-iterator c.loop-part.yielded_by _ c.next.new.self c.in-Some.part c.in-Some.is c.next.ensures.steps in
    let i = length c.loop-part.yielded in
    let x = c.in-Some.part in
    let h = c.if-not-take_part.ensures.handles in
    let at : length (c.loop-part.yielded ++ x ∷ []) ≡ i + 1 = length_push c.loop-part.yielded x in
    let p = standing c.args.reader.now.seen c.args.counts.now.answered in
    let q = standing c.take_part.new.reader.seen c.take_part.new.counts.answered in
    record {
      leaves = leaves_then n true _ _ _ _ _ _ c.loop-part.invariant.leaves c.if-not-take_part.ensures.leaves;
      takes = subst (λ (j : ℕ). Taken n p (V c.args.wire.now).transcript (V c.take_part.new.wire).transcript (A c.args.forward.now) (A c.take_part.new.forward) (joined (take j parts)) true q) (sym at)
          (taken_then n p (standing c.loop-part.reader.seen c.loop-part.counts.answered) q (V c.args.wire.now).transcript (V c.loop-part.wire).transcript (V c.take_part.new.wire).transcript (A c.args.forward.now) (A c.loop-part.forward)
          (A c.take_part.new.forward) (joined (take i parts)) (items_of x) (joined (take (i + 1) parts)) h.0 h.1 true c.loop-part.invariant.takes h.2 h.3 h.4 (joined_take parts i x t.0 t.1));
    }

pub returns-then-not-take_part-clause-takes : goal.returns-then-not-take_part-clause-takes
returns-then-not-take_part-clause-takes g c =
    let V = g.W.Link.seen.view in
    let A = g.F.Forward.asked in
    let n = c.args.number in
    let parts = c.args.parts.items in
    let gives = c.into_iter-part-iterator.ensures.into_iter_gives in
    let t = YieldsList-turn (YieldsList-from_vec parts gives.0 (gives.1 ∙ search rules)) c.loop-part.yielded c.loop-part.part-iterator c.loop-part.yielded_by _ c.next.new.self c.in-Some.part c.in-Some.is c.next.ensures.steps in
    let i = length c.loop-part.yielded in
    let x = c.in-Some.part in
    let h = c.if-not-take_part.ensures.handles in
    let p = standing c.args.reader.now.seen c.args.counts.now.answered in
    let q = standing c.take_part.new.reader.seen c.take_part.new.counts.answered in
    let all = taken_stops n p q (V c.args.wire.now).transcript (V c.take_part.new.wire).transcript (A c.args.forward.now) (A c.take_part.new.forward) (joined (take (i + 1) parts)) (joined (drop (i + 1) parts)) (joined parts)
    (taken_then n p (standing c.loop-part.reader.seen c.loop-part.counts.answered) q (V c.args.wire.now).transcript (V c.loop-part.wire).transcript (V c.take_part.new.wire).transcript (A c.args.forward.now) (A c.loop-part.forward)
    (A c.take_part.new.forward) (joined (take i parts)) (items_of x) (joined (take (i + 1) parts)) h.0 h.1 false c.loop-part.invariant.takes h.2 h.3 h.4 (joined_take parts i x t.0 t.1)) (joined_split parts (i + 1)) in
    (all.told, all.asked, all.goes, all.asks, all.takes)

pub returns-then-not-take_part-clause-leaves : goal.returns-then-not-take_part-clause-leaves
returns-then-not-take_part-clause-leaves g c = leaves_then c.args.number false _ _ _ _ _ _ c.loop-part.invariant.leaves c.if-not-take_part.ensures.leaves

pub returns-clause-takes : goal.returns-clause-takes
returns-clause-takes g c =
    let V = g.W.Link.seen.view in
    let A = g.F.Forward.asked in
    let n = c.args.number in
    let parts = c.args.parts.items in
    let gives = c.into_iter-part-iterator.ensures.into_iter_gives in
    let t = YieldsList-end (YieldsList-from_vec parts gives.0 (gives.1 ∙ search rules)) c.loop-part.yielded c.loop-part.part-iterator c.loop-part.yielded_by _ c.next.new.self c.in-None.is c.next.ensures.steps in
    let i = length c.loop-part.yielded in
    let long : length parts ≤ i = omega (arith, t.1) in
    let all = subst (λ (ps : List Part). Taken n (standing c.args.reader.now.seen c.args.counts.now.answered) (V c.args.wire.now).transcript (V c.loop-part.wire).transcript (A c.args.forward.now) (A c.loop-part.forward) (joined ps) true
    (standing c.loop-part.reader.seen c.loop-part.counts.answered)) (take_all i parts long) c.loop-part.invariant.takes in
    (all.told, all.asked, all.goes, all.asks, all.takes)
