use Rattle.std.proofs.Common.{◌≡◌, ℕ, ◌<◌, ◌++◌, List, length, get_or, IfSome, refl, sym, ◌∙◌, subst}
use Rattle.std.specs.Prelude.{slice_set}
use Rattle.std.specs.List.{remove}
use Rattle.sm_site.specs.Meanings.{IsLive}
use Rattle.sm_players.specs.declared.live.Live.{Live}
use Rattle.sm_players.specs.Open.{numbers_of, AreOpen, AreOpenBut, AreKnown}
use Rattle.sm_players.specs.Taking.{standing}
use Rattle.sm_players.proofs.Lists.{number_at, apart_none, known_at, live_at, remove_set, gone_open, set_open, whole}
use Rattle.sm_players.proofs.Handling.{open_but, if_both, if_then, open_turns, shut_turns, passed_gives}
use Rattle.sm_players.proofs.playing.take.Goals as goal

pub take_piece-open-requires : goal.take_piece-open-requires
take_piece-open-requires g c =
    let T = (g.W.Link.seen.view c.args.wire.now).transcript in
    let old = c.args.lives.now.items in
    let i = c.in-Some.i in
    let n = c.args.number in
    let x = c.index_mut.result.now in
    let same : c.deref.result.now ≡ old = c.deref.ensures.value in
    let found = subst (λ (ls : List Live). (i < length ls) × (get_or (numbers_of ls) i 0 ≡ n)) same c.in-Some.ensures.found in
    record { live = if_then T (λ items. AreOpen items old) (λ items. IsLive x.number items) (λ items open_. live_at items old i x found.0 c.index_mut.ensures.value open_) c.requires.live }

pub returns-else-not-open-clause-turns : goal.returns-else-not-open-clause-turns
returns-else-not-open-clause-turns g c ks known =
    let old = c.args.lives.now.items in
    let i = c.in-Some.i in
    let n = c.args.number in
    let x = c.index_mut.result.now in
    let y = c.take_piece-open.new.live in
    let same : c.deref.result.now ≡ old = c.deref.ensures.value in
    let found = subst (λ (ls : List Live). (i < length ls) × (get_or (numbers_of ls) i 0 ≡ n)) same c.in-Some.ensures.found in
    let number : x.number ≡ n = sym (number_at old i x found.0 c.index_mut.ensures.value) ∙ found.1 in
    let at = known_at ks old i x known found.0 c.index_mut.ensures.value in
    let t = c.if-not-open.ensures.gives in
    let p = standing c.args.reader.now.seen c.args.counts.now.answered in
    let q = standing c.take_piece-open.new.reader.seen c.take_piece-open.new.counts.answered in
    let turns = open_turns n c.args.piece.now ks old i x y p q at number c.take_piece-open.ensures.same t.0 t.1 (t.4 at.one.bytes at.known.given at.known.stands) in
    record { told = t.0; goes = t.2; asked = t.1; asks = t.3; after = _; turns = turns.0; known = turns.1 }

pub returns-else-not-open-clause-leaves : goal.returns-else-not-open-clause-leaves
returns-else-not-open-clause-leaves g c =
    let V = g.W.Link.seen.view in
    let a = (V c.args.wire.now).transcript in
    let b = (V c.take_piece-open.new.wire).transcript in
    let old = c.args.lives.now.items in
    let i = c.in-Some.i in
    let x = c.index_mut.result.now in
    let y = c.take_piece-open.new.live in
    let same : c.deref.result.now ≡ old = c.deref.ensures.value in
    let found = subst (λ (ls : List Live). (i < length ls) × (get_or (numbers_of ls) i 0 ≡ c.args.number)) same c.in-Some.ensures.found in
    let here = number_at old i x found.0 c.index_mut.ensures.value in
    let t = c.if-not-open.ensures.gives in
    record {
      open_ = if_both b (λ items. AreOpenBut x.number items old) (λ items. IsLive x.number items) (λ items. AreOpen items (slice_set old i y))
          (λ items but live. set_open items old i y found.0 (c.take_piece-open.ensures.same ∙ sym here) (whole x.number items old live but))
          (open_but x.number a b t.0 old c.take_piece-open.ensures.leaves.wire.others t.2 c.requires.live) (c.if-not-open.ensures.leaves.wire.live refl);
      link_faults = c.take_piece-open.ensures.leaves.wire.link_faults;
    }

pub returns-then-not-open-clause-turns : goal.returns-then-not-open-clause-turns
returns-then-not-open-clause-turns g c ks known =
    let old = c.args.lives.now.items in
    let i = c.in-Some.i in
    let n = c.args.number in
    let x = c.index_mut.result.now in
    let y = c.take_piece-open.new.live in
    let same : c.deref.result.now ≡ old = c.deref.ensures.value in
    let found = subst (λ (ls : List Live). (i < length ls) × (get_or (numbers_of ls) i 0 ≡ n)) same c.in-Some.ensures.found in
    let number : x.number ≡ n = sym (number_at old i x found.0 c.index_mut.ensures.value) ∙ found.1 in
    let at = known_at ks old i x known found.0 c.index_mut.ensures.value in
    let t = c.if-not-open.ensures.gives in
    let p = standing c.args.reader.now.seen c.args.counts.now.answered in
    let q = standing c.take_piece-open.new.reader.seen c.take_piece-open.new.counts.answered in
    let gone = c.remove.ensures.items ∙ remove_set old i y in
    record {
      told = t.0;
      goes = t.2;
      asked = t.1;
      asks = t.3;
      after = at.front ++ at.back;
      turns = shut_turns n c.args.piece.now ks old i x y p q at number c.take_piece-open.ensures.same t.0 t.1 (t.4 at.one.bytes at.known.given at.known.stands);
      known = subst (λ (ls : List Live). AreKnown (at.front ++ at.back) ls) (sym gone) at.gone;
    }

pub returns-then-not-open-clause-leaves : goal.returns-then-not-open-clause-leaves
returns-then-not-open-clause-leaves g c =
    let V = g.W.Link.seen.view in
    let a = (V c.args.wire.now).transcript in
    let b = (V c.take_piece-open.new.wire).transcript in
    let old = c.args.lives.now.items in
    let i = c.in-Some.i in
    let x = c.index_mut.result.now in
    let y = c.take_piece-open.new.live in
    let same : c.deref.result.now ≡ old = c.deref.ensures.value in
    let found = subst (λ (ls : List Live). (i < length ls) × (get_or (numbers_of ls) i 0 ≡ c.args.number)) same c.in-Some.ensures.found in
    let here = number_at old i x found.0 c.index_mut.ensures.value in
    let t = c.if-not-open.ensures.gives in
    let gone = c.remove.ensures.items ∙ remove_set old i y in
    record {
      open_ = subst (λ (ls : List Live). IfSome b (λ items. AreOpen items ls)) (sym gone)
          (if_then b (λ items. AreOpenBut x.number items old) (λ items. AreOpen items (remove old i)) (λ items but. gone_open x.number items old i found.0 here but)
          (open_but x.number a b t.0 old c.take_piece-open.ensures.leaves.wire.others t.2 c.requires.live));
      link_faults = c.take_piece-open.ensures.leaves.wire.link_faults;
    }

pub returns-in-None-clause-turns : goal.returns-in-None-clause-turns
returns-in-None-clause-turns g c ks known =
    let old = c.args.lives.now.items in
    let n = c.args.number in
    let same : c.deref.result.now ≡ old = c.deref.ensures.value in
    let missing = subst (λ (ls : List Live). (k : ℕ) → k < length ls → get_or (numbers_of ls) k 0 ≡ n → ⊥) same c.in-None.ensures.missing in
    passed_gives n c.args.piece.now (g.W.Link.seen.view c.args.wire.now).transcript (g.F.Forward.asked c.args.forward.now) ks (standing c.args.reader.now.seen c.args.counts.now.answered) old (apart_none old n missing) known
