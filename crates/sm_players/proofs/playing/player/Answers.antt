use Rattle.std.proofs.Common.{rules, ◌≡◌, ◌+◌, inl, inr, Bool, false, List, refl, sym, ap, subst, arith}
use Rattle.std.specs.Prelude.{Err}
use Rattle.sm_site.specs.Event.{deal_of}
use Rattle.sm_site.specs.declared.event.LinkError.{LinkError}
use Rattle.sm_players.specs.declared.live.Live.{Live}
use Rattle.sm_players.specs.declared.played.Played.TheVariants.{Done, LinkFault, NoMemory}
use Rattle.sm_players.specs.Taking.{standing}
use Rattle.sm_players.specs.Playing.{is_over}
use Rattle.sm_players.proofs.Ending.{Played, played_nothing, played_then, played_still, has_played, may_handle, none_open, seen_by, is_ended, goes_still}
use Rattle.sm_players.proofs.playing.player.Goals as goal

pub loop-init : goal.loop-init
loop-init g c = record {
  open_ = none_open (g.W.Link.seen.view c.args.wire.now).transcript c.new-lives.result.items c.new-lives.ensures.items;
  link_faults = omega arith;
  later = omega arith;
  plays =
      subst (λ (ls : List Live). Played c.args.reader.now.seen (g.W.Link.seen.view c.args.wire.now).transcript
      (g.W.Link.seen.view c.args.wire.now).transcript (g.F.Forward.asked c.args.forward.now) (g.F.Forward.asked c.args.forward.now) 0 ls
      false (standing c.args.reader.now.seen 0)) (sym c.new-lives.ensures.items) (played_nothing c.args.reader.now.seen (g.W.Link.seen.view c.args.wire.now).transcript (g.F.Forward.asked c.args.forward.now));
}

pub handle-requires : goal.handle-requires
handle-requires g c =
    record { may = may_handle (g.W.Link.seen.view c.loop.wire) (g.W.Link.seen.view c.next.new.self) c.in-Ok.event c.loop.lives.items c.in-Ok.ensures.taken c.in-Ok.ensures.rising c.loop.invariant.open_ }

pub loop-preserved : goal.loop-preserved
loop-preserved g c =
    let V = g.W.Link.seen.view in
    let A = g.F.Forward.asked in
    let seen = c.args.reader.now.seen in
    let old = (V c.args.wire.now).transcript in
    let new = (V c.handle.new.wire).transcript in
    let so = c.loop.invariant.plays in
    let event = c.in-Ok.event in
    let p = standing c.loop.reader.seen c.loop.counts.answered in
    let q = standing c.handle.new.reader.seen c.handle.new.counts.answered in
    let turn = c.if-not-handle.ensures.turns so.lives so.known in
    let all = played_then seen old (V c.loop.wire) (V c.next.new.self) new (A c.args.forward.now) (A c.loop.forward) (A c.handle.new.forward) c.loop.counter
    c.loop.lives.items c.handle.new.lives.items p q event so c.in-Ok.ensures.taken turn in
    record {
      open_ = c.if-not-handle.ensures.leaves.open_;
      link_faults = omega (arith, c.loop.invariant.link_faults, c.next.ensures.link_faults, c.if-not-handle.ensures.leaves.link_faults);
      later = omega (arith, c.loop.invariant.later, c.if-not-handle.ensures.later);
      plays = subst (λ (b : Bool). Played seen old new (A c.args.forward.now) (A c.handle.new.forward) (c.loop.counter + 1) c.handle.new.lives.items b q) (goes_still (is_over (deal_of event)) c.if-not-handle.ensures.over) all;
    }

pub returns-then-not-handle-clause-plays : goal.returns-then-not-handle-clause-plays
returns-then-not-handle-clause-plays g c =
    let V = g.W.Link.seen.view in
    let A = g.F.Forward.asked in
    let seen = c.args.reader.now.seen in
    let old = (V c.args.wire.now).transcript in
    let new = (V c.handle.new.wire).transcript in
    let so = c.loop.invariant.plays in
    let event = c.in-Ok.event in
    let p = standing c.loop.reader.seen c.loop.counts.answered in
    let q = standing c.handle.new.reader.seen c.handle.new.counts.answered in
    let turn = c.if-not-handle.ensures.turns so.lives so.known in
    let all = played_then seen old (V c.loop.wire) (V c.next.new.self) new (A c.args.forward.now) (A c.loop.forward) (A c.handle.new.forward) c.loop.counter
    c.loop.lives.items c.handle.new.lives.items p q event so c.in-Ok.ensures.taken turn in
    has_played seen c.handle.new.reader.seen c.handle.new.counts.answered old new (A c.args.forward.now) (A c.handle.new.forward) c.args.turns
    (Done c.handle.new.counts.answered) (c.loop.counter + 1) c.handle.new.lives.items (is_over (deal_of event))
    all (refl, omega (arith, c.loop-test.true), inl (is_ended (is_over (deal_of event)) c.if-not-handle.ensures.over))

pub returns-in-Err-Failed-clause-plays : goal.returns-in-Err-Failed-clause-plays
returns-in-Err-Failed-clause-plays g c =
    let V = g.W.Link.seen.view in
    let A = g.F.Forward.asked in
    let seen = c.args.reader.now.seen in
    let old = (V c.args.wire.now).transcript in
    let new = (V c.next.new.self).transcript in
    let q = standing c.loop.reader.seen c.loop.counts.answered in
    has_played seen c.loop.reader.seen c.loop.counts.answered old new (A c.args.forward.now) (A c.loop.forward) c.args.turns LinkFault c.loop.counter c.loop.lives.items false
    (played_still seen old (V c.loop.wire).transcript new (A c.args.forward.now) (A c.loop.forward) c.loop.counter c.loop.lives.items false q c.in-Err-Failed.ensures.not_taken c.loop.invariant.plays) (c.loop-test.true, refl)

pub returns-in-Err-NoMemory-clause-plays : goal.returns-in-Err-NoMemory-clause-plays
returns-in-Err-NoMemory-clause-plays g c =
    let V = g.W.Link.seen.view in
    let A = g.F.Forward.asked in
    let seen = c.args.reader.now.seen in
    let old = (V c.args.wire.now).transcript in
    let new = (V c.next.new.self).transcript in
    let q = standing c.loop.reader.seen c.loop.counts.answered in
    has_played seen c.loop.reader.seen c.loop.counts.answered old new (A c.args.forward.now) (A c.loop.forward) c.args.turns NoMemory c.loop.counter c.loop.lives.items false
    (played_still seen old (V c.loop.wire).transcript new (A c.args.forward.now) (A c.loop.forward) c.loop.counter c.loop.lives.items false q c.in-Err-NoMemory.ensures.not_taken c.loop.invariant.plays) (c.loop-test.true, refl)

pub returns-clause-plays : goal.returns-clause-plays
returns-clause-plays g c =
    let V = g.W.Link.seen.view in
    let A = g.F.Forward.asked in
    let i = c.loop.counter in
    let turns = c.args.turns in
    let is : i ≡ turns = search rules in
    has_played c.args.reader.now.seen c.loop.reader.seen c.loop.counts.answered (V c.args.wire.now).transcript (V c.loop.wire).transcript
    (A c.args.forward.now) (A c.loop.forward) turns (Done c.loop.counts.answered) i c.loop.lives.items false
    c.loop.invariant.plays (refl, omega (arith, is), inr is)

pub returns-then-not-handle-clause-seen : goal.returns-then-not-handle-clause-seen
returns-then-not-handle-clause-seen g c = seen_by (returns-then-not-handle-clause-plays g c)

pub returns-in-Err-Failed-clause-seen : goal.returns-in-Err-Failed-clause-seen
returns-in-Err-Failed-clause-seen g c = seen_by (returns-in-Err-Failed-clause-plays g c)

pub returns-in-Err-NoMemory-clause-seen : goal.returns-in-Err-NoMemory-clause-seen
returns-in-Err-NoMemory-clause-seen g c = seen_by (returns-in-Err-NoMemory-clause-plays g c)

pub returns-clause-seen : goal.returns-clause-seen
returns-clause-seen g c = seen_by (returns-clause-plays g c)

pub returns-in-Err-Failed-clause-link_fault : goal.returns-in-Err-Failed-clause-link_fault
returns-in-Err-Failed-clause-link_fault g c is =
    let rose = c.in-Err-Failed.ensures.failed (ap (λ (e : LinkError). Err e) c.in-Err-Failed.field-0-is) in
    let before = c.loop.invariant.link_faults in
    let later = rose.later in
    record { later = omega (arith, before, later); rose = λ last. (let now = rose.rose last in omega (arith, before, now)) }
