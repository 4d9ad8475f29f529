use Rattle.std.proofs.Common.{rules, ◌≡◌, ◌<◌, ◌≤◌, List, length, false, refl, sym, subst, arith}
use Rattle.sm_site.specs.Meanings.Deal.{Began}
use Rattle.sm_players.specs.declared.live.Live.{Live}
use Rattle.sm_players.specs.Open.{LeavesOpen}
use Rattle.sm_players.specs.Given.{TurnGives}
use Rattle.sm_players.proofs.Handling.{crowded_gives, unborn_gives, opened_gives, leaves_apart, open_push}
use Rattle.sm_players.proofs.playing.begin.Goals as goal

pub returns-then-len-ge-MOST-clause-turns : goal.returns-then-len-ge-MOST-clause-turns
returns-then-len-ge-MOST-clause-turns g c ks p was known =
    let V = g.W.Link.seen.view in
    let t = c.crowd.ensures.goes in
    let ls = c.args.lives.now.items in
    let len : c.len.result ≡ length ls = search rules in
    let many : 16 ≤ length ls = omega (arith, c.if-len-ge-MOST.true, len) in
    crowded_gives c.args.number (V c.args.wire.now).transcript (V c.crowd.new.wire).transcript was ks p ls t.0 t.2.0 t.2.1 many t.1 t.2.2 t.2.3 known

pub returns-then-len-ge-MOST-clause-leaves : goal.returns-then-len-ge-MOST-clause-leaves
returns-then-len-ge-MOST-clause-leaves g c =
    let t = c.crowd.ensures.goes in
    leaves_apart c.args.number false _ _ t.0 c.args.lives.now.items c.crowd.ensures.leaves t.1 c.requires.may

pub returns-in-Ok-clause-turns : goal.returns-in-Ok-clause-turns
returns-in-Ok-clause-turns g c ks p was known =
    let T = (g.W.Link.seen.view c.args.wire.now).transcript in
    let n = c.args.number in
    let ls = c.args.lives.now.items in
    let new = c.in-Ok.ensures.admitted in
    let len : c.len.result ≡ length ls = search rules in
    let few : length ls < 16 = omega (arith, c.if-len-ge-MOST.false, len) in
    subst (λ (ms : List Live). TurnGives (Began n) T T was was ks p ms p) (sym new.2) (opened_gives n T was ks p ls new.0 few new.1 known)

pub returns-in-Ok-clause-leaves : goal.returns-in-Ok-clause-leaves
returns-in-Ok-clause-leaves g c =
    let v = g.W.Link.seen.view c.args.wire.now in
    let new = c.in-Ok.ensures.admitted in
    subst (λ (ms : List Live). LeavesOpen ms v v) (sym new.2)
    (record { open_ = open_push v.transcript c.args.number c.args.lives.now.items new.0 new.1.number_is c.requires.may; link_faults = refl })

pub returns-in-Err-clause-turns : goal.returns-in-Err-clause-turns
returns-in-Err-clause-turns g c ks p was known =
    let V = g.W.Link.seen.view in
    let n = c.args.number in
    let t = c.starve.ensures.goes in
    let a = (V c.args.wire.now).transcript in
    let b = (V c.starve.new.wire).transcript in
    subst (λ (ms : List Live). TurnGives (Began n) a b was was ks p ms p) (sym c.in-Err.ensures.refused) (unborn_gives n a b was ks p c.args.lives.now.items t.0 c.starve.result t.1 t.2 known)

pub returns-in-Err-clause-leaves : goal.returns-in-Err-clause-leaves
returns-in-Err-clause-leaves g c =
    let V = g.W.Link.seen.view in
    let t = c.starve.ensures.goes in
    subst (λ (ms : List Live). LeavesOpen ms (V c.args.wire.now) (V c.starve.new.wire)) (sym c.in-Err.ensures.refused)
    (leaves_apart c.args.number false _ _ t.0 c.args.lives.now.items c.starve.ensures.leaves t.1 c.requires.may)
