use Rattle.std.proofs.Common.{◌+◌, refl, sym, ◌∙◌, subst, arith}
use Rattle.sm_fetch.specs.declared.placed.Placed.TheVariants as placed
use Rattle.sm_fetch.specs.Requests.{fragment_request, fragment_limit}
use Rattle.sm_fetch.specs.Placing.{SpellsPlaced}
use Rattle.sm_pull.proofs.Tried.{tried_start, tried_more, tried_rested, tried_none, tried_stopped, try_made, try_any, few_made}
use Rattle.sm_standby.specs.Asked.{Finds}
use Rattle.sm_standby.proofs.Founds.{placed_wanting, placed_asked, missed_other, found_answer}
use Rattle.sm_standby.proofs.asking.ask.Goals as goal

pub loop-done-init : goal.loop-done-init
loop-done-init g c = tried_start g.met.C.Dial.later_same c.args.dial.now c.new-outcomes.result c.new-outcomes.ensures

pub loop-done-preserved : goal.loop-done-preserved
loop-done-preserved g c =
    let e = c.get_placed-placed.ensures in
    let is = sym c.miss_of.ensures ∙ c.in-Some.is in
    tried_more c.push.new.self (c.loop-done.done + 1) g.met.C.Dial.later_then (tried_rested g.met.C.Dial.later_then c.loop-done.invariant c.rest.ensures) (placed_asked e.asked e.dial e.lost)
    (try_made (fragment_request c.args.place.now c.args.url.now c.args.address.now) fragment_limit (SpellsPlaced c.args.address.now.time) placed.NoMemory (placed_wanting c.args.address.now.time)
    e.asked.answer c.get_placed-placed.result e.asked.spells (missed_other c.get_placed-placed.result c.in-Some.miss is))
    is c.in-Ok.ensures.ok refl

pub returns-in-Err : goal.returns-in-Err
returns-in-Err g c =
    let e = c.get_placed-placed.ensures in
    tried_stopped c.args.tries g.met.C.Dial.later_then (tried_rested g.met.C.Dial.later_then c.loop-done.invariant c.rest.ensures) c.loop-done-test.true (placed_asked e.asked e.dial e.lost)
    (try_any (fragment_request c.args.place.now c.args.url.now c.args.address.now) fragment_limit (SpellsPlaced c.args.address.now.time) e.asked.answer c.get_placed-placed.result e.asked.spells)
    (few_made (fragment_request c.args.place.now c.args.url.now c.args.address.now) fragment_limit e.asked.answer)

pub returns-in-None : goal.returns-in-None
returns-in-None g c =
    let e = c.get_placed-placed.ensures in
    let rested = tried_rested g.met.C.Dial.later_then c.loop-done.invariant c.rest.ensures in
    let r = found_answer c.args.tries c.get_placed-placed.result g.met.C.Dial.later_then (sym c.miss_of.ensures ∙ c.in-None.is) rested c.loop-done-test.true e.asked e.dial e.lost e.placed in
    (r.0, r.1, subst (Finds c.args.place.now c.args.tries c.args.url.now c.args.address.now r.0 (g.C.Dial.store c.args.dial.now) (g.C.Dial.store c.get_placed-placed.new.dial)) (sym c.found_of.ensures) r.2)

pub returns : goal.returns
returns g c = tried_none c.args.tries c.loop-done.invariant (omega (arith, c.loop-done-test.false, c.loop-done.auto.done-end))
