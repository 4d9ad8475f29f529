use Rattle.std.proofs.Common.{◌+◌, refl, sym, ◌∙◌, arith}
use Rattle.sm_fetch.specs.declared.got.Got.TheVariants as got
use Rattle.sm_fetch.specs.Requests.{fragment_request, fragment_limit}
use Rattle.sm_fetch.specs.Spelt.{SpellsFragment}
use Rattle.sm_pull.proofs.Tried.{tried_start, tried_more, tried_rested, tried_gave, tried_none, tried_stopped, try_made, try_any, few_made, fragment_wanting, fragment_asked, missed_other, fragment_other}
use Rattle.sm_relay.proofs.ask.ask.Goals as goal

pub loop-done-init : goal.loop-done-init
loop-done-init g c = tried_start g.met.C.Dial.later_same c.args.dial.now c.new-outcomes.result c.new-outcomes.ensures

pub loop-done-preserved : goal.loop-done-preserved
loop-done-preserved g c =
    let e = c.get_fragment.ensures in
    let is = sym c.miss_of.ensures ∙ c.in-Some.is in
    tried_more c.push.new.self (c.loop-done.done + 1) g.met.C.Dial.later_then (tried_rested g.met.C.Dial.later_then c.loop-done.invariant c.rest.ensures) (fragment_asked e.asked.1 e.dial e.lost)
    (try_made (fragment_request c.args.plan.now.place c.args.url.now c.args.address.now) fragment_limit (SpellsFragment c.args.address.now.time) got.NoMemory (fragment_wanting
    c.args.address.now.time) e.asked.1.answer c.get_fragment.result e.asked.1.spells (missed_other c.get_fragment.result c.in-Some.miss is))
    is c.in-Ok.ensures.ok refl

pub returns-in-Fragment : goal.returns-in-Fragment
returns-in-Fragment g c =
    let e = c.in-Fragment.ensures in
    tried_gave c.args.plan.now.tries g.met.C.Dial.later_then (tried_rested g.met.C.Dial.later_then c.loop-done.invariant c.rest.ensures) c.loop-done-test.true (fragment_asked e.asked.1 e.dial e.lost)
    (try_made (fragment_request c.args.plan.now.place c.args.url.now c.args.address.now) fragment_limit (SpellsFragment c.args.address.now.time) got.NoMemory (fragment_wanting
    c.args.address.now.time) e.asked.1.answer (got.Fragment c.in-Fragment.raw) e.asked.1.spells (fragment_other c.in-Fragment.raw))

pub returns-in-Err : goal.returns-in-Err
returns-in-Err g c =
    let e = c.get_fragment.ensures in
    tried_stopped c.args.plan.now.tries g.met.C.Dial.later_then (tried_rested g.met.C.Dial.later_then c.loop-done.invariant c.rest.ensures) c.loop-done-test.true (fragment_asked e.asked.1 e.dial e.lost)
    (try_any (fragment_request c.args.plan.now.place c.args.url.now c.args.address.now) fragment_limit (SpellsFragment c.args.address.now.time) e.asked.1.answer c.get_fragment.result
    e.asked.1.spells) (few_made (fragment_request c.args.plan.now.place c.args.url.now c.args.address.now) fragment_limit e.asked.1.answer)

pub returns-in-None : goal.returns-in-None
returns-in-None g c =
    let e = c.get_fragment.ensures in
    tried_stopped c.args.plan.now.tries g.met.C.Dial.later_then (tried_rested g.met.C.Dial.later_then c.loop-done.invariant c.rest.ensures) c.loop-done-test.true (fragment_asked e.asked.1 e.dial e.lost)
    (try_any (fragment_request c.args.plan.now.place c.args.url.now c.args.address.now) fragment_limit (SpellsFragment c.args.address.now.time) e.asked.1.answer c.get_fragment.result
    e.asked.1.spells) (few_made (fragment_request c.args.plan.now.place c.args.url.now c.args.address.now) fragment_limit e.asked.1.answer)

pub returns : goal.returns
returns g c = tried_none c.args.plan.now.tries c.loop-done.invariant (omega (arith, c.loop-done-test.false, c.loop-done.auto.done-end))
