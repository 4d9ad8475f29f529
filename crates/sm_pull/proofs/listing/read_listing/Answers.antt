use Rattle.std.proofs.Common.{◌+◌, refl, sym, ◌∙◌, arith}
use Rattle.sm_fetch.specs.declared.got.Got.TheVariants as got
use Rattle.sm_fetch.specs.Requests.{manifest_request, manifest_limit}
use Rattle.sm_fetch.specs.Spelt.{SpellsManifest}
use Rattle.sm_pull.proofs.Tried.{tried_start, tried_more, tried_rested, tried_gave, tried_none, tried_stopped, try_made, try_any, few_made, manifest_wanting, manifest_asked, missed_other, manifest_other}
use Rattle.sm_pull.proofs.listing.read_listing.Goals as goal

pub loop-done-init : goal.loop-done-init
loop-done-init g c = tried_start g.met.C.Dial.later_same c.args.dial.now c.new-outcomes.result c.new-outcomes.ensures

pub loop-done-preserved : goal.loop-done-preserved
loop-done-preserved g c =
    let e = c.get_manifest.ensures in
    let is = sym c.miss_of.ensures ∙ c.in-Some.is in
    tried_more c.push.new.self (c.loop-done.done + 1) g.met.C.Dial.later_then (tried_rested g.met.C.Dial.later_then c.loop-done.invariant c.rest.ensures) (manifest_asked e.asked e.dial e.lost)
    (try_made (manifest_request c.args.place.now) manifest_limit SpellsManifest got.NoMemory manifest_wanting e.asked.answer c.get_manifest.result e.asked.spells (missed_other c.get_manifest.result c.in-Some.miss is))
    is c.in-Ok.ensures.ok refl

pub returns-in-Manifest : goal.returns-in-Manifest
returns-in-Manifest g c =
    let e = c.in-Manifest.ensures in
    tried_gave c.args.tries g.met.C.Dial.later_then (tried_rested g.met.C.Dial.later_then c.loop-done.invariant c.rest.ensures) c.loop-done-test.true (manifest_asked e.asked e.dial e.lost)
    (try_made (manifest_request c.args.place.now) manifest_limit SpellsManifest got.NoMemory manifest_wanting e.asked.answer (got.Manifest c.in-Manifest.listing) e.asked.spells (manifest_other c.in-Manifest.listing))

pub returns-in-Err : goal.returns-in-Err
returns-in-Err g c =
    let e = c.get_manifest.ensures in
    tried_stopped c.args.tries g.met.C.Dial.later_then (tried_rested g.met.C.Dial.later_then c.loop-done.invariant c.rest.ensures) c.loop-done-test.true (manifest_asked e.asked e.dial e.lost)
    (try_any (manifest_request c.args.place.now) manifest_limit SpellsManifest e.asked.answer c.get_manifest.result e.asked.spells) (few_made (manifest_request c.args.place.now) manifest_limit e.asked.answer)

pub returns-in-None : goal.returns-in-None
returns-in-None g c =
    let e = c.get_manifest.ensures in
    tried_stopped c.args.tries g.met.C.Dial.later_then (tried_rested g.met.C.Dial.later_then c.loop-done.invariant c.rest.ensures) c.loop-done-test.true (manifest_asked e.asked e.dial e.lost)
    (try_any (manifest_request c.args.place.now) manifest_limit SpellsManifest e.asked.answer c.get_manifest.result e.asked.spells) (few_made (manifest_request c.args.place.now) manifest_limit e.asked.answer)

pub returns : goal.returns
returns g c = tried_none c.args.tries c.loop-done.invariant (omega (arith, c.loop-done-test.false, c.loop-done.auto.done-end))
