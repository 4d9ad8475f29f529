use Rattle.std.proofs.Common.{◌∙◌, arith, sym}
use Rattle.sm_world.proofs.Rehearsing.{rehearsed, three_of}
use Rattle.sm_world.proofs.rehearsal.rehearse.Goals as goal

pub returns : goal.returns
returns g c = rehearsed _ c.args.number c.args.size c.args.policies.items c.in-Some-pop-2.first c.in-Some-pop.second c.in-Some.third c.in_ok-stage.stage c.push_all.new.stage
    c.play_all.new.dial c.in_ok-first.field-0 c.crashes.result
    (three_of c.args.policies.items c.pop.new.self.items c.pop-2.new.self.items c.pop-3.new.self.items c.pop.result c.pop-2.result c.pop-3.result
    c.in-Some-pop-2.first c.in-Some-pop.second c.in-Some.third c.pop.ensures.items c.pop-2.ensures.items c.pop-3.ensures.items c.in-Some.is c.in-Some-pop.is c.in-Some-pop-2.is c.requires.three)
    c.requires.size c.in_ok-stage.ensures c.in_ok-push_all.ensures.pushed c.in_ok-push_all.ensures.entries c.in_ok-first.ensures (sym c.starved.ensures ∙ c.if-starved.false) c.crashes.ensures

pub overflow_add-summary : goal.overflow_add-summary
overflow_add-summary g c = let e = c.in_ok-first.ensures.lost in let f = c.in_ok-first.ensures.few in omega (arith, e, f, c.requires.size)

pub overflow_add-summary-2 : goal.overflow_add-summary-2
overflow_add-summary-2 g c = let e = c.in_ok-first.ensures.lost in let f = c.in_ok-first.ensures.few in omega (arith, e, f, c.requires.size)

pub overflow_add-summary-3 : goal.overflow_add-summary-3
overflow_add-summary-3 g c = let e = c.in_ok-first.ensures.cut in let f = c.in_ok-first.ensures.few in omega (arith, e, f, c.requires.size)

pub overflow_add-summary-4 : goal.overflow_add-summary-4
overflow_add-summary-4 g c = let e = c.in_ok-first.ensures.cut in let f = c.in_ok-first.ensures.few in omega (arith, e, f, c.requires.size)
