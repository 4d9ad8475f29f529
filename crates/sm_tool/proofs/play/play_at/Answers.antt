use Rattle.std.proofs.Common.{◌∙◌, Some, ap}
use Rattle.sm_client.specs.declared.report.End.{End}
use Rattle.sm_client.specs.Pushing.{Line}
use Rattle.sm_tool.proofs.Turning.{played_behind}
use Rattle.sm_tool.proofs.play.play_at.Goals as goal

pub returns-clause-played : goal.returns-clause-played
returns-clause-played g c =
    let mid : Line = record { log = g.C.Dial.log c.select.new.self; faults = g.C.Dial.dial_faults c.select.new.self; chosen = g.C.Dial.chosen c.select.new.self } in
    played_behind _ c.args.order.now.plan c.args.policies.items _ mid _ _ (g.C.Dial.store c.select.new.self) _ _ _ c.play.result _
    c.select.ensures.log c.select.ensures.later c.select.ensures.store (c.as_str.ensures.value ∙ c.args.order.now.same) c.in_ok-select.ensures.chosen c.play.ensures.dial.turned
    c.play.ensures.played c.play.ensures.kept c.play.ensures.served c.play.ensures.dial.dialed (λ e. c.play.ensures.cause.failed (ap (λ (end : End). Some end) e))

pub returns-clause-goes_on : goal.returns-clause-goes_on
returns-clause-goes_on g c = g.met.C.Dial.later_then _ _ _ c.select.ensures.goes_on c.play.ensures.dial.goes_on
