use Rattle.std.proofs.lemmas.Result.{IfErr-weaker, on_ok_weaker}
use Rattle.sm_standby.proofs.Rounding.{rounds_paused, ends_paused}
use Rattle.sm_standby.proofs.round.follow_next.Goals as goal

pub returns-clause-ok : goal.returns-clause-ok
returns-clause-ok g c = on_ok_weaker c.follow_round.result (λ ok log s o. rounds_paused g.met.C.Dial.later_then c.rest.ensures (ok log s o)) c.follow_round.ensures.ok

pub returns-clause-err : goal.returns-clause-err
returns-clause-err g c = IfErr-weaker c.follow_round.result _ _ (λ end err log s o. ends_paused end g.met.C.Dial.later_then c.rest.ensures (err log s o)) c.follow_round.ensures.err
