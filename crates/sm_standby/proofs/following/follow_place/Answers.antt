use Rattle.std.proofs.Common.{◌++◌, ◌∙◌}
use Rattle.std.proofs.lemmas.Result.{IfErr-weaker, on_ok_weaker}
use Rattle.sm_standby.specs.Candidates.{row}
use Rattle.sm_standby.proofs.Opens.{passed_on}
use Rattle.sm_standby.proofs.Taking.{ends_none}
use Rattle.sm_standby.proofs.following.follow_place.Goals as goal

pub returns-in_err-addresses-clause-err : goal.returns-in_err-addresses-clause-err
returns-in_err-addresses-clause-err g c =
    passed_on c.from_residual.result _ _ c.from_residual.ensures.1
    (λ log more s o d.
    ends_none g.met.D.Disk.no_later g.met.C.Dial.later_same c.args.disk.now c.args.dial.now c.args.archive.now log c.args.held.now (row c.args.channel.now c.args.place c.args.all.now ++ more) s)

pub returns-clause-ok : goal.returns-clause-ok
returns-clause-ok g c =
    on_ok_weaker c.follow_row.result (λ ok log more s o d. rw (← (c.deref.ensures.value ∙ c.in_ok-addresses.ensures)) (ok log more s o d)) c.follow_row.ensures.ok

pub returns-clause-err : goal.returns-clause-err
returns-clause-err g c =
    IfErr-weaker c.follow_row.result _ _ (λ end err log more s o d. rw (← (c.deref.ensures.value ∙ c.in_ok-addresses.ensures)) (err log more s o d)) c.follow_row.ensures.err
