use Rattle.std.proofs.Common.{refl, inl}
use Rattle.std.proofs.lemmas.Result.{IfOk-weaker, IfErr-weaker}
use Rattle.sm_standby.specs.declared.report.FollowEnd.TheVariants as ends
use Rattle.sm_standby.proofs.Putting.{went_absent, went_put, stopped_bare, stopped_unput}
use Rattle.sm_standby.proofs.placing.place_one.Goals as goal

pub returns-in-NoMemory-clause-err : goal.returns-in-NoMemory-clause-err
returns-in-NoMemory-clause-err g c = λ log s. let e = c.in-NoMemory.ensures in stopped_bare g.met.D.Disk.no_later c.args.disk.now c.args.url.now c.args.address c.args.archive.now log e.0 ends.NoMemory s e.1 (inl (e.2, refl))

pub returns-in-GaveUp-clause-err : goal.returns-in-GaveUp-clause-err
returns-in-GaveUp-clause-err g c = λ log s.
    let e = c.in-GaveUp.ensures in
    stopped_bare g.met.D.Disk.no_later c.args.disk.now c.args.url.now c.args.address c.args.archive.now log e.0 (ends.GaveUp c.args.address c.in-GaveUp.outcomes) s e.1 (refl, e.2, refl)

pub returns-in-Absent-clause-ok : goal.returns-in-Absent-clause-ok
returns-in-Absent-clause-ok g c = λ log s. let e = c.in-Absent.ensures in went_absent g.met.D.Disk.no_later c.args.disk.now c.args.url.now c.args.address c.args.archive.now log e.0 s e.1 e.2

pub returns-in-At-clause-ok : goal.returns-in-At-clause-ok
returns-in-At-clause-ok g c =
    let e = c.in-At.ensures in
    IfOk-weaker c.put.result _ _
    (λ s ok log stands. went_put c.args.url.now c.args.address c.args.archive.now c.put.new.archive log e.0 c.in-At.place c.from.result c.in-At.raw s c.from.ensures e.1 e.2 (ok log stands))
    c.put.ensures.ok

pub returns-in-At-clause-err : goal.returns-in-At-clause-err
returns-in-At-clause-err g c =
    let e = c.in-At.ensures in
    IfErr-weaker c.put.result _ _
    (λ end err log stands. stopped_unput c.args.url.now c.args.address c.args.archive.now c.put.new.archive log e.0 c.in-At.place c.from.result c.in-At.raw end c.from.ensures e.1 e.2 (err log stands))
    c.put.ensures.err
