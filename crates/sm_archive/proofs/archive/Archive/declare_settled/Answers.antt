use Rattle.std.proofs.Common.{[], List, Option, None, subst}
use Rattle.sm_model.specs.declared.entry.Entry.{Entry}
use Rattle.sm_archive.specs.Stands.{Stands}
use Rattle.sm_archive.specs.Declaring.{IsHeader, ReadyHeader}
use Rattle.sm_archive.specs.declared.ready.Header.{Header}
use Rattle.sm_site.proofs.Moments.{weakened}
use Rattle.sm_site.proofs.Recording.{recorded_none}
use Rattle.sm_archive.proofs.Declarings.{empty_log, compared, grown_from}
use Rattle.sm_archive.proofs.archive.Archive.declare_settled.Goals as goal

pub returns-in-Some-clause-step : goal.returns-in-Some-clause-step
returns-in-Some-clause-step g c = λ log s h. compared _ c.args.self.now c.in-Some.index log (g.D.Disk.seen.may_leave c.args.disk.now) c.args.channel.now s c.in-Some.is c.compare.result c.compare.ensures

pub returns-in-Some-header-clause-any_moment : goal.returns-in-Some-header-clause-any_moment
returns-in-Some-header-clause-any_moment g c = λ log s h told.
    let nothing = empty_log c.args.self.now log (g.D.Disk.seen.may_leave c.args.disk.now) s c.in-None.is in
    let own : IsHeader c.in-Some-header.header c.args.channel.now c.args.self.now.log = subst (λ (o : Option Header). ReadyHeader o c.args.channel.now c.args.self.now.log log) c.in-Some-header.is h in
    let empty : Stands c.args.self.now [] None (g.D.Disk.seen.may_leave c.args.disk.now) = subst (λ (l : List Entry). Stands c.args.self.now l None (g.D.Disk.seen.may_leave c.args.disk.now)) nothing s in
    weakened g.D.Disk.seen _ _ _ _ (c.fix.ensures.any_moment c.args.channel.now empty own c.requires.valid told)
    (λ t x k. (k.0, k.1, grown_from c.args.channel.now log k.0 nothing k.2))

pub returns-in-Some-clause-recorded : goal.returns-in-Some-clause-recorded
returns-in-Some-clause-recorded g c = recorded_none (g.D.Disk.seen.view c.args.disk.now)
