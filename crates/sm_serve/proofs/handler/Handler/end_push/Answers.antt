use Rattle.std.proofs.Common.{refl, ap}
use Rattle.sm_wire.specs.declared.item.WireItem.TheVariants.{End}
use Rattle.sm_serve.specs.Run.{Counts, act_of}
use Rattle.sm_serve.proofs.Reaching.{closed_counts}
use Rattle.sm_serve.proofs.handler.Handler.end_push.Goals as goal

pub returns-in-Some-clause-goes_on : goal.returns-in-Some-clause-goes_on
returns-in-Some-clause-goes_on g c h more at =
    c.in-Some.ensures.goes_on h (End c.args.close) more at.keeps at.stands at.phase (ap (λ (k : Counts). act_of k (End c.args.close)) at.counts) refl

pub returns-clause-goes_on : goal.returns-clause-goes_on
returns-clause-goes_on g c h more at =
    closed_counts g.S.Disk.seen h c.args.self.now.live.now.number _ _ _ c.answer.new.self.origin.now c.answer.new.self.site.now
    (c.in-None.ensures.goes_on h (End c.args.close) more at.keeps at.stands at.phase (ap (λ (k : Counts). act_of k (End c.args.close)) at.counts) refl)
