use Rattle.std.proofs.Common.{◌∙◌, ap}
use Rattle.sm_serve.specs.Run.{Counts, act_of}
use Rattle.sm_serve.proofs.Reaching.{closed_counts}
use Rattle.sm_serve.proofs.handler.Handler.act_on.Goals as goal

pub returns-in-None-clause-goes_on : goal.returns-in-None-clause-goes_on
returns-in-None-clause-goes_on g c item does close counting h more at =
    closed_counts g.S.Disk.seen h c.args.self.now.live.now.number _ _ _ c.answer.new.self.origin.now c.answer.new.self.site.now
    (c.in-None.ensures.goes_on h item more at.keeps at.stands at.phase (ap (λ (k : Counts). act_of k item) at.counts ∙ does) close)
