use Rattle.sm_log.proofs.Apart.{sorted_times}
use Rattle.sm_timeline.proofs.timeline.decide.Goals as goal

pub find-requires : goal.find-requires
find-requires c = sorted_times c.args.times.now c.requires
