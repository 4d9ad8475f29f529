use Rattle.std.proofs.Common.{sym, ◌∙◌}
use Rattle.sm_relay.proofs.Walked.{pulls_none}
use Rattle.sm_relay.proofs.Wanted.{wants_at_other}
use Rattle.sm_relay.proofs.stream.pull_track.Goals as goal

pub returns-then-ne-clause-ok : goal.returns-then-ne-clause-ok
returns-then-ne-clause-ok g c = λ log s. pulls_none g.met.D.Disk.no_later g.met.C.Dial.later_same c.args.disk.now c.args.dial.now c.args.archive.now log _
    (wants_at_other c.args.stream.now.pattern c.args.time c.args.stream.now.name c.args.track.now (sym c.ne.ensures ∙ c.if-ne.true)) s
