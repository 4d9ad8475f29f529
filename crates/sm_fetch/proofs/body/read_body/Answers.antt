use Rattle.std.proofs.Common.{drop, take, ap, arith}
use Rattle.sm_fetch.specs.Answered.{body_bytes}
use Rattle.sm_fetch.proofs.Framing.{read_skip, read_data, read_end, read_bad}
use Rattle.sm_fetch.proofs.body.read_body.Goals as goal

pub loop-count-preserved-in-Skip : goal.loop-count-preserved-in-Skip
loop-count-preserved-in-Skip c =
    read_skip c.args.framing c.args.bytes.now c.loop-count.at c.in-Skip.count c.loop-count.framer.place c.step.new.self.place (body_bytes c.loop-count.body)
    c.loop-count.invariant c.in-Skip.ensures

pub loop-count-preserved : goal.loop-count-preserved
loop-count-preserved c =
    read_data c.args.framing c.args.bytes.now c.loop-count.at c.in-Body.count c.loop-count.framer.place c.step.new.self.place (body_bytes c.loop-count.body)
    (body_bytes c.in_ok-body-in-Body.body) _ c.loop-count.invariant c.in-Body.ensures c.in_ok-body-in-Body.ensures
    (ap (λ n. take n (drop c.loop-count.at c.args.bytes.now)) (omega arith))

pub returns-in-End : goal.returns-in-End
returns-in-End c =
    read_end c.args.framing c.args.bytes.now c.loop-count.at c.in-End.field-0 c.loop-count.framer.place c.step.new.self.place (body_bytes c.loop-count.body)
    c.loop-count.invariant c.in-End.ensures

pub returns-in-Bad : goal.returns-in-Bad
returns-in-Bad c =
    read_bad c.args.framing c.args.bytes.now c.loop-count.at c.loop-count.framer.place c.step.new.self.place (body_bytes c.loop-count.body)
    c.loop-count.invariant c.in-Bad.ensures
