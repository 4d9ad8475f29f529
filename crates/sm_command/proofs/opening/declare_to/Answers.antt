use Rattle.std.proofs.Common.{None}
use Rattle.sm_model.specs.declared.entry.Entry.TheVariants.{Declare}
use Rattle.sm_site.proofs.Moments.{weakened}
use Rattle.sm_command.specs.Opening.{BeginsWith}
use Rattle.sm_command.proofs.Opened.{begins_with, taken}
use Rattle.sm_command.proofs.opening.declare_to.Goals as goal

pub returns-clause-agrees : goal.returns-clause-agrees
returns-clause-agrees g c told told' input log stands = record {
  channel = c.args.channel.now;
  input = input;
  answer = c.declare-answer.result;
  comes_to = c.outcome_of.ensures;
  step = c.declare-answer.ensures.step log None stands;
  fault = c.declare-answer.ensures.fault;
}

pub returns-clause-stands : goal.returns-clause-stands
returns-clause-stands g c =
    let s = c.requires.stands in
    taken _ _ c.declare-answer.new.self s.0 c.args.channel.now c.declare-answer.result c.outcome_of.result (c.declare-answer.ensures.step s.0 None s.1) c.outcome_of.ensures

pub returns-clause-any_moment : goal.returns-clause-any_moment
returns-clause-any_moment g c log stands some =
    weakened g.D.Disk.seen c.args.disk.now c.declare-answer.new.disk _ (λ t x. BeginsWith log x) (c.declare-answer.ensures.any_moment log None stands some)
    (λ t x left. begins_with log (Declare c.args.channel.now) x left)
