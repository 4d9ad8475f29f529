use Rattle.std.proofs.Common.{arith, ◌∙◌}
use Rattle.sm_push.proofs.Steps.{inside_skip, inside_held, inside_moof}
use Rattle.sm_push.proofs.kept.Kept.is_inside.Goals as goal

pub returns-then-self-gt0 : goal.returns-then-self-gt0
returns-then-self-gt0 c = inside_skip c.args.self.now c.requires.partial (omega arith)

pub returns-then-len-gt0 : goal.returns-then-len-gt0
returns-then-len-gt0 c = inside_held c.args.self.now c.requires.partial (omega arith) (omega arith)

pub returns : goal.returns
returns c = c.is_some.ensures ∙ inside_moof c.args.self.now c.requires.partial (omega arith) (omega arith)
