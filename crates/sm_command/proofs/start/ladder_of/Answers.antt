use Rattle.sm_ends.proofs.Unread.{passed_on}
use Rattle.sm_command.proofs.Starting.{no_ladder}
use Rattle.sm_command.proofs.start.ladder_of.Goals as goal

pub returns-in_err-text-clause-why : goal.returns-in_err-text-clause-why
returns-in_err-text-clause-why g c =
    passed_on c.from_residual.result _ _ c.from_residual.ensures.1 (no_ladder _ _ c.in_err-text.field-0.0 c.in_err-text.ensures.why)
