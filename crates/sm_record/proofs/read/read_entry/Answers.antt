use Rattle.std.proofs.Common.{◌∙◌}
use Rattle.sm_record.proofs.KnownLaws.{copied}
use Rattle.sm_record.proofs.read.read_entry.Goals as goal

pub returns-clause-damaged : goal.returns-clause-damaged
returns-clause-damaged c = copied _ c.args.body.now _ c.read_part.result (c.in_ok-part.ensures ∙ c.in_ok-from_slice.ensures.items) c.read_part.ensures
