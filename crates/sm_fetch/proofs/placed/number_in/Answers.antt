use Rattle.std.proofs.Common.{ap, ◌∙◌}
use Rattle.sm_moof.specs.Sequence.{sequence_in}
use Rattle.sm_fetch.proofs.Pairs.{same_moof}
use Rattle.sm_fetch.proofs.placed.number_in.Goals as goal

pub returns-in-Some : goal.returns-in-Some
returns-in-Some c moof mdat pair =
    c.sequence_of.ensures ∙ ap sequence_in (same_moof c.args.body.now c.in-Some.moof.now c.in-Some.field-0-1.now moof mdat c.in-Some.ensures pair)
