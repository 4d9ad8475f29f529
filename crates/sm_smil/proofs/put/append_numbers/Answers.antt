use Rattle.std.proofs.Common.{rules, append_assoc}
use Rattle.std.proofs.lemmas.Result.{IfOk-equal}
use Rattle.sm_smil.specs.LiveText.{number_lines}
use Rattle.sm_smil.proofs.put.append_numbers.Goals as goal

pub returns : goal.returns
unfolding number_lines
returns c = search (rules, IfOk-equal, append_assoc)
