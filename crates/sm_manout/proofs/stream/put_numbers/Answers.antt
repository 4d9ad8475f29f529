use Rattle.std.proofs.Common.{rules, append_assoc}
use Rattle.std.proofs.lemmas.Result.{IfOk-equal}
use Rattle.sm_manout.specs.ManifestText.{number_attributes}
use Rattle.sm_manout.proofs.stream.put_numbers.Goals as goal

pub returns : goal.returns
unfolding number_attributes
returns c = search (rules, IfOk-equal, append_assoc)
