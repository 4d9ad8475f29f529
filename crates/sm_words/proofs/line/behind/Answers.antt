use Rattle.sm_words.proofs.Reading.{stripped}
use Rattle.sm_words.proofs.line.behind.Goals as goal

pub returns : goal.returns
returns c = stripped c.args.beginning.now c.args.text.now c.strip_prefix.result c.strip_prefix.ensures.cases
