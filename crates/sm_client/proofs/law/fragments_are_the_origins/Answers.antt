use Rattle.sm_client.proofs.Serving.{fragment-read, fragment-given}
use Rattle.sm_client.proofs.law.fragments_are_the_origins.Goals as goal

pub returns-clause-read : goal.returns-clause-read
returns-clause-read c place channel log pattern a raw answer is l from s = fragment-read place channel log pattern a raw answer is l from s

pub returns-clause-given : goal.returns-clause-given
returns-clause-given c place channel log pattern a g answer is l from free s whole = fragment-given place channel log pattern a g answer is l from free s whole
