use Rattle.std.proofs.Common.{◌≡◌, ltb, true, false, arith}
use Rattle.std.proofs.lemmas.Bool.{lt-ltb, le-ltb}
use Rattle.sm_push.proofs.Limits.{little_is_lacking}
use Rattle.sm_push.proofs.Steps.{held_few, skip_few}
use Rattle.sm_push.proofs.kept.Kept.due.Goals as goal

pub returns-then-self-gt0-clause-few : goal.returns-then-self-gt0-clause-few
returns-then-self-gt0-clause-few c = skip_few c.args.self.now c.requires.partial (omega arith)

pub returns-clause-few : goal.returns-clause-few
returns-clause-few c = held_few c.args.self.now c.wanted.result (omega arith) c.wanted.ensures.fits

pub returns-then-self-gt0-clause-missing : goal.returns-then-self-gt0-clause-missing
returns-then-self-gt0-clause-missing c = let some : ltb 0 c.args.self.now.skip ≡ true = lt-ltb _ _ (omega arith) in rw some (omega arith)

pub returns-clause-missing : goal.returns-clause-missing
returns-clause-missing c =
    let none : ltb 0 c.args.self.now.skip ≡ false = le-ltb _ _ (omega arith) in
    rw none (omega (arith, little_is_lacking c.args.self.now.state c.args.self.now.held, c.wanted.ensures.least))
