use Rattle.std.proofs.Common.{⊎_elim, false}
use Rattle.sm_serve.proofs.Validity.{gives_valid, failed_valid}
use Rattle.sm_serve.proofs.push.OpenPush.feed.Goals as goal

pub returns-clause-valid : goal.returns-clause-valid
returns-clause-valid c = ⊎_elim
    (λ failed. failed_valid c.feed.result (c.feed.ensures.failed.1 failed))
    (λ stands. gives_valid c.items_are_valid.ensures stands.0 c.args.piece.now c.feed.new.self c.feed.result (c.feed.ensures.answers false stands.0 stands.1))
    c.self.invariant
