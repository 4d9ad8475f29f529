use Rattle.std.proofs.Common.{inl, inr, refl, rules}
use Rattle.sm_site.proofs.Moments.{no_call}
use Rattle.sm_command.specs.Opening.{BeginsWith}
use Rattle.sm_command.proofs.opening.declare_input.Goals as goal

pub returns-clause-means : goal.returns-clause-means
returns-clause-means g c log stands = inl (c.declare_to.ensures.agrees _ _ c.in_ok-channel.ensures.read log stands)

pub returns-in_err-channel-clause-means : goal.returns-in_err-channel-clause-means
returns-in_err-channel-clause-means g c log stands = inr (search rules, refl)

pub returns-in_err-channel-clause-any_moment : goal.returns-in_err-channel-clause-any_moment
returns-in_err-channel-clause-any_moment g c log stands some = no_call g.D.Disk.seen c.args.disk.now (λ t x. BeginsWith log x) (g.met.D.Disk.no_later c.args.disk.now)
