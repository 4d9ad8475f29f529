use Rattle.sm_show.specs.declared.outcome.Up.TheVariants.{Whole}
use Rattle.sm_show.specs.Recalling.{BringsUp}
use Rattle.sm_show.proofs.catching.catch_up.Given as goal

abbrev pub invariant-loop : goal.invariant-loop
invariant-loop g l = record { brings : BringsUp g.S.Disk.seen l.state l.initial.site l.site l.initial.writer l.writer Whole }
