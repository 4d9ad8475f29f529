use Rattle.std.proofs.Common.{◌≡◌, Some, drop}
use Rattle.sm_model.specs.Moov.{gather, joined, single, trak}
use Rattle.sm_moov.proofs.plain.heads_in.Given as goal

abbrev pub invariant-loop-body : goal.invariant-loop-body
invariant-loop-body l = joined (Some l.heads.items) (gather (λ b. single (trak b)) (drop l.body-index l.traks)) ≡ gather (λ b. single (trak b)) l.traks
