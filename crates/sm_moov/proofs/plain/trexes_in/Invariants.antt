use Rattle.std.proofs.Common.{◌≡◌, Some, drop}
use Rattle.sm_model.specs.Moov.{gather, joined, single, trex}
use Rattle.sm_moov.proofs.plain.trexes_in.Given as goal

abbrev pub invariant-loop-body : goal.invariant-loop-body
invariant-loop-body l = joined (Some l.trexes.items) (gather (λ b. single (trex b)) (drop l.body-index l.boxes)) ≡ gather (λ b. single (trex b)) l.boxes
