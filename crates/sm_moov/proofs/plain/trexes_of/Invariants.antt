use Rattle.std.proofs.Common.{◌≡◌, Some, drop}
use Rattle.sm_model.specs.Moov.{gather, joined, mvex}
use Rattle.sm_moov.proofs.plain.trexes_of.Given as goal

abbrev pub invariant-loop-body : goal.invariant-loop-body
invariant-loop-body l = joined (Some l.trexes.items) (gather mvex (drop l.body-index l.mvexes)) ≡ gather mvex l.mvexes
