use Rattle.std.proofs.Common.{◌-◌, length}
use Rattle.sm_model.specs.Found.{is_kind}
use Rattle.sm_moof.proofs.TrackLemmas.{Seeks}
use Rattle.sm_moof.proofs.track.first_of.Given as goal

abbrev pub invariant-walk : goal.invariant-walk
invariant-walk l = Seeks (is_kind l.name) l.body l.children

abbrev pub decreases-walk : goal.decreases-walk
decreases-walk l = length l.body - l.children.at
