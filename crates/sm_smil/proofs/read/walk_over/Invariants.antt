use Rattle.std.proofs.Common.{length}
use Rattle.sm_smil.proofs.Over.{Leads}
use Rattle.sm_smil.proofs.read.walk_over.Given as goal

abbrev pub invariant-tags : goal.invariant-tags
invariant-tags l = Leads l.form l.initial.tags l.walk l.tags

abbrev pub decreases-tags : goal.decreases-tags
decreases-tags l = length l.tags.rest
