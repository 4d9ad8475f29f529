use Rattle.sm_smil.proofs.Over.{middle, leads_on, leads_end, leads_bad}
use Rattle.sm_smil.proofs.read.walk_over.Goals as goal

pub returns-in-End : goal.returns-in-End
returns-in-End c = leads_end _ _ _ _ _ _ c.tags.invariant c.in_ok-tag.ensures.ok c.in-End.is

pub returns-in-Bad : goal.returns-in-Bad
returns-in-Bad c = leads_bad _ _ _ _ _ _ _ c.tags.invariant c.in_ok-tag.ensures.ok c.in-Bad.is

pub tags-preserved : goal.tags-preserved
tags-preserved c =
    rw c.in_ok-step-in_default.ensures (leads_on _ _ _ _ _ _ c.tags.invariant c.in_ok-tag.ensures.ok (middle c.in_ok-tag.tag c.in_default.not-End c.in_default.not-Bad))
