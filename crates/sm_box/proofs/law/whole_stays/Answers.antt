use Rattle.sm_box.proofs.StayLemmas.{whole_stays, box_stays}
use Rattle.sm_box.proofs.law.whole_stays.Goals as goal

pub returns-clause-whole : goal.returns-clause-whole
returns-clause-whole c = whole_stays

pub returns-clause-same : goal.returns-clause-same
returns-clause-same c = box_stays
