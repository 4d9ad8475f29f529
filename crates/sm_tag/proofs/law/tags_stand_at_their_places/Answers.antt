use Rattle.sm_tag.proofs.Standing.{tags_stand}
use Rattle.sm_tag.proofs.law.tags_stand_at_their_places.Goals as goal

pub returns : goal.returns
returns c = λ text ts runs. tags_stand text ts runs
