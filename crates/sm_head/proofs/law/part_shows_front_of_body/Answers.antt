use Rattle.sm_head.proofs.ShownLaw.{front_of_body}
use Rattle.sm_head.proofs.law.part_shows_front_of_body.Goals as goal

pub returns : goal.returns
returns c = front_of_body
