use Rattle.sm_head.proofs.ShownLaw.{reply_status, reply_shows}
use Rattle.sm_head.proofs.law.part_shows_its_status.Goals as goal

pub returns : goal.returns
returns c = record { own = reply_status; whole = reply_shows }
