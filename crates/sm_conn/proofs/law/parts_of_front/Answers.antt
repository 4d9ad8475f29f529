use Rattle.sm_conn.proofs.FrontLaw.{front_law}
use Rattle.sm_conn.proofs.law.parts_of_front.Goals as goal

pub returns : goal.returns
returns c bytes more items all mode last one two = front_law _ mode last bytes more items all one two
