use Rattle.sm_players.proofs.Seeing.{turns_sees, plays_sees}
use Rattle.sm_players.proofs.law.players_see_forward.Goals as goal

pub returns : goal.returns
returns c = record { turn = turns_sees; all = plays_sees }
