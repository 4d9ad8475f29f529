use Rattle.sm_site.proofs.Transcripts.{stays_live}
use Rattle.sm_site.proofs.law.connections_stay_live.Goals as goal

pub returns : goal.returns
returns c = stays_live
