use Rattle.sm_addr.proofs.RoundTrip.{target_again}
use Rattle.sm_addr.proofs.law.written_is_read.Goals as goal

pub returns : goal.returns
returns c path t is small named = target_again path t is small named
