use Rattle.sm_manout.proofs.ReadManifest.{written_is_read}
use Rattle.sm_manout.proofs.law.written_manifest_is_read.Goals as goal

pub returns : goal.returns
returns c = written_is_read
