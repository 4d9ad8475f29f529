use Rattle.sm_log.proofs.AllLogs.{extends_itself, extends_through, digest_grows}
use Rattle.sm_log.proofs.law.digests_extend.Goals as goal

pub returns : goal.returns
returns c = record { itself = extends_itself; through = extends_through; grows = digest_grows }
