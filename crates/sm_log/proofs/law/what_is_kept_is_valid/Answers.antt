use Rattle.sm_log.proofs.ListedKept.{kept_valid, kept_address}
use Rattle.sm_log.proofs.law.what_is_kept_is_valid.Goals as goal

pub returns : goal.returns
returns c = record { address = kept_address; valid = kept_valid }
