use Rattle.sm_fetch.proofs.Fields.{bitrate_first, start_first}
use Rattle.sm_fetch.proofs.law.fields_are_filled.Goals as goal

pub returns : goal.returns
returns c = record { bitrate_first = bitrate_first; start_first = start_first }
