use Rattle.sm_archive.proofs.Admitting.{no_first}
use Rattle.sm_archive.proofs.admit.index_of.Goals as goal

pub returns-in-Keep-clause-damaged : goal.returns-in-Keep-clause-damaged
returns-in-Keep-clause-damaged c = λ is fits. no_first c.args.entry c.in-Keep.field-0 c.in-Keep.is fits
