use Rattle.std.proofs.Common.{sym}
use Rattle.sm_manin.proofs.NoFaults.{streams_readable}
use Rattle.sm_manin.proofs.read.read_manifest.Goals as goal

pub read_of-requires-clause-names : goal.read_of-requires-clause-names
read_of-requires-clause-names c = λ k d h. (streams_readable c.in_ok-walk.bad c.in_ok-walk.walk (sym c.in-None.ensures) k d h).name

pub read_of-requires-clause-levels : goal.read_of-requires-clause-levels
read_of-requires-clause-levels c = λ k d h. (streams_readable c.in_ok-walk.bad c.in_ok-walk.walk (sym c.in-None.ensures) k d h).few
