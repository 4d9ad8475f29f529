use Rattle.sm_archive.proofs.Doubts.{image_fits}
use Rattle.sm_archive.proofs.law.an_image_fits.Goals as goal

pub returns : goal.returns
returns g c = λ a log doubt disk x s left. image_fits a log doubt (g.D.Disk.seen.may_leave disk) s x left
