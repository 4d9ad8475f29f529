use Rattle.sm_archive.proofs.Settling.{stands_fewer}
use Rattle.sm_archive.proofs.law.fewer_images_stand.Goals as goal

pub returns : goal.returns
returns g c = λ a log doubt old new s less. stands_fewer a (g.D.Disk.seen.may_leave old) (g.D.Disk.seen.may_leave new) less log doubt s
