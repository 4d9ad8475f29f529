use Rattle.sm_world.proofs.Standing.{open_stays}
use Rattle.sm_world.proofs.opening.put.Goals as goal

pub returns-in-Ok-clause-stays : goal.returns-in-Ok-clause-stays
returns-in-Ok-clause-stays g c w state open_ =
    open_stays g.S.Disk.seen c.fewer_images_stand.ensures w c.args.site.now c.extend.new.self
    c.extend.ensures.view c.extend.ensures.keeps.crash c.extend.ensures.keeps.past state open_

pub returns-in-Err-clause-stays : goal.returns-in-Err-clause-stays
returns-in-Err-clause-stays g c w state open_ =
    open_stays g.S.Disk.seen c.fewer_images_stand.ensures w c.args.site.now c.extend.new.self
    c.extend.ensures.view c.extend.ensures.keeps.crash c.extend.ensures.keeps.past state open_
