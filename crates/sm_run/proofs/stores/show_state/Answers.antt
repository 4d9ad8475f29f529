use Rattle.std.proofs.Common.{refl}
use Rattle.sm_command.proofs.Starting.{known, prepared, served_lasts, stopped_lasts, stops}
use Rattle.sm_run.proofs.Beginning.{shown_from, unseen_behind}
use Rattle.sm_run.proofs.stores.show_state.Goals as goal

pub show-requires-clause-known : goal.show-requires-clause-known
show-requires-clause-known g c κs lives =
    let p = prepared g.S.Disk.seen c.args.ladder _ _ c.args.state.now c.args.site.now c.prepare.new.state c.prepare.new.site c.in-Ok.ensures.means in
    known g.S.Disk.seen c.args.ladder _ _ c.args.state.now c.args.site.now c.prepare.new.state c.prepare.new.site c.requires.begins p c.requires.stands c.in-Ok.ensures.disk_alone.link.transcript

pub returns-in-Ok-show-clause-run : goal.returns-in-Ok-show-clause-run
returns-in-Ok-show-clause-run g c =
    let p = prepared g.S.Disk.seen c.args.ladder _ _ c.args.state.now c.args.site.now c.prepare.new.state c.prepare.new.site c.in-Ok.ensures.means in
    shown_from g.S.Disk.seen c.in-Ok-show.ended.shelf c.args.ladder _ _ c.args.turns c.args.state.now c.args.site.now c.prepare.new.state c.prepare.new.site c.show.new.state c.show.new.site
    c.in-Ok-show.ended.served p c.in-Ok.ensures.disk_alone.link.link_faults c.in-Ok-show.ensures.link_fault c.in-Ok-show.ensures.runs c.in-Ok-show.ensures.shown

pub returns-in-Ok-show-clause-lasts : goal.returns-in-Ok-show-clause-lasts
returns-in-Ok-show-clause-lasts g c h serves =
    let u = c.in-Ok.ensures.unseen h serves in
    served_lasts g.S.Disk.seen h c.prepare.new.state c.prepare.new.site c.in-Ok-show.ended.served c.args.turns c.show.new.state c.show.new.site u
    (c.in-Ok-show.ensures.runs u.later u.serves)

pub returns-in-Err-show-clause-why : goal.returns-in-Err-show-clause-why
returns-in-Err-show-clause-why g c = ((c.prepare.new.state, c.prepare.new.site, c.in-Ok.ensures.means, c.in-Err-show.ensures.idle), c.in-Err-show.ensures.why)

pub returns-in-Err-show-clause-lasts : goal.returns-in-Err-show-clause-lasts
returns-in-Err-show-clause-lasts g c h serves =
    stopped_lasts g.S.Disk.seen g.met.S.Disk.told c.crashes_hold_what_was_shown.ensures h c.prepare.new.state c.show.new.site
    (unseen_behind g.S.Disk.seen h c.prepare.new.state c.prepare.new.site c.show.new.site c.in-Err-show.ensures.idle (c.in-Ok.ensures.unseen h serves))

pub returns-in-Err-clause-why : goal.returns-in-Err-clause-why
returns-in-Err-clause-why g c =
    (stops g.S.Disk.seen c.args.ladder _ _ c.args.state.now c.args.site.now c.prepare.new.state c.prepare.new.site c.in-Err.fault c.in-Err.ensures.means, refl)

pub returns-in-Err-clause-lasts : goal.returns-in-Err-clause-lasts
returns-in-Err-clause-lasts g c h serves =
    stopped_lasts g.S.Disk.seen g.met.S.Disk.told c.crashes_hold_what_was_shown.ensures h c.prepare.new.state c.prepare.new.site (c.in-Err.ensures.unseen h serves)
