use Rattle.sm_ends.proofs.Unread.{passed_on}
use Rattle.sm_command.proofs.Starting.{known, prepared, runs_from, served_lasts, stopped_lasts, stops}
use Rattle.sm_command.proofs.serving.serve_state.Goals as goal

pub serve-requires-clause-known : goal.serve-requires-clause-known
serve-requires-clause-known g c =
    let p = prepared g.S.Disk.seen c.args.ladder _ _ c.args.state.now c.args.site.now c.prepare.new.state c.prepare.new.site c.in_ok-prepare.ensures.means in
    known g.S.Disk.seen c.args.ladder _ _ c.args.state.now c.args.site.now c.prepare.new.state c.prepare.new.site c.requires.begins p c.requires.stands c.in_ok-prepare.ensures.disk_alone.link.transcript

pub returns-clause-run : goal.returns-clause-run
returns-clause-run g c =
    let p = prepared g.S.Disk.seen c.args.ladder _ _ c.args.state.now c.args.site.now c.prepare.new.state c.prepare.new.site c.in_ok-prepare.ensures.means in
    runs_from g.S.Disk.seen c.args.ladder _ _ c.args.turns c.args.state.now c.args.site.now c.prepare.new.state c.prepare.new.site c.serve.new.state c.serve.new.site c.serve.result
    p c.in_ok-prepare.ensures.disk_alone.link.link_faults c.serve.ensures.link_fault c.serve.ensures.runs

pub returns-clause-lasts : goal.returns-clause-lasts
returns-clause-lasts g c h serves =
    let u = c.in_ok-prepare.ensures.unseen h serves in
    served_lasts g.S.Disk.seen h c.prepare.new.state c.prepare.new.site c.serve.result c.args.turns c.serve.new.state c.serve.new.site u (c.serve.ensures.runs u.later u.serves)

pub returns-in_err-prepare-clause-why : goal.returns-in_err-prepare-clause-why
returns-in_err-prepare-clause-why g c =
    passed_on c.from_residual.result _ _ c.from_residual.ensures.1 (stops g.S.Disk.seen c.args.ladder _ _ c.args.state.now c.args.site.now c.prepare.new.state c.prepare.new.site _ c.in_err-prepare.ensures.means)

pub returns-in_err-prepare-clause-lasts : goal.returns-in_err-prepare-clause-lasts
returns-in_err-prepare-clause-lasts g c h serves =
    stopped_lasts g.S.Disk.seen g.met.S.Disk.told c.crashes_hold_what_was_shown.ensures h c.prepare.new.state c.prepare.new.site (c.in_err-prepare.ensures.unseen h serves)
