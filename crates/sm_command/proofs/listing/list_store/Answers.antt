use Rattle.std.proofs.Common.{rules}
use Rattle.sm_command.specs.Lasting.{NoFewer}
use Rattle.sm_command.proofs.Chosen.{chosen_still}
use Rattle.sm_command.proofs.Lasting.{chosen_keeps, chosen_one, chosen_untouched, counts_then, only_keeps, only_one, silent_then}
use Rattle.sm_command.proofs.Lines.{why_unchosen, why_unlisted}
use Rattle.sm_command.proofs.listing.list_store.Goals as goal

pub returns-clause-any_moment : goal.returns-clause-any_moment
returns-clause-any_moment g c log one =
    chosen_one g.S.Disk.seen log c.args.site.now c.choose.new.site c.list_disk.new.disk c.choose.ensures.only one c.list_disk.ensures.any_moment

pub returns-in_err-choose-clause-any_moment : goal.returns-in_err-choose-clause-any_moment
returns-in_err-choose-clause-any_moment g c log one = only_one g.S.Disk.seen log c.args.site.now c.choose.new.site c.choose.ensures.only one

pub returns-clause-stores : goal.returns-clause-stores
returns-clause-stores g c =
    chosen_keeps g.S.Disk.seen g.met.S.Disk.at_now c.args.site.now c.choose.new.site c.list_disk.new.disk _ c.choose.ensures.only
    c.list_disk.ensures.any_moment (λ r. c.list_disk.ensures.untouched r.0 r.1) c.list_disk.ensures.spared c.list_disk.ensures.disk_alone

pub returns-in_err-choose-clause-stores : goal.returns-in_err-choose-clause-stores
returns-in_err-choose-clause-stores g c = only_keeps g.S.Disk.seen g.met.S.Disk.at_now c.args.site.now c.choose.new.site _ c.choose.ensures.only

pub returns-clause-silent : goal.returns-clause-silent
returns-clause-silent g c =
    silent_then (g.S.Disk.seen.view c.args.site.now) (g.S.Disk.seen.view c.choose.new.site) (g.S.Disk.seen.view c.list_disk.new.disk)
    c.choose.ensures.only.silent c.list_disk.ensures.disk_alone

pub returns-clause-why : goal.returns-clause-why
returns-clause-why g c =
    let V = g.S.Disk.seen.view in
    let chosen : NoFewer (V c.args.site.now) (V c.choose.new.site) = c.choose.ensures.only.silent.no_fewer in
    why_unlisted g.S.Disk.seen c.args.site.now c.choose.new.site c.list_disk.new.disk c.list_disk.result c.choose.ensures.only.contents chosen c.list_disk.ensures.why
    (counts_then (V c.args.site.now) (V c.choose.new.site) (V c.list_disk.new.disk) chosen c.list_disk.ensures.disk_alone.no_fewer c.list_disk.ensures.disk_alone.link.link_faults)
    (λ at is. chosen_untouched g.S.Disk.seen c.args.site.now c.choose.new.site c.list_disk.new.disk c.choose.ensures.only (c.list_disk.ensures.untouched at is))

pub returns-in_err-choose-clause-why : goal.returns-in_err-choose-clause-why
returns-in_err-choose-clause-why g c = search (rules, why_unchosen)

pub returns-clause-chosen : goal.returns-clause-chosen
returns-clause-chosen g c =
    chosen_still c.list_disk.result _ (g.S.Disk.seen.view c.args.site.now) (g.S.Disk.seen.view c.choose.new.site) (g.S.Disk.seen.view c.list_disk.new.disk) c.in_ok-choose.ensures.chosen c.list_disk.ensures.disk_alone.link.chosen
