use Rattle.std.proofs.Common.{rules}
use Rattle.sm_command.proofs.Chosen.{chosen_still}
use Rattle.sm_command.proofs.Lasting.{chosen_one, chosen_spared, chosen_untouched, only_one, only_untouched, silent_then, unwritten_spared}
use Rattle.sm_command.proofs.Lines.{chosen_is_placed}
use Rattle.sm_command.proofs.Starting.{stated_is, unopened_chosen, why_later}
use Rattle.sm_command.proofs.start.open_state.Goals as goal

pub returns-clause-any_moment : goal.returns-clause-any_moment
returns-clause-any_moment g c log one =
    chosen_one g.S.Disk.seen log c.args.site.now c.choose.new.site c.start.new.site c.choose.ensures.only one c.start.ensures.any_moment

pub returns-in_err-choose-clause-any_moment : goal.returns-in_err-choose-clause-any_moment
returns-in_err-choose-clause-any_moment g c log one = only_one g.S.Disk.seen log c.args.site.now c.choose.new.site c.choose.ensures.only one

pub returns-clause-untouched : goal.returns-clause-untouched
returns-clause-untouched g c at is =
    chosen_untouched g.S.Disk.seen c.args.site.now c.choose.new.site c.start.new.site c.choose.ensures.only (c.start.ensures.untouched at is)

pub returns-clause-silent : goal.returns-clause-silent
returns-clause-silent g c =
    silent_then (g.S.Disk.seen.view c.args.site.now) (g.S.Disk.seen.view c.choose.new.site) (g.S.Disk.seen.view c.start.new.site)
    c.choose.ensures.only.silent c.start.ensures.disk_alone

pub returns-in_err-choose-clause-untouched : goal.returns-in_err-choose-clause-untouched
returns-in_err-choose-clause-untouched g c at is =
    absurd (chosen_is_placed (g.S.Disk.seen.view c.args.site.now) (g.S.Disk.seen.view c.choose.new.site) c.in_err-choose.field-0.0 c.in_err-choose.ensures.why at (stated_is c.from_residual.result _ _ c.from_residual.ensures.1 is))

pub returns-clause-why : goal.returns-clause-why
returns-clause-why g c =
    why_later (g.S.Disk.seen.view c.args.site.now) (g.S.Disk.seen.view c.choose.new.site) (g.S.Disk.seen.view c.start.new.site) c.start.result
    c.choose.ensures.only.silent.no_fewer c.choose.ensures.only.contents c.start.ensures.why

pub returns-in_err-choose-clause-why : goal.returns-in_err-choose-clause-why
returns-in_err-choose-clause-why g c = search (rules, unopened_chosen)

pub returns-clause-chosen : goal.returns-clause-chosen
returns-clause-chosen g c =
    chosen_still c.start.result c.args.selection (g.S.Disk.seen.view c.args.site.now) (g.S.Disk.seen.view c.choose.new.site) (g.S.Disk.seen.view c.start.new.site) c.in_ok-choose.ensures.chosen c.start.ensures.disk_alone.link.chosen

pub returns-clause-spared : goal.returns-clause-spared
returns-clause-spared g c =
    chosen_spared g.S.Disk.seen c.args.site.now c.choose.new.site c.start.new.site
    c.choose.ensures.only.contents c.choose.ensures.only.any_moment c.choose.ensures.only.crash c.start.ensures.spared

pub returns-in_err-choose-clause-spared : goal.returns-in_err-choose-clause-spared
returns-in_err-choose-clause-spared g c =
    unwritten_spared g.S.Disk.seen c.args.site.now c.choose.new.site (only_untouched g.S.Disk.seen c.args.site.now c.choose.new.site c.choose.ensures.only)
