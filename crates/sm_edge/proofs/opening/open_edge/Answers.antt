use Rattle.std.proofs.Common.{◌∙◌, inl, inr, refl, ap, Option}
use Rattle.std.proofs.lemmas.Result.{err_from_is_err_and}
use Rattle.std.specs.Prelude.{is_some}
use Rattle.sm_site.specs.Image.{Image}
use Rattle.sm_command.specs.Lasting.{NoFewer}
use Rattle.sm_command.proofs.Chosen.{chosen_still}
use Rattle.sm_command.proofs.Lasting.{chosen_spared, chosen_untouched, counts_then, only_untouched, silent_then, unwritten_spared}
use Rattle.sm_ends.proofs.Unread.{passed_on}
use Rattle.sm_edge.specs.Opening.{IsSiteOf}
use Rattle.sm_edge.proofs.Edges.{if_err, if_ok}
use Rattle.sm_edge.proofs.Outlasting.{chosen_begins, opened_begins}
use Rattle.sm_edge.proofs.opening.open_edge.Goals as goal

pub returns-clause-opened : goal.returns-clause-opened
returns-clause-opened g c =
    let V = g.S.Disk.seen.view in
    let chosen : NoFewer (V c.args.site.now) (V c.choose.new.site) = c.choose.ensures.only.silent.no_fewer in
    let site : IsSiteOf g.S.Disk.seen c.args.selection c.args.site.now c.choose.new.site =
    record { chosen_is = c.in_ok-choose.ensures.chosen; contents = c.choose.ensures.only.contents; crash = c.choose.ensures.only.crash; no_fewer = chosen } in
    if_ok c.open_beside.result
    (λ edge store. record {
      selected = c.choose.new.site;
      site = site;
      no_fewer = counts_then (V c.args.site.now) (V c.choose.new.site) (V c.open_beside.new.disk) chosen c.open_beside.ensures.disk_alone.no_fewer c.open_beside.ensures.disk_alone.link.link_faults;
      store = store;
    })
    c.open_beside.ensures.opened

pub returns-clause-why : goal.returns-clause-why
returns-clause-why g c =
    let V = g.S.Disk.seen.view in
    let chosen : NoFewer (V c.args.site.now) (V c.choose.new.site) = c.choose.ensures.only.silent.no_fewer in
    let site : IsSiteOf g.S.Disk.seen c.args.selection c.args.site.now c.choose.new.site =
    record { chosen_is = c.in_ok-choose.ensures.chosen; contents = c.choose.ensures.only.contents; crash = c.choose.ensures.only.crash; no_fewer = chosen } in
    if_err c.open_beside.result (λ why no. inr (inr (c.choose.new.site, site, no))) c.open_beside.ensures.why

pub returns-in_err-choose-clause-why : goal.returns-in_err-choose-clause-why
returns-in_err-choose-clause-why g c = passed_on c.from_residual.result _ _ c.from_residual.ensures.1 (inl (c.in_err-choose.ensures.why, refl, c.choose.ensures.only))

pub returns-in_err-turn-clause-why : goal.returns-in_err-turn-clause-why
returns-in_err-turn-clause-why g c =
    passed_on c.from_residual-in_err-turn.result _ _ c.from_residual-in_err-turn.ensures.1 (inr (inl (c.in_err-turn.ensures.why, refl, c.choose.ensures.only)))

pub returns-in_err-choose-clause-chosen : goal.returns-in_err-choose-clause-chosen
returns-in_err-choose-clause-chosen g c = let p = err_from_is_err_and c.from_residual.result c.from_residual.ensures.1 in rw p.1 (inr c.in_err-choose.ensures.unchosen)

pub returns-in_err-turn-clause-chosen : goal.returns-in_err-turn-clause-chosen
returns-in_err-turn-clause-chosen g c =
    let p = err_from_is_err_and c.from_residual-in_err-turn.result c.from_residual-in_err-turn.ensures.1 in rw p.1 (inl c.in_ok-choose.ensures.chosen)

pub returns-clause-chosen : goal.returns-clause-chosen
returns-clause-chosen g c =
    chosen_still c.open_beside.result c.args.selection (g.S.Disk.seen.view c.args.site.now) (g.S.Disk.seen.view c.choose.new.site)
    (g.S.Disk.seen.view c.open_beside.new.disk) c.in_ok-choose.ensures.chosen c.open_beside.ensures.disk_alone.link.chosen

pub returns-clause-silent : goal.returns-clause-silent
returns-clause-silent g c =
    silent_then (g.S.Disk.seen.view c.args.site.now) (g.S.Disk.seen.view c.choose.new.site) (g.S.Disk.seen.view c.open_beside.new.disk)
    c.choose.ensures.only.silent c.open_beside.ensures.disk_alone

pub returns-in_err-turn-clause-silent : goal.returns-in_err-turn-clause-silent
returns-in_err-turn-clause-silent g c = c.choose.ensures.only.silent

pub returns-in_err-choose-clause-silent : goal.returns-in_err-choose-clause-silent
returns-in_err-choose-clause-silent g c = c.choose.ensures.only.silent

pub returns-clause-any_moment : goal.returns-clause-any_moment
returns-clause-any_moment g c some log one =
    opened_begins g.S.Disk.seen log c.args.site.now c.choose.new.site c.open_beside.new.disk one c.choose.ensures.only.any_moment c.choose.ensures.only.crash
    (c.open_beside.ensures.any_moment (ap (λ (x : Option Image). is_some x) c.choose.ensures.only.contents ∙ some))

pub returns-in_err-turn-clause-any_moment : goal.returns-in_err-turn-clause-any_moment
returns-in_err-turn-clause-any_moment g c some log one = chosen_begins g.S.Disk.seen log c.args.site.now c.choose.new.site one c.choose.ensures.only.any_moment

pub returns-in_err-choose-clause-any_moment : goal.returns-in_err-choose-clause-any_moment
returns-in_err-choose-clause-any_moment g c some log one = chosen_begins g.S.Disk.seen log c.args.site.now c.choose.new.site one c.choose.ensures.only.any_moment

pub returns-clause-untouched : goal.returns-clause-untouched
returns-clause-untouched g c at is =
    chosen_untouched g.S.Disk.seen c.args.site.now c.choose.new.site c.open_beside.new.disk c.choose.ensures.only (c.open_beside.ensures.untouched at is)

pub returns-clause-spared : goal.returns-clause-spared
returns-clause-spared g c =
    chosen_spared g.S.Disk.seen c.args.site.now c.choose.new.site c.open_beside.new.disk
    c.choose.ensures.only.contents c.choose.ensures.only.any_moment c.choose.ensures.only.crash c.open_beside.ensures.spared

pub returns-in_err-turn-clause-spared : goal.returns-in_err-turn-clause-spared
returns-in_err-turn-clause-spared g c =
    unwritten_spared g.S.Disk.seen c.args.site.now c.choose.new.site (only_untouched g.S.Disk.seen c.args.site.now c.choose.new.site c.choose.ensures.only)

pub returns-in_err-choose-clause-spared : goal.returns-in_err-choose-clause-spared
returns-in_err-choose-clause-spared g c =
    unwritten_spared g.S.Disk.seen c.args.site.now c.choose.new.site (only_untouched g.S.Disk.seen c.args.site.now c.choose.new.site c.choose.ensures.only)
