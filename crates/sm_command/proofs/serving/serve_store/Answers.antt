use Rattle.std.proofs.Common.{rules, ◌∙◌}
use Rattle.sm_command.proofs.Chosen.{chosen_still}
use Rattle.sm_command.proofs.Lasting.{found_spared, silent_lasts}
use Rattle.sm_command.proofs.Starting.{has_run, opened_lasts, why_stopped, why_unopened}
use Rattle.sm_command.proofs.serving.serve_store.Goals as goal

pub returns-clause-run : goal.returns-clause-run
returns-clause-run g c =
    has_run g.S.Disk.seen g.met.S.Disk.contents_pass g.met.S.Disk.at_now g.met.S.Disk.now_at c.stores_have_one_reading.ensures.one_list c.bodies_have_one_log.ensures
    c.args.ladder _ _ c.args.turns c.in_ok-state.state c.args.site.now c.open_state.new.site c.serve_state.new.site c.serve_state.result
    c.in_ok-state.ensures.found c.in_ok-state.ensures.begins c.in_ok-state.ensures.any_moment c.in_ok-state.ensures.silent.transcript c.in_ok-state.ensures.silent.no_fewer c.serve_state.ensures.run

pub returns-clause-why : goal.returns-clause-why
returns-clause-why g c =
    why_stopped g.S.Disk.seen c.args.ladder _ _ c.in_ok-state.state c.args.site.now c.open_state.new.site c.serve_state.new.site c.serve_state.result
    c.in_ok-state.ensures.found c.in_ok-state.ensures.silent.no_fewer c.in_ok-state.ensures.silent.transcript c.in_ok-state.ensures.begins
    c.serve_state.ensures.why c.serve_state.ensures.silent c.serve_state.ensures.no_fewer c.serve_state.ensures.counted

pub returns-in_err-state-clause-why : goal.returns-in_err-state-clause-why
returns-in_err-state-clause-why g c = search (rules, why_unopened)

pub returns-clause-any_moment : goal.returns-clause-any_moment
returns-clause-any_moment g c =
    opened_lasts g.S.Disk.seen g.met.S.Disk.contents_pass g.met.S.Disk.at_now g.met.S.Disk.now_at c.stores_have_one_reading.ensures.one_list c.bodies_have_one_log.ensures
    c.in_ok-state.state c.args.site.now c.open_state.new.site c.serve_state.new.site c.in_ok-state.ensures.found c.in_ok-state.ensures.silent.transcript
    c.in_ok-state.ensures.begins c.in_ok-state.ensures.any_moment c.serve_state.ensures.lasts

pub returns-in_err-state-clause-any_moment : goal.returns-in_err-state-clause-any_moment
returns-in_err-state-clause-any_moment g c some log one base told =
    silent_lasts g.S.Disk.seen g.met.S.Disk.at_now log base c.args.site.now c.open_state.new.site one (c.in_err-state.ensures.any_moment log one) (c.in_err-state.ensures.silent.transcript ∙ told)

pub returns-clause-chosen : goal.returns-clause-chosen
returns-clause-chosen g c =
    chosen_still c.serve_state.result c.args.selection (g.S.Disk.seen.view c.args.site.now) (g.S.Disk.seen.view c.open_state.new.site) (g.S.Disk.seen.view c.serve_state.new.site) c.in_ok-state.ensures.chosen c.serve_state.ensures.chosen

pub returns-clause-spared : goal.returns-clause-spared
returns-clause-spared g c =
    let f = c.in_ok-state.ensures.found in
    found_spared g.S.Disk.seen f.machine.log c.args.site.now c.serve_state.new.site f.store
