use Rattle.std.proofs.Common.{◌∙◌}
use Rattle.sm_command.proofs.Lasting.{found_spared, silent_lasts}
use Rattle.sm_command.proofs.Starting.{opened_lasts}
use Rattle.sm_run.proofs.Beginning.{runs_shown, why_short}
use Rattle.sm_run.proofs.stores.show_store.Goals as goal

pub returns-in-Ok-clause-run : goal.returns-in-Ok-clause-run
returns-in-Ok-clause-run g c =
    runs_shown g.S.Disk.seen g.met.S.Disk.contents_pass g.met.S.Disk.at_now g.met.S.Disk.now_at c.stores_have_one_reading.ensures.one_list c.bodies_have_one_log.ensures
    c.args.ladder _ _ c.args.turns c.in-Ok.state c.args.site.now c.open_state.new.site c.show_state.new.site c.show_state.result
    c.in-Ok.ensures.found c.in-Ok.ensures.begins c.in-Ok.ensures.any_moment c.in-Ok.ensures.silent.transcript c.in-Ok.ensures.silent.no_fewer c.show_state.ensures.run

pub returns-in-Ok-clause-why : goal.returns-in-Ok-clause-why
returns-in-Ok-clause-why g c =
    why_short g.S.Disk.seen c.args.ladder c.args.wiring _ _ _ _ c.in-Ok.state c.args.site.now c.open_state.new.site c.show_state.new.site c.show_state.result
    c.in-Ok.ensures.found c.in-Ok.ensures.silent.no_fewer c.in-Ok.ensures.silent.transcript c.in-Ok.ensures.begins
    c.show_state.ensures.why c.show_state.ensures.silent c.show_state.ensures.no_fewer c.show_state.ensures.counted

pub returns-in-Ok-clause-any_moment : goal.returns-in-Ok-clause-any_moment
returns-in-Ok-clause-any_moment g c =
    opened_lasts g.S.Disk.seen g.met.S.Disk.contents_pass g.met.S.Disk.at_now g.met.S.Disk.now_at c.stores_have_one_reading.ensures.one_list c.bodies_have_one_log.ensures
    c.in-Ok.state c.args.site.now c.open_state.new.site c.show_state.new.site c.in-Ok.ensures.found c.in-Ok.ensures.silent.transcript c.in-Ok.ensures.begins c.in-Ok.ensures.any_moment c.show_state.ensures.lasts

pub returns-in-Err-clause-any_moment : goal.returns-in-Err-clause-any_moment
returns-in-Err-clause-any_moment g c some log one base told =
    silent_lasts g.S.Disk.seen g.met.S.Disk.at_now log base c.args.site.now c.open_state.new.site one (c.in-Err.ensures.any_moment log one) (c.in-Err.ensures.silent.transcript ∙ told)

pub returns-in-Ok-clause-spared : goal.returns-in-Ok-clause-spared
returns-in-Ok-clause-spared g c =
    let f = c.in-Ok.ensures.found in
    found_spared g.S.Disk.seen f.machine.log c.args.site.now c.show_state.new.site f.store
