use Rattle.std.proofs.Common.{rules, ◌≡◌, ◌∙◌, ℕ, ◌+◌, map, vec_len, sym, ap, subst, arith}
use Rattle.sm_shelf.specs.Shelf.{Desk, Table, bare, shut}
use Rattle.sm_show.proofs.Resting.{recalls_here}
use Rattle.sm_players.specs.Wiring.{Wires}
use Rattle.sm_run.specs.Staff.{Joins, JoinsSome, staff_of}
use Rattle.sm_run.proofs.Beginning.{later_rose, nothing_belongs, shown_on, shut_shown}
use Rattle.sm_run.proofs.Starts.{joins, starts_from}
use Rattle.sm_run.proofs.showing.show.Goals as goal

pub returns-clause-shown : goal.returns-clause-shown
returns-clause-shown g c h serves some =
    let log = h.point.machine.log in
    let made = c.in-Ok-make.ensures.writer in
    let s = c.in_ok-served.ensures.shown h serves some (nothing_belongs log c.in-Ok-make.writer (ap (λ (d : Desk). d.published) made) (ap (λ (d : Desk). d.pending) made)) in
    let down = c.serve_beside-ended.new.writer in
    shown_on g.S.Disk.seen h c.in_ok-served.served c.args.turns c.serve_beside-ended.new.state c.serve_beside-ended.new.site c.in-Ok-make.writer (bare c.end-shelf.result.table)
    (shut down) c.end-shelf.result
    (made ∙ ap bare (sym c.in_ok-served.ensures.table ∙ ap (λ (d : Desk). d.table) (sym c.end-shelf.ensures))) (sym c.end-shelf.ensures)
    (s.0, shut_shown h c.in_ok-served.served s.0.later c.in-Ok-make.writer down s.1)

pub returns-in_default-clause-idle : goal.returns-in_default-clause-idle
returns-in_default-clause-idle g c = recalls_here g.S.Disk.seen c.args.state.now c.args.site.now c.requires.stands

pub returns-in_default-make-clause-idle : goal.returns-in_default-make-clause-idle
returns-in_default-make-clause-idle g c = recalls_here g.S.Disk.seen c.args.state.now c.args.site.now c.requires.stands

pub returns-clause-staffed : goal.returns-clause-staffed
returns-clause-staffed g c =
    let s = g.P.Spawner in
    let old = c.args.spawner.now in
    let ran = c.in_ok-served.ensures in
    let f = c.finish-finished.ensures in
    let players : c.wiring.inside.players ≡ c.args.wiring.players = ap (λ (w : Wires). w.players) c.wiring.view_is in
    let readers = c.in-Ok-make.ensures.readers.0 ∙ players in
    let none = c.new-running.ensures.len in
    let count = ran.count in
    let all : c.finish-finished.result.done + c.finish-finished.result.faulted + c.finish-finished.result.starved ≡ vec_len c.serve_beside-ended.new.running = f.all in
    let first = ran.started in
    let later = ran.later in
    let later_yet = f.later in
    let start = staff_of s.spawn_faults s.started s.limit s.chosen s.ended old in
    let over = staff_of s.spawn_faults s.started s.limit s.chosen s.ended c.finish-finished.new.self in
    record {
      joins =
          subst (λ (t : Table). Joins t start over) (sym (ap (λ (d : Desk). d.table) c.end-shelf.ensures ∙ ran.table))
          (joins c.in-Ok-make.writer.table start over (s.started c.serve_beside-ended.new.spawner) (map (λ h. h.promise) c.serve_beside-ended.new.running.items)
          (starts_from _ _ _ _ _ _ (ap (map (λ h. h.promise)) c.new-running.ensures.items) ran.starts) f.started f.played.each);
      started = f.started ∙ first ∙ ap (λ (n : ℕ). s.started old + n) readers;
      chosen = f.chosen ∙ ran.wires;
      counted = f.played.counted;
      all = omega (arith, all, count, first, readers, none);
      blamed = λ some. later_rose (s.spawn_faults old) (s.spawn_faults c.serve_beside-ended.new.spawner) (s.spawn_faults c.finish-finished.new.self) later (f.faulted some);
      later = omega (arith, later, later_yet);
    }

pub returns-in_err-served-clause-why : goal.returns-in_err-served-clause-why
returns-in_err-served-clause-why g c =
    let s = g.P.Spawner in
    let ran = c.in_err-served.ensures in
    let f = c.finish-finished.ensures in
    let start = staff_of s.spawn_faults s.started s.limit s.chosen s.ended c.args.spawner.now in
    let over = staff_of s.spawn_faults s.started s.limit s.chosen s.ended c.finish-finished.new.self in
    let some : JoinsSome start over = (
      c.in-Ok-make.writer.table,
      joins c.in-Ok-make.writer.table start over (s.started c.serve_beside-ended.new.spawner) (map (λ h. h.promise) c.serve_beside-ended.new.running.items)
          (starts_from _ _ _ _ _ _ (ap (map (λ h. h.promise)) c.new-running.ensures.items) ran.starts) f.started f.played.each,
    ) in
    search rules
