use Rattle.std.proofs.Common.{◌++◌, ◌+◌, refl}
use Rattle.std.proofs.lemmas.Result.{err_from_is_err_and}
use Rattle.sm_pull.specs.Adds.{keeps_of}
use Rattle.sm_pull.proofs.Disks.{rose_since}
use Rattle.sm_relay.specs.Rounds.{kept_in}
use Rattle.sm_relay.proofs.Rounding.{ran_none, ran_more, ran_out, runs_behind, breaks_behind}
use Rattle.sm_relay.proofs.rounds.pull_rounds.Goals as goal

pub loop-round-init : goal.loop-round-init
loop-round-init g c = λ log s. ran_none g.met.D.Disk.no_later g.met.C.Dial.later_same c.args.disk.now c.args.dial.now c.args.archive.now log s

pub pull_round-requires-clause-stands : goal.pull_round-requires-clause-stands
pull_round-requires-clause-stands g c =
    let p = c.loop-round.invariant c.requires.stands.0 c.requires.stands.1 in
    (c.requires.stands.0 ++ keeps_of (kept_in p.rounds), p.adds.stands)

pub loop-round-preserved : goal.loop-round-preserved
loop-round-preserved g c = λ log s.
    let p = c.loop-round.invariant log s in
    ran_more (c.loop-round.round + 1) g.met.C.Dial.later_then p
    (runs_behind g.met.C.Dial.later_then c.rest.ensures (c.in_ok-pull_round.ensures.ok (log ++ keeps_of (kept_in p.rounds)) p.adds.stands)) refl

pub returns-in_err-pull_round-clause-err : goal.returns-in_err-pull_round-clause-err
returns-in_err-pull_round-clause-err g c =
    let q = err_from_is_err_and c.from_residual.result c.from_residual.ensures.1 in
    rw (q.1, q.2) (λ log s.
    let p = c.loop-round.invariant log s in
    ran_out c.in_err-pull_round.field-0.0 g.met.C.Dial.later_then p c.loop-round-test.true
    (breaks_behind c.in_err-pull_round.field-0.0 g.met.C.Dial.later_then c.rest.ensures (c.in_err-pull_round.ensures.err (log ++ keeps_of (kept_in p.rounds)) p.adds.stands)))

pub returns-in_err-pull_round-clause-fault : goal.returns-in_err-pull_round-clause-fault
returns-in_err-pull_round-clause-fault g c =
    let q = err_from_is_err_and c.from_residual.result c.from_residual.ensures.1 in
    rw (q.1, q.2) (λ e.
    let p = c.loop-round.invariant c.requires.stands.0 c.requires.stands.1 in
    rose_since (g.D.Disk.seen.view c.args.disk.now).disk_faults (g.D.Disk.seen.view c.loop-round.disk).disk_faults (g.D.Disk.seen.view c.pull_round.new.disk).disk_faults p.adds.disk_alone.no_fewer (c.in_err-pull_round.ensures.fault e))
