use Rattle.std.proofs.Common.{ℕ, List, ◌++◌, ◌+◌, length, take, drop, get_or, refl, subst, ◌≤◌}
use Rattle.std.proofs.lemmas.Result.{err_from_is_err_and}
use Rattle.sm_pull.specs.Adds.{keeps_of}
use Rattle.sm_pull.proofs.Disks.{rose_since}
use Rattle.sm_log.specs.Adds.{tracks_of}
use Rattle.sm_relay.specs.Wants.{wants_at, wants_over}
use Rattle.sm_relay.proofs.Wanted.{wants_over_more, wants_over_rest, wants_over_all, lent_below, lent_is}
use Rattle.sm_relay.proofs.Walked.{pulls_none, pulls_then, stops_then, pulls_as}
use Rattle.sm_relay.proofs.stream.pull_stream.Goals as goal

pub loop-time-init : goal.loop-time-init
loop-time-init g c = λ log s. pulls_none g.met.D.Disk.no_later g.met.C.Dial.later_same c.args.disk.now c.args.dial.now c.args.archive.now log _ refl s

pub pull_time-requires : goal.pull_time-requires
pull_time-requires g c =
    let p = c.loop-time.invariant c.requires.stands.0 c.requires.stands.1 in
    record { stands = (c.requires.stands.0 ++ keeps_of p.added, p.adds.stands) }

pub loop-time-preserved : goal.loop-time-preserved
loop-time-preserved g c = λ log s.
    let p = c.loop-time.invariant log s in
    pulls_then (wants_over c.args.stream.now.pattern (tracks_of c.args.stream.now.name c.args.channel.now) (take (c.loop-time.time-index + 1) c.args.stream.now.times)) (wants_over
    c.args.stream.now.pattern (tracks_of c.args.stream.now.name c.args.channel.now) (take c.loop-time.time-index c.args.stream.now.times)) (wants_at c.args.stream.now.pattern (get_or
    c.as_slice-time-items.result.now c.loop-time.time-index (0, 0)).0 (tracks_of c.args.stream.now.name c.args.channel.now)) (wants_over_more c.args.stream.now.pattern (tracks_of
    c.args.stream.now.name c.args.channel.now) c.args.stream.now.times c.loop-time.time-index (get_or c.as_slice-time-items.result.now c.loop-time.time-index (0, 0)) (lent_below
    c.args.stream.now.times c.as_slice-time-items.result.now c.loop-time.time-index c.as_slice-time-items.ensures c.loop-time-test.true) (lent_is c.args.stream.now.times
    c.as_slice-time-items.result.now c.loop-time.time-index (0, 0) c.as_slice-time-items.ensures c.loop-time-test.true)) g.met.C.Dial.later_then p (c.in_ok-pull_time.ensures.ok (log ++ keeps_of p.added)
    p.adds.stands)

pub returns-in_err-pull_time-clause-err : goal.returns-in_err-pull_time-clause-err
returns-in_err-pull_time-clause-err g c =
    let q = err_from_is_err_and c.from_residual.result c.from_residual.ensures.1 in
    rw (q.1, q.2) (λ log s.
    let p = c.loop-time.invariant log s in
    stops_then c.in_err-pull_time.field-0.0 (wants_over c.args.stream.now.pattern (tracks_of c.args.stream.now.name c.args.channel.now) (c.args.stream.now.times)) (wants_over c.args.stream.now.pattern (tracks_of
    c.args.stream.now.name c.args.channel.now) (take c.loop-time.time-index c.args.stream.now.times)) (wants_at c.args.stream.now.pattern (get_or c.as_slice-time-items.result.now
    c.loop-time.time-index (0, 0)).0 (tracks_of c.args.stream.now.name c.args.channel.now)) (wants_over c.args.stream.now.pattern (tracks_of c.args.stream.now.name c.args.channel.now) (drop
    (c.loop-time.time-index + 1) c.args.stream.now.times)) (wants_over_rest c.args.stream.now.pattern (tracks_of c.args.stream.now.name c.args.channel.now) c.args.stream.now.times
    c.loop-time.time-index (get_or c.as_slice-time-items.result.now c.loop-time.time-index (0, 0)) (lent_below c.args.stream.now.times c.as_slice-time-items.result.now c.loop-time.time-index
    c.as_slice-time-items.ensures c.loop-time-test.true) (lent_is c.args.stream.now.times c.as_slice-time-items.result.now c.loop-time.time-index (0, 0) c.as_slice-time-items.ensures
    c.loop-time-test.true)) g.met.C.Dial.later_then p (c.in_err-pull_time.ensures.err (log ++ keeps_of p.added) p.adds.stands))

pub returns-in_err-pull_time-clause-fault : goal.returns-in_err-pull_time-clause-fault
returns-in_err-pull_time-clause-fault g c =
    let q = err_from_is_err_and c.from_residual.result c.from_residual.ensures.1 in
    rw (q.1, q.2) (λ e.
    let p = c.loop-time.invariant c.requires.stands.0 c.requires.stands.1 in
    rose_since (g.D.Disk.seen.view c.args.disk.now).disk_faults (g.D.Disk.seen.view c.loop-time.disk).disk_faults (g.D.Disk.seen.view c.pull_time.new.disk).disk_faults p.adds.disk_alone.no_fewer (c.in_err-pull_time.ensures.fault e))

pub returns-clause-ok : goal.returns-clause-ok
returns-clause-ok g c = λ log s. pulls_as (wants_over c.args.stream.now.pattern (tracks_of c.args.stream.now.name c.args.channel.now) (take c.loop-time.time-index c.args.stream.now.times))
    (wants_over c.args.stream.now.pattern (tracks_of c.args.stream.now.name c.args.channel.now) (c.args.stream.now.times)) (wants_over_all c.args.stream.now.pattern (tracks_of c.args.stream.now.name
    c.args.channel.now) c.args.stream.now.times c.loop-time.time-index (subst (λ (xs : List (ℕ × ℕ)). length xs ≤ c.loop-time.time-index) c.as_slice-time-items.ensures c.loop-time-test.false))
    (c.loop-time.invariant log s)
