use Rattle.std.proofs.Common.{[], ◌∷◌, ◌++◌, ◌+◌, take, drop, refl}
use Rattle.std.proofs.lemmas.Result.{err_from_is_err_and}
use Rattle.sm_pull.specs.Adds.{keeps_of}
use Rattle.sm_pull.proofs.Disks.{rose_since}
use Rattle.sm_log.specs.Adds.{tracks_of}
use Rattle.sm_relay.specs.Wants.{wants_at}
use Rattle.sm_relay.proofs.Wanted.{wants_at_more, wants_at_rest, wants_at_all}
use Rattle.sm_relay.proofs.Walked.{pulls_none, pulls_then, stops_then, pulls_as}
use Rattle.sm_relay.proofs.stream.pull_time.Goals as goal

pub loop-track-init : goal.loop-track-init
loop-track-init g c = λ log s. pulls_none g.met.D.Disk.no_later g.met.C.Dial.later_same c.args.disk.now c.args.dial.now c.args.archive.now log _ refl s

pub pull_track-requires : goal.pull_track-requires
pull_track-requires g c =
    let p = c.loop-track.invariant c.requires.stands.0 c.requires.stands.1 in
    record { stands = (c.requires.stands.0 ++ keeps_of p.added, p.adds.stands) }

pub loop-track-preserved : goal.loop-track-preserved
loop-track-preserved g c = λ log s.
    let p = c.loop-track.invariant log s in
    pulls_then (wants_at c.args.stream.now.pattern c.args.time (tracks_of c.args.stream.now.name (take (c.loop-track.track-index + 1) c.args.channel.now))) (wants_at c.args.stream.now.pattern
    c.args.time (tracks_of c.args.stream.now.name (take c.loop-track.track-index c.args.channel.now))) (wants_at c.args.stream.now.pattern c.args.time (tracks_of c.args.stream.now.name
    (c.track-item.result ∷ []))) (wants_at_more c.args.stream.now.pattern c.args.time c.args.stream.now.name c.args.channel.now c.loop-track.track-index c.track-item.result c.loop-track-test.true
    c.track-item.is) g.met.C.Dial.later_then p (c.in_ok-pull_track.ensures.ok (log ++ keeps_of p.added) p.adds.stands)

pub returns-in_err-pull_track-clause-err : goal.returns-in_err-pull_track-clause-err
returns-in_err-pull_track-clause-err g c =
    let q = err_from_is_err_and c.from_residual.result c.from_residual.ensures.1 in
    rw (q.1, q.2) (λ log s.
    let p = c.loop-track.invariant log s in
    stops_then c.in_err-pull_track.field-0.0 (wants_at c.args.stream.now.pattern c.args.time (tracks_of c.args.stream.now.name (c.args.channel.now))) (wants_at c.args.stream.now.pattern c.args.time (tracks_of
    c.args.stream.now.name (take c.loop-track.track-index c.args.channel.now))) (wants_at c.args.stream.now.pattern c.args.time (tracks_of c.args.stream.now.name (c.track-item.result ∷ [])))
    (wants_at c.args.stream.now.pattern c.args.time (tracks_of c.args.stream.now.name (drop (c.loop-track.track-index + 1) c.args.channel.now))) (wants_at_rest c.args.stream.now.pattern
    c.args.time c.args.stream.now.name c.args.channel.now c.loop-track.track-index c.track-item.result c.loop-track-test.true c.track-item.is) g.met.C.Dial.later_then p (c.in_err-pull_track.ensures.err (log
    ++ keeps_of p.added) p.adds.stands))

pub returns-in_err-pull_track-clause-fault : goal.returns-in_err-pull_track-clause-fault
returns-in_err-pull_track-clause-fault g c =
    let q = err_from_is_err_and c.from_residual.result c.from_residual.ensures.1 in
    rw (q.1, q.2) (λ e.
    let p = c.loop-track.invariant c.requires.stands.0 c.requires.stands.1 in
    rose_since (g.D.Disk.seen.view c.args.disk.now).disk_faults (g.D.Disk.seen.view c.loop-track.disk).disk_faults (g.D.Disk.seen.view c.pull_track.new.disk).disk_faults p.adds.disk_alone.no_fewer (c.in_err-pull_track.ensures.fault e))

pub returns-clause-ok : goal.returns-clause-ok
returns-clause-ok g c = λ log s. pulls_as (wants_at c.args.stream.now.pattern c.args.time (tracks_of c.args.stream.now.name (take c.loop-track.track-index c.args.channel.now))) (wants_at
    c.args.stream.now.pattern c.args.time (tracks_of c.args.stream.now.name (c.args.channel.now))) (wants_at_all c.args.stream.now.pattern c.args.time c.args.stream.now.name c.args.channel.now
    c.loop-track.track-index c.loop-track-test.false) (c.loop-track.invariant log s)
