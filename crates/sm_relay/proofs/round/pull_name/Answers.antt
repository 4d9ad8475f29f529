use Rattle.std.proofs.Common.{sym, ◌∙◌}
use Rattle.sm_log.specs.Adds.{tracks_of}
use Rattle.sm_pull.proofs.Judging.{on_ok, if_err}
use Rattle.sm_relay.specs.Wants.{wants_over, first_wants}
use Rattle.sm_relay.proofs.Walked.{pulls_none, pulls_as, stops_as}
use Rattle.sm_relay.proofs.Wanted.{first_wants_none, first_wants_found, first_wants_absent}
use Rattle.sm_relay.proofs.round.pull_name.Goals as goal

pub returns-then-has_name-clause-ok : goal.returns-then-has_name-clause-ok
returns-then-has_name-clause-ok g c = λ log s. pulls_none g.met.D.Disk.no_later g.met.C.Dial.later_same c.args.disk.now c.args.dial.now c.args.archive.now log _
    (first_wants_none c.args.channel.now c.args.listing.now c.args.before.now c.args.track.now (sym c.has_name.ensures ∙ c.if-has_name.true)) s

pub returns-in-Some-clause-ok : goal.returns-in-Some-clause-ok
returns-in-Some-clause-ok g c = on_ok c.pull_stream.result (λ ok log s.
    pulls_as (wants_over c.in-Some.stream.now.pattern (tracks_of c.in-Some.stream.now.name c.args.channel.now) c.in-Some.stream.now.times) (first_wants c.args.channel.now c.args.listing.now c.args.before.now c.args.track.now)
    (first_wants_found c.args.channel.now c.args.listing.now c.args.before.now c.args.track.now c.in-Some.stream.now (sym c.has_name.ensures ∙ c.if-has_name.false) c.in-Some.ensures) (ok log s)) c.pull_stream.ensures.ok

pub returns-in-Some-clause-err : goal.returns-in-Some-clause-err
returns-in-Some-clause-err g c = if_err c.pull_stream.result (λ why err log s.
    stops_as why (wants_over c.in-Some.stream.now.pattern (tracks_of c.in-Some.stream.now.name c.args.channel.now) c.in-Some.stream.now.times) (first_wants c.args.channel.now c.args.listing.now c.args.before.now c.args.track.now)
    (first_wants_found c.args.channel.now c.args.listing.now c.args.before.now c.args.track.now c.in-Some.stream.now (sym c.has_name.ensures ∙ c.if-has_name.false) c.in-Some.ensures) (err log s)) c.pull_stream.ensures.err

pub returns-in-None-clause-ok : goal.returns-in-None-clause-ok
returns-in-None-clause-ok g c = λ log s. pulls_none g.met.D.Disk.no_later g.met.C.Dial.later_same c.args.disk.now c.args.dial.now c.args.archive.now log _
    (first_wants_absent c.args.channel.now c.args.listing.now c.args.before.now c.args.track.now (sym c.has_name.ensures ∙ c.if-has_name.false) c.in-None.ensures) s
