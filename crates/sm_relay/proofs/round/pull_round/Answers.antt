use Rattle.std.proofs.Common.{refl, inl}
use Rattle.sm_pull.specs.declared.stop.Stop.TheVariants as stop
use Rattle.sm_pull.proofs.Judging.{on_ok, if_err}
use Rattle.sm_relay.proofs.Rounding.{round_ran, round_broke, round_stopped}
use Rattle.sm_relay.proofs.round.pull_round.Goals as goal

pub returns-in-Some-clause-err : goal.returns-in-Some-clause-err
returns-in-Some-clause-err g c = λ log s.
    let read = c.in-Read.ensures in
    round_stopped c.args.disk.now c.args.archive.now log read.0 (stop.NoTrack c.in-Some.index) g.met.D.Disk.no_later read.1
    (record { listing = c.in-Read.listing; read = read.2; lacks = c.in-Some.ensures; added_is = refl; tried_is = refl }) s

pub returns-in-Read-clause-ok : goal.returns-in-Read-clause-ok
returns-in-Read-clause-ok g c = on_ok c.pull_listing.result (λ ok log s. let read = c.in-Read.ensures in round_ran c.in-Read.listing g.met.C.Dial.later_then read.1 read.2 c.in-None.ensures (ok log s)) c.pull_listing.ensures.ok

pub returns-in-Read-clause-err : goal.returns-in-Read-clause-err
returns-in-Read-clause-err g c = if_err c.pull_listing.result (λ why err log s. let read = c.in-Read.ensures in round_broke c.in-Read.listing why g.met.C.Dial.later_then read.1 read.2
    c.in-None.ensures (err log s)) c.pull_listing.ensures.err

pub returns-in-GaveUp-clause-err : goal.returns-in-GaveUp-clause-err
returns-in-GaveUp-clause-err g c = λ log s.
    let gave = c.in-GaveUp.ensures in
    round_stopped c.args.disk.now c.args.archive.now log gave.0 (stop.NoManifest c.in-GaveUp.outcomes) g.met.D.Disk.no_later gave.1 (record { missed = gave.2; added_is = refl; tried_is = refl }) s

pub returns-clause-err : goal.returns-clause-err
returns-clause-err g c = λ log s.
    let out = c.in-NoMemory.ensures in
    round_stopped c.args.disk.now c.args.archive.now log out.0 stop.NoMemory g.met.D.Disk.no_later out.1 (inl (record { tries = out.2; added_is = refl; tried_is = refl })) s
