use Rattle.std.proofs.Common.{inl, inr}
use Rattle.std.proofs.lemmas.Result.{IfErr-weaker, on_ok_weaker}
use Rattle.sm_standby.specs.declared.report.FollowEnd.TheVariants as ends
use Rattle.sm_standby.specs.Rounds.{nothing_listed}
use Rattle.sm_standby.proofs.Rounding.{rounds_one, ends_bare, bare, ends_turns}
use Rattle.sm_standby.proofs.round.follow_round.Goals as goal

pub returns-in-NoMemory-clause-err : goal.returns-in-NoMemory-clause-err
returns-in-NoMemory-clause-err g c = λ log s o.
    let e = c.in-NoMemory.ensures in
    ends_bare g.met.D.Disk.no_later c.args.disk.now c.args.archive.now log c.args.held.now e.0 nothing_listed ends.NoMemory s e.1 (inl (e.2, bare e.0 nothing_listed)) (λ is. cc)

pub returns-in-GaveUp-clause-err : goal.returns-in-GaveUp-clause-err
returns-in-GaveUp-clause-err g c = λ log s o.
    let e = c.in-GaveUp.ensures in
    ends_bare g.met.D.Disk.no_later c.args.disk.now c.args.archive.now log c.args.held.now e.0 nothing_listed (ends.NoManifest c.in-GaveUp.outcomes) s e.1 (inl (e.2, bare e.0 nothing_listed)) (λ is. cc)

pub returns-in-Some-clause-err : goal.returns-in-Some-clause-err
returns-in-Some-clause-err g c = λ log s o.
    let e = c.in-Read.ensures in
    ends_bare g.met.D.Disk.no_later c.args.disk.now c.args.archive.now log c.args.held.now e.0 c.in-Read.listing (ends.NoTrack c.in-Some.index) s e.1 (inr (e.2, inl (c.in-Some.ensures, bare e.0 c.in-Read.listing))) (λ is. cc)

pub returns-clause-ok : goal.returns-clause-ok
returns-clause-ok g c =
    on_ok_weaker c.follow_listing.result
    (λ ok log s o. let e = c.in-Read.ensures in let f = ok log s o in rounds_one c.in-Read.listing e.0 g.met.C.Dial.later_then e.1 e.2 c.in-None.ensures f.0 f.1)
    c.follow_listing.ensures.ok

pub returns-clause-err : goal.returns-clause-err
returns-clause-err g c =
    IfErr-weaker c.follow_listing.result _ _
    (λ end err log s o. let e = c.in-Read.ensures in ends_turns c.in-Read.listing e.0 end g.met.C.Dial.later_then e.1 e.2 c.in-None.ensures (err log s o))
    c.follow_listing.ensures.err
