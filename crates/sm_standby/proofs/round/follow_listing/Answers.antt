use Rattle.std.proofs.Common.{ap, sym, ◌∙◌}
use Rattle.std.proofs.lemmas.Result.{IfErr-weaker, on_ok_weaker}
use Rattle.sm_standby.specs.Candidates.{addresses_by}
use Rattle.sm_standby.specs.Rounds.{addresses_of}
use Rattle.sm_standby.proofs.Opens.{passed_on}
use Rattle.sm_standby.proofs.Taking.{follows_stands, follows_next, ends_none, ends_next}
use Rattle.sm_standby.proofs.round.follow_listing.Goals as goal

pub follow_all-requires : goal.follow_all-requires
follow_all-requires g c =
    let r = c.requires.stands in
    let e = c.in_ok-take_held.ensures in
    let t = e.ok r.0 (addresses_of c.args.channel.now c.args.listing.now) r.1 r.2 in
    record { stands = (t.log, follows_stands t, t.waiting, e.nothing t.log (follows_stands t)) }

pub returns-in_err-all-clause-err : goal.returns-in_err-all-clause-err
returns-in_err-all-clause-err g c =
    passed_on c.from_residual.result _ _ c.from_residual.ensures.1
    (λ log s o.
    ends_none g.met.D.Disk.no_later g.met.C.Dial.later_same c.args.disk.now c.args.dial.now c.args.archive.now log c.args.held.now (addresses_of c.args.channel.now c.args.listing.now) s)

pub returns-in_err-take_held-clause-err : goal.returns-in_err-take_held-clause-err
returns-in_err-take_held-clause-err g c =
    passed_on c.from_residual-in_err-take_held.result _ _ c.from_residual-in_err-take_held.ensures.1
    (λ log s o. c.in_err-take_held.ensures.err log (addresses_of c.args.channel.now c.args.listing.now) s o)

pub returns-clause-ok : goal.returns-clause-ok
returns-clause-ok g c =
    on_ok_weaker c.follow_all.result
    (λ ok log s o.
    let ch = c.args.channel.now in
    let e = c.in_ok-take_held.ensures in
    let t = e.ok log (addresses_of ch c.args.listing.now) s o in
    follows_next (addresses_of ch c.args.listing.now) (addresses_by ch c.deref.result.now) _ g.met.C.Dial.later_then (t, e.nothing t.log (follows_stands t)) (ap (addresses_by ch) (sym
    (c.deref.ensures.value ∙ c.in_ok-all.ensures))) ok)
    c.follow_all.ensures.ok

pub returns-clause-err : goal.returns-clause-err
returns-clause-err g c =
    IfErr-weaker c.follow_all.result _ _
    (λ end err log s o.
    let ch = c.args.channel.now in
    let e = c.in_ok-take_held.ensures in
    let t = e.ok log (addresses_of ch c.args.listing.now) s o in
    ends_next (addresses_of ch c.args.listing.now) (addresses_by ch c.deref.result.now) end g.met.C.Dial.later_then (t, e.nothing t.log (follows_stands t)) (ap (addresses_by ch)
    (sym (c.deref.ensures.value ∙ c.in_ok-all.ensures))) err)
    c.follow_all.ensures.err
