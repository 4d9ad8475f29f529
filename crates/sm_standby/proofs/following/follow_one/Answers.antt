use Rattle.std.proofs.Common.{[], ◌∷◌, None, Err, ap, sym, ◌∙◌}
use Rattle.std.specs.Prelude.{is_some}
use Rattle.std.proofs.lemmas.Result.{IfErr-weaker}
use Rattle.sm_standby.specs.declared.report.FollowEnd.{FollowEnd}
use Rattle.sm_log.specs.Logs.{kept_at}
use Rattle.sm_standby.specs.declared.placing.Step.TheVariants as step
use Rattle.sm_standby.specs.Waiting.{waits}
use Rattle.sm_standby.specs.Turns.{candidate}
use Rattle.sm_standby.proofs.Opens.{or_left, on_both, passed_on}
use Rattle.sm_standby.proofs.Taking.{follows_passed, follows_on, follows_stands, follows_settled, follows_dropped, follows_later, ends_none, ends_one, ends_then, ends_wanting, went_at}
use Rattle.sm_standby.proofs.Taking.{stopped_at, open_turn, no_some, later_kept}
use Rattle.sm_standby.proofs.following.follow_one.Goals as goal

pub returns-then-is_there-clause-ok : goal.returns-then-is_there-clause-ok
returns-then-is_there-clause-ok g c = λ log more s o d.
    follows_passed g.met.D.Disk.no_later g.met.C.Dial.later_same c.args.disk.now c.args.dial.now c.args.archive.now log c.args.held.now c.args.address.now more s o d (sym (c.is_there.ensures s.bodies
    s.body log None s.keeps) ∙ c.if-is_there.true)

pub place_one-requires-clause-absent : goal.place_one-requires-clause-absent
place_one-requires-clause-absent g c = λ log s.
    ap (kept_at log) c.in_ok-copy.ensures
    ∙ no_some (kept_at log c.args.address.now) (or_left (is_some (kept_at log c.args.address.now)) (waits c.args.address.now c.args.held.now) (sym (c.is_there.ensures s.bodies s.body log None s.keeps) ∙ c.if-is_there.false))

pub take_held-requires : goal.take_held-requires
take_held-requires g c =
    let r = c.requires.stands in
    let turn = open_turn r.0 c.args.held.now c.args.address.now [] r.3 (sym (c.is_there.ensures r.1.bodies r.1.body r.0 None r.1.keeps) ∙ c.if-is_there.false) in
    let w = went_at c.args.listing.now c.url_of-url.result.now c.in_ok-copy.copy c.args.address.now c.in_ok-copy.ensures c.url_of-url.ensures c.in-Kept.is (c.in_ok-step.ensures.ok r.0 r.1) in
    let f = follows_settled {listing = c.args.listing.now} r.0 c.args.held.now c.args.address.now [] step.Kept w turn r.2 (λ m n e. cc) in
    record { stands = (f.0.log, follows_stands f.0, f.0.waiting) }

pub returns-in_err-copy-clause-err : goal.returns-in_err-copy-clause-err
returns-in_err-copy-clause-err g c =
    passed_on c.from_residual.result _ _ c.from_residual.ensures.1
    (λ log more s o d. ends_none g.met.D.Disk.no_later g.met.C.Dial.later_same c.args.disk.now c.args.dial.now c.args.archive.now log c.args.held.now (c.args.address.now ∷ more) s)

pub returns-in_err-step-clause-err : goal.returns-in_err-step-clause-err
returns-in_err-step-clause-err g c =
    passed_on c.from_residual-in_err-step.result _ _ c.from_residual-in_err-step.ensures.1
    (λ log more s o d.
    let turn = open_turn log c.args.held.now c.args.address.now more d (sym (c.is_there.ensures s.bodies s.body log None s.keeps) ∙ c.if-is_there.false) in
    ends_one log c.args.held.now (c.args.address.now ∷ more) (candidate c.args.address.now) c.in_err-step.field-0.0
    (stopped_at c.args.listing.now c.url_of-url.result.now c.in_ok-copy.copy c.args.address.now c.in_ok-copy.ensures c.url_of-url.ensures (c.in_err-step.ensures.err log s))
    turn (λ is. c.in_err-step.ensures.fault (ap (λ (e : FollowEnd). Err e) is)))

pub returns-in-Passed-clause-ok : goal.returns-in-Passed-clause-ok
returns-in-Passed-clause-ok g c = λ log more s o d.
    let turn = open_turn log c.args.held.now c.args.address.now more d (sym (c.is_there.ensures s.bodies s.body log None s.keeps) ∙ c.if-is_there.false) in
    follows_dropped log c.args.held.now c.args.address.now more
    (went_at c.args.listing.now c.url_of-url.result.now c.in_ok-copy.copy c.args.address.now c.in_ok-copy.ensures c.url_of-url.ensures c.in-Passed.is (c.in_ok-step.ensures.ok log s)) turn o

pub returns-in_ok-add-in-Later-clause-ok : goal.returns-in_ok-add-in-Later-clause-ok
returns-in_ok-add-in-Later-clause-ok g c = λ log more s o d.
    let turn = open_turn log c.args.held.now c.args.address.now more d (sym (c.is_there.ensures s.bodies s.body log None s.keeps) ∙ c.if-is_there.false) in
    follows_later log c.args.held.now c.add.new.self c.args.address.now more c.in-Later.place c.in-Later.later
    (went_at c.args.listing.now c.url_of-url.result.now c.in_ok-copy.copy c.args.address.now c.in_ok-copy.ensures c.url_of-url.ensures c.in-Later.is (c.in_ok-step.ensures.ok log s)) turn o c.in_ok-add-in-Later.ensures.ok

pub returns-in_err-add-in-Later-clause-err : goal.returns-in_err-add-in-Later-clause-err
returns-in_err-add-in-Later-clause-err g c =
    passed_on c.from_residual-in_err-add-in-Later.result _ _ c.from_residual-in_err-add-in-Later.ensures.1
    (λ log more s o d.
    let turn = open_turn log c.args.held.now c.args.address.now more d (sym (c.is_there.ensures s.bodies s.body log None s.keeps) ∙ c.if-is_there.false) in
    let w = went_at c.args.listing.now c.url_of-url.result.now c.in_ok-copy.copy c.args.address.now c.in_ok-copy.ensures c.url_of-url.ensures c.in-Later.is (c.in_ok-step.ensures.ok log s) in
    ends_wanting log c.args.held.now c.args.address.now (c.args.address.now ∷ more) (step.Later c.in-Later.place c.in-Later.later) w turn (later_kept w))

pub returns-in-Kept-clause-ok : goal.returns-in-Kept-clause-ok
returns-in-Kept-clause-ok g c =
    on_both c.take_held.result
    (λ ok nothing log more s o d.
    let turn = open_turn log c.args.held.now c.args.address.now more d (sym (c.is_there.ensures s.bodies s.body log None s.keeps) ∙ c.if-is_there.false) in
    let w = went_at c.args.listing.now c.url_of-url.result.now c.in_ok-copy.copy c.args.address.now c.in_ok-copy.ensures c.url_of-url.ensures c.in-Kept.is (c.in_ok-step.ensures.ok log s) in
    let f = follows_settled log c.args.held.now c.args.address.now more step.Kept w turn o (λ m n e. cc) in
    let t = ok f.0.log more (follows_stands f.0) f.0.waiting in
    follows_on g.met.C.Dial.later_then f.0 (t, nothing t.log (follows_stands t)))
    c.take_held.ensures.ok c.take_held.ensures.nothing

pub returns-in-Kept-clause-err : goal.returns-in-Kept-clause-err
returns-in-Kept-clause-err g c =
    IfErr-weaker c.take_held.result _ _
    (λ end err log more s o d.
    let turn = open_turn log c.args.held.now c.args.address.now more d (sym (c.is_there.ensures s.bodies s.body log None s.keeps) ∙ c.if-is_there.false) in
    let w = went_at c.args.listing.now c.url_of-url.result.now c.in_ok-copy.copy c.args.address.now c.in_ok-copy.ensures c.url_of-url.ensures c.in-Kept.is (c.in_ok-step.ensures.ok log s) in
    let f = follows_settled log c.args.held.now c.args.address.now more step.Kept w turn o (λ m n e. cc) in
    ends_then end g.met.C.Dial.later_then f.0 (err f.0.log more (follows_stands f.0) f.0.waiting))
    c.take_held.ensures.err
