use Rattle.std.proofs.Common.{◌≡◌, ℕ, None, Some, length, Err, ap, sym, ◌∙◌, subst}
use Rattle.sm_standby.specs.declared.report.FollowEnd.{FollowEnd}
use Rattle.sm_standby.specs.Waiting.{due, without}
use Rattle.sm_standby.specs.Turns.{again}
use Rattle.sm_standby.proofs.Opens.{passed_on, due_open, without_none}
use Rattle.sm_standby.proofs.Putting.{kept_same}
use Rattle.sm_standby.proofs.Taking.{follows_none, follows_again, ends_one}
use Rattle.sm_standby.proofs.again.take_one.Goals as goal

pub returns-in-None-clause-ok : goal.returns-in-None-clause-ok
returns-in-None-clause-ok g c = λ log rest s o.
    rw (c.in-None.ensures.rest ∙ without_none c.len.result c.args.held.now (sym c.in-None.ensures.due)) (follows_none g.met.D.Disk.no_later g.met.C.Dial.later_same c.args.disk.now c.args.dial.now
    c.args.archive.now log c.args.held.now rest s o)

pub returns-in-None-clause-nothing : goal.returns-in-None-clause-nothing
returns-in-None-clause-nothing g c = λ is log s.
    rw (c.in-None.ensures.rest ∙ without_none c.len.result c.args.held.now (sym c.in-None.ensures.due))
    (subst (λ (n : ℕ). due n c.args.held.now ≡ None) (c.len.ensures s.bodies s.body log None s.keeps) (sym c.in-None.ensures.due))

pub place_one-requires-clause-absent : goal.place_one-requires-clause-absent
place_one-requires-clause-absent g c = λ log s.
    let r = c.requires.stands in
    let d = due_open r.0 c.len.result c.args.held.now c.in-Some.later r.2 (sym c.in-Some.ensures.due) in
    kept_same c.args.archive.now r.0 log c.in-Some.later.address r.1.keeps.index s.keeps.index d.none

pub returns-in_ok-place_one-in-Some-clause-ok : goal.returns-in_ok-place_one-in-Some-clause-ok
returns-in_ok-place_one-in-Some-clause-ok g c = λ log rest s o.
    let n : c.len.result ≡ length log = c.len.ensures s.bodies s.body log None s.keeps in
    let d : due (length log) c.args.held.now ≡ Some c.in-Some.later = ap (λ (k : ℕ). due k c.args.held.now) (sym n) ∙ sym c.in-Some.ensures.due in
    let w = c.in_ok-place_one-in-Some.ensures.ok log s in
    rw (c.in-Some.ensures.rest ∙ ap (λ (k : ℕ). without k c.args.held.now) n) (follows_again log c.args.held.now c.in-Some.later rest c.in_ok-place_one-in-Some.field-0 (rw (← c.url_of-url.ensures) w) d o)

pub returns-in_ok-place_one-in-Some-clause-fewer : goal.returns-in_ok-place_one-in-Some-clause-fewer
returns-in_ok-place_one-in-Some-clause-fewer g c = λ is.
    let r = c.requires.stands in
    let d = due_open r.0 c.len.result c.args.held.now c.in-Some.later r.2 (sym c.in-Some.ensures.due) in
    rw c.in-Some.ensures.rest d.fewer

pub returns-in_err-place_one-in-Some-clause-err : goal.returns-in_err-place_one-in-Some-clause-err
returns-in_err-place_one-in-Some-clause-err g c =
    passed_on c.from_residual.result _ _ c.from_residual.ensures.1
    (λ log rest s o.
    let n : c.len.result ≡ length log = c.len.ensures s.bodies s.body log None s.keeps in
    let d : due (length log) c.args.held.now ≡ Some c.in-Some.later = ap (λ (k : ℕ). due k c.args.held.now) (sym n) ∙ sym c.in-Some.ensures.due in
    ends_one log c.args.held.now rest (again c.in-Some.later) c.in_err-place_one-in-Some.field-0.0 (rw (← c.url_of-url.ensures) (c.in_err-place_one-in-Some.ensures.err log s)) d
    (λ is. c.in_err-place_one-in-Some.ensures.fault (ap (λ (e : FollowEnd). Err e) is)))
