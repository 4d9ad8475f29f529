use Rattle.std.proofs.Common.{rules, arith, IfSome, List, ℕ, ◌∙◌, sym, subst, refl}
use Rattle.sm_site.specs.Image.{bytes_of}
use Rattle.sm_site.specs.Clauses.{Durable, Leaves, Recorded}
use Rattle.sm_gatelog.specs.Files.{HasLog}
use Rattle.sm_gatelog.specs.Logs.{Reads}
use Rattle.sm_gatelog.specs.Moments.{Looks}
use Rattle.sm_gatelog.proofs.FreshOutcomes.{some_both, some_same}
use Rattle.sm_gatelog.proofs.Steps.{looks_call, looks_then}
use Rattle.sm_gatelog.proofs.log.GateLog.find.Goals as goal

pub returns-in_err-check_head-clause-looks : goal.returns-in_err-check_head-clause-looks
returns-in_err-check_head-clause-looks g c =
    let d0 = c.args.disk.now in
    let d1 = c.sync.new.self in
    let d2 = c.size.new.self in
    let d3 = c.is_fresh.new.disk in
    let d4 = c.check_head.new.disk in
    let sync_is : Recorded (g.D.Disk.seen.view d0) (g.D.Disk.seen.view d1) = search rules in
    let size_is : Recorded (g.D.Disk.seen.view d1) (g.D.Disk.seen.view d2) = search rules in
    let synced : Looks g.D.Disk.seen d0 d1 =
    looks_call g.D.Disk.seen d0 d1 c.sync.ensures.contents c.sync.ensures.crash c.sync.ensures.time
    sync_is (omega (arith, c.sync.ensures.reads)) c.sync.ensures.link in
    let sized : Looks g.D.Disk.seen d1 d2 =
    looks_call g.D.Disk.seen d1 d2 c.size.ensures.contents c.size.ensures.crash c.size.ensures.time
    size_is (omega (arith, c.size.ensures.reads)) c.size.ensures.link in
    let fresh = looks_then g.D.Disk.seen d0 d2 d3 (looks_then g.D.Disk.seen d0 d1 d2 synced sized) c.is_fresh.ensures.looks in
    let headed = looks_then g.D.Disk.seen d0 d3 d4 fresh c.check_head.ensures.looks in
    headed

pub returns-in_err-ended-clause-looks : goal.returns-in_err-ended-clause-looks
returns-in_err-ended-clause-looks g c =
    let d0 = c.args.disk.now in
    let d1 = c.sync.new.self in
    let d2 = c.size.new.self in
    let d3 = c.is_fresh.new.disk in
    let d4 = c.check_head.new.disk in
    let sync_is : Recorded (g.D.Disk.seen.view d0) (g.D.Disk.seen.view d1) = search rules in
    let size_is : Recorded (g.D.Disk.seen.view d1) (g.D.Disk.seen.view d2) = search rules in
    let synced : Looks g.D.Disk.seen d0 d1 =
    looks_call g.D.Disk.seen d0 d1 c.sync.ensures.contents c.sync.ensures.crash c.sync.ensures.time
    sync_is (omega (arith, c.sync.ensures.reads)) c.sync.ensures.link in
    let sized : Looks g.D.Disk.seen d1 d2 =
    looks_call g.D.Disk.seen d1 d2 c.size.ensures.contents c.size.ensures.crash c.size.ensures.time
    size_is (omega (arith, c.size.ensures.reads)) c.size.ensures.link in
    let fresh = looks_then g.D.Disk.seen d0 d2 d3 (looks_then g.D.Disk.seen d0 d1 d2 synced sized) c.is_fresh.ensures.looks in
    let headed = looks_then g.D.Disk.seen d0 d3 d4 fresh c.check_head.ensures.looks in
    looks_then g.D.Disk.seen d0 d4 c.walk.new.disk headed c.walk.ensures.looks

pub returns-clause-looks : goal.returns-clause-looks
returns-clause-looks g c =
    let d0 = c.args.disk.now in
    let d1 = c.sync.new.self in
    let d2 = c.size.new.self in
    let d3 = c.is_fresh.new.disk in
    let d4 = c.check_head.new.disk in
    let sync_is : Recorded (g.D.Disk.seen.view d0) (g.D.Disk.seen.view d1) = search rules in
    let size_is : Recorded (g.D.Disk.seen.view d1) (g.D.Disk.seen.view d2) = search rules in
    let synced : Looks g.D.Disk.seen d0 d1 =
    looks_call g.D.Disk.seen d0 d1 c.sync.ensures.contents c.sync.ensures.crash c.sync.ensures.time
    sync_is (omega (arith, c.sync.ensures.reads)) c.sync.ensures.link in
    let sized : Looks g.D.Disk.seen d1 d2 =
    looks_call g.D.Disk.seen d1 d2 c.size.ensures.contents c.size.ensures.crash c.size.ensures.time
    size_is (omega (arith, c.size.ensures.reads)) c.size.ensures.link in
    let fresh = looks_then g.D.Disk.seen d0 d2 d3 (looks_then g.D.Disk.seen d0 d1 d2 synced sized) c.is_fresh.ensures.looks in
    let headed = looks_then g.D.Disk.seen d0 d3 d4 fresh c.check_head.ensures.looks in
    looks_then g.D.Disk.seen d0 d4 c.walk.new.disk headed c.walk.ensures.looks

pub returns-clause-found : goal.returns-clause-found
returns-clause-found g c =
    let file = c.args.file in
    let ended = c.in_ok-ended.ended in
    let old = g.D.Disk.seen.may_leave c.sync.new.self in
    let durable : Durable file (g.D.Disk.seen.view c.sync.new.self).contents old = search rules in
    let reads : IfSome (g.D.Disk.seen.view c.check_head.new.disk).contents (λ x. Reads ended.slots.items ended.end (bytes_of x file)) = search rules in
    some_both _ (λ x. Leaves file (bytes_of x file) old) (λ x. Reads ended.slots.items ended.end (bytes_of x file)) _
    (λ x leaves r. (
      r.bodies,
      r.has,
      record {
        made = refl;
        slots = r.slots_are;
        end = r.at_end;
        doubt_is = refl;
        held = λ d left.
            subst (λ (b : List ℕ). HasLog r.bodies b)
            (sym (leaves d (c.size.ensures.crash d (c.is_fresh.ensures.looks.crash d (c.check_head.ensures.looks.crash d (c.walk.ensures.looks.crash d left)))))) r.has;
      },
    ))
    (some_same _ _ _ (sym c.sync.ensures.contents) durable)
    (some_same _ _ _ (sym (c.check_head.ensures.looks.contents ∙ c.is_fresh.ensures.looks.contents ∙ c.size.ensures.contents ∙ c.sync.ensures.contents)) reads)
