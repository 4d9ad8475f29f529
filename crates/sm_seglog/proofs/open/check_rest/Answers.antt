use Rattle.std.proofs.Common.{rules, arith}
use Rattle.sm_site.specs.Clauses.{Recorded}
use Rattle.sm_gatelog.specs.Moments.{Looks}
use Rattle.sm_gatelog.proofs.Steps.{looks_call, looks_then}
use Rattle.sm_seglog.proofs.open.check_rest.Goals as goal

pub returns-in_err-sync-clause-looks : goal.returns-in_err-sync-clause-looks
returns-in_err-sync-clause-looks g c =
    let recorded : Recorded (g.D.Disk.seen.view c.loop-file.disk) (g.D.Disk.seen.view c.sync.new.self) = search rules in
    let synced : Looks g.D.Disk.seen c.loop-file.disk c.sync.new.self =
    looks_call g.D.Disk.seen c.loop-file.disk c.sync.new.self c.sync.ensures.contents c.sync.ensures.crash c.sync.ensures.time
    recorded (omega (arith, c.sync.ensures.reads)) c.sync.ensures.link in
    let after = looks_then g.D.Disk.seen c.args.disk.now c.loop-file.disk c.sync.new.self c.loop-file.invariant.looks synced in
    after

pub returns-in_err-is_fresh-clause-looks : goal.returns-in_err-is_fresh-clause-looks
returns-in_err-is_fresh-clause-looks g c =
    let recorded : Recorded (g.D.Disk.seen.view c.loop-file.disk) (g.D.Disk.seen.view c.sync.new.self) = search rules in
    let synced : Looks g.D.Disk.seen c.loop-file.disk c.sync.new.self =
    looks_call g.D.Disk.seen c.loop-file.disk c.sync.new.self c.sync.ensures.contents c.sync.ensures.crash c.sync.ensures.time
    recorded (omega (arith, c.sync.ensures.reads)) c.sync.ensures.link in
    let after = looks_then g.D.Disk.seen c.args.disk.now c.loop-file.disk c.sync.new.self c.loop-file.invariant.looks synced in
    looks_then g.D.Disk.seen c.args.disk.now c.sync.new.self c.is_fresh.new.disk after c.is_fresh.ensures.looks

pub returns-then-not-branch-clause-looks : goal.returns-then-not-branch-clause-looks
returns-then-not-branch-clause-looks g c =
    let recorded : Recorded (g.D.Disk.seen.view c.loop-file.disk) (g.D.Disk.seen.view c.sync.new.self) = search rules in
    let synced : Looks g.D.Disk.seen c.loop-file.disk c.sync.new.self =
    looks_call g.D.Disk.seen c.loop-file.disk c.sync.new.self c.sync.ensures.contents c.sync.ensures.crash c.sync.ensures.time
    recorded (omega (arith, c.sync.ensures.reads)) c.sync.ensures.link in
    let after = looks_then g.D.Disk.seen c.args.disk.now c.loop-file.disk c.sync.new.self c.loop-file.invariant.looks synced in
    looks_then g.D.Disk.seen c.args.disk.now c.sync.new.self c.is_fresh.new.disk after c.is_fresh.ensures.looks

pub loop-file-preserved : goal.loop-file-preserved
loop-file-preserved g c =
    let recorded : Recorded (g.D.Disk.seen.view c.loop-file.disk) (g.D.Disk.seen.view c.sync.new.self) = search rules in
    let synced : Looks g.D.Disk.seen c.loop-file.disk c.sync.new.self =
    looks_call g.D.Disk.seen c.loop-file.disk c.sync.new.self c.sync.ensures.contents c.sync.ensures.crash c.sync.ensures.time
    recorded (omega (arith, c.sync.ensures.reads)) c.sync.ensures.link in
    let after = looks_then g.D.Disk.seen c.args.disk.now c.loop-file.disk c.sync.new.self c.loop-file.invariant.looks synced in
    record {
      looks = looks_then g.D.Disk.seen c.args.disk.now c.sync.new.self c.is_fresh.new.disk after c.is_fresh.ensures.looks;
      faults = search rules;
      told = search rules;
    }
