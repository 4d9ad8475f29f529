use Rattle.std.proofs.Common.{◌≡◌, List, [], ◌∷◌, None}
use Rattle.sm_model.specs.declared.entry.Entry.{Entry}
use Rattle.sm_archive.specs.Stands.{Stands}
use Rattle.sm_log.specs.declared.verdict.Judged.TheVariants as judged
use Rattle.sm_log.specs.Logs.{verdict_on}
use Rattle.sm_site.proofs.Moments.{weakened}
use Rattle.sm_pull.specs.declared.stop.Stop.{Stop}
use Rattle.sm_pull.specs.Adds.{Adds, NotKept}
use Rattle.sm_pull.proofs.Disks.{adds_kept, adds_tried, contents_told}
use Rattle.sm_pull.proofs.Judging.{grows_none, step_known, kept_step, other_step, on_ok, if_err, on_ok_each, if_err_each}
use Rattle.sm_pull.proofs.keeping.keep.Goals as goal

pub stop_of-requires : goal.stop_of-requires
stop_of-requires g c = λ place is.
    let log = c.requires.stands.0 in
    let s = c.requires.stands.1 in
    step_known c.kept_is_added.ensures.place _ (g.D.Disk.seen.may_leave c.keep.new.disk) c.keep.new.self log c.args.fragment.now c.keep.result place (c.requires.absent log s) (c.keep.ensures.step log None s) is

pub returns-clause-ok : goal.returns-clause-ok
returns-clause-ok g c =
    let k = c.keep.ensures in
    on_ok_each (λ (log : List Entry). Stands c.args.archive.now log None (g.D.Disk.seen.may_leave c.args.disk.now))
    (λ (log : List Entry). (verdict_on log c.args.fragment.now ≡ judged.New)
    × Adds g.D.Disk.seen c.args.disk.now c.keep.new.disk c.args.archive.now c.keep.new.self
    log (c.args.fragment.now ∷ []) [])
    c.stop_of.result
    (λ log s.
    on_ok c.stop_of.result
    (λ is. (
      is.0,
      adds_kept is.1 (λ some. weakened g.D.Disk.seen c.args.disk.now c.keep.new.disk _ _ (k.any_moment log None s some) (λ t i left. (left.0, left.1, grows_none log _ left.0 left.2)))
          (contents_told (g.D.Disk.seen.view c.args.disk.now) (g.D.Disk.seen.view c.keep.new.disk) k.recorded (g.met.D.Disk.calls_told c.args.disk.now) (g.met.D.Disk.calls_told c.keep.new.disk)) k.disk_alone k.limits,
    ))
    (kept_step _ (g.D.Disk.seen.may_leave c.keep.new.disk) c.keep.new.self log c.args.fragment.now c.keep.result c.args.address c.stop_of.result c.stop_of.ensures.stop (k.step log None s)))

pub returns-clause-err : goal.returns-clause-err
returns-clause-err g c =
    let k = c.keep.ensures in
    if_err_each (λ (log : List Entry). Stands c.args.archive.now log None (g.D.Disk.seen.may_leave c.args.disk.now))
    (λ (why : Stop) (log : List Entry). NotKept c.keep.new.self log c.args.fragment.now c.args.address why
    × Adds g.D.Disk.seen c.args.disk.now c.keep.new.disk c.args.archive.now c.keep.new.self log [] (c.args.fragment.now ∷ []))
    c.stop_of.result
    (λ log s.
    if_err c.stop_of.result
    (λ why is. (
      is.0,
      adds_tried is.1 (λ some. weakened g.D.Disk.seen c.args.disk.now c.keep.new.disk _ _ (k.any_moment log None s some) (λ t i left. (left.0, left.1, grows_none log _ left.0 left.2)))
          (contents_told (g.D.Disk.seen.view c.args.disk.now) (g.D.Disk.seen.view c.keep.new.disk) k.recorded (g.met.D.Disk.calls_told c.args.disk.now) (g.met.D.Disk.calls_told c.keep.new.disk)) k.disk_alone k.limits,
    ))
    (other_step _ (g.D.Disk.seen.may_leave c.keep.new.disk) c.keep.new.self log c.args.fragment.now c.keep.result c.args.address c.stop_of.result c.stop_of.ensures.stop (k.step log None s)))

pub returns-clause-fault : goal.returns-clause-fault
returns-clause-fault g c = λ e. c.keep.ensures.fault (c.stop_of.ensures.fault e)
