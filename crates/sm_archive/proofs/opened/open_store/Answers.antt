use Rattle.std.proofs.Common.{rules, ◌∙◌, ℕ, List, None, IsSome, refl, sym}
use Rattle.sm_model.specs.declared.entry.Entry.{Entry}
use Rattle.sm_site.specs.Image.{Image}
use Rattle.sm_site.proofs.Moments.{weakened, and_then}
use Rattle.sm_site.proofs.Recording.{recorded_then}
use Rattle.sm_seglog.specs.Segments.{count_of}
use Rattle.sm_seglog.specs.Standing as seg
use Rattle.sm_archive.specs.declared.archive.Archive.{Archive}
use Rattle.sm_archive.specs.Store.{Spell}
use Rattle.sm_archive.specs.Stands.{Stands}
use Rattle.sm_archive.proofs.Walking.{stands_read, spelled_read, opened_has, opened_store, opened_no_entry, opened_no_log, opened_stands, some_one, spared_by}
use Rattle.sm_archive.proofs.opened.open_store.Goals as goal

pub returns-in-Ok-walk-clause-opened : goal.returns-in-Ok-walk-clause-opened
returns-in-Ok-walk-clause-opened g c =
    let d0 = c.args.disk.now in
    let d1 = c.open_log.new.disk in
    let d2 = c.walk.new.disk in
    let told : (x : Image) → g.D.Disk.seen.may_leave d1 x → IsSome (g.D.Disk.seen.view d1).contents = λ x left. g.met.D.Disk.told d1 (g.D.Disk.seen.view d1).moment x (g.met.D.Disk.now_at d1 x left) in
    let stands : (bodies : List (List ℕ)) × seg.Stands c.in-Ok.log bodies None (g.D.Disk.seen.may_leave d1) =
    opened_stands (g.D.Disk.seen.view d0).contents c.in-Ok.log (g.D.Disk.seen.may_leave d1) c.in-Ok.ensures.opened c.in-Ok.ensures.sure (λ x left. sym c.open_log.ensures.told ∙ told x left) in
    let r = c.in-Ok-walk.ensures.read in (
      r.log,
      stands_read _ c.in-Ok.log (g.D.Disk.seen.may_leave d1) c.in-Ok-walk.index c.in-Ok-walk.used (count_of c.in-Ok.log) r c.args.limits (g.D.Disk.seen.may_leave d2) c.requires.bytes c.requires.entries refl stands
          (λ x left. let was = c.walk.ensures.no_more x left in (told x was, was)),
    )

pub returns-in-Ok-walk-clause-has : goal.returns-in-Ok-walk-clause-has
returns-in-Ok-walk-clause-has g c =
    let d0 = c.args.disk.now in
    let d1 = c.open_log.new.disk in
    let d2 = c.walk.new.disk in
    let r = c.in-Ok-walk.ensures.read in
    let a : Archive = record { log = c.in-Ok.log; limits = c.args.limits; used = c.in-Ok-walk.used; index = c.in-Ok-walk.index; doubt = None } in
    let walked : IsSome (g.D.Disk.seen.view d0).contents → (bodies : List (List ℕ))
    → seg.Stands c.in-Ok.log bodies None (g.D.Disk.seen.may_leave d1) → (log : List Entry) × Spell bodies log × Stands a log None (g.D.Disk.seen.may_leave d2) =
    λ some bodies s.
    let some1 = c.open_log.ensures.told ∙ some in (
      r.log,
      spelled_read _ c.in-Ok.log (g.D.Disk.seen.may_leave d1) c.in-Ok-walk.index c.in-Ok-walk.used (count_of c.in-Ok.log) r refl some1 bodies s,
      stands_read _ c.in-Ok.log (g.D.Disk.seen.may_leave d1) c.in-Ok-walk.index c.in-Ok-walk.used (count_of c.in-Ok.log) r c.args.limits (g.D.Disk.seen.may_leave d2) c.requires.bytes c.requires.entries refl (bodies, s)
          (λ x left. (some1, c.walk.ensures.no_more x left)),
    ) in
    opened_has (g.D.Disk.seen.view d0).contents a (g.D.Disk.seen.may_leave d2) c.in-Ok.log (g.D.Disk.seen.may_leave d1) c.in-Ok.ensures.opened
    (some_one (g.D.Disk.seen.view d0).contents c.in-Ok.log (g.D.Disk.seen.may_leave d1) c.stores_have_one_reading.ensures.one_list c.stores_have_one_reading.ensures.one_cut c.in-Ok.ensures.opened) walked

pub returns-in-Ok-walk-clause-store : goal.returns-in-Ok-walk-clause-store
returns-in-Ok-walk-clause-store g c =
    let d0 = c.args.disk.now in
    let d1 = c.open_log.new.disk in
    let d2 = c.walk.new.disk in
    let r = c.in-Ok-walk.ensures.read in
    let a : Archive = record { log = c.in-Ok.log; limits = c.args.limits; used = c.in-Ok-walk.used; index = c.in-Ok-walk.index; doubt = None } in
    let walked : IsSome (g.D.Disk.seen.view d0).contents → (bodies : List (List ℕ))
    → seg.Stands c.in-Ok.log bodies None (g.D.Disk.seen.may_leave d1) → (log : List Entry) × Spell bodies log × Stands a log None (g.D.Disk.seen.may_leave d2) =
    λ some bodies s.
    let some1 = c.open_log.ensures.told ∙ some in (
      r.log,
      spelled_read _ c.in-Ok.log (g.D.Disk.seen.may_leave d1) c.in-Ok-walk.index c.in-Ok-walk.used (count_of c.in-Ok.log) r refl some1 bodies s,
      stands_read _ c.in-Ok.log (g.D.Disk.seen.may_leave d1) c.in-Ok-walk.index c.in-Ok-walk.used (count_of c.in-Ok.log) r c.args.limits (g.D.Disk.seen.may_leave d2) c.requires.bytes c.requires.entries refl (bodies, s)
          (λ x left. (some1, c.walk.ensures.no_more x left)),
    ) in
    opened_store (g.D.Disk.seen.view d0).contents a (g.D.Disk.seen.may_leave d2) c.in-Ok.log (g.D.Disk.seen.may_leave d1) c.bodies_have_one_log.ensures
    (some_one (g.D.Disk.seen.view d0).contents c.in-Ok.log (g.D.Disk.seen.may_leave d1) c.stores_have_one_reading.ensures.one_list c.stores_have_one_reading.ensures.one_cut c.in-Ok.ensures.opened) walked

pub returns-in-Err-NotAStore-clause-refused : goal.returns-in-Err-NotAStore-clause-refused
returns-in-Err-NotAStore-clause-refused g c = λ at is. opened_no_log (g.D.Disk.seen.view c.args.disk.now).contents at (search rules)

pub returns-in-Err-clause-refused : goal.returns-in-Err-clause-refused
returns-in-Err-clause-refused g c = λ at is.
    let d0 = c.args.disk.now in
    let d1 = c.open_log.new.disk in
    opened_no_entry (g.D.Disk.seen.view d0).contents at c.in-Ok.log (g.D.Disk.seen.may_leave d1) c.in-Ok.ensures.opened
    (some_one (g.D.Disk.seen.view d0).contents c.in-Ok.log (g.D.Disk.seen.may_leave d1) c.stores_have_one_reading.ensures.one_list c.stores_have_one_reading.ensures.one_cut c.in-Ok.ensures.opened)
    (λ some bodies s. c.in-Err.ensures.refused at (search rules) bodies s (c.open_log.ensures.told ∙ some))

pub returns-in-Err-clause-any_moment : goal.returns-in-Err-clause-any_moment
returns-in-Err-clause-any_moment g c = λ bodies each.
    and_then g.D.Disk.seen _ _ _ _ (c.open_log.ensures.images bodies each).moments
    (weakened g.D.Disk.seen _ _ _ _ c.walk.ensures.any_moment (λ t x left. (c.open_log.ensures.images bodies each).now x left))

pub returns-in-Err-clause-recorded : goal.returns-in-Err-clause-recorded
returns-in-Err-clause-recorded g c = recorded_then (g.D.Disk.seen.view c.args.disk.now) (g.D.Disk.seen.view c.open_log.new.disk) (g.D.Disk.seen.view c.walk.new.disk) c.open_log.ensures.recorded c.walk.ensures.any_moment.recorded

pub returns-in-Ok-walk-clause-recorded : goal.returns-in-Ok-walk-clause-recorded
returns-in-Ok-walk-clause-recorded g c = recorded_then (g.D.Disk.seen.view c.args.disk.now) (g.D.Disk.seen.view c.open_log.new.disk) (g.D.Disk.seen.view c.walk.new.disk) c.open_log.ensures.recorded c.walk.ensures.any_moment.recorded

pub returns-in-Err-NotAStore-clause-untouched : goal.returns-in-Err-NotAStore-clause-untouched
returns-in-Err-NotAStore-clause-untouched g c = λ at is.
    let looks = c.open_log.ensures.untouched at (search rules) in
    (looks.contents, looks.crash, looks.moments)

pub returns-in-Err-clause-untouched : goal.returns-in-Err-clause-untouched
returns-in-Err-clause-untouched g c = λ at is.
    let looks = c.in-Ok.ensures.unwritten (c.in-Err.ensures.some at (search rules)) in (
      c.walk.ensures.contents ∙ looks.contents,
      λ x left. looks.crash x (c.walk.ensures.no_more x left),
      and_then g.D.Disk.seen _ _ _ _ looks.moments (weakened g.D.Disk.seen _ _ _ _ c.walk.ensures.any_moment (λ t x left. looks.crash x left)),
    )

pub returns-in-Ok-walk-clause-any_moment : goal.returns-in-Ok-walk-clause-any_moment
returns-in-Ok-walk-clause-any_moment g c = λ bodies each.
    and_then g.D.Disk.seen _ _ _ _ (c.open_log.ensures.images bodies each).moments
    (weakened g.D.Disk.seen _ _ _ _ c.walk.ensures.any_moment (λ t x left. (c.open_log.ensures.images bodies each).now x left))

pub returns-in-Err-DiskFault-clause-spared : goal.returns-in-Err-DiskFault-clause-spared
returns-in-Err-DiskFault-clause-spared g c = spared_by _ _ _ c.open_log.ensures.spared (λ looks. (looks.contents, looks.crash, looks.moments))

pub returns-in-Err-NotAStore-clause-spared : goal.returns-in-Err-NotAStore-clause-spared
returns-in-Err-NotAStore-clause-spared g c = spared_by _ _ _ c.open_log.ensures.spared (λ looks. (looks.contents, looks.crash, looks.moments))

pub returns-in-Err-NoMemory-clause-spared : goal.returns-in-Err-NoMemory-clause-spared
returns-in-Err-NoMemory-clause-spared g c = spared_by _ _ _ c.open_log.ensures.spared (λ looks. (looks.contents, looks.crash, looks.moments))

pub returns-in-Err-clause-spared : goal.returns-in-Err-clause-spared
returns-in-Err-clause-spared g c = spared_by _ _ _ c.open_log.ensures.spared (λ looks. (
  c.walk.ensures.contents ∙ looks.contents,
  λ x left. looks.crash x (c.walk.ensures.no_more x left),
  and_then g.D.Disk.seen _ _ _ _ looks.moments (weakened g.D.Disk.seen _ _ _ _ c.walk.ensures.any_moment (λ t x left. looks.crash x left)),
))

pub returns-in-Ok-walk-clause-spared : goal.returns-in-Ok-walk-clause-spared
returns-in-Ok-walk-clause-spared g c = spared_by _ _ _ c.open_log.ensures.spared (λ looks. (
  c.walk.ensures.contents ∙ looks.contents,
  λ x left. looks.crash x (c.walk.ensures.no_more x left),
  and_then g.D.Disk.seen _ _ _ _ looks.moments (weakened g.D.Disk.seen _ _ _ _ c.walk.ensures.any_moment (λ t x left. looks.crash x left)),
))
