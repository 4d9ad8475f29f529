use Rattle.sm_model.specs.declared.entry.Entry.TheVariants.{Keep}
use Rattle.sm_archive.proofs.Appending.{can_append, still_within, within_now}
use Rattle.sm_archive.proofs.archive.Archive.append_keep.Goals as goal

pub append-requires : goal.append-requires
append-requires g c =
    let h = c.requires.can in
    record { can = (h.0, Keep h.1, h.2, can_append c.args.self.now c.args.ready h.1 h.0 (g.D.Disk.seen.may_leave c.args.disk.now) h.2 h.3 h.4 h.5 h.6) }

pub returns-in-Some-clause-step : goal.returns-in-Some-clause-step
returns-in-Some-clause-step g c = λ log f s p valid new within.
    let can = can_append c.args.self.now c.args.ready f log (g.D.Disk.seen.may_leave c.args.disk.now) s p valid new within in
    let e = c.append.ensures.stored c.in-Some.place c.in-Some.is log (Keep f) s can in (
      new,
      e.0,
      within_now c.args.self.now c.args.ready f log (g.D.Disk.seen.may_leave c.args.disk.now) s p valid new within c.append.new.self c.append.ensures.limits
          (c.append.ensures.used c.in-Some.place c.in-Some.is) (c.append.ensures.ends c.in-Some.place c.in-Some.is),
      c.append.ensures.acts c.in-Some.place c.in-Some.is,
      e.1,
    )

pub returns-in-None-clause-step : goal.returns-in-None-clause-step
returns-in-None-clause-step g c = λ log f s p valid new within.
    let can = can_append c.args.self.now c.args.ready f log (g.D.Disk.seen.may_leave c.args.disk.now) s p valid new within in
    let e = c.append.ensures.failed c.in-None.is log (Keep f) s can in
    (new, still_within c.args.self.now c.args.ready f log (g.D.Disk.seen.may_leave c.args.disk.now) s p valid new within c.append.new.self e.0, e.1)

pub returns-in-Some-clause-any_moment : goal.returns-in-Some-clause-any_moment
returns-in-Some-clause-any_moment g c = λ log f s p valid new within told.
    c.append.ensures.any_moment log (Keep f) s (can_append c.args.self.now c.args.ready f log (g.D.Disk.seen.may_leave c.args.disk.now) s p valid new within) told

pub returns-in-None-clause-any_moment : goal.returns-in-None-clause-any_moment
returns-in-None-clause-any_moment g c = λ log f s p valid new within told.
    c.append.ensures.any_moment log (Keep f) s (can_append c.args.self.now c.args.ready f log (g.D.Disk.seen.may_leave c.args.disk.now) s p valid new within) told
