use Rattle.std.proofs.Common.{refl, []}
use Rattle.sm_model.specs.declared.entry.Entry.TheVariants.{Declare}
use Rattle.sm_site.proofs.Recording.{recorded_none}
use Rattle.sm_archive.proofs.Declarings.{header_can, still_within, within_now}
use Rattle.sm_archive.proofs.archive.Archive.fix.Goals as goal

pub append-requires : goal.append-requires
append-requires g c =
    let h = c.requires.can in
    record { can = ([], Declare h.0, h.1, header_can c.args.self.now c.args.header h.0 h.2 h.3 (c.is_full_for.ensures.within h.0 h.2.len c.if-is_full_for.false)) }

pub returns-in-Some-clause-step : goal.returns-in-Some-clause-step
returns-in-Some-clause-step g c = λ channel s h valid.
    let can = header_can c.args.self.now c.args.header channel h valid (c.is_full_for.ensures.within channel h.len c.if-is_full_for.false) in (
      refl,
      within_now c.args.self.now c.append.new.self c.args.header channel h (c.is_full_for.ensures.within channel h.len c.if-is_full_for.false) c.append.ensures.limits
          (c.append.ensures.used c.in-Some.field-0 c.in-Some.is) (c.append.ensures.ends c.in-Some.field-0 c.in-Some.is),
      c.append.ensures.acts c.in-Some.field-0 c.in-Some.is,
      (c.append.ensures.stored c.in-Some.field-0 c.in-Some.is [] (Declare channel) s can).1,
    )

pub returns-in-None-clause-step : goal.returns-in-None-clause-step
returns-in-None-clause-step g c = λ channel s h valid.
    let within = c.is_full_for.ensures.within channel h.len c.if-is_full_for.false in
    let can = header_can c.args.self.now c.args.header channel h valid within in
    let e = c.append.ensures.failed c.in-None.is [] (Declare channel) s can in
    (refl, still_within c.args.self.now c.append.new.self channel e.0 within, e.1)

pub returns-in-Some-clause-any_moment : goal.returns-in-Some-clause-any_moment
returns-in-Some-clause-any_moment g c = λ channel s h valid told.
    c.append.ensures.any_moment [] (Declare channel) s (header_can c.args.self.now c.args.header channel h valid (c.is_full_for.ensures.within channel h.len c.if-is_full_for.false)) told

pub returns-in-None-clause-any_moment : goal.returns-in-None-clause-any_moment
returns-in-None-clause-any_moment g c = λ channel s h valid told.
    c.append.ensures.any_moment [] (Declare channel) s (header_can c.args.self.now c.args.header channel h valid (c.is_full_for.ensures.within channel h.len c.if-is_full_for.false)) told

pub returns-then-is_full_for-clause-recorded : goal.returns-then-is_full_for-clause-recorded
returns-then-is_full_for-clause-recorded g c = recorded_none (g.D.Disk.seen.view c.args.disk.now)
