use Rattle.std.proofs.Common.{◌≡◌, Some, sym, subst}
use Rattle.sm_model.specs.declared.cause.Cause.{Cause}
use Rattle.sm_site.proofs.Recording.{recorded_none}
use Rattle.sm_log.specs.Logs.{verdict_on}
use Rattle.sm_archive.specs.Keeping.{refusal_of}
use Rattle.sm_archive.proofs.Keepings.{refused_undeclared, refused_clash, refused_overlap}
use Rattle.sm_archive.proofs.Appending.{index_some, log_len}
use Rattle.sm_archive.proofs.archive.Archive.keep_ready.Goals as goal

pub is_full-requires-clause-index : goal.is_full-requires-clause-index
is_full-requires-clause-index g c =
    let h = c.requires.can in
    let i = index_some c.args.self.now.index h.0 h.1 h.2.keeps.index (sym (c.in-New.ensures h.0 h.1 h.2.keeps.index h.3.ready.address h.3.ready.duration)) in
    (i.0, i.1)

pub append_keep-requires : goal.append_keep-requires
append_keep-requires g c =
    let h = c.requires.can in
    let new = sym (c.in-New.ensures h.0 h.1 h.2.keeps.index h.3.ready.address h.3.ready.duration) in
    let within = c.is_full.ensures.within h.0 h.1 h.2.keeps.index (log_len c.args.self.now h.0 _ (g.D.Disk.seen.may_leave c.args.disk.now) h.2) h.3.ready.address h.3.ready.len c.if-is_full.false in
    record { can = (h.0, h.1, h.2, h.3, h.4, new, within) }

pub returns-then-is_full-clause-step : goal.returns-then-is_full-clause-step
returns-then-is_full-clause-step g c = λ log f s p valid.
    let new = sym (c.in-New.ensures log f s.keeps.index p.ready.address p.ready.duration) in
    let full = c.is_full.ensures.full log f s.keeps.index (log_len c.args.self.now log _ (g.D.Disk.seen.may_leave c.args.disk.now) s) p.ready.address p.ready.len c.if-is_full.true in
    (new, full, s)

pub returns-else-is_full-clause-step : goal.returns-else-is_full-clause-step
returns-else-is_full-clause-step g c = λ log f s p valid.
    let new = sym (c.in-New.ensures log f s.keeps.index p.ready.address p.ready.duration) in
    let within = c.is_full.ensures.within log f s.keeps.index (log_len c.args.self.now log _ (g.D.Disk.seen.may_leave c.args.disk.now) s) p.ready.address p.ready.len c.if-is_full.false in
    c.append_keep.ensures.step log f s p valid new within

pub returns-else-is_full-clause-any_moment : goal.returns-else-is_full-clause-any_moment
returns-else-is_full-clause-any_moment g c = λ log f s p valid told.
    let new = sym (c.in-New.ensures log f s.keeps.index p.ready.address p.ready.duration) in
    let within = c.is_full.ensures.within log f s.keeps.index (log_len c.args.self.now log _ (g.D.Disk.seen.may_leave c.args.disk.now) s) p.ready.address p.ready.len c.if-is_full.false in
    c.append_keep.ensures.any_moment log f s p valid new within told

pub returns-in-NotDeclared-clause-step : goal.returns-in-NotDeclared-clause-step
returns-in-NotDeclared-clause-step g c = λ log f s p valid. (
  subst (λ (x : Cause). refusal_of f (verdict_on log f) ≡ Some x) (sym c.undeclared.ensures)
      (refused_undeclared (verdict_on log f) f c.args.ready.address (sym (c.in-NotDeclared.ensures log f s.keeps.index p.ready.address p.ready.duration)) p.ready.address),
  s,
)

pub returns-in-Clash-clause-step : goal.returns-in-Clash-clause-step
returns-in-Clash-clause-step g c = λ log f s p valid.
    (refused_clash (verdict_on log f) f c.in-Clash.kept c.args.ready.meta.duration (sym (c.in-Clash.ensures log f s.keeps.index p.ready.address p.ready.duration)) p.ready.duration, s)

pub returns-in-Overlap-clause-step : goal.returns-in-Overlap-clause-step
returns-in-Overlap-clause-step g c = λ log f s p valid.
    (refused_overlap (verdict_on log f) f c.in-Overlap.end (sym (c.in-Overlap.ensures log f s.keeps.index p.ready.address p.ready.duration)), s)

pub returns-then-is_full-clause-recorded : goal.returns-then-is_full-clause-recorded
returns-then-is_full-clause-recorded g c = recorded_none (g.D.Disk.seen.view c.args.disk.now)

pub returns-in-NotDeclared-clause-recorded : goal.returns-in-NotDeclared-clause-recorded
returns-in-NotDeclared-clause-recorded g c = recorded_none (g.D.Disk.seen.view c.args.disk.now)

pub returns-in-Clash-clause-recorded : goal.returns-in-Clash-clause-recorded
returns-in-Clash-clause-recorded g c = recorded_none (g.D.Disk.seen.view c.args.disk.now)

pub returns-in-Overlap-clause-recorded : goal.returns-in-Overlap-clause-recorded
returns-in-Overlap-clause-recorded g c = recorded_none (g.D.Disk.seen.view c.args.disk.now)

pub returns-in-Known-clause-recorded : goal.returns-in-Known-clause-recorded
returns-in-Known-clause-recorded g c = recorded_none (g.D.Disk.seen.view c.args.disk.now)
