use Rattle.std.proofs.Common.{◌≡◌, ◌∙◌, Some, ℕ, sym, ap, subst, refl}
use Rattle.std.specs.List.{slice_get}
use Rattle.sm_model.specs.declared.entry.Entry.TheVariants.{Keep}
use Rattle.sm_archive.proofs.Fetching.{no_place, place_in_log}
use Rattle.sm_archive.proofs.Settling.{stands_fewer}
use Rattle.sm_archive.proofs.archive.Archive.fetch.Goals as goal

pub returns-in-None-clause-absent : goal.returns-in-None-clause-absent
returns-in-None-clause-absent g c = λ log doubt s. (λ e. no_place c.args.self.now log doubt (g.D.Disk.seen.may_leave c.args.disk.now) c.args.address.now s c.in-None.is, λ e. refl)

pub returns-in-Some-place-clause-found : goal.returns-in-Some-place-clause-found
returns-in-Some-place-clause-found g c = λ place f is.
    let e = c.fetch_at.ensures.found place f is in (
      e.1,
      λ log doubt s. (
        place_in_log c.args.self.now c.in-Some.index log doubt (g.D.Disk.seen.may_leave c.args.disk.now) c.args.address.now (Some place) s c.in-Some.is (ap (λ p. Some p) e.0 ∙ c.in-Some-place.ensures),
        λ told. subst
            (λ (p : ℕ). slice_get log p ≡ Some (Keep f)) (sym e.0) (e.2 log doubt s told),
      ),
    )

pub returns-in-Some-place-clause-stands : goal.returns-in-Some-place-clause-stands
returns-in-Some-place-clause-stands g c = stands_fewer c.args.self.now (g.D.Disk.seen.may_leave c.args.disk.now) (g.D.Disk.seen.may_leave c.fetch_at.new.disk) c.fetch_at.ensures.no_more
