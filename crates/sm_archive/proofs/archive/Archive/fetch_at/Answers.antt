use Rattle.std.proofs.Common.{◌≡◌, ◌∙◌, Some, sym, ap, subst}
use Rattle.sm_model.specs.declared.entry.Entry.TheVariants.{Keep}
use Rattle.sm_model.specs.Entries.{address_of}
use Rattle.sm_model.specs.Fragments.{IsValid}
use Rattle.sm_archive.proofs.Fetching.{place_low, body_there, failed_as, found_is, valid_there}
use Rattle.sm_model.specs.declared.fragment.Fragment.{Fragment}
use Rattle.sm_archive.proofs.archive.Archive.fetch_at.Goals as goal

pub read-requires : goal.read-requires
read-requires g c =
    let h = c.requires.stands in
    record { within = place_low c.args.self.now c.args.index.now h.0 h.1 (g.D.Disk.seen.may_leave c.args.disk.now) c.args.address.now c.args.place h.2 c.requires.index c.requires.place }

pub returns-in-Damaged-clause-damaged : goal.returns-in-Damaged-clause-damaged
returns-in-Damaged-clause-damaged g c = λ e log doubt s some.
    let b = body_there (g.D.Disk.seen.view c.args.disk.now).contents c.args.self.now c.args.index.now log doubt
    (g.D.Disk.seen.may_leave c.args.disk.now) c.args.address.now c.args.place c.in-Ok.body s c.requires.index c.requires.place some c.in-Ok.ensures.body in
    c.in-Err.ensures.damaged (failed_as c.in-Err.fault c.in-Damaged.is) b.0 b.3 b.2 (valid_there log c.args.place b.0 s.keeps.sound b.1)

pub returns-in-Ok-kept_at-clause-found : goal.returns-in-Ok-kept_at-clause-found
returns-in-Ok-kept_at-clause-found g c = λ at f is.
    let k = c.in-Ok-kept_at.ensures.kept in
    let same = found_is c.args.place at c.in-Ok-kept_at.fragment f is in (
      sym same.0,
      subst (λ (x : Fragment). address_of x ≡ c.args.address.now) same.1 k.0,
      λ log doubt s some.
          let b = body_there (g.D.Disk.seen.view c.args.disk.now).contents c.args.self.now c.args.index.now log doubt
          (g.D.Disk.seen.may_leave c.args.disk.now) c.args.address.now c.args.place c.in-Ok.body s c.requires.index c.requires.place some c.in-Ok.ensures.body in
          b.1 ∙ ap (λ (x : Fragment). Some (Keep x)) (k.2 b.0 b.3 ∙ same.1),
    )

pub returns-in-Ok-kept_at-clause-valid : goal.returns-in-Ok-kept_at-clause-valid
returns-in-Ok-kept_at-clause-valid g c = λ at f is. subst (λ (x : Fragment). IsValid x) (found_is c.args.place at c.in-Ok-kept_at.fragment f is).1 c.in-Ok-kept_at.ensures.kept.1
