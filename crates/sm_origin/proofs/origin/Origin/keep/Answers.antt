use Rattle.std.proofs.Common.{rules, ◌≡◌, refl, ◌∙◌, ap, sym, subst, IsSome}
use Rattle.sm_model.specs.declared.act.Act.TheVariants.{Frag}
use Rattle.sm_model.specs.declared.entry.Entry.TheVariants.{Keep}
use Rattle.sm_archive.specs.declared.archive.Archive.{Archive}
use Rattle.sm_archive.specs.declared.answers.Keeping.{Keeping}
use Rattle.sm_archive.specs.declared.answers.Keeping.TheVariants as keeping
use Rattle.sm_archive.specs.Keeping.{KeepStep}
use Rattle.sm_site.specs.Clauses.{Rose, Acted}
use Rattle.sm_origin.specs.Acting.{StandsOn}
use Rattle.sm_origin.specs.Machine.{Machine}
use Rattle.sm_origin.proofs.Steps.{fragment_step}
use Rattle.sm_origin.proofs.Acts.{Laws, put_or_same, of_archive, kept_there_now}
use Rattle.sm_origin.proofs.Asked.{same_behind, put_behind}
use Rattle.sm_origin.proofs.Whole.{Adds, adds, behind}
use Rattle.sm_origin.proofs.origin.Origin.keep.Goals as goal

-- where it was kept
pub returns-in-Kept : goal.returns-in-Kept
returns-in-Kept g c =
    let laws : Laws g.D.Disk.seen =
    record { calls = g.met.D.Disk.calls_told; no_later = g.met.D.Disk.no_later; at_now = g.met.D.Disk.at_now; image = c.an_image_fits.ensures } in
    let site = g.D.Disk.seen in
    let old = c.args.disk.now in
    let new = c.keep.new.disk in
    let was = c.args.self.now in
    let o = c.remember.new.self in
    let f = c.args.fragment.now in
    let place = c.in-Kept.place in
    let failed = Rose (site.view old).disk_faults (site.view new).disk_faults in
    let acted = Acted (site.view old) (site.view new) in
    let fails : keeping.Kept place ≡ keeping.DiskFault → failed = λ is. c.keep.ensures.fault (c.in-Kept.is ∙ is) in
    let step : (m : Machine) → StandsOn site m was old → KeepStep acted (site.may_leave new) c.keep.new.self m.log m.doubt f (keeping.Kept place) = λ m s.
    subst (λ (r : Keeping). KeepStep acted (site.may_leave new) c.keep.new.self m.log m.doubt f r) c.in-Kept.is (c.keep.ensures.step m.log m.doubt s.stands) in
    let w : Adds site old new was o (Frag f) (Keep f) c.silent.result = record {
      some = c.requires.stands;
      alone = c.keep.ensures.disk_alone;
      recorded = c.keep.ensures.recorded;
      entry = refl;
      limits = ap (λ (a : Archive). a.limits) c.remember.ensures.archive ∙ c.keep.ensures.limits;
      step = λ m s. of_archive failed acted (site.may_leave new) m _ _ (Frag f) c.silent.result (sym c.remember.ensures.archive)
          (fragment_step failed acted (site.may_leave new) m c.keep.new.self f (keeping.Kept place) c.silent.result fails (step m s) c.silent.ensures);
      through = λ m s told. c.keep.ensures.any_moment m.log m.doubt s.stands told;
    } in
    adds site laws old new was o (Frag f) (Keep f) c.silent.result w
    (λ m s.
    let there = kept_there_now c.kept_is_added.ensures.place c.kept_is_added.ensures.one failed acted (site.may_leave new) m c.keep.new.self f place c.silent.result
    fails (step m s) c.silent.ensures in
    put_or_same was.cache o.cache place f c.remember.ensures.cache (IsSome (site.view new).contents) (w.step m s).after.log c.requires.valid there.place_is (λ t. there.there)
    (behind site laws c.kept_is_added.ensures.place c.listed_times_stay.ensures.kept old new was o (Frag f) (Keep f) c.silent.result w m s))
    (λ failed m n is. is) (put_behind f place c.silent.result was.cache o.cache c.remember.ensures.cache (search rules))

-- where it wasn't
pub returns-in_default : goal.returns-in_default
returns-in_default g c =
    let laws : Laws g.D.Disk.seen =
    record { calls = g.met.D.Disk.calls_told; no_later = g.met.D.Disk.no_later; at_now = g.met.D.Disk.at_now; image = c.an_image_fits.ensures } in
    let site = g.D.Disk.seen in
    let old = c.args.disk.now in
    let new = c.keep.new.disk in
    let was = c.args.self.now in
    let f = c.args.fragment.now in
    let w : Adds site old new was (record { archive = c.keep.new.self; cache = was.cache }) (Frag f) (Keep f) c.tell_kept.result = record {
      some = c.requires.stands;
      alone = c.keep.ensures.disk_alone;
      recorded = c.keep.ensures.recorded;
      entry = refl;
      limits = c.keep.ensures.limits;
      step = λ m s. fragment_step _ _ (site.may_leave new) m c.keep.new.self f c.keep.result c.tell_kept.result c.keep.ensures.fault
          (c.keep.ensures.step m.log m.doubt s.stands) c.tell_kept.ensures;
      through = λ m s told. c.keep.ensures.any_moment m.log m.doubt s.stands told;
    } in
    adds site laws old new was _ (Frag f) (Keep f) c.tell_kept.result w
    (behind site laws c.kept_is_added.ensures.place c.listed_times_stay.ensures.kept old new was _ (Frag f) (Keep f) c.tell_kept.result w)
    (λ failed m n step. step) (same_behind (Frag f) c.tell_kept.result was.cache (λ a is. cc))
