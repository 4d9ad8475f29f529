use Rattle.std.proofs.Common.{refl, sym, subst}
use Rattle.sm_model.specs.declared.act.Act.{Act}
use Rattle.sm_model.specs.declared.act.Act.TheVariants.{Manifest, Unknown, End, Refuse}
use Rattle.sm_origin.specs.Acts.{Acts}
use Rattle.sm_origin.proofs.Acts.{Laws}
use Rattle.sm_origin.proofs.Whole.{tells}
use Rattle.sm_origin.proofs.origin.Origin.act.Goals as goal

pub returns-in-Manifest-clause-acts : goal.returns-in-Manifest-clause-acts
returns-in-Manifest-clause-acts g c =
    let laws : Laws g.S.Disk.seen =
    record { calls = g.met.S.Disk.calls_told; no_later = g.met.S.Disk.no_later; at_now = g.met.S.Disk.at_now; image = c.an_image_fits.ensures } in
    tells g.S.Disk.seen laws c.args.site.now c.args.self.now c.args.act.now Manifest c.list.result c.or_starved.result c.requires.stands c.in-Manifest.is refl
    (λ m s. c.list.ensures s.stands.bodies s.stands.body m.log m.doubt s.stands.keeps) c.or_starved.ensures (λ failed m step. step) (λ a is. cc)

pub returns-in-Unknown-clause-acts : goal.returns-in-Unknown-clause-acts
returns-in-Unknown-clause-acts g c =
    let laws : Laws g.S.Disk.seen =
    record { calls = g.met.S.Disk.calls_told; no_later = g.met.S.Disk.no_later; at_now = g.met.S.Disk.at_now; image = c.an_image_fits.ensures } in
    tells g.S.Disk.seen laws c.args.site.now c.args.self.now c.args.act.now Unknown c.tell.result c.or_starved-in-Unknown.result c.requires.stands c.in-Unknown.is refl
    (λ m s. c.tell.ensures) c.or_starved-in-Unknown.ensures (λ failed m step. step) (λ a is. cc)

pub returns-in-End-clause-acts : goal.returns-in-End-clause-acts
returns-in-End-clause-acts g c =
    let laws : Laws g.S.Disk.seen =
    record { calls = g.met.S.Disk.calls_told; no_later = g.met.S.Disk.no_later; at_now = g.met.S.Disk.at_now; image = c.an_image_fits.ensures } in
    tells g.S.Disk.seen laws c.args.site.now c.args.self.now c.args.act.now (End c.in-End.kept c.in-End.known) c.tell_counts.result c.or_starved-in-End.result c.requires.stands c.in-End.is refl
    (λ m s. c.tell_counts.ensures) c.or_starved-in-End.ensures (λ failed m step. step) (λ a is. cc)

pub returns-in-Refuse-clause-acts : goal.returns-in-Refuse-clause-acts
returns-in-Refuse-clause-acts g c =
    let laws : Laws g.S.Disk.seen =
    record { calls = g.met.S.Disk.calls_told; no_later = g.met.S.Disk.no_later; at_now = g.met.S.Disk.at_now; image = c.an_image_fits.ensures } in
    tells g.S.Disk.seen laws c.args.site.now c.args.self.now c.args.act.now (Refuse c.in-Refuse.refusal) c.tell_at.result c.or_starved-in-Refuse.result c.requires.stands c.in-Refuse.is refl
    (λ m s. c.tell_at.ensures) c.or_starved-in-Refuse.ensures (λ failed m step. step) (λ a is. cc)

pub returns-in-Header-clause-acts : goal.returns-in-Header-clause-acts
returns-in-Header-clause-acts g c =
    subst (λ (x : Act). Acts g.S.Disk.seen c.args.site.now c.header.new.disk c.args.self.now c.header.new.self x c.header.result) (sym c.in-Header.is) c.header.ensures

pub returns-in-Frag-clause-acts : goal.returns-in-Frag-clause-acts
returns-in-Frag-clause-acts g c =
    subst (λ (x : Act). Acts g.S.Disk.seen c.args.site.now c.keep.new.disk c.args.self.now c.keep.new.self x c.keep.result) (sym c.in-Frag.is) c.keep.ensures

pub returns-in-Fragment-clause-acts : goal.returns-in-Fragment-clause-acts
returns-in-Fragment-clause-acts g c =
    subst (λ (x : Act). Acts g.S.Disk.seen c.args.site.now c.fragment.new.disk c.args.self.now c.fragment.new.self x c.fragment.result) (sym c.in-Fragment.is) c.fragment.ensures.acts
