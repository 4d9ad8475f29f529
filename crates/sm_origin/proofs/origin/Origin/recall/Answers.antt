use Rattle.std.proofs.Common.{◌≡◌, ◌∙◌, sym}
use Rattle.sm_model.specs.declared.act.Act.TheVariants.{Fragment as Ask}
use Rattle.sm_site.proofs.Moments.{no_call, alone_here}
use Rattle.sm_archive.specs.declared.fetch.Fetched.TheVariants as fetched
use Rattle.sm_origin.specs.Answers.{reply_to_fetched}
use Rattle.sm_origin.proofs.Acts.{Laws}
use Rattle.sm_origin.proofs.Asked.{kept_if}
use Rattle.sm_origin.proofs.Fronts.{hit_held}
use Rattle.sm_origin.proofs.Recalled.{recall_step, again_undamaged, again_unfailed, again_absent, again_held}
use Rattle.sm_origin.proofs.Whole.{stood, reads_once}
use Rattle.sm_origin.proofs.origin.Origin.recall.Goals as goal

-- where the cache has it

pub returns-in-Some-clause-one : goal.returns-in-Some-clause-one
returns-in-Some-clause-one g c =
    let laws : Laws g.D.Disk.seen =
    record { calls = g.met.D.Disk.calls_told; no_later = g.met.D.Disk.no_later; at_now = g.met.D.Disk.at_now; image = c.an_image_fits.ensures } in
    let site = g.D.Disk.seen in
    let d = c.args.disk.now in
    let a = c.args.address.now in
    let kept = c.in-Some.kept.now in
    let r = c.again.result in
    reads_once site laws d d c.args.self.now c.args.self.now (Ask a) (λ log. reply_to_fetched log a r) (record {
      some = c.requires.stands;
      alone = alone_here (site.view d);
      through = no_call site d _ (g.met.D.Disk.no_later d);
      stands = λ m s. s;
      step = λ m s told. recall_step _ m a r (again_undamaged kept r c.again.ensures) (λ bad. absurd (again_unfailed kept r c.again.ensures bad));
    })

pub returns-in-Some-clause-found : goal.returns-in-Some-clause-found
returns-in-Some-clause-found g c place f is m s =
    let kept = c.in-Some.kept.now in
    again_held _ m.log c.args.address.now kept c.again.result (hit_held _ m.log c.args.address.now c.args.self.now.cache kept (sym c.in-Some.ensures) s.cached) c.again.ensures place f is

pub returns-in-Some-clause-valid : goal.returns-in-Some-clause-valid
returns-in-Some-clause-valid g c place f is =
    let m = c.requires.stands.0 in
    let s = c.requires.stands.1 in
    let kept = c.in-Some.kept.now in
    let h = again_held _ m.log c.args.address.now kept c.again.result (hit_held _ m.log c.args.address.now c.args.self.now.cache kept (sym c.in-Some.ensures) s.cached) c.again.ensures place f is in
    (h.valid, h.address)

pub returns-in-Some-clause-absent : goal.returns-in-Some-clause-absent
returns-in-Some-clause-absent g c m s =
    let kept = c.in-Some.kept.now in
    let h = hit_held _ m.log c.args.address.now c.args.self.now.cache kept (sym c.in-Some.ensures) s.cached in
    again_absent m.log c.args.address.now kept c.again.result h.place c.again.ensures

pub returns-in-Some-clause-damaged : goal.returns-in-Some-clause-damaged
returns-in-Some-clause-damaged g c bad told = again_undamaged c.in-Some.kept.now c.again.result c.again.ensures bad

pub returns-in-Some-clause-fault : goal.returns-in-Some-clause-fault
returns-in-Some-clause-fault g c bad = absurd (again_unfailed c.in-Some.kept.now c.again.result c.again.ensures bad)

-- where it doesn't

pub returns-in-None-clause-one : goal.returns-in-None-clause-one
returns-in-None-clause-one g c =
    let laws : Laws g.D.Disk.seen =
    record { calls = g.met.D.Disk.calls_told; no_later = g.met.D.Disk.no_later; at_now = g.met.D.Disk.at_now; image = c.an_image_fits.ensures } in
    let site = g.D.Disk.seen in
    let old = c.args.disk.now in
    let new = c.fetch.new.disk in
    let a = c.args.address.now in
    let o = c.args.self.now in
    reads_once site laws old new o o (Ask a) (λ log. reply_to_fetched log a c.fetch.result) (record {
      some = c.requires.stands;
      alone = c.fetch.ensures.disk_alone;
      through = c.fetch.ensures.any_moment;
      stands = stood site laws old new o c.fetch.ensures.recorded c.fetch.ensures.stands;
      step = λ m s told.
          let there = c.fetch.ensures.absent m.log m.doubt s.stands in
          recall_step _ m a c.fetch.result (λ bad. c.fetch.ensures.damaged bad m.log m.doubt s.stands told)
          (λ bad. (c.fetch.ensures.fault bad, kept_if m.log a c.kept_is_added.ensures.place (λ none. absurd (not_absent (sym bad ∙ there.1 none)))));
    })
  where
    not_absent : fetched.DiskFault ≡ fetched.Absent → ⊥
    not_absent e = cc

pub returns-in-None-clause-found : goal.returns-in-None-clause-found
returns-in-None-clause-found g c place f is m s =
    let found = c.fetch.ensures.found place f is in
    let log = found.1 m.log m.doubt s.stands in
    record { address = found.0; valid = c.fetch.ensures.valid place f is; place = log.0; same = log.1 }

pub returns-in-None-clause-absent : goal.returns-in-None-clause-absent
returns-in-None-clause-absent g c m s = c.fetch.ensures.absent m.log m.doubt s.stands

pub returns-in-None-clause-damaged : goal.returns-in-None-clause-damaged
returns-in-None-clause-damaged g c bad told =
    let m = c.requires.stands.0 in
    c.fetch.ensures.damaged bad m.log m.doubt c.requires.stands.1.stands told
