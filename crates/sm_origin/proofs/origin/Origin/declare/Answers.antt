use Rattle.std.proofs.Common.{refl}
use Rattle.sm_model.specs.declared.act.Act.TheVariants.{Header}
use Rattle.sm_model.specs.declared.entry.Entry.TheVariants.{Declare}
use Rattle.sm_origin.specs.Answers.{reply_to_header}
use Rattle.sm_origin.proofs.Steps.{header_step, tells_itself}
use Rattle.sm_origin.proofs.Acts.{Laws}
use Rattle.sm_origin.proofs.Whole.{Adds, adds_once, behind}
use Rattle.sm_origin.proofs.origin.Origin.declare.Goals as goal

pub returns-clause-one : goal.returns-clause-one
returns-clause-one g c =
    let laws : Laws g.S.Disk.seen =
    record { calls = g.met.S.Disk.calls_told; no_later = g.met.S.Disk.no_later; at_now = g.met.S.Disk.at_now; image = c.an_image_fits.ensures } in
    let site = g.S.Disk.seen in
    let old = c.args.site.now in
    let new = c.declare.new.disk in
    let act = Header c.args.channel.now in
    let reply = reply_to_header c.declare.result in
    let w : Adds site old new c.args.self.now (record { archive = c.declare.new.self; cache = c.args.self.now.cache }) act (Declare c.args.channel.now) reply = record {
      some = c.requires.stands;
      alone = c.declare.ensures.disk_alone;
      recorded = c.declare.ensures.recorded;
      entry = refl;
      limits = c.declare.ensures.limits;
      step = λ m s. header_step _ _ (site.may_leave new) m c.declare.new.self c.args.channel.now c.declare.result reply c.declare.ensures.fault
          (c.declare.ensures.step m.log m.doubt s.stands) (tells_itself c.declare.result);
      through = λ m s told. c.declare.ensures.any_moment m.log m.doubt s.stands told;
    } in
    adds_once site laws old new c.args.self.now _ act _ reply w
    (behind site laws c.kept_is_added.ensures.place c.listed_times_stay.ensures.kept old new c.args.self.now _ act _ reply w)
