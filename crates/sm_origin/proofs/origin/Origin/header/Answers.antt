use Rattle.std.proofs.Common.{refl}
use Rattle.sm_model.specs.declared.act.Act.TheVariants.{Header}
use Rattle.sm_model.specs.declared.entry.Entry.TheVariants.{Declare}
use Rattle.sm_origin.proofs.Steps.{header_step}
use Rattle.sm_origin.proofs.Acts.{Laws}
use Rattle.sm_origin.proofs.Asked.{same_behind}
use Rattle.sm_origin.proofs.Whole.{Adds, adds, behind}
use Rattle.sm_origin.proofs.origin.Origin.header.Goals as goal

pub returns : goal.returns
returns g c =
    let laws : Laws g.D.Disk.seen =
    record { calls = g.met.D.Disk.calls_told; no_later = g.met.D.Disk.no_later; at_now = g.met.D.Disk.at_now; image = c.an_image_fits.ensures } in
    let site = g.D.Disk.seen in
    let old = c.args.disk.now in
    let new = c.declare-answer.new.disk in
    let act = Header c.args.channel.now in
    let w : Adds site old new c.args.self.now (record { archive = c.declare-answer.new.self; cache = c.args.self.now.cache }) act (Declare c.args.channel.now) c.tell_declared.result = record {
      some = c.requires.stands;
      alone = c.declare-answer.ensures.disk_alone;
      recorded = c.declare-answer.ensures.recorded;
      entry = refl;
      limits = c.declare-answer.ensures.limits;
      step = λ m s. header_step _ _ (site.may_leave new) m c.declare-answer.new.self c.args.channel.now c.declare-answer.result c.tell_declared.result c.declare-answer.ensures.fault
          (c.declare-answer.ensures.step m.log m.doubt s.stands) c.tell_declared.ensures;
      through = λ m s told. c.declare-answer.ensures.any_moment m.log m.doubt s.stands told;
    } in
    adds site laws old new c.args.self.now _ act _ c.tell_declared.result w
    (behind site laws c.kept_is_added.ensures.place c.listed_times_stay.ensures.kept old new c.args.self.now _ act _ c.tell_declared.result w)
    (λ failed m n step. step) (same_behind act c.tell_declared.result c.args.self.now.cache (λ a is. cc))
