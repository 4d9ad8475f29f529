use Rattle.std.proofs.Common.{rules, refl, List, None}
use Rattle.sm_model.specs.declared.entry.Entry.{Entry}
use Rattle.sm_site.proofs.Moments.{weakened, no_call, alone_here}
use Rattle.sm_archive.specs.Store.{IsStore}
use Rattle.sm_archive.specs.Stands.{Stands}
use Rattle.sm_origin.specs.declared.origin.Origin.{Origin}
use Rattle.sm_origin.specs.Acting.{StandsOn}
use Rattle.sm_origin.proofs.Acts.{none_held, a_store, if_some, idle_writes}
use Rattle.sm_origin.proofs.origin.Origin.open_origin.Goals as goal

pub returns-in-Ok-open_store-clause-opens : goal.returns-in-Ok-open_store-clause-opens
returns-in-Ok-open_store-clause-opens g c =
    let site = g.S.Disk.seen in
    let a = c.in-Ok-open_store.archive in
    let left = site.may_leave c.open_store.new.disk in
    let contents = (site.view c.args.site.now).contents in
    let o = c.in-Ok-open_store.ensures in
    let made : Origin = record { archive = a; cache = c.in-Ok.cache } in
    let on : (log : List Entry) → Stands a log None left → StandsOn site (record { archive = a; log = log; doubt = None }) made c.open_store.new.disk =
    λ log s. record { archive = refl; stands = s; cached = none_held _ log c.in-Ok.cache c.in-Ok.ensures } in
    record {
      opened = (record { archive = a; log = o.opened.0; doubt = None }, refl, on o.opened.0 o.opened.1);
      store = if_some contents (λ x. (log : List Entry) × IsStore log x × Stands a log None left) _
          (λ x is. (record { archive = a; log = is.0; doubt = None }, is.1, refl, on is.0 is.2))
          (a_store contents (λ log x. IsStore log x) (λ log. Stands a log None left) o.has o.store);
      limits = o.limits;
      refused = search rules;
      untouched = search rules;
      spared = o.spared;
      any_moment = λ log one. weakened site c.args.site.now c.open_store.new.disk _ (λ t x. IsStore log x) (o.any_moment one.bodies one.each)
          (λ t x has. record { bodies = one.bodies; has = has; spell = one.spell; sound = one.sound });
      stays = λ log one. record { bodies = one.bodies; each = o.stays one.bodies one.each; spell = one.spell; sound = one.sound };
      fault = search rules;
      disk_alone = o.disk_alone;
    }

pub returns-in-Err-open_store-clause-opens : goal.returns-in-Err-open_store-clause-opens
returns-in-Err-open_store-clause-opens g c =
    let site = g.S.Disk.seen in
    let o = c.in-Err-open_store.ensures in
    record {
      opened = search rules;
      store = search rules;
      limits = search rules;
      refused = search rules;
      untouched = search rules;
      spared = o.spared;
      any_moment = λ log one. weakened site c.args.site.now c.open_store.new.disk _ (λ t x. IsStore log x) (o.any_moment one.bodies one.each)
          (λ t x has. record { bodies = one.bodies; has = has; spell = one.spell; sound = one.sound });
      stays = λ log one. record { bodies = one.bodies; each = o.stays one.bodies one.each; spell = one.spell; sound = one.sound };
      fault = search rules;
      disk_alone = o.disk_alone;
    }

pub returns-in-Err-clause-opens : goal.returns-in-Err-clause-opens
returns-in-Err-clause-opens g c =
    let site = g.S.Disk.seen in
    let d = c.args.site.now in
    record {
      opened = search rules;
      store = search rules;
      limits = search rules;
      refused = search rules;
      untouched = search rules;
      spared = idle_writes site g.met.S.Disk.no_later d;
      any_moment = λ log one. no_call site d (λ t c. IsStore log c) (g.met.S.Disk.no_later d);
      stays = search rules;
      fault = search rules;
      disk_alone = alone_here (site.view d);
    }
