use Rattle.std.proofs.Common.{map, string_bytes, Option, Some, ap, sym, ◌∙◌}
use Rattle.std.specs.Option.{option_map}
use Rattle.sm_words.specs.declared.order.Order.{Order}
use Rattle.sm_words.specs.Orders.{pulling_of, wanted_of}
use Rattle.sm_tool.proofs.Idling.{idle_stores}
use Rattle.sm_words.proofs.Sounding.{followable, playable, rehearsable, relayable}
use Rattle.sm_tool.proofs.command.answer_to.Goals as goal

pub play-requires-clause-playable : goal.play-requires-clause-playable
play-requires-clause-playable g c =
    let at = c.in-Ok-Some-Play in
    playable at.order.plan (map string_bytes c.args.words.now)
    (sym (ap (λ (o : Option Order). option_map wanted_of o) (at.field-0-is ∙ ap (λ (o : Order). Some o) at.field-0-0-is)) ∙ at.ensures)

pub rehearse-requires-clause-number : goal.rehearse-requires-clause-number
rehearse-requires-clause-number g c =
    let at = c.in-Ok-Some-Rehearse in
    (rehearsable at.number at.size (map string_bytes c.args.words.now)
    (sym (ap (λ (o : Option Order). option_map wanted_of o) (at.field-0-is ∙ ap (λ (o : Order). Some o) at.field-0-0-is)) ∙ at.ensures)).number_fits

pub rehearse-requires-clause-size : goal.rehearse-requires-clause-size
rehearse-requires-clause-size g c =
    let at = c.in-Ok-Some-Rehearse in
    (rehearsable at.number at.size (map string_bytes c.args.words.now)
    (sym (ap (λ (o : Option Order). option_map wanted_of o) (at.field-0-is ∙ ap (λ (o : Order). Some o) at.field-0-0-is)) ∙ at.ensures)).size_fits

pub returns-in-Ok-Some-Pick-clause-stores : goal.returns-in-Ok-Some-Pick-clause-stores
returns-in-Ok-Some-Pick-clause-stores g c = idle_stores g.S.Disk.seen g.met.S.Disk.no_later g.met.S.Disk.at_now c.args.site.now _

pub returns-in-Ok-Some-Push-clause-stores : goal.returns-in-Ok-Some-Push-clause-stores
returns-in-Ok-Some-Push-clause-stores g c = idle_stores g.S.Disk.seen g.met.S.Disk.no_later g.met.S.Disk.at_now c.args.site.now _

pub returns-in-Ok-Some-Play-clause-stores : goal.returns-in-Ok-Some-Play-clause-stores
returns-in-Ok-Some-Play-clause-stores g c = idle_stores g.S.Disk.seen g.met.S.Disk.no_later g.met.S.Disk.at_now c.args.site.now _

pub returns-in-Ok-Some-Rehearse-clause-stores : goal.returns-in-Ok-Some-Rehearse-clause-stores
returns-in-Ok-Some-Rehearse-clause-stores g c = idle_stores g.S.Disk.seen g.met.S.Disk.no_later g.met.S.Disk.at_now c.args.site.now _

pub returns-in-Ok-Some-ServeShown-clause-stores : goal.returns-in-Ok-Some-ServeShown-clause-stores
returns-in-Ok-Some-ServeShown-clause-stores g c = idle_stores g.S.Disk.seen g.met.S.Disk.no_later g.met.S.Disk.at_now c.args.site.now _

pub returns-in-Ok-None-clause-stores : goal.returns-in-Ok-None-clause-stores
returns-in-Ok-None-clause-stores g c = idle_stores g.S.Disk.seen g.met.S.Disk.no_later g.met.S.Disk.at_now c.args.site.now _

pub returns-in-Err-clause-stores : goal.returns-in-Err-clause-stores
returns-in-Err-clause-stores g c = idle_stores g.S.Disk.seen g.met.S.Disk.no_later g.met.S.Disk.at_now c.args.site.now _

pub returns-in-Ok-Some-Help-clause-stores : goal.returns-in-Ok-Some-Help-clause-stores
returns-in-Ok-Some-Help-clause-stores g c = idle_stores g.S.Disk.seen g.met.S.Disk.no_later g.met.S.Disk.at_now c.args.site.now _

pub returns-in-Ok-Some-Version-clause-stores : goal.returns-in-Ok-Some-Version-clause-stores
returns-in-Ok-Some-Version-clause-stores g c = idle_stores g.S.Disk.seen g.met.S.Disk.no_later g.met.S.Disk.at_now c.args.site.now _

pub relay-requires : goal.relay-requires
relay-requires g c =
    let at = c.in-Ok-Some-Relay in
    record {
      pullable = relayable (pulling_of at.order) (map string_bytes c.args.words.now)
          (sym (ap (λ (o : Option Order). option_map wanted_of o) (at.field-0-is ∙ ap (λ (o : Order). Some o) at.field-0-0-is)) ∙ at.ensures);
    }

pub standby-requires : goal.standby-requires
standby-requires g c =
    let at = c.in-Ok-Some-Standby in
    record {
      pullable = followable (pulling_of at.order) (map string_bytes c.args.words.now)
          (sym (ap (λ (o : Option Order). option_map wanted_of o) (at.field-0-is ∙ ap (λ (o : Order). Some o) at.field-0-0-is)) ∙ at.ensures);
    }
