use Rattle.std.proofs.Common.{◌∙◌, List, Option, ap, subst}
use Rattle.sm_site.specs.Meanings.{Item}
use Rattle.sm_model.specs.declared.fragment.Fragment.{Fragment}
use Rattle.sm_shelf.specs.Laying.{filling}
use Rattle.sm_show.specs.Recalling.{Publishes}
use Rattle.sm_show.proofs.Resting.{publishes_none, publishes_one}
use Rattle.sm_show.proofs.Marked.{all_of}
use Rattle.sm_show.proofs.catching.begin.Goals as goal

pub returns-in-Ok-fill-clause-brings : goal.returns-in-Ok-fill-clause-brings
returns-in-Ok-fill-clause-brings g c = record {
  recalls = c.in-Ok.ensures.back.recalls;
  table = c.fill.ensures.table;
  publishes = subst (λ (t : Option (List Item)). Publishes t c.args.writer.now c.fill.new.self) c.in-Ok.ensures.back.recalls.disk_alone.link.transcript
      (publishes_one _ c.args.writer.now c.fill.new.self _ c.in-Ok-fill.ensures.ok);
  belongs = λ h serves told belongs.
      let stands = serves.rest.stands.stands in
      let log = h.point.machine.log in
      let shows = c.requires.of stands.bodies stands.body log h.point.machine.doubt stands.keeps in
      let kept = c.in-Ok.ensures.last.kept h serves told in
      let digest = c.catalogs_of_logs_fit.ensures.whole log c.args.catalog.now kept.0 c.in-Ok.window.items stands.keeps.sound shows.0 shows.1 kept.1 kept.2 in
      c.fill.ensures.log log stands.keeps.sound belongs
      (all_of log (filling c.args.catalog.now c.as_slice.result.now)
      (ap (λ (l : List Fragment). filling c.args.catalog.now l) c.as_slice.ensures.value ∙ digest));
  behind = λ is. absurd (cc);
}

pub returns-clause-brings : goal.returns-clause-brings
returns-clause-brings g c = record {
  recalls = c.in-Ok.ensures.back.recalls;
  table = c.fill.ensures.table;
  publishes = subst (λ (t : Option (List Item)). Publishes t c.args.writer.now c.fill.new.self) c.in-Ok.ensures.back.recalls.disk_alone.link.transcript
      (publishes_none _ c.args.writer.now c.fill.new.self c.in-Err-fill.ensures.past c.in-Err-fill.ensures.err.0);
  belongs = λ h serves told belongs.
      let stands = serves.rest.stands.stands in
      let log = h.point.machine.log in
      let shows = c.requires.of stands.bodies stands.body log h.point.machine.doubt stands.keeps in
      let kept = c.in-Ok.ensures.last.kept h serves told in
      let digest = c.catalogs_of_logs_fit.ensures.whole log c.args.catalog.now kept.0 c.in-Ok.window.items stands.keeps.sound shows.0 shows.1 kept.1 kept.2 in
      c.fill.ensures.log log stands.keeps.sound belongs
      (all_of log (filling c.args.catalog.now c.as_slice.result.now)
      (ap (λ (l : List Fragment). filling c.args.catalog.now l) c.as_slice.ensures.value ∙ digest));
  behind = λ is. absurd (cc);
}
