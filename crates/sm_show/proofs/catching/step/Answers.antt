use Rattle.std.proofs.Common.{rules, arith, ◌≡◌, ◌-◌, ℕ, List, Option, Some, slice_get, subst}
use Rattle.sm_site.specs.Meanings.{Item}
use Rattle.sm_model.specs.declared.entry.Entry.TheVariants.{Keep}
use Rattle.sm_log.specs.Adds.{Add}
use Rattle.sm_shelf.specs.Shelf.{height_of}
use Rattle.sm_show.specs.declared.outcome.Up.TheVariants.{Short}
use Rattle.sm_show.specs.Recalling.{Publishes, Shows}
use Rattle.sm_show.proofs.Resting.{brings_here}
use Rattle.sm_show.proofs.catching.step.Goals as goal

pub returns-in_default-clause-brings : goal.returns-in_default-clause-brings
returns-in_default-clause-brings g c = brings_here g.S.Disk.seen c.args.state.now c.args.site.now c.args.writer.now Short (λ is. absurd (cc)) c.requires.stands

pub returns-in-Ok-clause-brings : goal.returns-in-Ok-clause-brings
returns-in-Ok-clause-brings g c = record {
  recalls = c.in-Ok.ensures.back.recalls;
  table = c.put.ensures.table;
  publishes = subst (λ (t : Option (List Item)). Publishes t c.args.writer.now c.put.new.writer) c.in-Ok.ensures.back.recalls.disk_alone.link.transcript c.put.ensures.publishes;
  belongs = λ h serves told belongs.
      let of : Shows c.args.state.now.origin.archive (Some c.in-Some.catalog.now) = search rules in
      let stands = serves.rest.stands.stands in
      let log = h.point.machine.log in
      let shows = of stands.bodies stands.body log h.point.machine.doubt stands.keeps in
      let reads = c.in-Ok.ensures.reads in
      let x = reads.added in
      let place = c.catalogs_of_logs_fit.ensures.places log (c.height-height.result - 1) x stands.keeps.sound
      (subst (λ (l : List Add). slice_get l (c.height-height.result - 1) ≡ Some x) shows.1 reads.at) in
      let here : x.place ≡ height_of c.args.writer.now.published = omega (arith, place, c.if-height-eq0.false, c.height-height.ensures) in
      c.put.ensures.belongs log stands.keeps.sound belongs
      (subst (λ (n : ℕ). slice_get log n ≡ Some (Keep c.in-Ok.fragment)) here (reads.found h serves told));
  behind = λ is. absurd (c.put.ensures.none is);
}
