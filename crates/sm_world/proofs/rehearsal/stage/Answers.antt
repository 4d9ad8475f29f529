use Rattle.std.proofs.Common.{List, [], ap, refl, subst, sym, ◌∙◌}
use Rattle.std.specs.Prelude.{IfSome}
use Rattle.std.specs.FinMap as map
use Rattle.sm_model.specs.declared.entry.Entry.{Entry}
use Rattle.sm_site.specs.Meanings.{View}
use Rattle.sm_site.specs.Memory.{site_seen, site_view, site_openings}
use Rattle.sm_archive.specs.Store.{IsStore}
use Rattle.sm_world.specs.Dialing.{Dialing}
use Rattle.sm_world.specs.Worlds.{World, Stands}
use Rattle.sm_world.proofs.Empty.{bytes_empty, empty_store}
use Rattle.sm_world.proofs.rehearsal.stage.Goals as goal

pub new-dial-requires-clause-store : goal.new-dial-requires-clause-store
new-dial-requires-clause-store c =
    subst (λ (v : View). IfSome v.contents (λ now. (log : List Entry) × IsStore log now)) (sym c.new-site.ensures.view)
    ([], empty_store map.empty bytes_empty)

pub returns : goal.returns
returns c =
    let site = c.new-site.result in
    let is = c.new-dial.ensures.dialing in
    let w : World = record { first = []; past = site_openings site; log = [] } in
    let store : IfSome (site_view site).contents (IsStore []) =
    subst (λ (v : View). IfSome v.contents (IsStore [])) (sym c.new-site.ensures.view) (empty_store map.empty bytes_empty)
    in
    record {
      world = w;
      stands = subst (λ (d : Dialing). Stands site_seen w d.state c.new-dial.result.0) (sym is) (c.new-dial.ensures.stands [] store);
      first = refl;
      log = refl;
      place = c.in_ok-place.ensures;
      id = c.in_ok-name.ensures;
      header = c.in_ok-header.ensures;
      made = ap (λ (d : Dialing). d.made) is;
      lost = ap (λ (d : Dialing). d.lost) is ∙ c.from_vec-lost.ensures ∙ c.new-4.ensures.items;
      cut = ap (λ (d : Dialing). d.cut) is ∙ c.from_vec-cut.ensures ∙ c.new-5.ensures.items;
      crashes = ap (λ (d : Dialing). d.crashes) is;
      known = refl;
      refused = refl;
    }
