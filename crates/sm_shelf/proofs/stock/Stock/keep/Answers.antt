use Rattle.std.proofs.Common.{rules, ◌≡◌, ◌∙◌, sym, ap, true}
use Rattle.std.specs.Arc.{arc_value}
use Rattle.sm_model.specs.Entries.{address_of}
use Rattle.sm_log.specs.Digests.{Digest}
use Rattle.sm_shelf.specs.Parts.{channel_in}
use Rattle.sm_shelf.specs.Laying.{is_next}
use Rattle.sm_shelf.proofs.Places.{grown}
use Rattle.sm_shelf.proofs.stock.Stock.keep.Goals as goal

pub invariant_of-self-2 : goal.invariant_of-self-2
invariant_of-self-2 c =
    let f = arc_value c.args.fragment.now in
    let yes : is_next c.args.self.now c.args.place (address_of f) f.duration ≡ true = search rules in
    grown c.self.inside.catalog c.in-Some.catalog c.add.new.self c.args.place c.self.inside.window c.push.new.self f c.args.self.now c.self.invariant c.in-Some.is
    (sym (ap (λ (d : Digest). d.channel) c.self.view_is) ∙ ap channel_in c.in-Some.is) (sym (ap (λ (d : Digest). d.adds) c.self.view_is)) yes (search rules) (search rules)
