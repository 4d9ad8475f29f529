use Rattle.std.proofs.Common.{◌≡◌, ◌∙◌, ◌++◌, [], List, ap, sym, arith}
use Rattle.std.specs.Prelude.{map}
use Rattle.std.proofs.lemmas.Grind.{common_steps}
use Rattle.std.proofs.lemmas.List.{append-nil, nil_from_length}
use Rattle.sm_model.specs.declared.item.Item.{Item}
use Rattle.sm_wire.proofs.PlainLaw.{shown_item, map_shown}
use Rattle.sm_wire.proofs.plain.show.Goals as goal

pub returns : goal.returns
returns c =
    let none : c.loop-left.left.items ≡ [] = nil_from_length c.loop-left.left.items (grind (arith, common_steps)) in
    sym (append-nil c.loop-left.out.items) ∙ ap (λ (left : List Item). c.loop-left.out.items ++ map shown_item left) (sym none)
    ∙ c.loop-left.invariant ∙ ap (λ (left : List Item). c.args.out.now.items ++ map shown_item left) c.into_vec-left.ensures
    ∙ ap (λ ws. c.args.out.now.items ++ ws) (map_shown c.args.items)
