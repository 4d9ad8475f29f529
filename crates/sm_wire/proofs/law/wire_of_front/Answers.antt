use Rattle.std.proofs.Common.{◌∙◌, ap, sym, List, ◌++◌, None}
use Rattle.sm_wire.specs.declared.item.WireItem.{WireItem}
use Rattle.sm_wire.specs.Wire.{wire}
use Rattle.sm_wire.proofs.WireLaw.{wire_front, left_exists, refused_left}
use Rattle.sm_wire.proofs.law.wire_of_front.Goals as goal

pub returns-clause-parts : goal.returns-clause-parts
returns-clause-parts c parts more = wire_front c.front.ensures parts more

pub returns-clause-bytes : goal.returns-clause-bytes
returns-clause-bytes c bytes more items all (parts, one, is) (parts2, two, is2) =
    let joins = c.parts_of_front.ensures bytes more parts parts2 one.0 two.0 one.1 two.1 in
    let goes_on = wire_front c.front.ensures parts joins.0 in
    (goes_on.0, is2 ∙ ap (wire None) joins.1 ∙ goes_on.1 ∙ ap (λ (ws : List WireItem). ws ++ goes_on.0) (sym is))

pub returns-clause-left : goal.returns-clause-left
returns-clause-left c open_push parts = left_exists c.front.ensures open_push parts

pub returns-clause-ends : goal.returns-clause-ends
returns-clause-ends c before bytes items header r parts is = refused_left c.front.ensures before bytes items header r parts is
