use Rattle.std.proofs.Common.{◌≡◌, sym}
use Rattle.sm_model.specs.Boxes.{box_of}
use Rattle.sm_model.specs.Frag.{traf_of}
use Rattle.sm_box.specs.Place.{left}
use Rattle.sm_box.proofs.Split.{more, inner, done, bad}
use Rattle.sm_traf.specs.Parts.{seen_parts}
use Rattle.sm_traf.proofs.parts.parts_of.Goals as goal

pub walk-preserved : goal.walk-preserved
walk-preserved c =
    let i = c.in-Item.ensures in
    more _ _ _ _ (λ xs. seen_parts c.add.new.self ≡ traf_of xs) _ _ _ _ c.walk.invariant i
    (λ xs h. c.add.ensures xs (box_of (left c.walk.children)) (sym i.kind_is) (inner _ _ _ _ _ _ _ _ c.walk.invariant i) h)

pub returns-in-Done-clause-some : goal.returns-in-Done-clause-some
returns-in-Done-clause-some c = done _ _ _ _ c.walk.invariant c.in-Done.ensures

pub returns-in-Bad-clause-none : goal.returns-in-Bad-clause-none
returns-in-Bad-clause-none c = bad _ _ _ _ _ c.walk.invariant c.in-Bad.ensures
