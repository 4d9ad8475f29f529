use Rattle.std.proofs.Common.{◌≡◌, List, ap, sym, ◌∙◌}
use Rattle.std.proofs.Common.{Some}
use Rattle.std.specs.Option.{option_map}
use Rattle.sm_model.specs.Boxes.{Box, box_of}
use Rattle.sm_model.specs.Found.{found, bodies}
use Rattle.sm_box.specs.Place.{left}
use Rattle.sm_box.specs.Seen.{seen}
use Rattle.sm_box.proofs.Split.{more, inner, done, bad}
use Rattle.sm_box.proofs.found.find_kind.Goals as goal

pub walk-preserved : goal.walk-preserved
walk-preserved c =
    let i = c.in-Item.ensures in
    more _ _ _ _ (λ xs. seen c.add_kind.new.self ≡ found (bodies c.args.name.now xs)) _ _ _ _ c.walk.invariant i
    (λ xs h. c.add_kind.ensures xs (box_of (left c.walk.children)) (sym i.kind_is) (inner _ _ _ _ _ _ _ _ c.walk.invariant i) h)

pub returns-in-Done : goal.returns-in-Done
returns-in-Done c =
    let d = done _ _ _ _ c.walk.invariant c.in-Done.ensures in
    ap Some d.2 ∙ sym (ap (option_map (λ (xs : List Box). found (bodies c.args.name.now xs))) d.1)

pub returns-in-Bad : goal.returns-in-Bad
returns-in-Bad c = sym (ap (option_map (λ (xs : List Box). found (bodies c.args.name.now xs))) (bad _ _ _ _ _ c.walk.invariant c.in-Bad.ensures))
