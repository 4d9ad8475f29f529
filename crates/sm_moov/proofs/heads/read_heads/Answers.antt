use Rattle.std.proofs.Common.{◌≡◌, ◌∙◌, ap, sym}
use Rattle.std.specs.Prelude.{codes}
use Rattle.std.specs.Option.{option_and_then}
use Rattle.sm_model.specs.Boxes.{box_of}
use Rattle.sm_model.specs.Moov.{traks_of, trak, single}
use Rattle.sm_box.specs.Place.{left}
use Rattle.sm_box.proofs.Split.{begins, more, inner, done, bad}
use Rattle.sm_moov.proofs.GatherLemmas.{gather-none}
use Rattle.sm_moov.proofs.heads.read_heads.Goals as goal

pub walk-init : goal.walk-init
walk-init c =
    begins _ _ (λ xs. c.new-heads.result ≡ traks_of xs) c.new-children.ensures.body c.new-children.ensures.at
    (c.new-heads.ensures ∙ sym (gather-none (λ b. single (trak b)) (codes "trak")))

pub walk-preserved : goal.walk-preserved
walk-preserved c =
    let i = c.in-Item.ensures in
    more _ _ _ _ (λ xs. c.add_child.new.heads ≡ traks_of xs) _ _ _ _ c.walk.invariant i
    (λ xs h. c.in_ok-add_child-in-Item.ensures xs (box_of (left c.walk.children)) (sym i.kind_is) (inner _ _ _ _ _ _ _ _ c.walk.invariant i) h)

pub returns-in-Done : goal.returns-in-Done
returns-in-Done c =
    let d = done _ _ _ _ c.walk.invariant c.in-Done.ensures in
    c.into_items.ensures ∙ d.2 ∙ sym (ap (option_and_then traks_of) d.1)

pub returns-in-Bad : goal.returns-in-Bad
returns-in-Bad c = sym (ap (option_and_then traks_of) (bad _ _ _ _ _ c.walk.invariant c.in-Bad.ensures))
