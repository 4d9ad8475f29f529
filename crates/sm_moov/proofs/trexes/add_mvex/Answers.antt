use Rattle.std.proofs.Common.{◌≡◌, ◌∙◌, ap, sym}
use Rattle.std.specs.Prelude.{codes}
use Rattle.std.specs.Option.{option_and_then}
use Rattle.sm_model.specs.Boxes.{box_of}
use Rattle.sm_model.specs.Moov.{joined, trex, trexes_in, mvex, single}
use Rattle.sm_box.specs.Place.{left}
use Rattle.sm_box.proofs.Split.{begins, more, inner, done, bad}
use Rattle.sm_moov.proofs.GatherLemmas.{joined-nil, joined-none, gather-none}
use Rattle.sm_moov.proofs.trexes.add_mvex.Goals as goal

pub walk-init : goal.walk-init
walk-init c =
    begins _ _ (λ xs. c.args.trexes.now ≡ joined c.args.trexes.now (trexes_in xs)) c.new-children.ensures.body c.new-children.ensures.at
    (sym (ap (joined c.args.trexes.now) (gather-none (λ b. single (trex b)) (codes "trex")) ∙ joined-nil c.args.trexes.now))

pub walk-preserved : goal.walk-preserved
walk-preserved c =
    let i = c.in-Item.ensures in
    more _ _ _ _ (λ xs. c.add_trex.new.trexes ≡ joined c.args.trexes.now (trexes_in xs)) _ _ _ _ c.walk.invariant i
    (λ xs h. c.in_ok-add_trex-in-Item.ensures c.args.trexes.now xs (box_of (left c.walk.children)) (sym i.kind_is) (inner _ _ _ _ _ _ _ _ c.walk.invariant i) h)

pub returns-in-Done : goal.returns-in-Done
unfolding mvex
returns-in-Done c =
    let d = done _ _ _ _ c.walk.invariant c.in-Done.ensures in
    d.2 ∙ ap (joined c.args.trexes.now) (sym (ap (option_and_then trexes_in) d.1))

pub returns-in-Bad : goal.returns-in-Bad
unfolding mvex
returns-in-Bad c =
    c.spoil.ensures ∙ sym (joined-none c.args.trexes.now)
    ∙ ap (joined c.args.trexes.now) (sym (ap (option_and_then trexes_in) (bad _ _ _ _ _ c.walk.invariant c.in-Bad.ensures)))
