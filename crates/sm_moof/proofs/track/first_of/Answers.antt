use Rattle.std.proofs.Common.{◌+◌, ◌-◌, ℕ, List, Some, length, take, drop, sym, ap, ◌∙◌, arith}
use Rattle.std.specs.Option.{option_map}
use Rattle.std.specs.Prelude.{nat_eq}
use Rattle.std.specs.Cmp.Lexicographic.{pointwise}
use Rattle.sm_model.specs.Boxes.{Box}
use Rattle.sm_model.specs.TrackId.{first_body}
use Rattle.sm_moof.proofs.TrackLemmas.{begins, passed, found_here, at_end, at_bad}
use Rattle.sm_moof.proofs.track.first_of.Goals as goal

pub walk-smaller : goal.walk-smaller
walk-smaller c = let m = c.in-Item.ensures.moves in let i = c.in-Item.ensures.inside in omega (arith, m, i, ap length c.walk.invariant.body_is)

pub walk-init : goal.walk-init
walk-init c = begins _ _ _ c.new-children.ensures.body c.new-children.ensures.at

pub walk-preserved : goal.walk-preserved
walk-preserved c =
    let i = c.in-Item.ensures in
    passed _ _ _ _ _ _ _ _ c.walk.invariant i (ap (λ (k : List ℕ). pointwise nat_eq k c.args.name.now) (sym i.kind_is) ∙ sym c.same_kind.ensures ∙ c.if-same_kind.false)

pub returns-then-same_kind-clause-some : goal.returns-then-same_kind-clause-some
unfolding first_body
returns-then-same_kind-clause-some c =
    let i = c.in-Item.ensures in
    let e = ap (λ (k : List ℕ). pointwise nat_eq k c.args.name.now) (sym i.kind_is) ∙ sym c.same_kind.ensures ∙ c.if-same_kind.true in
    ap (option_map (λ (x : Box). x.body)) (found_here _ _ _ _ _ _ _ _ c.walk.invariant i e)
    ∙ ap (λ (b : List ℕ). Some b) (i.inner ∙ ap (λ (b : List ℕ). take (c.in-Item.at + c.in-Item.size - c.in-Item.body_at) (drop c.in-Item.body_at b)) c.walk.invariant.body_is)

pub returns-in-Done-clause-none : goal.returns-in-Done-clause-none
unfolding first_body
returns-in-Done-clause-none c = ap (option_map (λ (x : Box). x.body)) (at_end _ _ _ _ c.walk.invariant c.in-Done.ensures)

pub returns-in-Bad-clause-none : goal.returns-in-Bad-clause-none
unfolding first_body
returns-in-Bad-clause-none c = ap (option_map (λ (x : Box). x.body)) (at_bad _ _ _ _ _ c.walk.invariant c.in-Bad.ensures)
