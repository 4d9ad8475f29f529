use Rattle.std.proofs.Common.{rules, arith, ◌≡◌, ◌∷◌, ◌∙◌, sym}
use Rattle.std.specs.Arc.{arc_value}
use Rattle.sm_shelf.specs.Parts.{held_in}
use Rattle.sm_shelf.proofs.Windows.{popped, window_fits}
use Rattle.sm_shelf.proofs.window.trim.Goals as goal

pub loop-left-preserved : goal.loop-left-preserved
loop-left-preserved c =
    let was : held_in c.loop-left.blocks.items ≡ arc_value c.in-Some.front ∷ held_in c.pop_front.new.self.items = search rules in
    let got = popped (held_in c.loop-left.blocks.items) (held_in c.pop_front.new.self.items) (arc_value c.in-Some.front) c.loop-left.left c.bytes-left.result was
    c.loop-left.invariant.1 c.loop-left-test.true (search rules) c.loop-left.invariant.2 in
    (got.0 ∙ c.loop-left.invariant.0, got.1, got.2)

pub returns-clause-blocks : goal.returns-clause-blocks
returns-clause-blocks c =
    sym (window_fits (held_in c.loop-left.blocks.items) (omega (arith, c.loop-left.invariant.1, c.loop-left-test.false))) ∙ c.loop-left.invariant.0
