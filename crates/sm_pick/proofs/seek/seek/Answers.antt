use Rattle.std.proofs.Common.{◌≡◌, ◌+◌, ◌∷◌, ◌++◌, [], List, ℕ, length, take, get_or, sym, ◌∙◌, arith}
use Rattle.std.proofs.lemmas.List.{length-take-le, take_more}
use Rattle.sm_model.specs.Items.{Given, Header}
use Rattle.sm_pick.proofs.Searching.{fragments_few, tally_header, tally_fragment}
use Rattle.sm_pick.proofs.seek.seek.Goals.{then-is_fragment, else-is_fragment}
use Rattle.sm_pick.proofs.seek.seek.Goals as goal

pub tallied-tally-requires : goal.tallied-tally-requires
tallied-tally-requires c =
    omega (arith, c.loop-index.invariant.count_is, fragments_few (take c.loop-index.index c.args.items.now), length-take-le c.loop-index.index c.args.items.now (omega arith))

pub loop-index-preserved : goal.loop-index-preserved
loop-index-preserved c =
    let gs : List Given = c.args.items.now in
    let i : ℕ = c.loop-index.index in
    let g : Given = get_or gs i (Header []) in
    let more : take (i + 1) gs ≡ take i gs ++ g ∷ [] = take_more gs i (Header []) (omega arith) in
    let at : i ≡ length (take i gs) = sym (length-take-le i gs (omega arith)) in
    rw more (elim c.if-is_fragment.branch [
      | then-is_fragment w ↦ tally_fragment c.args.before c.args.track c.args.time i (take i gs) g c.loop-index.tally c.if-is_fragment.tally c.is_fragment.result w.is_sought.result
          (c.is_fragment.ensures (Header [])) w.if-is_fragment.true (w.is_sought.ensures (Header [])) at (w.tally-is ∙ w.tallied-tally.ensures) c.loop-index.invariant
      | else-is_fragment w ↦ tally_header c.args.before c.args.track c.args.time (take i gs) g c.loop-index.tally c.if-is_fragment.tally c.is_fragment.result
          (c.is_fragment.ensures (Header [])) w.if-is_fragment.false w.tally-is c.loop-index.invariant
    ])
