use Rattle.std.proofs.Common.{sym, ◌∙◌, add-one}
use Rattle.sm_log.proofs.PlainLemmas.{window_past_slice}
use Rattle.sm_log.proofs.plain.window.Goals as goal

pub loop-i-preserved : goal.loop-i-preserved
loop-i-preserved c =
    rw add-one (window_past_slice c.args.fragments.now c.loop-i.i c.loop-i-test.true (sym c.are_within.ensures ∙ c.if-are_within.false) ∙ c.loop-i.invariant)
