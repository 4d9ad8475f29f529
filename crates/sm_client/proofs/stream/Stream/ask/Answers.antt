use Rattle.std.proofs.Common.{arith, refl}
use Rattle.sm_client.proofs.Dials.{left-same, left-then, left-dropped, left-more, left-carried}
use Rattle.sm_client.proofs.Kept.{keeps-behind}
use Rattle.sm_client.proofs.Tries.{piece_tried-start, piece_tried-more, piece_tried-took, piece_tried-stopped, piece_tried-lost, piece_tried-end, took-valid}
use Rattle.sm_client.proofs.stream.Stream.ask.Goals as goal

pub loop-done-init : goal.loop-done-init
loop-done-init g c = record {
  tried = piece_tried-start _ _ _ _ _ _ _ c.new-outcomes.ensures;
  dial = left-carried _ (left-same (g.met.C.Dial.later_same _)) c.new-outcomes.ensures;
}

pub loop-done-preserved : goal.loop-done-preserved
loop-done-preserved g c = record {
  tried = piece_tried-more _ _ _ c.loop-done.invariant.tried c.loop-done-test.true c.in-Missed.ensures.once c.in-Missed.ensures.rest c.settle-in-Missed.ensures c.in-Ok.ensures.ok refl;
  dial = left-more _ g.met.C.Dial.later_then c.loop-done.invariant.dial c.in-Missed.ensures.dial c.in-Ok.ensures.ok;
}

pub returns-in-Took-clause-made : goal.returns-in-Took-clause-made
returns-in-Took-clause-made g c = piece_tried-took _ c.loop-done.invariant.tried c.loop-done-test.true c.in-Took.ensures.once c.in-Took.ensures.rest c.settle.ensures

pub returns-in_default-clause-made : goal.returns-in_default-clause-made
returns-in_default-clause-made g c = piece_tried-stopped _ c.loop-done.invariant.tried c.loop-done-test.true c.in-Missed.ensures.once c.in-Missed.ensures.rest c.settle-in-Missed.ensures

pub returns-in-NoMemory-clause-made : goal.returns-in-NoMemory-clause-made
returns-in-NoMemory-clause-made g c = piece_tried-lost _ c.loop-done.invariant.tried c.loop-done-test.true c.in-NoMemory.ensures.once c.in-NoMemory.ensures.rest

pub returns-clause-made : goal.returns-clause-made
returns-clause-made g c = piece_tried-end c.loop-done.invariant.tried (omega (arith, c.loop-done-test.false, c.loop-done.auto.done-end))

pub returns-in-Took-clause-took : goal.returns-in-Took-clause-took
returns-in-Took-clause-took g c = took-valid c.in-Took.ensures.once

pub returns-in-Took-clause-dial : goal.returns-in-Took-clause-dial
returns-in-Took-clause-dial g c = left-then g.met.C.Dial.later_then c.loop-done.invariant.dial c.in-Took.ensures.dial

pub returns-in-Took-clause-kept : goal.returns-in-Took-clause-kept
returns-in-Took-clause-kept g c = keeps-behind c.loop-done.invariant.dial.dialed.grows c.in-Took.ensures.kept

pub returns-in_default-clause-dial : goal.returns-in_default-clause-dial
returns-in_default-clause-dial g c = left-dropped (left-then g.met.C.Dial.later_then c.loop-done.invariant.dial c.in-Missed.ensures.dial)

pub returns-in-NoMemory-clause-dial : goal.returns-in-NoMemory-clause-dial
returns-in-NoMemory-clause-dial g c = left-then g.met.C.Dial.later_then c.loop-done.invariant.dial c.in-NoMemory.ensures.dial
