use Rattle.std.proofs.Common.{arith, refl}
use Rattle.sm_client.proofs.Dials.{left-same, left-then, left-dropped, left-more, left-carried}
use Rattle.sm_client.proofs.Tries.{list_tried-start, list_tried-same, list_tried-more, list_tried-found, list_tried-stopped, list_tried-lost, list_tried-end}
use Rattle.sm_client.proofs.stream.Stream.list.Goals as goal

pub loop-done-init : goal.loop-done-init
loop-done-init g c = record {
  tried = list_tried-same c.new-outcomes.ensures (list_tried-start _ _ _);
  dial = left-carried _ (left-same (g.met.C.Dial.later_same _)) c.new-outcomes.ensures;
}

pub loop-done-preserved : goal.loop-done-preserved
loop-done-preserved g c = record {
  tried = list_tried-more _ _ c.loop-done.invariant.tried c.loop-done-test.true c.in-Missed.ensures.listed c.in-Ok.ensures.ok refl;
  dial = left-more _ g.met.C.Dial.later_then c.loop-done.invariant.dial c.in-Missed.ensures.dial c.in-Ok.ensures.ok;
}

pub returns-in-Found-clause-listed : goal.returns-in-Found-clause-listed
returns-in-Found-clause-listed g c = list_tried-found c.loop-done.invariant.tried c.loop-done-test.true c.in-Found.ensures.listed

pub returns-in-Found-clause-dial : goal.returns-in-Found-clause-dial
returns-in-Found-clause-dial g c = left-then g.met.C.Dial.later_then c.loop-done.invariant.dial c.in-Found.ensures.dial

pub returns-in_default-clause-listed : goal.returns-in_default-clause-listed
returns-in_default-clause-listed g c = list_tried-stopped c.loop-done.invariant.tried c.loop-done-test.true c.in-Missed.ensures.listed

pub returns-in_default-clause-dial : goal.returns-in_default-clause-dial
returns-in_default-clause-dial g c = left-dropped (left-then g.met.C.Dial.later_then c.loop-done.invariant.dial c.in-Missed.ensures.dial)

pub returns-in-NoMemory-clause-listed : goal.returns-in-NoMemory-clause-listed
returns-in-NoMemory-clause-listed g c = list_tried-lost c.loop-done.invariant.tried c.loop-done-test.true c.in-NoMemory.ensures.listed

pub returns-in-NoMemory-clause-dial : goal.returns-in-NoMemory-clause-dial
returns-in-NoMemory-clause-dial g c = left-then g.met.C.Dial.later_then c.loop-done.invariant.dial c.in-NoMemory.ensures.dial

pub returns-clause-listed : goal.returns-clause-listed
returns-clause-listed g c = list_tried-end c.loop-done.invariant.tried (omega (arith, c.loop-done-test.false, c.loop-done.auto.done-end))
