use Rattle.std.proofs.Common.{◌≤◌, ◌-◌, false, length, take}
use Rattle.sm_push.specs.Standing.{Stands}
use Rattle.sm_export.specs.Heads.{SeenAt}
use Rattle.sm_export.proofs.head.feed_all.Given as goal

abbrev pub invariant-loop-at : goal.invariant-loop-at
invariant-loop-at l = record { within : l.at ≤ length l.input; stands : Stands false l.push (take l.at l.input); seen : SeenAt l.input l.at l.seen }

abbrev pub decreases-loop-at : goal.decreases-loop-at
decreases-loop-at l = length l.initial.input - l.at
