use Rattle.std.proofs.Common.{◌≡◌, ◌≤◌, ◌++◌, ◌-◌, length, take, drop}
use Rattle.sm_tag.specs.TagBytes.{prefix, remaining}
use Rattle.sm_tag.specs.Reads.{is_of}
use Rattle.sm_tag.proofs.scan.split.Given as goal

abbrev pub invariant-loop-end : goal.invariant-loop-end
invariant-loop-end l = record {
  within : l.end ≤ length l.bytes;
  prefix : take l.end l.bytes ++ prefix (is_of l.class) (drop l.end l.bytes) ≡ prefix (is_of l.class) l.bytes;
  remaining : remaining (is_of l.class) (drop l.end l.bytes) ≡ remaining (is_of l.class) l.bytes;
}

abbrev pub decreases-loop-end : goal.decreases-loop-end
decreases-loop-end l = length l.bytes - l.end
