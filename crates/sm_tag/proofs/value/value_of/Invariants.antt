use Rattle.std.proofs.Common.{◌≤◌, length}
use Rattle.sm_tag.proofs.Pieces.{Completes}
use Rattle.sm_tag.proofs.value.value_of.Given as goal

abbrev pub invariant-pieces : goal.invariant-pieces
invariant-pieces l = record {
  completes : Completes l.quote l.bytes l.value.items l.rest;
  shorter : length l.rest ≤ length l.bytes;
}

abbrev pub decreases-pieces : goal.decreases-pieces
decreases-pieces l = length l.rest
