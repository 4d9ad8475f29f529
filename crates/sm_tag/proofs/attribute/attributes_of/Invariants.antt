use Rattle.std.proofs.Common.{length, ◌≤◌}
use Rattle.sm_tag.proofs.AttributeLemmas.{Follows}
use Rattle.sm_tag.proofs.NameSets.{Knows}
use Rattle.sm_tag.proofs.attribute.attributes_of.Given as goal

abbrev pub invariant-attributes : goal.invariant-attributes
invariant-attributes l = record {
  follows : Follows l.bytes l.attributes.items l.rest;
  known : Knows l.names.keys l.attributes.items;
  shorter : length l.rest ≤ length l.bytes;
}

abbrev pub decreases-attributes : goal.decreases-attributes
decreases-attributes l = length l.rest
