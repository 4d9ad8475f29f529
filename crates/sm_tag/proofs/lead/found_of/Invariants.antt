use Rattle.std.proofs.Common.{◌≤◌, length, ℕ, List}
use Rattle.sm_tag.specs.declared.grammar.Markup.{Markup}
use Rattle.sm_tag.specs.declared.grammar.Lead.{Lead}
use Rattle.sm_tag.specs.Tags.{Founds}
use Rattle.sm_tag.proofs.lead.found_of.Given as goal

abbrev pub invariant-skips : goal.invariant-skips
invariant-skips l = record {
  skips : (f : Lead × Markup × ℕ × List ℕ) → Founds l.inside l.rest f → Founds l.inside l.bytes f;
  shorter : length l.rest ≤ length l.bytes;
}

abbrev pub decreases-skips : goal.decreases-skips
decreases-skips l = length l.rest
