use Rattle.std.proofs.Common.{◌≡◌, drop}
use Rattle.sm_tag.specs.Elements.{bad_of}
use Rattle.sm_smil.proofs.plain.bad_of.Given as goal

abbrev pub invariant-loop-tag : goal.invariant-loop-tag
invariant-loop-tag l = bad_of (drop l.tag-index l.tags) ≡ bad_of l.tags
