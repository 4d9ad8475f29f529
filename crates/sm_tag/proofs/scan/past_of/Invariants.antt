use Rattle.std.proofs.Common.{◌≡◌, ◌≤◌, length}
use Rattle.sm_tag.specs.TagMarkup.{past_word}
use Rattle.sm_tag.proofs.scan.past_of.Given as goal

abbrev pub invariant-loop-rest : goal.invariant-loop-rest
invariant-loop-rest l = (past_word l.word l.rest ≡ past_word l.word l.bytes) × (length l.rest ≤ length l.bytes)

abbrev pub decreases-loop-rest : goal.decreases-loop-rest
decreases-loop-rest l = length l.rest
