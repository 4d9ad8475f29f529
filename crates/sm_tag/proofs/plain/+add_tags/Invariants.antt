use Rattle.std.proofs.Common.{length}
use Rattle.sm_tag.proofs.plain.+add_tags.Given as goal

abbrev pub decreases-add_tags : goal.decreases-add_tags
decreases-add_tags l = length l.reader.rest
