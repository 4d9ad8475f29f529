use Rattle.sm_site.specs.Clauses.{Rose}
use Rattle.sm_origin.proofs.KeptNow.{silent_kept}
use Rattle.sm_origin.proofs.shown.a_silent_fragment_is_kept.Goals as goal

pub returns : goal.returns
returns c a b m n f r step none = silent_kept c.kept_is_added.ensures.place (Rose a b) m n f r step none
