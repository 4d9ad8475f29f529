use Rattle.sm_site.specs.Clauses.{Rose}
use Rattle.sm_origin.proofs.Telling.{reads_some, closing_refused, refusal_differs, final_status, says_own}
use Rattle.sm_origin.proofs.shown.replies_tell_by_their_status.Goals as goal

pub returns : goal.returns
returns c = record {
  asked = λ a b m n act r step reads. reads_some (Rose a b) m n act r step reads;
  refused = λ a b m n act r e step writes some. closing_refused (Rose a b) m n act r e step writes some;
  refusal = λ a b m n why r step. refusal_differs (Rose a b) m n why r step;
  not_interim = λ a b m n act r step. final_status (Rose a b) m n act r step;
  own = λ a b m n act r step some differs part more whole other code shown. says_own c.part_shows_its_status.ensures.own (Rose a b) m n act r step some differs part more whole other code shown;
}
