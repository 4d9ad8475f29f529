use Rattle.sm_promises.proofs.Statuses.{ends_so, one_meaning}
use Rattle.sm_promises.proofs.law.each_exit_status_has_its_one_meaning.Goals as goal

pub returns : goal.returns
returns g c = record {
  ends = λ m before after ran. ends_so _ _ m before after ran;
  one = λ e f same. one_meaning e f same;
}
