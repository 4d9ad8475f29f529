use Rattle.sm_serve.proofs.Counting.{all_is_given, all_is_taken}
use Rattle.sm_serve.proofs.law.without_a_fault_requests_are_met.Goals as goal

pub returns : goal.returns
returns c = record { given = all_is_given c.sound_logs_grow.ensures.front c.what_is_kept_stays.ensures.stays; taken = all_is_taken }
