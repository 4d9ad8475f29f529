use Rattle.sm_fetch.proofs.OneGot.{one_manifest_got, one_fragment_got, one_pushed}
use Rattle.sm_fetch.proofs.law.answer_spells_one.Goals as goal

pub returns : goal.returns
returns c = record { manifest = one_manifest_got; fragment = one_fragment_got; push = one_pushed }
