use Rattle.sm_model.proofs.WrittenFragment.{moof_whole, mdat_whole, two_boxes, moof_read, frag_read}
use Rattle.sm_model.proofs.law.written_fragment_is_read.Goals as goal

pub returns : goal.returns
returns c = record { moof_whole = moof_whole; mdat_whole = mdat_whole; two_boxes = two_boxes; moof = moof_read; fragment = frag_read }
