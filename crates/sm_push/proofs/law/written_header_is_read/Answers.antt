use Rattle.sm_model.specs.Boxes.{box_of}
use Rattle.sm_smil.specs.LiveText.{live_text}
use Rattle.sm_model.specs.MoovText.{bare_moov}
use Rattle.sm_push.proofs.WrittenHeader.{header_again}
use Rattle.sm_push.proofs.law.written_header_is_read.Goals as goal

pub returns : goal.returns
returns c = λ channel is narrow.
    header_again (live_text channel) (box_of (bare_moov channel)).body channel is
    (c.live_text_is_read_as_its_channel.ensures.computed channel is narrow)
    (c.written_moov_is_read.ensures.read channel is narrow)
