use Rattle.sm_smil.specs.LiveRead.{live_manifest}
use Rattle.sm_smil.specs.LiveText.{live_text}
use Rattle.sm_smil.proofs.OneAnswer.{some_answer}
use Rattle.sm_smil.proofs.WrittenChannel.{live_text_gives, live_text_pushes}
use Rattle.sm_smil.proofs.law.live_text_is_read_as_its_channel.Goals as goal

pub returns-clause-ladder : goal.returns-clause-ladder
returns-clause-ladder c = λ channel is narrow r read. live_text_gives channel is narrow r read

pub returns-clause-pushed : goal.returns-clause-pushed
returns-clause-pushed c = λ channel is narrow r read. live_text_pushes channel is narrow r read

pub returns-clause-computed : goal.returns-clause-computed
returns-clause-computed c =
    λ channel is narrow. live_text_pushes channel is narrow (live_manifest (live_text channel)) (some_answer (live_text channel))
