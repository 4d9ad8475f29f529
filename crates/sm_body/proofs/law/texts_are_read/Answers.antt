use Rattle.sm_body.proofs.TextLaw.{text_run}
use Rattle.sm_body.proofs.BodyLaw.{text_body_is}
use Rattle.sm_body.proofs.law.texts_are_read.Goals as goal

pub returns : goal.returns
returns c = record { ends = text_run; body = text_body_is }
