use Rattle.std.proofs.Common.{◌∙◌, ap}
use Rattle.sm_model.specs.Moov.{moov}
use Rattle.sm_moov.proofs.BareMoov.{bare_whole, bare_body, bare-len, body_read, timed}
use Rattle.sm_moov.proofs.law.written_moov_is_read.Goals as goal

pub returns-clause-whole : goal.returns-clause-whole
returns-clause-whole c = λ tracks valid. bare_whole tracks valid.few

pub returns-clause-size : goal.returns-clause-size
returns-clause-size c = λ tracks valid. bare-len tracks valid.few

pub returns-clause-read : goal.returns-clause-read
returns-clause-read c = λ tracks valid narrow.
    ap moov (bare_body tracks valid.few) ∙ body_read tracks valid.few (timed tracks valid.each narrow)
