use Rattle.std.proofs.Common.{arith}
use Rattle.sm_log.specs.Logs.{channel_of}
use Rattle.sm_record.specs.Bodies.{IsBody}
use Rattle.sm_archive.proofs.Lists.{all_zip_len}
use Rattle.sm_archive.proofs.archive.Archive.len.Goals as goal

pub returns : goal.returns
returns c = λ bodies body log doubt k. omega (arith, c.len.ensures, k.count, k.sound.few, all_zip_len (IsBody (channel_of log)) log bodies k.spell)
