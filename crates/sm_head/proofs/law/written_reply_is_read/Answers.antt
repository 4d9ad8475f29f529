use Rattle.sm_head.specs.Replies.{reply_head}
use Rattle.std.specs.Prelude.{length}
use Rattle.sm_head.proofs.ReplyLaw.{written_is_read, body_begins, front_waits}
use Rattle.sm_head.proofs.law.written_reply_is_read.Goals as goal

pub returns : goal.returns
returns c = record {
  head = written_is_read;
  body = λ status kind body close more. body_begins (reply_head status kind (length body) close) body more;
  front = front_waits;
}
