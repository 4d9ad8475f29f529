use Rattle.std.proofs.Common.{refl, arith}
use Rattle.sm_fetch.specs.Answered.{first}
use Rattle.sm_fetch.proofs.Heads.{interim, head_len, bad_head}
use Rattle.sm_fetch.proofs.reply.read_reply.Goals as goal

pub loop-length-init : goal.loop-length-init
loop-length-init c = record { within = omega arith; behind = first c.args.bytes.now 0 refl }

pub loop-length-preserved : goal.loop-length-preserved
loop-length-preserved c =
    let head = rw c.in-Ok-Whole.field-0-is at c.in-Ok-Whole.ensures in
    record {
      within = head_len c.args.bytes.now c.loop-length.at c.in-Ok-Whole.length c.in-Ok-Whole.status c.in-Ok-Whole.framing c.loop-length.invariant.within head;
      behind = interim c.args.bytes.now c.loop-length.at c.in-Ok-Whole.length c.in-Ok-Whole.status c.in-Ok-Whole.framing
          c.loop-length.invariant.behind head c.if-status-ge200.false;
    }

pub returns-in-Err-Bad : goal.returns-in-Err-Bad
returns-in-Err-Bad c =
    bad_head c.args.bytes.now c.loop-length.at c.loop-length.invariant.behind (rw c.in-Err-Bad.field-0-is at c.in-Err-Bad.ensures)
