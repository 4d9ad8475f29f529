use Rattle.std.proofs.lemmas.Result.{IfOk-equal}
use Rattle.sm_manout.proofs.Joined.{three}
use Rattle.sm_manout.proofs.stream.put_head.Goals as goal

pub returns : goal.returns
returns c =
    IfOk-equal c.put-3.result _ _ _ c.put-3.ensures (rw (c.in_ok-put-2.ensures, c.in_ok-put.ensures) (three c.args.out.now.items _ _ _))
