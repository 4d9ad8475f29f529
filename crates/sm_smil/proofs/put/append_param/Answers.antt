use Rattle.std.proofs.lemmas.Result.{IfOk-equal}
use Rattle.sm_smil.specs.LiveText.{param_line}
use Rattle.sm_smil.proofs.Joined.{three}
use Rattle.sm_smil.proofs.put.append_param.Goals as goal

pub returns : goal.returns
unfolding param_line
returns c =
    IfOk-equal c.append.result _ _ _ c.append.ensures (rw (c.in_ok-append_two-2.ensures, c.in_ok-append_two.ensures) (three c.args.out.now.items _ _ _))
