use Rattle.std.proofs.Common.{◌≡◌, sym, ap, ◌∙◌, Some, None, Ok, Err}
use Rattle.sm_model.specs.declared.cause.Cause.{Cause}
use Rattle.sm_model.specs.declared.run.Run.{Run}
use Rattle.std.specs.Prelude.{Result}
use Rattle.sm_push.specs.declared.state.PushState.{PushState}
use Rattle.sm_model.specs.Frag.{moof_run}
use Rattle.sm_push.specs.PushBoxes.{Step, track_in}
use Rattle.sm_push.proofs.MoofLemmas.{MoofLaws, moof_fails, moof_waits}
use Rattle.sm_push.proofs.step.take_moof.Goals as goal

pub returns-in-Err-Refused-clause-takes : goal.returns-in-Err-Refused-clause-takes
returns-in-Err-Refused-clause-takes c =
    let laws : MoofLaws = record { causes = c.causes_are_without_defaults.ensures; ids = c.track_id_is_of_run.ensures } in
    let read : (let r : Result Run Cause = Err c.in-Err-Refused.cause in moof_run c.defaults_for-defaults.result c.args.whole.now ≡ r) = rw c.in-Err-Refused.field-0-is at c.in-Err-Refused.ensures in
    rw (c.refuse-in-Err-Refused.ensures, c.in-Err-Refused.cause-is) (moof_fails laws c.args.state.now c.args.whole.now c.defaults_for-defaults.result c.in-Err-Refused.cause c.defaults_for-defaults.ensures read)

pub returns-in-Some-clause-takes : goal.returns-in-Some-clause-takes
returns-in-Some-clause-takes c =
    let laws : MoofLaws = record { causes = c.causes_are_without_defaults.ensures; ids = c.track_id_is_of_run.ensures } in
    let found : Some c.in-Some.track ≡ track_in c.args.state.now.stage c.in-Ok.run'.id = sym c.in-Some.is ∙ c.in_ok-track-in-Ok.ensures in
    moof_waits laws c.args.state.now c.args.whole.now c.defaults_for-defaults.result c.in-Ok.run' (Some c.in-Some.track) c.defaults_for-defaults.ensures c.in-Ok.ensures found
    ∙ ap (λ (st : PushState). let r : Step = Ok (None, st) in r) (sym c.wait.ensures)
