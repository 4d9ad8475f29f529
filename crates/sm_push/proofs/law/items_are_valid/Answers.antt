use Rattle.std.proofs.Common.{subst}
use Rattle.sm_smil.specs.LiveManifests.{IsLiveManifest}
use Rattle.sm_push.proofs.HeaderValid.{header_valid}
use Rattle.sm_push.proofs.Valid.{body_valid}
use Rattle.sm_push.proofs.law.items_are_valid.Goals as goal

pub returns : goal.returns
returns c headerless b =
    body_valid (record {
      headers = header_valid (λ text ts e. c.live_manifests_are_valid.ensures text ts (subst (IsLiveManifest text) e (c.live_manifest_has_one_answer.ensures.some text))) c.timescales_are_positive.ensures;
      runs = c.read_is_sound.ensures.run;
      finish = c.read_is_sound.ensures.finish;
    }) headerless b
