use Rattle.std.proofs.Common.{subst}
use Rattle.sm_smil.specs.LiveManifests.{IsLiveManifest}
use Rattle.sm_push.proofs.HeaderApart.{headers_apart, body_apart}
use Rattle.sm_push.proofs.law.tracks_of_a_header_differ.Goals as goal

pub returns : goal.returns
returns c headerless b =
    body_apart (headers_apart (λ text ts e. c.live_manifests_are_valid.ensures text ts (subst (IsLiveManifest text) e (c.live_manifest_has_one_answer.ensures.some text)))) headerless b
