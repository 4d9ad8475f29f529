use Rattle.std.proofs.Common.{subst, sym, length}
use Rattle.sm_smil.specs.declared.raw_track.Form.TheVariants.{Pushed, Ladder}
use Rattle.sm_smil.specs.LiveTracks.{smil_track, ladder_track}
use Rattle.sm_smil.specs.Ruled.{IsRuled}
use Rattle.sm_smil.proofs.WalkRuled.{ruled, ruled_so}
use Rattle.sm_smil.proofs.law.live_manifests_are_by_rule.Goals as goal

pub returns-clause-pushed : goal.returns-clause-pushed
returns-clause-pushed c = λ text r. (
  λ h. (h.0, h.1, subst (λ x. IsRuled smil_track Pushed (length text) h.0 x) (sym h.2) (ruled smil_track Pushed (length text) h.0)),
  λ h. (h.0, h.1, ruled_so smil_track Pushed (length text) h.0 r h.2),
)

pub returns-clause-ladder : goal.returns-clause-ladder
returns-clause-ladder c = λ text r. (
  λ h. (h.0, h.1, subst (λ x. IsRuled ladder_track Ladder (length text) h.0 x) (sym h.2) (ruled ladder_track Ladder (length text) h.0)),
  λ h. (h.0, h.1, ruled_so ladder_track Ladder (length text) h.0 r h.2),
)
