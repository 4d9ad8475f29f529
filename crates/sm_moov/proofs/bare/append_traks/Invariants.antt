use Rattle.std.proofs.Common.{◌≡◌, ◌++◌, ◌+◌, take}
use Rattle.sm_model.specs.MoovText.{bare_traks}
use Rattle.sm_moov.proofs.bare.append_traks.Given as goal

abbrev pub invariant-loop-track : goal.invariant-loop-track
invariant-loop-track l = (l.id ≡ 1 + l.track-index) × (l.out.items ≡ l.initial.out.items ++ bare_traks (take l.track-index l.tracks))
