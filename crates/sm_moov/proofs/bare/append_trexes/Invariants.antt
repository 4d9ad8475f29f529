use Rattle.std.proofs.Common.{◌≡◌, ◌++◌, ◌+◌, take}
use Rattle.sm_model.specs.MoovText.{bare_trexes}
use Rattle.sm_moov.proofs.bare.append_trexes.Given as goal

abbrev pub invariant-loop-track : goal.invariant-loop-track
invariant-loop-track l = (l.id ≡ 1 + l._track-index) × (l.out.items ≡ l.initial.out.items ++ bare_trexes (take l._track-index l.tracks))
