use Rattle.std.proofs.Common.{◌≡◌, ◌++◌, drop}
use Rattle.std.specs.Option.{option_map}
use Rattle.sm_push.specs.Header.{heads_for}
use Rattle.sm_push.proofs.header.heads_for.Given as goal

abbrev pub invariant-loop-track : goal.invariant-loop-track
invariant-loop-track l = heads_for l.heads l.tracks ≡ option_map (λ hs. l.found.items ++ hs) (heads_for l.heads (drop l.track-index l.tracks))
