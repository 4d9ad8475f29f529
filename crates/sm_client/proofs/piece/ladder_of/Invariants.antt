use Rattle.std.proofs.Common.{◌≡◌, take}
use Rattle.sm_client.specs.Stands.{ladder_of}
use Rattle.sm_client.proofs.piece.ladder_of.Given as goal

abbrev pub invariant-loop-level : goal.invariant-loop-level
invariant-loop-level l = l.ladder.items ≡ ladder_of (take l.level-index l.levels)
