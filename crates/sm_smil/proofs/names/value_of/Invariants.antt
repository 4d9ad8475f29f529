use Rattle.std.proofs.Common.{◌≡◌, drop}
use Rattle.sm_smil.specs.LiveTracks.{value_of}
use Rattle.sm_smil.proofs.names.value_of.Given as goal

abbrev pub invariant-loop-param : goal.invariant-loop-param
invariant-loop-param l = value_of l.name (drop l.param-index l.params) ≡ value_of l.name l.params
