use Rattle.std.proofs.Common.{◌≡◌, ◌-◌, ◌^◌, min, take}
use Rattle.sm_model.specs.Fragments.{sample_bytes}
use Rattle.sm_model.proofs.fragment.bytes_of.Given as goal

abbrev pub invariant-loop-sample : goal.invariant-loop-sample
invariant-loop-sample l = l.total ≡ min (sample_bytes (take l.sample-index l.samples)) (2 ^ 64 - 1)
