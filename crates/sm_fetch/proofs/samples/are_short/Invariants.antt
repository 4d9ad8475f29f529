use Rattle.std.proofs.Common.{◌≡◌, ◌+◌, drop}
use Rattle.sm_model.specs.Fragments.{sample_bytes}
use Rattle.sm_fetch.proofs.samples.are_short.Given as goal

abbrev pub invariant-loop-sample : goal.invariant-loop-sample
invariant-loop-sample l = l.left + sample_bytes l.samples ≡ 67108864 + sample_bytes (drop l.sample-index l.samples)
