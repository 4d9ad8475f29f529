use Rattle.std.proofs.Common.{◌≡◌, drop}
use Rattle.std.specs.List.{list_any}
use Rattle.sm_manin.specs.ManifestFaults.{are_equal_bitrates}
use Rattle.sm_manin.specs.Values.{narrow_in}
use Rattle.sm_manin.proofs.judge.has_bitrate.Given as goal

abbrev pub invariant-loop-e : goal.invariant-loop-e
invariant-loop-e l =
    list_any (λ e. are_equal_bitrates (narrow_in e.bitrate) l.bitrate) (drop l.e-index l.earlier) ≡ list_any (λ e. are_equal_bitrates (narrow_in e.bitrate) l.bitrate) l.earlier
