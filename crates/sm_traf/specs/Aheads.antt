-- The pair of a tfrf at an index.
use Rattle.std.specs.Prelude.{ℕ, List, nat_lt, slice_index, if◌then◌else◌}
use Rattle.sm_model.specs.Fields.{tfrf_fits, tfrf_pair}
use Rattle.sm_traf.specs.declared.tfrf.Ahead.{Ahead}
use Rattle.sm_traf.specs.declared.tfrf.Ahead.TheVariants.{Pair, Past, Bad}

abbrev pub ahead_at : List ℕ → ℕ → Ahead
ahead_at b i =
    if tfrf_fits b
    then (if nat_lt i (slice_index b 4) then Pair (tfrf_pair b i).0 (tfrf_pair b i).1 else Past)
    else Bad
