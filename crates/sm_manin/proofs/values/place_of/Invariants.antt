use Rattle.std.proofs.Common.{◌≡◌, ◌++◌, ℕ, take, drop}
use Rattle.sm_manin.specs.Listings.{with_level}
use Rattle.sm_manin.proofs.values.place_of.Given as goal

abbrev pub invariant-loop-i : goal.invariant-loop-i
invariant-loop-i l =
    (index : ℕ) → with_level (record { index = index; bitrate = l.bitrate }) l.levels ≡ take l.i l.levels ++ with_level (record { index = index; bitrate = l.bitrate }) (drop l.i l.levels)
