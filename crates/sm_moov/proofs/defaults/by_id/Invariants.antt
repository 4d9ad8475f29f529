use Rattle.std.proofs.Common.{◌≡◌, ◌≤◌, ℕ, length, drop, nat_cmp}
use Rattle.std.specs.Prelude.{unwrap_or}
use Rattle.std.specs.BTreeMap.{get}
use Rattle.sm_model.specs.Moov.{no_defaults, defaults_for}
use Rattle.sm_moov.proofs.defaults.by_id.Given as goal

-- the map has what the trexes from the place on say
abbrev pub invariant-loop-left : goal.invariant-loop-left
invariant-loop-left l =
    (l.left ≤ length l.trexes)
    × ((id : ℕ) → unwrap_or (get nat_cmp l.map id) no_defaults ≡ defaults_for (drop l.left l.trexes) id)

abbrev pub decreases-loop-left : goal.decreases-loop-left
decreases-loop-left l = l.left
