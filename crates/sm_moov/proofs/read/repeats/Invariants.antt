use Rattle.std.proofs.Common.{◌≡◌, ℕ, take, map, nat_cmp}
use Rattle.std.specs.Prelude.{nat_eq}
use Rattle.std.specs.List.{list_any}
use Rattle.std.specs.BTreeSet.{contains}
use Rattle.sm_model.specs.Moov.{repeats}
use Rattle.sm_moov.proofs.read.repeats.Given as goal

-- the set has the track_IDs so far
abbrev pub invariant-loop-head : goal.invariant-loop-head
invariant-loop-head l =
    ((id : ℕ) → contains nat_cmp l.ids id ≡ list_any (nat_eq id) (map (λ h. h.id) (take l.head-index l.heads)))
    × (l.twice ≡ repeats (map (λ h. h.id) (take l.head-index l.heads)))
