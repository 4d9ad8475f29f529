use Rattle.std.proofs.Common.{ltb, ℕ, rules, ◌≡◌, ◌≤◌, true, get_or, arith}
use Rattle.std.proofs.lemmas.List.Sorted.{IsPartitionPoint-from_clause}
use Rattle.sm_client.proofs.Rows.{place_is, falling}
use Rattle.sm_client.proofs.known.place_of.Goals as goal

higher : (a b c : ℕ) → ltb a b ≡ true → b ≤ c → ltb a c ≡ true
higher a b c t h = grind arith

pub returns : goal.returns
returns c =
    let xs = c.args.starts.now in
    let start = c.args.start in
    let at = IsPartitionPoint-from_clause (λ (y : ℕ). ltb start y) xs c.partition_point.result c.partition_point.ensures.partitioned
    (λ i j d h k t. higher start (get_or xs j d) (get_or xs i d) t (falling xs c.requires i j d h k)) (λ a r f q. search rules) in
    place_is start xs _ c.partition_point.ensures.bound at.0 at.1
