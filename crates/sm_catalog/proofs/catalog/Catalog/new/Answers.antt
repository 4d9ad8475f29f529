use Rattle.std.proofs.Common.{◌≡◌, length, map, All}
use Rattle.sm_log.specs.Adds.{names_of}
use Rattle.sm_catalog.specs.Content.{Lane, IsFresh}
use Rattle.sm_catalog.proofs.Together.{whole_new}
use Rattle.sm_catalog.proofs.catalog.Catalog.new.Goals as goal

pub invariant_of-result : goal.invariant_of-result
invariant_of-result c =
    let as_many : length c.in_ok-kept.kept.items ≡ length c.args.channel = rw c.as_slice.ensures at c.in_ok-kept.ensures.as_many in
    let names : map (λ (l : Lane). l.name) c.in_ok-streams.streams.items ≡ names_of c.args.channel = rw c.as_slice-2.ensures at c.in_ok-streams.ensures.names in
    let fresh : All (IsFresh c.args.channel) c.in_ok-streams.streams.items = rw c.as_slice-2.ensures at c.in_ok-streams.ensures.fresh in
    whole_new c.args.channel c.new.result.items c.in_ok-kept.kept.items c.in_ok-streams.streams.items _ c.requires c.new.ensures.items as_many c.in_ok-kept.ensures.empty names fresh
