use Rattle.std.proofs.Common.{◌≡◌, map, drop, All}
use Rattle.sm_log.specs.Adds.{names_from, names_of}
use Rattle.sm_catalog.specs.Content.{Lane, IsFresh}
use Rattle.sm_catalog.proofs.parts.streams_of.Given as goal

abbrev pub invariant-loop-track : goal.invariant-loop-track
invariant-loop-track l = record {
  names : names_from (map (λ (m : Lane). m.name) l.streams.items) (drop l.track-index l.channel) ≡ names_of l.channel;
  fresh : All (IsFresh l.channel) l.streams.items;
}
