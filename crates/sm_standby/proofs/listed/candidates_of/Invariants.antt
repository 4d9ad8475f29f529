use Rattle.std.proofs.Common.{◌≡◌, drop, map}
use Rattle.sm_client.specs.Stands.{listed, times_of}
use Rattle.sm_log.specs.Adds.{names_from, names_of}
use Rattle.sm_standby.specs.Candidates.{Candidates, candidates_by}
use Rattle.sm_standby.proofs.listed.candidates_of.Given as goal

abbrev pub invariant-loop-track : goal.invariant-loop-track
invariant-loop-track l = record {
  names : names_from (map (λ (c : Candidates). c.name) l.all.items) (drop l.track-index l.channel) ≡ names_of l.channel;
  times : l.all.items ≡ candidates_by (λ name. times_of (listed name l.listing.streams)) (map (λ (c : Candidates). c.name) l.all.items);
}
