use Rattle.std.proofs.Common.{◌≡◌, ◌++◌, drop, map}
use Rattle.sm_log.specs.Adds.{tracks_of}
use Rattle.sm_standby.specs.Candidates.{address_in}
use Rattle.sm_standby.proofs.candidates.put_addresses.Given as goal

abbrev pub invariant-loop-track : goal.invariant-loop-track
invariant-loop-track l = l.addresses.items ++ map (address_in l.time) (tracks_of l.name (drop l.track-index l.channel)) ≡ l.initial.addresses.items ++ map (address_in l.time) (tracks_of l.name l.channel)
