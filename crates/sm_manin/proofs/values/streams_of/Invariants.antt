use Rattle.std.proofs.Common.{◌≡◌, map, take}
use Rattle.sm_manin.specs.Listings.{listing_of}
use Rattle.sm_manin.proofs.values.streams_of.Given as goal

abbrev pub invariant-loop-stream : goal.invariant-loop-stream
invariant-loop-stream l =
    l.listings.items ≡ map (listing_of l.timescale) (take l.stream-index l.streams)
