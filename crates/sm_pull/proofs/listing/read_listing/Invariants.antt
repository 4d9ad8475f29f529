use Rattle.sm_client.specs.Stands.{miss_of}
use Rattle.sm_pull.specs.Asks.{AsksManifest}
use Rattle.sm_pull.proofs.Tried.{Tried}
use Rattle.sm_pull.proofs.listing.read_listing.Given as goal

abbrev pub invariant-loop-done : goal.invariant-loop-done
invariant-loop-done g l =
    Tried g.C.Dial.log g.C.Dial.store g.C.Dial.later g.C.Dial.dial_faults g.C.Dial.chosen (AsksManifest l.place) miss_of l.initial.dial l.dial l.outcomes l.done
