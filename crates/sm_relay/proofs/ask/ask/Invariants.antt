use Rattle.sm_client.specs.Stands.{miss_of}
use Rattle.sm_pull.specs.Asks.{AsksFragment}
use Rattle.sm_pull.proofs.Tried.{Tried}
use Rattle.sm_relay.proofs.ask.ask.Given as goal

abbrev pub invariant-loop-done : goal.invariant-loop-done
invariant-loop-done g l =
    Tried g.C.Dial.log g.C.Dial.store g.C.Dial.later g.C.Dial.dial_faults g.C.Dial.chosen (AsksFragment l.plan.place l.url l.address) miss_of l.initial.dial l.dial l.outcomes l.done
