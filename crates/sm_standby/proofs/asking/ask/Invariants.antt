use Rattle.sm_pull.proofs.Tried.{Tried}
use Rattle.sm_standby.specs.Turns.{AsksPlaced, missed}
use Rattle.sm_standby.proofs.asking.ask.Given as goal

abbrev pub invariant-loop-done : goal.invariant-loop-done
invariant-loop-done g l =
    Tried g.C.Dial.log g.C.Dial.store g.C.Dial.later g.C.Dial.dial_faults g.C.Dial.chosen (AsksPlaced l.place l.url l.address) missed l.initial.dial l.dial l.outcomes l.done
