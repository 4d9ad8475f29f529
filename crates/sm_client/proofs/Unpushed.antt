-- Why an input was not pushed.
use Rattle.std.proofs.Common.{◌≡◌, ◌≤◌}
use Rattle.sm_ends.specs.declared.input.InputFault.{InputFault}
use Rattle.sm_ends.specs.declared.input.InputFault.TheVariants as input_fault
use Rattle.sm_ends.specs.Ended.{End, WhyUnread, input_most}
use Rattle.sm_client.specs.Pushing.{Line, WhyUnpushed, fault_of_input}

pub unpushed : (input input' : End) (dial dial' : Line) (why : InputFault) → WhyUnread input_most input input' why → input.faults ≤ input'.faults
    → dial.faults ≤ dial'.faults → dial'.log ≡ dial.log → WhyUnpushed input input' dial dial' (fault_of_input why)
unpushed input input' dial dial' input_fault.Failed unread no_fewer later log_is = record { unread = unread; log_is = log_is }
unpushed input input' dial dial' input_fault.TooLong unread no_fewer later log_is = record { unread = unread; log_is = log_is }
unpushed input input' dial dial' input_fault.NoMemory unread no_fewer later log_is =
    record { unread = unread; no_fewer = no_fewer; later = later; log_is = log_is }
