-- What pushing an input comes to.
use Rattle.std.specs.Prelude.{◌≡◌, ◌≤◌, ℕ, List, length, Option}
use Rattle.std.specs.Io.KnownBytes.{Consumes, IsAtEnd}
use Rattle.sm_ends.specs.Faults.{Rose}
use Rattle.sm_ends.specs.declared.input.InputFault.{InputFault}
use Rattle.sm_ends.specs.declared.input.InputFault.TheVariants as input_fault
use Rattle.sm_ends.specs.Ended.{End, WhyUnread, input_most}
use Rattle.sm_fetch.specs.declared.dial.DialError.{DialError}
use Rattle.sm_fetch.specs.declared.dial.DialError.TheVariants as dial_fault
use Rattle.sm_fetch.specs.declared.dial.Exchange.{Exchange}
use Rattle.sm_fetch.specs.declared.place.Place.{Place}
use Rattle.sm_fetch.specs.declared.push.Pushed.{Pushed}
use Rattle.sm_fetch.specs.declared.push.Pushed.TheVariants as pushed
use Rattle.sm_fetch.specs.Exchanges.{Peer, IsTurnedTo}
use Rattle.sm_fetch.specs.Fetched.{PushedBody}
use Rattle.sm_client.specs.declared.fault.VisitFault.{VisitFault}
use Rattle.sm_client.specs.declared.fault.VisitFault.TheVariants as fault

-- a dial before a call and after it: the exchanges that it tells, its count of faults, and what it is turned to
pub record Line : Type 0 where
  pub log : Option (List Exchange)
  pub faults : ℕ
  pub chosen : Option Peer

abbrev pub line_of : {C : Type 0} → (C → Option (List Exchange)) → (C → ℕ) → (C → Option Peer) → C → Line
line_of log faults chosen c = record { log = log c; faults = faults c; chosen = chosen c }

abbrev pub fault_of_dial : DialError → VisitFault
fault_of_dial dial_fault.Failed = fault.LinkFault
fault_of_dial dial_fault.NoMemory = fault.NoMemory

abbrev pub fault_of_input : InputFault → VisitFault
fault_of_input input_fault.Failed = fault.Unread
fault_of_input input_fault.TooLong = fault.TooLong
fault_of_input input_fault.NoMemory = fault.NoMemory

-- the dial was turned to this host and to the port of the place, the whole input was pushed once, and this came of it
pub record HasPushed (host : List ℕ) (place : Place) (id : List ℕ) (input input' : End) (dial dial' : Line) (p : Pushed) : Type 0 where
  pub body : List ℕ
  pub consumed : Consumes input.told input'.told body
  pub ended : IsAtEnd input'.told
  pub short : length body ≤ input_most
  pub turned : IsTurnedTo dial'.chosen host place.port
  pub asked : PushedBody place id body dial.log dial'.log p
  -- a dial that lost the exchange counted it
  pub lost : p ≡ pushed.Lost → Rose dial.faults dial'.faults

-- nothing was read and nothing was sent
pub record IsUnasked (input input' : End) (dial dial' : Line) : Type 0 where
  pub input_is : input' ≡ input
  pub log_is : dial'.log ≡ dial.log

-- the input was not read for this reason, and nothing was sent
pub record IsUnread (why : InputFault) (input input' : End) (dial dial' : Line) : Type 0 where
  pub unread : WhyUnread input_most input input' why
  pub log_is : dial'.log ≡ dial.log

-- Memory ran out before or while the input was read, of which at most the limit was taken. Nothing was sent, and no count fell.
pub record IsStarved (input input' : End) (dial dial' : Line) : Type 0 where
  pub unread : WhyUnread input_most input input' input_fault.NoMemory
  pub no_fewer : input.faults ≤ input'.faults
  pub later : dial.faults ≤ dial'.faults
  pub log_is : dial'.log ≡ dial.log

-- why nothing was pushed
abbrev pub WhyUnpushed : End → End → Line → Line → VisitFault → Type 0
WhyUnpushed input input' dial dial' fault.LinkFault = IsUnasked input input' dial dial' × Rose dial.faults dial'.faults
WhyUnpushed input input' dial dial' fault.Unread = IsUnread input_fault.Failed input input' dial dial'
WhyUnpushed input input' dial dial' fault.TooLong = IsUnread input_fault.TooLong input input' dial dial'
WhyUnpushed input input' dial dial' fault.NoMemory = IsStarved input input' dial dial'
