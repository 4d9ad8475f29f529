-- What a command at an origin answers.
use Rattle.std.specs.Prelude.{◌≡◌, ◌≤◌, ◌⊎◌, ◌==◌, ℕ, List, ◌++◌, codes, decimal, if◌then◌else◌, string_bytes}
use Rattle.sm_model.specs.declared.entry.Entry.{Entry}
use Rattle.sm_fetch.specs.declared.place.Place.{Place}
use Rattle.sm_fetch.specs.declared.push.Pushed.{Pushed}
use Rattle.sm_fetch.specs.declared.push.Pushed.TheVariants as pushed
use Rattle.sm_fetch.specs.Origins.{Answered}
use Rattle.sm_client.specs.declared.fault.VisitFault.{VisitFault}
use Rattle.sm_client.specs.declared.fault.VisitFault.TheVariants as fault
use Rattle.sm_client.specs.Pushing.{HasPushed, Line, WhyUnpushed}
use Rattle.sm_tool.specs.declared.answer.Answer.{Answer}
use Rattle.sm_tool.specs.declared.answer.Answer.TheVariants.{Found, Unread, TooLong, Undone, LinkFault, Starved}
use Rattle.sm_words.specs.declared.order.PushOrder.{PushOrder}
use Rattle.sm_ends.specs.Ended.{End}

-- where the order goes
abbrev pub place_of : PushOrder → Place
place_of order = record { host = string_bytes order.host; port = order.port; path = string_bytes order.path }

-- ---- the lines

abbrev pub status_line : ℕ → List ℕ
status_line status = codes "error: status " ++ (decimal status ++ codes "\nThe origin refused the push, or a part of it; its own answer stands before.\n")

abbrev pub cut_line : List ℕ
cut_line = codes "error: Cut\nThe origin closed the connection before its reply was whole.\n"

abbrev pub unreadable_line : ℕ → List ℕ
unreadable_line at = codes "error: Unreadable-" ++ (decimal at ++ codes "\nThe reply of the origin cannot be read from this byte on.\n")

-- ---- push

-- how what came of a push is told: the body of the reply, and behind it a status other than 200
abbrev pub TellsPush : Pushed → Answer → Type 0
TellsPush (pushed.Status status body) answer = answer ≡ (if status == 200 then Found body else Undone (body ++ status_line status))
TellsPush pushed.Cut answer = answer ≡ Undone cut_line
TellsPush (pushed.Unreadable at) answer = answer ≡ Undone (unreadable_line at)
TellsPush pushed.Lost answer = answer ≡ LinkFault
TellsPush pushed.NoMemory answer = answer ≡ Starved

-- how it is told that nothing was pushed
abbrev pub TellsUnpushed : VisitFault → Answer → Type 0
TellsUnpushed fault.LinkFault answer = answer ≡ LinkFault
TellsUnpushed fault.Unread answer = answer ≡ Unread
TellsUnpushed fault.TooLong answer = answer ≡ TooLong
TellsUnpushed fault.NoMemory answer = answer ≡ Starved

-- What came of the dial: its count didn't fall, and the exchanges that it got were answered by logs on the way from one that it told before.
pub record IsAnswered (dial dial' : Line) (store store' : List Entry → Type 0) : Type 0 where
  pub later : dial.faults ≤ dial'.faults
  pub answered : Answered dial.log dial'.log store store'

-- The whole input was pushed once, and what came of it is told, but for want of memory; or nothing was pushed, and why is told.
abbrev pub PushMeans : Place → List ℕ → End → End → Line → Line → (List Entry → Type 0) → (List Entry → Type 0) → Answer → Type 0
PushMeans place id input input' dial dial' store store' answer =
    IsAnswered dial dial' store store' × (
    ((p : Pushed) × HasPushed place.host place id input input' dial dial' p × (TellsPush p answer ⊎ (answer ≡ Starved)))
    ⊎ ((why : VisitFault) × WhyUnpushed input input' dial dial' why × TellsUnpushed why answer)
    )
