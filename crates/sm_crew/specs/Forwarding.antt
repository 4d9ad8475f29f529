-- What a player asks the loop, and where.
use Rattle.std.specs.Prelude.{◌≡◌, ℕ, List, ◌++◌, Option, None, Some, codes, Result, Ok, Err}
use Rattle.sm_model.specs.declared.target.Target.{Target}
use Rattle.sm_addr.specs.Written.{target_written}
use Rattle.sm_head.specs.Replies.{crlf}
use Rattle.sm_fetch.specs.declared.dial.Answer.{Answer}
use Rattle.sm_fetch.specs.declared.dial.Answer.TheVariants as answers
use Rattle.sm_fetch.specs.declared.dial.Exchange.{Exchange}
use Rattle.sm_fetch.specs.Exchanges.{logged}
use Rattle.sm_players.specs.declared.forward.ForwardError.{ForwardError}
use Rattle.sm_players.specs.declared.forward.ForwardError.TheVariants as error

-- the host of the loop: the address that it listens at alone, or this machine
abbrev pub host_by : Option (List ℕ) → List ℕ
host_by None = codes "127.0.0.1"
host_by (Some address) = address

-- the request for a target, behind whose reply the connection closes
abbrev pub loop_request : Target → List ℕ
loop_request target = codes "GET " ++ target_written (codes "live") target ++ (codes " HTTP/1.1" ++ crlf ++ codes "Host: localhost" ++ crlf ++ codes "Connection: close" ++ crlf ++ crlf)

-- what an answer is handed on as: all of its bytes, or why there are none
abbrev pub handed : Answer → Result (List ℕ) ForwardError
handed (answers.Bytes bytes) = Ok bytes
handed answers.Lost = Err error.Failed
handed answers.NoMemory = Err error.NoMemory

-- The request for the target is all that was sent, if there was memory for it, and what came of it is handed on.
abbrev pub HasAsked : Option (List Exchange) → Option (List Exchange) → Target → Result (List ℕ) ForwardError → Type 0
HasAsked was now target result = (answer : Answer) × (now ≡ logged was (loop_request target) 70254592 answer) × (result ≡ handed answer)
