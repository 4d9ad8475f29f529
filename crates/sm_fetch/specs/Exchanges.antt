-- Exchanges, and what a dial tells of them.
use Rattle.std.specs.Prelude.{◌≡◌, ◌≤◌, ◌+◌, ◌-◌, ◌^◌, ℕ, List, [], ◌∷◌, ◌++◌, length, Option, Some, None, IfSome, min}
use Rattle.sm_fetch.specs.declared.dial.Answer.{Answer}
use Rattle.sm_fetch.specs.declared.dial.Answer.TheVariants as answers
use Rattle.sm_fetch.specs.declared.dial.Exchange.{Exchange}

-- the host and the port that a dial is turned to
pub record Peer : Type 0 where
  pub host : List ℕ
  pub port : ℕ

-- it is turned to this host and port, where it tells that
abbrev pub IsTurnedTo : Option Peer → List ℕ → ℕ → Type 0
IsTurnedTo told host port = IfSome told (λ peer. peer ≡ record { host = host; port = port })

-- a dial that doesn't tell what it is turned to
abbrev pub untold_peer : Option Peer
untold_peer = None

-- the list with one more at its end, where it is told
abbrev pub with_one : Option (List Exchange) → Exchange → Option (List Exchange)
with_one None x = None
with_one (Some xs) x = Some (xs ++ x ∷ [])

-- the list with these at its end, where it is told
abbrev pub with_all : Option (List Exchange) → List Exchange → Option (List Exchange)
with_all None xs = None
with_all (Some ws) xs = Some (ws ++ xs)

-- an exchange that wanted memory isn't told
abbrev pub logged : Option (List Exchange) → List ℕ → ℕ → Answer → Option (List Exchange)
logged ws request limit (answers.Bytes bytes) = with_one ws (record { request = request; limit = limit; answer = answers.Bytes bytes })
logged ws request limit answers.Lost = with_one ws (record { request = request; limit = limit; answer = answers.Lost })
logged ws request limit answers.NoMemory = ws

-- the count rose, or stands at its last value
abbrev pub Rose : ℕ → ℕ → Type 0
Rose before now = min (before + 1) (2 ^ 64 - 1) ≤ now

-- how many bytes came
abbrev pub answer_len : Answer → ℕ
answer_len (answers.Bytes bytes) = length bytes
answer_len answers.Lost = 0
answer_len answers.NoMemory = 0

-- no more bytes came than this
abbrev pub IsWithin : ℕ → Answer → Type 0
IsWithin limit answer = answer_len answer ≤ limit
