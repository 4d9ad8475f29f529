-- What a dial answers to a request.
use Rattle.std.specs.Prelude.{◌≡◌, ◌⊎◌, ℕ, ◌+◌, ◌-◌, ◌/◌, ◌^◌, ◌≤◌, min, Bool, true, false, List, ◌++◌, length, take, Option, None, IfSome, IsSome}
use Rattle.sm_fetch.specs.declared.dial.Answer.{Answer}
use Rattle.sm_fetch.specs.declared.dial.Answer.TheVariants as answers
use Rattle.sm_site.specs.declared.event.Event.{Event}
use Rattle.sm_site.specs.Clauses.{Both, Rose}
use Rattle.sm_site.specs.Meanings.{View, Deal, Item, sent_on}
use Rattle.sm_site.specs.Meanings.Deal.{Over}
use Rattle.sm_site.specs.Scripts.{deals_of}
use Rattle.sm_serve.specs.Connections.{events_in}
use Rattle.sm_serve.specs.Run.{at}
use Rattle.sm_serve.specs.Serving.{AreTaken}
use Rattle.sm_serve.specs.declared.state.State.{State}
use Rattle.sm_world.specs.Bringing.{Brings}
use Rattle.sm_world.specs.Went.{GoesOutBy}
use Rattle.sm_world.specs.declared.acted.Acted.{Acted}
use Rattle.sm_world.specs.declared.acted.Acted.TheVariants as acted

-- the first half, rounded down, where the reply is cut
abbrev pub halved : Bool → List ℕ → List ℕ
halved true bytes = take (length bytes / 2) bytes
halved false bytes = bytes

-- whether the exchange is one of those that are lost, and one of those that are cut; and its limit, which cuts as well
abbrev pub answer_for : Bool → Bool → ℕ → Acted → Answer
answer_for lost cut limit acted.Unopened = answers.Lost
answer_for lost cut limit acted.Broken = answers.Lost
answer_for lost cut limit acted.NoMemory = answers.NoMemory
answer_for true cut limit (acted.Sent bytes) = answers.Lost
answer_for false cut limit (acted.Sent bytes) = answers.Bytes (take limit (halved cut bytes))

-- one more, up to the last value of 64 bits
abbrev pub one_more : ℕ → ℕ
one_more n = min (n + 1) (2 ^ 64 - 1)

-- an exchange that was lost is counted
abbrev pub faults_after : ℕ → Answer → ℕ
faults_after faults (answers.Bytes bytes) = faults
faults_after faults answers.Lost = one_more faults
faults_after faults answers.NoMemory = faults

-- the last entry says that nothing more comes, or as many events were taken as a count has
abbrev pub IsServed : List Item → Type 0
IsServed items = ((before : List Item) × (m : ℕ) × (items ≡ before ++ at m Over)) ⊎ (2 ^ 64 - 1 ≤ events_in items)

-- The request was put behind the script, on a connection of its own; then all was served, the next events of the script were taken, and these
-- bytes went out on the connection.
pub record Handed {D : Type 0} (view : D → View) (old new : D) (request bytes : List ℕ) : Type 0 where
  pub conn : ℕ
  pub high : 2 ^ 63 ≤ conn
  pub events : List Event
  pub brings : Brings conn request events
  pub between : D
  pub added : Both (view old).script (view between).script (λ was now. now ≡ was ++ deals_of events)
  pub deals : List Deal
  pub taken : Both (view between).script (view new).script (AreTaken deals)
  pub told : Both (view old).transcript (view new).transcript (GoesOutBy conn request bytes deals)
  pub served : IfSome (view new).transcript IsServed
  pub sent : IfSome (view new).transcript (λ items. bytes ≡ sent_on conn items)

-- Why this came of a request: the store was closed and still is, and the disk that failed counted it; or the link that failed did, and the store is
-- open; or what went out was sent in answer, and the store is open.
abbrev pub HasCause : {D : Type 0} (view : D → View) → Option State → D → Option State → D → List ℕ → Acted → Type 0
HasCause view state old state' new request acted.Unopened = (state ≡ None) × (state' ≡ None) × Rose (view old).disk_faults (view new).disk_faults
HasCause view state old state' new request acted.Broken = IsSome state' × Rose (view old).link_faults (view new).link_faults
HasCause view state old state' new request acted.NoMemory = Unit {0}
HasCause view state old state' new request (acted.Sent bytes) = IsSome state' × Handed view old new request bytes

-- what went out on a connection, or want of memory
abbrev pub HasSent : ℕ → Option (List Item) → Acted → Type 0
HasSent conn told acted.Unopened = ⊥
HasSent conn told acted.Broken = ⊥
HasSent conn told acted.NoMemory = Unit {0}
HasSent conn told (acted.Sent bytes) = IfSome told (λ items. bytes ≡ sent_on conn items)
