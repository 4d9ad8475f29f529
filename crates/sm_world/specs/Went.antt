-- What went out in answer to a request.
use Rattle.std.specs.Prelude.{◌≡◌, ◌≢◌, ◌⊎◌, ◌≤◌, ◌-◌, ◌^◌, ℕ, List, [], ◌++◌}
use Rattle.sm_site.specs.Clauses.{Both, Rose}
use Rattle.sm_site.specs.Meanings.{View, Deal, Item, sent_on}
use Rattle.sm_serve.specs.Connections.{received, deals_in, events_in}
use Rattle.sm_world.specs.Bringing.{begun}
use Rattle.sm_world.specs.declared.acted.Acted.{Acted}
use Rattle.sm_world.specs.declared.acted.Acted.TheVariants as acted

-- The connection was opened once among these entries, and what has come on it since is the request; or a front of it, where as many events were
-- taken as a count has.
pub record Opens (conn : ℕ) (request : List ℕ) (items : List Item) : Type 0 where
  pub once : begun conn (deals_in items) ≡ 1
  pub more : List ℕ
  pub came : request ≡ received conn items ++ more
  pub all : (more ≡ []) ⊎ (2 ^ 64 - 1 ≤ events_in items)

-- In the last of these entries the bytes went out on the connection, on which nothing had gone out in the earlier ones. If there are any, it was
-- opened for the request.
pub record GoesOut (conn : ℕ) (request bytes : List ℕ) (earlier last : List Item) : Type 0 where
  pub unused : sent_on conn earlier ≡ []
  pub opens : bytes ≢ [] → Opens conn request last
  pub went : bytes ≡ sent_on conn last

-- One transcript goes on from another by these events, and by what went out in answer.
pub record GoesOutBy (conn : ℕ) (request bytes : List ℕ) (deals : List Deal) (was now : List Item) : Type 0 where
  pub more : List Item
  pub goes_on : now ≡ was ++ more
  pub taken : deals_in more ≡ deals
  pub out : GoesOut conn request bytes was more

-- One transcript goes on from another; and in a stretch of that, the bytes went out on a connection of an exchange, in answer to the request.
pub record IsAnsweredSince (request bytes : List ℕ) (was now : List Item) : Type 0 where
  pub until : List Item
  pub stretch : List Item
  pub since : List Item
  pub goes_on : now ≡ ((was ++ until) ++ stretch) ++ since
  pub conn : ℕ
  pub high : 2 ^ 63 ≤ conn
  pub out : GoesOut conn request bytes (was ++ until) stretch

-- Why this came of a request, on the way from one view of a site to another: the disk or the link failed, or what went out was sent in answer.
abbrev pub CameOf : View → View → List ℕ → Acted → Type 0
CameOf old new request acted.Unopened = Rose old.disk_faults new.disk_faults
CameOf old new request acted.Broken = Rose old.link_faults new.link_faults
CameOf old new request acted.NoMemory = Unit {0}
CameOf old new request (acted.Sent bytes) = Both old.transcript new.transcript (IsAnsweredSince request bytes)
