-- What an exchange says of the log behind a dial.
use Rattle.std.specs.Prelude.{◌≡◌, ◌≤◌, ℕ, List, ◌++◌, length, Option}
use Rattle.sm_model.specs.declared.entry.Entry.{Entry}
use Rattle.sm_site.specs.Clauses.{Both, Rose}
use Rattle.sm_site.specs.Meanings.{View, Item, Seen}
use Rattle.sm_serve.specs.Connections.{live}
use Rattle.sm_serve.specs.declared.state.State.{State}
use Rattle.sm_fetch.specs.Origins.{MayBeAsked}
use Rattle.sm_fetch.specs.Requests.{get_text}
use Rattle.sm_world.specs.Replying.{IsReplyFront}
use Rattle.sm_world.specs.declared.acted.Acted.{Acted}
use Rattle.sm_world.specs.declared.acted.Acted.TheVariants as acted
use Rattle.sm_world.specs.Worlds.{World, Stands, Grows}

-- in some world with this log it stands
pub record StandsAt {D : Type 0} (site : Seen D) (state : Option State) (d : D)
    (log : List Entry) : Type 0 where
  pub world : World
  pub stands : Stands site world state d
  pub log_is : world.log ≡ log

-- What went out in answer to the GET of a target of any place is the reply of this log, or a front of it. The store stays closed, or a disk that
-- failed is told, only where the disk failed; the exchange breaks off only where the link did; and a connection too many is told only in a crowd.
abbrev pub IsSaidBy : (failed broken crowded : Type 0) → List Entry → List ℕ → Acted → Type 0
IsSaidBy failed broken crowded log request acted.Unopened = failed
IsSaidBy failed broken crowded log request acted.Broken = broken
IsSaidBy failed broken crowded log request acted.NoMemory = Unit {0}
IsSaidBy failed broken crowded log request (acted.Sent bytes) =
    (host : List ℕ) (port : ℕ) (named : List ℕ) → MayBeAsked host port named → request ≡ get_text host port named
    → IsReplyFront failed crowded log named bytes

-- One transcript goes on from another; and at some moment of that, perhaps the first, 64 connections of a stretch up to then had begun that were
-- neither left nor shut.
pub record IsCrowdedSince (was now : List Item) : Type 0 where
  pub until : List Item
  pub since : List Item
  pub goes_on : now ≡ (was ++ until) ++ since
  pub before : List Item
  pub stretch : List Item
  pub ends : was ++ until ≡ before ++ stretch
  pub many : 64 ≤ length (live stretch)

-- what a site tells was crowded on the way from one view to another
abbrev pub WasCrowded : View → View → Type 0
WasCrowded old new = Both old.transcript new.transcript IsCrowdedSince

-- what was told goes on
abbrev pub IsLonger : List Item → List Item → Type 0
IsLonger was now = (more : List Item) × (now ≡ was ++ more)

-- A site was used, and didn't crash: no fault is uncounted, and its transcript goes on.
pub record TellsOn (old new : View) : Type 0 where
  pub disk_faults : old.disk_faults ≤ new.disk_faults
  pub link_faults : old.link_faults ≤ new.link_faults
  pub transcript : Both old.transcript new.transcript IsLonger

-- IsSaidBy, where the counts of the faults rose on the way from one view of a site to another, and where it was crowded on that way
abbrev pub IsSaidBetween : View → View → List Entry → List ℕ → Acted → Type 0
IsSaidBetween old new log request came =
    IsSaidBy (Rose old.disk_faults new.disk_faults) (Rose old.link_faults new.link_faults) (WasCrowded old new) log request came

-- The world went on, and what came of the request was said of its log at some moment of that, for a cause that came on the way.
pub record Says {D : Type 0} (site : Seen D) (w : World) (before : D) (request : List ℕ)
    (came : Acted) (state : Option State) (d : D) : Type 0 where
  pub now : World
  pub stands : Stands site now state d
  pub grows : Grows w now
  pub until : List Entry
  pub since : List Entry
  pub log_is : now.log ≡ (w.log ++ until) ++ since
  pub said : IsSaidBetween (site.view before) (site.view d) (w.log ++ until) request came

-- wherever it stood
abbrev pub SaysOn : {D : Type 0} (site : Seen D) → Option State → D → List ℕ
    → Acted → Option State → D → Type 0
SaysOn site state d request came state' d' =
    (w : World) → Stands site w state d → Says site w d request came state' d'
