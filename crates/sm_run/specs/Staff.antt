-- What was done with players.
use Rattle.std.specs.Prelude.{◌≡◌, ◌⊎◌, ◌<◌, ◌≤◌, ◌+◌, All, ℕ, List, ◌++◌, length, None, Some}
use Rattle.sm_site.specs.Clauses.{Rose}
use Rattle.sm_shelf.specs.Laying.{nothing}
use Rattle.sm_shelf.specs.Shelf.{Sight, Table, unread}
use Rattle.sm_players.specs.declared.spawner.Finished.{Finished}
use Rattle.sm_players.specs.declared.spawner.SpawnError.{SpawnError}
use Rattle.sm_players.specs.declared.spawner.SpawnError.TheVariants.{Failed}
use Rattle.sm_players.specs.Starting.{AreEnds, Ended, Launch, count_of}
use Rattle.sm_players.specs.Wiring.{Wired, Wires, rewired}
use Rattle.sm_words.specs.Words.{Serving}

-- what a spawner tells of itself: how often it has failed, how many players it started, how many events one takes at most, where its wires are and
-- how often they were asked for, and how the players ended that were joined last
pub record Staff : Type 0 where
  pub faults : ℕ
  pub started : ℕ
  pub limit : ℕ
  pub chosen : Wired
  pub ended : List Ended

abbrev pub staff_of : {P : Type 0} → (P → ℕ) → (P → ℕ) → (P → ℕ) → (P → Wired) → (P → List Ended) → P → Staff
staff_of faults started limit chosen ended p = record {
  faults = faults p;
  started = started p;
  limit = limit p;
  chosen = chosen p;
  ended = ended p;
}

-- so many players beside the loop of the words, at its address
abbrev pub wires_of : Serving → ℕ → Wires
wires_of s players = record { port = s.port; players = players; bind = s.bind }

-- a reader of that shelf that has seen nothing
abbrev pub IsUnread : Table → Sight → Type 0
IsUnread shelf sight = sight ≡ unread shelf

-- a player that began with such a reader, and takes so many events at most
abbrev pub IsFresh : Table → ℕ → Launch → Type 0
IsFresh shelf limit l = (l.table ≡ shelf) × (l.seen ≡ nothing) × (l.turns ≡ limit)

-- from so many players that were started to so many, and from the ones that run to the ones that run then: each one more is fresh
pub record Starts (shelf : Table) (limit started started' : ℕ) (running running' : List Launch) : Type 0 where
  pub more : List Launch
  pub fresh : All (IsFresh shelf limit) more
  pub count : started' ≡ started + length more
  pub behind : running' ≡ running ++ more

-- Fresh players of one shelf were started, asked to end and joined: each has played since it was started, up to the end that the spawner tells of it.
pub record Joins (shelf : Table) (old new : Staff) : Type 0 where
  pub players : List Launch
  pub fresh : All (IsFresh shelf old.limit) players
  pub count : new.started ≡ old.started + length players
  pub played : AreEnds players new.ended

-- so it was on some shelf
abbrev pub JoinsSome : Staff → Staff → Type 0
JoinsSome old new = (shelf : Table) × Joins shelf old new

-- As many players of this shelf were started as were asked, there, where wires were asked for once. Behind the loop they were joined, and this counts their ends.
pub record IsStaffed (shelf : Table) (wires : Wires) (old new : Staff) (finished : Finished) : Type 0 where
  pub joins : Joins shelf old new
  pub started : new.started ≡ old.started + wires.players
  pub chosen : new.chosen ≡ rewired old.chosen (Some wires)
  pub counted : finished ≡ count_of new.ended
  pub all : finished.done + finished.faulted + finished.starved ≡ wires.players
  pub blamed : 0 < finished.faulted → Rose old.faults new.faults
  pub later : old.faults ≤ new.faults

-- wires were asked for once, and for these, whether they were had or not
abbrev pub AsksWires : Wires → Staff → Staff → Type 0
AsksWires wires old new = (new.chosen ≡ rewired old.chosen (Some wires)) ⊎ (new.chosen ≡ rewired old.chosen None)

-- Fewer were started. Those that were are joined, and no other wires were asked for, or nothing was asked of the spawner. What failed was counted.
pub record IsUnstaffed (wires : Wires) (old new : Staff) (why : SpawnError) : Type 0 where
  pub few : new.started < old.started + wires.players
  pub no_fewer : old.started ≤ new.started
  pub joined : (JoinsSome old new × AsksWires wires old new) ⊎ (new ≡ old)
  pub blamed : why ≡ Failed → Rose old.faults new.faults
  pub later : old.faults ≤ new.faults
