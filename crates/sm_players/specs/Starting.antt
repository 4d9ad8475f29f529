-- Players in threads of their own.
use Rattle.std.specs.Prelude.{◌≡◌, ℕ, ◌+◌, List, [], ◌∷◌, Option}
use Rattle.sm_log.specs.Digests.{Digest, Extends}
use Rattle.sm_shelf.specs.Shelf.{Table}
use Rattle.sm_site.specs.Clauses.{Rose}
use Rattle.sm_site.specs.Meanings.{Item}
use Rattle.sm_players.specs.declared.played.Played.{Played}
use Rattle.sm_players.specs.declared.played.Played.TheVariants.{Done, LinkFault, NoMemory}
use Rattle.sm_players.specs.declared.spawner.Finished.{Finished}
use Rattle.sm_players.specs.Asking.{Asking}
use Rattle.sm_players.specs.Playing.{HasPlayed}

-- what a player was given: the shelf that its reader is of, what its wire told and how often that had failed, what its forward had been asked, what
-- its reader had seen, and how many events it takes at most
pub record Launch : Type 0 where
  pub table : Table
  pub told : Option (List Item)
  pub link_faults : ℕ
  pub asked : Option (List Asking)
  pub seen : Digest
  pub turns : ℕ

-- how a player ended, of which shelf the reader was that it was given, and what its wire tells, its forward was asked and its reader has seen then
pub record Ended : Type 0 where
  pub table : Table
  pub played : Played
  pub told : Option (List Item)
  pub link_faults : ℕ
  pub asked : Option (List Asking)
  pub seen : Digest

-- from there the player played up to here
pub record IsPlayed (l : Launch) (e : Ended) : Type 0 where
  pub table : e.table ≡ l.table
  pub plays : HasPlayed l.seen e.seen l.told e.told l.asked e.asked l.turns e.played
  pub on : Extends e.seen l.seen
  pub link_fault : e.played ≡ LinkFault → Rose l.link_faults e.link_faults

-- one for one
abbrev pub AreEnds : List Launch → List Ended → Type 0
AreEnds [] [] = Unit {0}
AreEnds [] (e ∷ es) = ⊥
AreEnds (l ∷ ls) [] = ⊥
AreEnds (l ∷ ls) (e ∷ es) = IsPlayed l e × AreEnds ls es

abbrev pub with_one : Played → Finished → Finished
with_one (Done answered) f = record { done = f.done + 1; faulted = f.faulted; starved = f.starved }
with_one LinkFault f = record { done = f.done; faulted = f.faulted + 1; starved = f.starved }
with_one NoMemory f = record { done = f.done; faulted = f.faulted; starved = f.starved + 1 }

-- how many ended in each way
abbrev pub count_of : List Ended → Finished
count_of [] = record { done = 0; faulted = 0; starved = 0 }
count_of (e ∷ es) = with_one e.played (count_of es)

-- each of them played, these are their ends one for one, and they were counted so
pub record HavePlayed (launches : List Launch) (ends : List Ended) (finished : Finished) : Type 0 where
  pub each : AreEnds launches ends
  pub counted : finished ≡ count_of ends
