-- What a play leaves of the dial: its exchanges, its count of faults, and the store behind it.
use Rattle.std.specs.Prelude.{◌≡◌, ◌≤◌, ℕ, List, [], ◌∷◌, Option, Some, None, Contains}
use Rattle.sm_model.specs.declared.entry.Entry.{Entry}
use Rattle.sm_fetch.specs.declared.dial.Exchange.{Exchange}
use Rattle.sm_fetch.specs.Exchanges.{Peer, Rose}
use Rattle.sm_fetch.specs.Origins.{Grows, Answered}
use Rattle.sm_client.specs.declared.report.Miss.{Miss}
use Rattle.sm_client.specs.declared.report.Miss.TheVariants as miss
use Rattle.sm_client.specs.declared.report.End.{End}
use Rattle.sm_client.specs.declared.report.End.TheVariants as ends
use Rattle.sm_client.specs.declared.list.Listed.{Listed}
use Rattle.sm_client.specs.declared.list.Listed.TheVariants as listed_once
use Rattle.sm_client.specs.declared.list.Manifest.{Manifest}
use Rattle.sm_client.specs.declared.list.Manifest.TheVariants as manifest
use Rattle.sm_client.specs.declared.piece.Asked.{Asked}
use Rattle.sm_client.specs.declared.piece.Asked.TheVariants as asked
use Rattle.sm_client.specs.declared.piece.Pieces.{Pieces}
use Rattle.sm_client.specs.declared.piece.Pieces.TheVariants as pieces
use Rattle.sm_client.specs.declared.seek.Begun.{Begun}
use Rattle.sm_client.specs.declared.seek.Begun.TheVariants as begun_as

-- The count of faults doesn't fall, and the logs that are told only grow, and answer the exchanges on the way. A loss is among these
-- outcomes only where the count rose.
pub record Dialed (log log' : Option (List Exchange)) (faults faults' : ℕ) (store store' : List Entry → Type 0) (outcomes : List Miss) : Type 0 where
  pub later : faults ≤ faults'
  pub lost : Contains outcomes miss.Lost → Rose faults faults'
  pub grows : Grows store store'
  pub answered : Answered log log' store store'

-- what a call of a play leaves of a dial: a later one, turned to the same host
pub record LeavesDial {C : Type 0} (log : C → Option (List Exchange)) (store : C → List Entry → Type 0) (later : C → C → Type 0)
    (faults : C → ℕ) (chosen : C → Option Peer) (old new : C) (outcomes : List Miss) : Type 0 where
  pub goes_on : later old new
  pub turned : chosen new ≡ chosen old
  pub dialed : Dialed (log old) (log new) (faults old) (faults new) (store old) (store new) outcomes

-- ---- what came in place of what was asked, as an answer carries it

abbrev pub carried : End → List Miss
carried ends.Done = []
carried (ends.NoMore expected) = []
carried (ends.Hole expected next) = []
carried (ends.GaveUp time outcomes) = outcomes
carried (ends.NoManifest outcomes) = outcomes
carried (ends.NoStream index) = []
carried ends.WriteFault = []
carried ends.NoMemory = []

abbrev pub carried_if : Option End → List Miss
carried_if None = []
carried_if (Some end) = carried end

abbrev pub carried_listed : Listed → List Miss
carried_listed (listed_once.Found found) = []
carried_listed (listed_once.Missed m) = m ∷ []
carried_listed listed_once.NoMemory = []

abbrev pub carried_manifest : Manifest → List Miss
carried_manifest (manifest.Read found) = []
carried_manifest (manifest.GaveUp outcomes) = outcomes
carried_manifest manifest.NoMemory = []

abbrev pub carried_begun : Begun → List Miss
carried_begun (begun_as.Stands new) = []
carried_begun (begun_as.Ended end) = carried end

abbrev pub carried_asked : Asked → List Miss
carried_asked (asked.Took raw level) = []
carried_asked (asked.Missed m) = m ∷ []
carried_asked asked.NoMemory = []

abbrev pub carried_pieces : Pieces → List Miss
carried_pieces (pieces.Took raw level) = []
carried_pieces (pieces.GaveUp outcomes) = outcomes
carried_pieces pieces.NoMemory = []
