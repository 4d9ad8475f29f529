-- How the play of one stream ends, by where it stands.
use Rattle.std.specs.Prelude.{◌≡◌, ◌<◌, ◌≤◌, ◌+◌, ℕ, true, false, List, [], ◌∷◌, ◌++◌, length, take, Option, Some}
use Rattle.sm_ends.specs.Faults.{Rose}
use Rattle.sm_model.specs.FragText.{frag_text}
use Rattle.sm_client.specs.declared.plan.Plan.{Plan}
use Rattle.sm_client.specs.declared.report.Miss.{Miss}
use Rattle.sm_client.specs.declared.report.End.{End}
use Rattle.sm_client.specs.declared.report.End.TheVariants as ends
use Rattle.sm_client.specs.Starts.{has}
use Rattle.sm_client.specs.Stands.{Item, Piece, Standing, absent, standing, State, listed_starts, state_after, written_at}
use Rattle.sm_client.specs.Asks.{MayList}

-- the count of faults of the tracks doesn't fall, and one of them ends the play only where it rose
pub record HasCause (before now : ℕ) (end : Option End) : Type 0 where
  pub later : before ≤ now
  pub failed : end ≡ Some ends.WriteFault → Rose before now

-- as many fragments as were wanted
pub record IsDone (plan : Plan) (s : State) : Type 0 where
  pub at : Standing
  pub stands : s.stand ≡ standing at
  pub all : length at.written ≡ plan.count

-- as many manifests of this start as are to be were read, and the last one lists nothing at or behind it
pub record IsNoMore (plan : Plan) (expected : ℕ) (s : State) : Type 0 where
  pub at : Standing
  pub stands : s.stand ≡ standing at
  pub more : length at.written < plan.count
  pub start : expected ≡ at.expected
  pub unknown : has expected at.known ≡ false
  pub manifests : plan.refresh ≤ at.manifests
  pub nothing : (k : ℕ) → has k (listed_starts at.listing) ≡ true → k < expected

-- the last manifest is of this start, doesn't list it, and lists a later one, of which this is the first
pub record IsHole (plan : Plan) (expected next : ℕ) (s : State) : Type 0 where
  pub at : Standing
  pub stands : s.stand ≡ standing at
  pub more : length at.written < plan.count
  pub start : expected ≡ at.expected
  pub unknown : has expected at.known ≡ false
  pub manifests : 0 < at.manifests
  pub unlisted : has expected (listed_starts at.listing) ≡ false
  pub lists : has next (listed_starts at.listing) ≡ true
  pub after : expected < next
  pub first : (k : ℕ) → has k (listed_starts at.listing) ≡ true → expected < k → next ≤ k

-- the expected start is known, and the last exchanges, as many as there are tries, didn't give it
pub record IsGaveUp (plan : Plan) (time : ℕ) (outcomes : List Miss) (s : State) : Type 0 where
  pub at : Standing
  pub stands : s.stand ≡ standing at
  pub more : length at.written < plan.count
  pub start : time ≡ at.expected
  pub known : has time at.known ≡ true
  pub missed : outcomes ≡ s.missed
  pub all : length outcomes ≡ plan.tries

-- a manifest is to be read, and the last exchanges, as many as there are tries, didn't give it
pub record IsNoManifest (plan : Plan) (outcomes : List Miss) (s : State) : Type 0 where
  pub may : MayList plan s.stand
  pub missed : outcomes ≡ s.missed
  pub all : length outcomes ≡ plan.tries

-- the first manifest has no such stream
pub record IsNoStream (number index : ℕ) (s : State) : Type 0 where
  pub stands : s.stand ≡ absent
  pub which : index ≡ number

-- how the stream of this number ends; a fault of the tracks and want of memory may come anywhere
abbrev pub EndsAt : Plan → ℕ → End → State → Type 0
EndsAt plan number ends.Done s = IsDone plan s
EndsAt plan number (ends.NoMore expected) s = IsNoMore plan expected s
EndsAt plan number (ends.Hole expected next) s = IsHole plan expected next s
EndsAt plan number (ends.GaveUp time outcomes) s = IsGaveUp plan time outcomes s
EndsAt plan number (ends.NoManifest outcomes) s = IsNoManifest plan outcomes s
EndsAt plan number (ends.NoStream index) s = IsNoStream number index s
EndsAt plan number ends.WriteFault s = Unit {0}
EndsAt plan number ends.NoMemory s = Unit {0}

-- ---- the text of a track

-- the canonical text, with this sequence number, the place in the ladder plus 1 as track_ID, and nothing named ahead
abbrev pub piece_text : ℕ → Piece → List ℕ
piece_text seq p = frag_text seq (p.level + 1) p.fragment []

-- numbered on from n
abbrev pub texts : ℕ → List Piece → List ℕ
texts n [] = []
texts n (p ∷ ps) = piece_text n p ++ texts (n + 1) ps

-- the fragments once these exchanges were made too
abbrev pub written_after : Plan → List ℕ → State → List Item → List Piece
written_after plan name s items = written_at (state_after plan name s items).stand

-- a front of the text of one more fragment, which the last exchange gave
pub record IsFront (plan : Plan) (name : List ℕ) (s : State) (last : List Item) (tail : List ℕ) : Type 0 where
  pub one : Piece
  pub gave : written_after plan name s last ≡ written_at s.stand ++ one ∷ []
  pub count : ℕ
  pub front : tail ≡ take count (piece_text (length (written_at s.stand) + 1) one)

pub record IsNothing (last : List Item) (tail : List ℕ) : Type 0 where
  pub last_is : last ≡ []
  pub tail_is : tail ≡ []

-- What stands behind the texts, and whether a last exchange is left out: none, but at a fault of the tracks and at want of memory.
abbrev pub IsTail : Plan → List ℕ → End → State → List Item → List ℕ → Type 0
IsTail plan name ends.WriteFault s last tail = IsFront plan name s last tail
IsTail plan name ends.NoMemory s last tail = tail ≡ []
IsTail plan name ends.Done s last tail = IsNothing last tail
IsTail plan name (ends.NoMore expected) s last tail = IsNothing last tail
IsTail plan name (ends.Hole expected next) s last tail = IsNothing last tail
IsTail plan name (ends.GaveUp time outcomes) s last tail = IsNothing last tail
IsTail plan name (ends.NoManifest outcomes) s last tail = IsNothing last tail
IsTail plan name (ends.NoStream index) s last tail = IsNothing last tail
