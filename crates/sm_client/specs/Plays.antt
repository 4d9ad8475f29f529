-- What a whole call of `play` made and wrote.
use Rattle.std.specs.Prelude.{◌≡◌, ◌≢◌, ◌≤◌, ◌+◌, ◌*◌, ◌⊎◌, ℕ, List, [], ◌∷◌, ◌++◌, length, Option}
use Rattle.std.specs.Io.KnownBytes.{Appends, Keeps}
use Rattle.sm_model.specs.declared.entry.Entry.{Entry}
use Rattle.sm_fetch.specs.declared.dial.Exchange.{Exchange}
use Rattle.sm_fetch.specs.declared.got.Got.TheVariants as got
use Rattle.sm_fetch.specs.Exchanges.{with_all}
use Rattle.sm_client.specs.declared.plan.Plan.{Plan}
use Rattle.sm_client.specs.declared.report.End.{End}
use Rattle.sm_client.specs.declared.report.End.TheVariants as ends
use Rattle.sm_client.specs.declared.report.Report.{Report}
use Rattle.sm_client.specs.Turns.{Meaning, Turn, settle}
use Rattle.sm_client.specs.Stands.{Item, list, piece, Piece, listed, times_of, first_start, nothing_read, state_after}
use Rattle.sm_client.specs.Asks.{Asks, AsksLast, turn_after, exchanges}
use Rattle.sm_client.specs.Ends.{EndsAt, IsTail, texts, written_after}
use Rattle.sm_client.specs.Kept.{AreKept}

-- each starts where the one before it ended, the first at this start
abbrev pub Gapless : ℕ → List Piece → Type 0
Gapless start [] = Unit {0}
Gapless start (p ∷ ps) = (p.fragment.time ≡ start) × Gapless (p.fragment.time + p.fragment.duration) ps

-- the times of the stream in the first manifest that was read
abbrev pub first_times : List ℕ → List Item → List (ℕ × ℕ)
first_times name [] = []
first_times name (list x (got.Manifest l) ∷ more) = times_of (listed name l.streams)
first_times name (list x (got.Fragment raw) ∷ more) = first_times name more
first_times name (list x (got.Status status) ∷ more) = first_times name more
first_times name (list x got.Cut ∷ more) = first_times name more
first_times name (list x (got.Unreadable at) ∷ more) = first_times name more
first_times name (list x got.Lost ∷ more) = first_times name more
first_times name (list x got.NoMemory ∷ more) = first_times name more
first_times name (piece x g level ∷ more) = first_times name more

-- what was made for one stream: exchanges, of which a last one may have come to nothing; how it ended; what stands behind the texts
pub record Part : Type 0 where
  pub made : List Item
  pub last : List Item
  pub end : End
  pub tail : List ℕ

-- the fragments of a stream, which are those that its exchanges gave
abbrev pub written_of : Plan → List ℕ → Part → List Piece
written_of plan name part = written_after plan name nothing_read part.made

-- The stream of this name and number was played by policies in turn, and its track got this.
pub record IsPart {P : Type 0} (m : Meaning P) (plan : Plan) (name : List ℕ) (number : ℕ) (start : Turn P)
    (track track' : Option (List ℕ)) (part : Part) : Type 0 where
  pub asks : Asks m plan name start nothing_read part.made
  pub asks_last : AsksLast m plan name (turn_after m start part.made) (state_after plan name nothing_read part.made) part.last
  pub gapless : Gapless (first_start plan.from (first_times name part.made)) (written_of plan name part)
  pub text : Appends track track' (texts 1 (written_of plan name part) ++ part.tail)
  pub tail : IsTail plan name part.end (state_after plan name nothing_read part.made) part.last part.tail
  pub ends : EndsAt plan number part.end (state_after plan name nothing_read part.made)
  pub few : length part.made + length part.last ≤ (plan.count + 1) * plan.tries * (plan.refresh + 1)

-- The streams are played one after another, the first to the track of this number; the first end that isn't Done ends the call.
abbrev pub PlaysAll : {P : Type 0} → Meaning P → Plan → Turn P → ℕ → List (List ℕ)
    → (ℕ → Option (List ℕ)) → (ℕ → Option (List ℕ)) → List Part → End → Type 0
PlaysAll m plan start number names held held' [] end = (names ≡ []) × (end ≡ ends.Done)
PlaysAll m plan start number [] held held' (part ∷ rest) end = ⊥
PlaysAll m plan start number (name ∷ names) held held' (part ∷ rest) end =
    IsPart m plan name number start (held number) (held' number) part ×
    (((part.end ≡ ends.Done) × PlaysAll m plan (turn_after m start part.made) (number + 1) names held held' rest end)
    ⊎ ((part.end ≢ ends.Done) × (rest ≡ []) × (end ≡ part.end)))

-- how many fragments were written, over all streams
abbrev pub count_of : Plan → List (List ℕ) → List Part → ℕ
count_of plan [] parts = 0
count_of plan (name ∷ names) [] = 0
count_of plan (name ∷ names) (part ∷ rest) = length (written_of plan name part) + count_of plan names rest

abbrev pub all_exchanges : List Part → List Exchange
all_exchanges [] = []
all_exchanges (part ∷ rest) = exchanges (part.made ++ part.last) ++ all_exchanges rest

-- From the stream of this number on: the exchanges are those of the streams, joined in their order, and other tracks stay.
pub record PlaysFrom {P : Type 0} (m : Meaning P) (plan : Plan) (start : Turn P) (number : ℕ) (names : List (List ℕ)) (log log' : Option (List Exchange))
    (held held' : ℕ → Option (List ℕ)) (report : Report) : Type 0 where
  pub parts : List Part
  pub made : log' ≡ with_all log (all_exchanges parts)
  pub plays : PlaysAll m plan start number names held held' parts report.end
  pub others : (k : ℕ) → (k + 1 ≤ number) ⊎ (number + length parts ≤ k) → Keeps (held k) (held' k)
  pub played : report.played ≡ count_of plan names parts

-- a whole call: the first policy that hasn't retired before it has heard anything begins
abbrev pub Played : {P : Type 0} → Meaning P → Plan → List P → Option (List Exchange) → Option (List Exchange)
    → (ℕ → Option (List ℕ)) → (ℕ → Option (List ℕ))
    → Report → Type 0
Played m plan [] log log' held held' report = ⊥
Played m plan (p ∷ ps) log log' held held' report = PlaysFrom m plan (settle m p [] ps) 0 plan.streams log log' held held' report

-- ---- what an origin keeps of it

-- the fragments of each of these streams are kept in this log
abbrev pub PartsKept : Plan → List Entry → List (List ℕ) → List Part → Type 0
PartsKept plan kept [] parts = Unit {0}
PartsKept plan kept (name ∷ names) [] = Unit {0}
PartsKept plan kept (name ∷ names) (part ∷ rest) = AreKept plan kept (written_of plan name part) × PartsKept plan kept names rest

-- for each log that is told before, one is told now that goes on from it and keeps them
pub record PartsKeptOn (plan : Plan) (old now : List Entry → Type 0) (names : List (List ℕ)) (parts : List Part) : Type 0 where
  pub on : (kept : List Entry) → old kept → (more : List Entry) × now (kept ++ more) × PartsKept plan (kept ++ more) names parts

pub record PlaysKept {P : Type 0} (m : Meaning P) (plan : Plan) (start : Turn P) (number : ℕ) (names : List (List ℕ)) (log log' : Option (List Exchange))
    (store store' : List Entry → Type 0) (held held' : ℕ → Option (List ℕ)) (report : Report) : Type 0 where
  pub plays : PlaysFrom m plan start number names log log' held held' report
  pub kept : PartsKeptOn plan store store' names plays.parts

-- a whole call: for each log that the dial told before, it tells one behind that goes on from it and keeps each fragment that was written
abbrev pub PlayedKept : {P : Type 0} → Meaning P → Plan → List P → Option (List Exchange) → Option (List Exchange)
    → (List Entry → Type 0) → (List Entry → Type 0)
    → (ℕ → Option (List ℕ)) → (ℕ → Option (List ℕ)) → Report → Type 0
PlayedKept m plan [] log log' store store' held held' report = ⊥
PlayedKept m plan (p ∷ ps) log log' store store' held held' report = PlaysKept m plan (settle m p [] ps) 0 plan.streams log log' store store' held held' report
