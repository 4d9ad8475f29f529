-- What a push keeps, and which bytes it stands for.
use Rattle.std.specs.Prelude.{◌≡◌, ℕ, ◌-◌, ◌<◌, ◌≤◌, ◌^◌, min, Bool, true, false, ◌⊎◌, List, [], ◌++◌, length, drop, Option, Some, None, Result, Ok, Err, if◌then◌else◌}
use Rattle.std.specs.Option.{option_to_list}
use Rattle.sm_push.specs.declared.state.HeaderStage.{HeaderStage}
use Rattle.sm_push.specs.declared.state.HeaderStage.TheVariants.{Gathering, Complete}
use Rattle.sm_model.specs.Items.{Given}
use Rattle.sm_push.specs.PushHeads.{decision}
use Rattle.sm_push.specs.Body.{Outcome, refused, led_by, header_in, walk, body, body_end}
use Rattle.sm_push.specs.declared.fault.StepFault.{StepFault}
use Rattle.sm_push.specs.declared.fault.StepFault.TheVariants as faults
use Rattle.sm_push.specs.declared.fault.PushFault.{PushFault}
use Rattle.sm_push.specs.declared.fault.PushFault.TheVariants as pushes
use Rattle.sm_push.specs.declared.step.NewItem.{NewItem}
use Rattle.sm_push.specs.declared.kept.Kept.{Kept}
use Rattle.sm_push.specs.Heads.{IsOpen, FitsIn}
use Rattle.sm_push.specs.Steps.{given_in, HoldsBoxes}
use Rattle.sm_push.specs.Held.{kept_bytes, missing_of}
use Rattle.sm_model.specs.declared.header.HeaderTrack.{HeaderTrack}

-- the tracks of the header, where one was read
abbrev pub kept_header : Kept → List HeaderTrack
kept_header k = header_in k.state.stage

-- what comes next gives this
abbrev pub rest_of : Kept → List ℕ → Outcome
rest_of k more = walk k.state k.skip (k.held ++ more)

-- nothing is due before more bytes come
pub record IsPartial (k : Kept) : Type 0 where
  pub skipping : 0 < k.skip → k.held ≡ []
  pub due : IsOpen (length k.held) (decision k.state k.held)
  pub boxes : HoldsBoxes k.state

abbrev pub Advances : Kept → Kept → List ℕ → Result (ℕ × Option NewItem) StepFault → Type 0
Advances old new piece (Ok r) = (more : List ℕ) → rest_of old (piece ++ more) ≡ led_by (option_to_list (given_in r.1)) (rest_of new (drop r.0 piece ++ more))
Advances old new piece (Err (faults.Refused r)) = (more : List ℕ) → rest_of old (piece ++ more) ≡ refused (kept_header new) r
Advances old new piece (Err faults.NoMemory) = kept_header new ≡ kept_header old

abbrev pub Settles : Kept → Kept → Result (Option NewItem) StepFault → Type 0
Settles old new (Ok item) = (more : List ℕ) → rest_of old more ≡ led_by (option_to_list (given_in item)) (rest_of new more)
Settles old new (Err (faults.Refused r)) = (more : List ℕ) → rest_of old more ≡ refused (kept_header new) r
Settles old new (Err faults.NoMemory) = kept_header new ≡ kept_header old

-- with no more bytes than that the box doesn't end before them
abbrev pub StaysInside : Kept → ℕ → Type 0
StaysInside k count = (more : List ℕ) → length more ≤ count → FitsIn (length (k.held ++ more)) (decision k.state (k.held ++ more))

abbrev pub IsComplete : HeaderStage → Type 0
IsComplete (Gathering manifest moov) = ⊥
IsComplete (Complete tracks) = Unit {0}

-- the header is the one before, or is complete
abbrev pub StageGrows : HeaderStage → HeaderStage → Type 0
StageGrows old new = (header_in new ≡ header_in old) × (IsComplete old → IsComplete new) ⊎ IsComplete new

abbrev pub Grows : Kept → Kept → Type 0
Grows old new = StageGrows old.state.stage new.state.stage

-- the header is the one before, or the one that the piece gives
abbrev pub HeaderStays : Kept → Kept → List ℕ → Type 0
HeaderStays old new piece = (kept_header new ≡ kept_header old) ⊎ ((more : List ℕ) → (rest_of old (piece ++ more)).header ≡ kept_header new)

-- the items of a piece
abbrev pub PieceGives : Kept → Kept → List ℕ → List Given → Result (Unit {0}) StepFault → Type 0
PieceGives old new piece items (Ok u) = (more : List ℕ) → rest_of old (piece ++ more) ≡ led_by items (rest_of new more)
PieceGives old new piece items (Err (faults.Refused r)) = (more : List ℕ) → rest_of old (piece ++ more) ≡ led_by items (refused (kept_header new) r)
PieceGives old new piece items (Err faults.NoMemory) = HeaderStays old new piece

-- what a push keeps, how many bytes came, and whether it gives nothing more
pub record Standing : Type 0 where
  pub kept : Kept
  pub count : ℕ
  pub failed : Bool

-- one that failed holds no bytes
abbrev pub IsReady : Bool → Kept → Type 0
IsReady true k = kept_bytes k ≡ 0
IsReady false k = IsPartial k

-- the tracks of the header that was read, none where none was
abbrev pub push_header : Standing → List HeaderTrack
push_header p = kept_header p.kept

-- how many bytes of the body it holds
abbrev pub held_bytes : Standing → ℕ
held_bytes p = kept_bytes p.kept

-- how many bytes are missing of the box that was begun, once its head is there; none of a push that has failed
abbrev pub missing_bytes : Standing → ℕ
missing_bytes p = if p.failed then 0 else missing_of p.kept

-- A push stands for these bytes: nothing was refused in them, and whatever comes next, it gives behind their items what
-- the bytes and the next ones give.
pub record Stands (headerless : Bool) (p : Standing) (b : List ℕ) : Type 0 where
  pub works : p.failed ≡ false
  pub clear : (body headerless b).refusal ≡ None
  pub count : p.count ≡ min (length b) (2 ^ 64 - 1)
  pub header : push_header p ≡ (body headerless b).header
  pub later : (more : List ℕ) → body headerless (b ++ more) ≡ led_by (body headerless b).items (rest_of p.kept more)

-- the answer to a piece is what the bytes with the piece give beyond what the bytes give; the header stays
abbrev pub Answers : Bool → List ℕ → List ℕ → Standing → Result (List Given) PushFault → Type 0
Answers headerless b piece new (Ok items) = Stands headerless new (b ++ piece) × ((body headerless (b ++ piece)).items ≡ (body headerless b).items ++ items)
Answers headerless b piece new (Err (pushes.Refused before r)) = body headerless (b ++ piece) ≡
    led_by ((body headerless b).items ++ before) (refused (push_header new) r)
Answers headerless b piece new (Err pushes.Failed) = ⊥
Answers headerless b piece new (Err pushes.NoMemory) = (push_header new ≡ (body headerless b).header) ⊎ (push_header new ≡ (body headerless (b ++ piece)).header)

-- the answer to the end is the refusal of the whole body
abbrev pub Ends : Bool → List ℕ → Result (Unit {0}) PushFault → Type 0
Ends headerless b (Ok u) = body_end headerless b ≡ None
Ends headerless b (Err (pushes.Refused before r)) = (before ≡ []) × (body_end headerless b ≡ Some r)
Ends headerless b (Err pushes.Failed) = ⊥
Ends headerless b (Err pushes.NoMemory) = ⊥
