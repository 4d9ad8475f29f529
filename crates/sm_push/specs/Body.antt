-- What the bytes of a push body give, however far they have come: items, and possibly one refusal behind them.
use Rattle.std.specs.Prelude.{◌≡◌, ℕ, zero, suc, ◌-◌, ◌^◌, min, Bool, true, false, ◌||◌, List, [], ◌∷◌, ◌++◌, length, take, Option, Some, None, is_some, Ok, Err, nat_lt, if◌then◌else◌}
use Rattle.std.specs.Option.{option_to_list}
use Rattle.sm_model.specs.declared.cause.Cause.TheVariants.{CutOff}
use Rattle.sm_model.specs.declared.cause.Refusal.{Refusal}
use Rattle.sm_model.specs.declared.header.HeaderTrack.{HeaderTrack}
use Rattle.sm_push.specs.declared.state.HeaderStage.{HeaderStage}
use Rattle.sm_push.specs.declared.state.HeaderStage.TheVariants.{Gathering, Complete}
use Rattle.sm_push.specs.declared.state.PushState.{PushState}
use Rattle.sm_push.specs.declared.state.BoxDecision.{BoxDecision}
use Rattle.sm_push.specs.declared.state.BoxDecision.TheVariants.{Wait, Refuse, Pass, Take}
use Rattle.sm_model.specs.Items.{Given}
use Rattle.sm_push.specs.PushHeads.{decision}
use Rattle.sm_push.specs.PushBoxes.{Step, taken, passed}

pub record Outcome : Type 0 where
  pub items : List Given
  -- behind the items
  pub refusal : Option Refusal
  -- whether the bytes end inside a box, or between a moof and its mdat
  pub inside : Bool
  -- the tracks of the header, where one was read
  pub header : List HeaderTrack

abbrev pub header_in : HeaderStage → List HeaderTrack
header_in (Gathering manifest moov) = []
header_in (Complete tracks) = tracks

abbrev pub ended : PushState → Bool → Outcome
ended s inside = record { items = []; refusal = None; inside = inside; header = header_in s.stage }

-- the header that was read before
abbrev pub refused : List HeaderTrack → Refusal → Outcome
refused header r = record { items = []; refusal = Some r; inside = false; header = header }

-- the items before, then the rest
abbrev pub led_by : List Given → Outcome → Outcome
led_by items o = record { items = items ++ o.items; refusal = o.refusal; inside = o.inside; header = o.header }

abbrev pub stepped : PushState → Step → ℕ → (PushState → ℕ → Outcome) → Outcome
stepped s (Err r) size go = refused (header_in s.stage) r
stepped s (Ok step) size go = led_by (option_to_list step.0) (go step.1 size)

-- the box at the front of the bytes; `go` reads on behind a box of that size
abbrev pub at_box : PushState → List ℕ → BoxDecision → (PushState → ℕ → Outcome) → Outcome
at_box s bytes Wait go = ended s true
at_box s bytes (Refuse cause) go = refused (header_in s.stage) (record { at = s.at; cause = cause })
at_box s bytes (Pass size) go = go (passed s size) size
at_box s bytes (Take sort size) go = if nat_lt (length bytes) size then ended s true else stepped s (taken s sort (take size bytes)) size go

-- what bytes give, of which the first `count` still belong to the box before
unfoldable pub walk : PushState → ℕ → List ℕ → Outcome
walk s count [] = ended s (nat_lt 0 count || is_some s.moof)
walk s (suc count) (x ∷ bytes) = walk s count bytes
walk s zero (x ∷ bytes) = at_box s (x ∷ bytes) (decision s (x ∷ bytes)) (λ next size. walk next (size - 1) bytes)

abbrev pub push_start : Bool → PushState
push_start headerless = record { headerless = headerless; stage = Gathering None None; moof = None; at = 0 }

-- the bytes of a push so far
abbrev pub body : Bool → List ℕ → Outcome
body headerless bytes = walk (push_start headerless) 0 bytes

-- what ends inside a box, or between a moof and its mdat, is cut off, at the number of its bytes
abbrev pub cut_off : Bool → ℕ → Option Refusal → Option Refusal
cut_off inside count (Some r) = Some r
cut_off true count None = Some (record { at = min count (2 ^ 64 - 1); cause = CutOff })
cut_off false count None = None

-- the refusal of a whole push body
abbrev pub body_end : Bool → List ℕ → Option Refusal
body_end headerless bytes = cut_off (body headerless bytes).inside (length bytes) (body headerless bytes).refusal

-- the items and the refusal of one are a front of those of the other
pub record IsFrontOf (p b : Outcome) : Type 0 where
  pub items : (rest : List Given) × (b.items ≡ p.items ++ rest)
  pub refusal : (r : Refusal) → p.refusal ≡ Some r → (b.items ≡ p.items) × (b.refusal ≡ Some r)
