-- A push that is looked through: what it keeps, and the boxes that are passed over.
use Rattle.std.specs.Prelude.{◌≡◌, ◌<◌, ℕ, ◌+◌, ◌-◌, ◌==◌, ◌&&◌, Bool, true, false, List, [], ◌++◌, length, Option, Some, None, Result, Ok, Err}
use Rattle.sm_model.specs.declared.cause.Cause.TheVariants.{CutOff}
use Rattle.sm_model.specs.declared.cause.Refusal.{Refusal}
use Rattle.sm_model.specs.declared.run.RawFragment.{RawFragment}
use Rattle.sm_model.specs.Frag.{finish}
use Rattle.sm_model.specs.Items.{Given}
use Rattle.sm_push.specs.declared.state.PendingMoof.{PendingMoof}
use Rattle.sm_push.specs.declared.state.BoxDecision.TheVariants.{Take}
use Rattle.sm_push.specs.declared.state.TopBox.TheVariants.{Mdat}
use Rattle.sm_push.specs.declared.fault.StepFault.{StepFault}
use Rattle.sm_push.specs.declared.kept.Kept.{Kept}
use Rattle.sm_push.specs.PushHeads.{decision}
use Rattle.sm_push.specs.PushBoxes.{awaiting}
use Rattle.sm_push.specs.Standing.{Standing, PieceGives}
use Rattle.sm_pick.specs.declared.skim.Skim.{Skim}

-- as a push
abbrev pub standing : Skim → Standing
standing s = record { kept = s.kept; count = s.bytes; failed = false }

-- so many bytes of a box that is passed over came
abbrev pub skipped : Skim → ℕ → Skim
skipped s count = record { alloc = s.alloc; kept = record { state = s.kept.state; held = s.kept.held; skip = s.kept.skip - count }; bytes = s.bytes + count }

-- what a piece gives
abbrev pub Feeds : Kept → Kept → List ℕ → Result (List Given) StepFault → Type 0
Feeds old new piece (Ok items) = PieceGives old new piece items (Ok tt)
Feeds old new piece (Err fault) = (items : List Given) × PieceGives old new piece items (Err fault)

-- this box is the mdat of the moof, and gives its fragment
pub record IsComing (moof : PendingMoof) (box : List ℕ) : Type 0 where
  pub raw : RawFragment
  pub says : finish moof.size box moof.run ≡ Ok raw
  pub id : raw.id ≡ moof.run.id
  pub time : raw.time ≡ moof.run.time

abbrev pub is_at : PendingMoof → ℕ → ℕ → Bool
is_at moof track time = moof.run.id == track && moof.run.time == time

-- an mdat of this size was begun, and whatever bytes it has, another fragment than the one sought comes of it
pub record Passable (kept : Kept) (track time size : ℕ) : Type 0 where
  pub moof : PendingMoof
  pub waits : kept.state.moof ≡ Some moof
  pub other : is_at moof track time ≡ false
  pub begun : decision kept.state kept.held ≡ Take Mdat size
  pub short : length kept.held < size
  pub comes : (rest : List ℕ) → length kept.held + length rest ≡ size → IsComing moof (kept.held ++ rest)

-- the next box begins behind the one of this size, of which no byte is held any more
abbrev pub behind : Kept → ℕ → Kept
behind k size = record { state = awaiting k.state None size; held = []; skip = size - length k.held }

pub record PassesOver (old new : Skim) (track time : ℕ) : Type 0 where
  pub size : ℕ
  pub passable : Passable old.kept track time size
  pub now : new ≡ record { alloc = old.alloc; kept = behind old.kept size; bytes = old.bytes }

-- why bytes of which so many came may not end there
abbrev pub cut_at : Bool → ℕ → Option Refusal
cut_at true count = Some (record { at = count; cause = CutOff })
cut_at false count = None
