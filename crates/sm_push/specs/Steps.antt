-- What a step keeps and answers.
use Rattle.std.specs.Prelude.{◌≡◌, ◌≤◌, ℕ, List, length, Option, Some, None, Result, Ok, Err}
use Rattle.sm_push.specs.declared.state.HeaderStage.{HeaderStage}
use Rattle.sm_push.specs.declared.state.HeaderStage.TheVariants.{Gathering, Complete}
use Rattle.sm_push.specs.declared.state.PendingMoof.{PendingMoof}
use Rattle.sm_push.specs.declared.state.PushState.{PushState}
use Rattle.sm_push.specs.declared.state.TopBox.TheVariants.{Moof, Moov, Manifest}
use Rattle.sm_model.specs.Boxes.{IsOneBox}
use Rattle.sm_model.specs.Sound.{IsSoundRun}
use Rattle.sm_model.specs.Items.{Given, given_of}
use Rattle.sm_model.specs.declared.run.Defaults.{Defaults}
use Rattle.sm_model.specs.declared.header.HeaderTrack.{HeaderTrack}
use Rattle.sm_model.specs.Moov.{no_defaults}
use Rattle.sm_model.specs.TrackId.{track_id}
use Rattle.sm_push.specs.PushBoxes.{Step, track_in}
use Rattle.sm_push.specs.Held.{most_of}
use Rattle.sm_push.specs.declared.step.NewItem.{NewItem}
use Rattle.sm_push.specs.declared.fault.StepFault.{StepFault}
use Rattle.sm_push.specs.declared.fault.StepFault.TheVariants as faults

abbrev pub given_in : Option NewItem → Option Given
given_in None = None
given_in (Some n) = Some (given_of n.item n.id)

-- the track that a moof names, where the header has it
abbrev pub for_id : HeaderStage → Option ℕ → Option HeaderTrack
for_id stage None = None
for_id stage (Some id) = track_in stage id

abbrev pub track_for : HeaderStage → List ℕ → Option HeaderTrack
track_for stage moof = for_id stage (track_id moof)

abbrev pub defaults_in : Option HeaderTrack → Defaults
defaults_in None = no_defaults
defaults_in (Some track) = track.defaults

-- what was returned is this step, unless memory ran out
abbrev pub Takes : PushState → Result (Option NewItem) StepFault → Step → Type 0
Takes new (Ok item) step = step ≡ Ok (given_in item, new)
Takes new (Err (faults.Refused r)) step = step ≡ Err r
Takes new (Err faults.NoMemory) step = Unit {0}

abbrev pub IsBoxIn : ℕ → Option (List ℕ) → Type 0
IsBoxIn most None = Unit {0}
IsBoxIn most (Some b) = IsOneBox b × (length b ≤ most)

abbrev pub AreNotBoth : Option (List ℕ) → Option (List ℕ) → Type 0
AreNotBoth (Some a) (Some b) = ⊥
AreNotBoth (Some a) None = Unit {0}
AreNotBoth None other = Unit {0}

abbrev pub AreGathered : HeaderStage → Type 0
AreGathered (Gathering manifest moov) = IsBoxIn (most_of Manifest) manifest × IsBoxIn (most_of Moov) moov × AreNotBoth manifest moov
AreGathered (Complete tracks) = Unit {0}

abbrev pub IsPending : Option PendingMoof → Type 0
IsPending None = Unit {0}
IsPending (Some moof) = IsSoundRun moof.run × (moof.size ≤ most_of Moof)

-- what is kept for later boxes are whole boxes within their limits, at most one of a header, and what a moof said
pub record HoldsBoxes (s : PushState) : Type 0 where
  pub stage : AreGathered s.stage
  pub moof : IsPending s.moof
