-- How many bytes of its push body a push holds, and how many it lacks.
use Rattle.std.specs.Prelude.{ℕ, ◌+◌, ◌-◌, List, length, nat_lt, Option, Some, None, if◌then◌else◌}
use Rattle.sm_push.specs.declared.state.HeaderStage.{HeaderStage}
use Rattle.sm_push.specs.declared.state.HeaderStage.TheVariants.{Gathering, Complete}
use Rattle.sm_push.specs.declared.state.TopBox.{TopBox}
use Rattle.sm_push.specs.declared.state.TopBox.TheVariants.{Moof, Mdat, Moov, Manifest, Other}
use Rattle.sm_push.specs.declared.state.BoxDecision.{BoxDecision}
use Rattle.sm_push.specs.declared.state.BoxDecision.TheVariants.{Take}
use Rattle.sm_push.specs.PushHeads.{decision}
use Rattle.sm_push.specs.declared.kept.Kept.{Kept}

-- the greatest box of a sort that is read; an mdat has at most 67,108,864 bytes behind a head of 16
abbrev pub most_of : TopBox → ℕ
most_of Moof = 2097152
most_of Mdat = 67108880
most_of Moov = 1048576
most_of Manifest = 1048576
most_of Other = 0

abbrev pub box_bytes : Option (List ℕ) → ℕ
box_bytes None = 0
box_bytes (Some b) = length b

abbrev pub gathered_bytes : HeaderStage → ℕ
gathered_bytes (Gathering manifest moov) = box_bytes manifest + box_bytes moov
gathered_bytes (Complete tracks) = 0

-- of the box that was begun, and of a header that is not complete
abbrev pub kept_bytes : Kept → ℕ
kept_bytes k = length k.held + gathered_bytes k.state.stage

-- of a box that is read and of which so many are held
abbrev pub lacking : ℕ → BoxDecision → ℕ
lacking held (Take sort size) = size - held
lacking held _ = 0

-- of the box that was begun, once its head is there
abbrev pub missing_of : Kept → ℕ
missing_of k = if nat_lt 0 k.skip then k.skip else lacking (length k.held) (decision k.state k.held)
