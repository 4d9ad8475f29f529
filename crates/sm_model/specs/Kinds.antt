-- What a track shows: its name in texts, and whether two are of one kind.
use Rattle.std.specs.Prelude.{ℕ, Bool, true, false, List, codes}
use Rattle.sm_model.specs.declared.track.Kind.{Kind}
use Rattle.sm_model.specs.declared.track.Kind.TheVariants.{Video, Audio, Text}

-- a track without a name has that of its kind
abbrev pub kind_name : Kind → List ℕ
kind_name Video = codes "video"
kind_name Audio = codes "audio"
kind_name Text = codes "text"

abbrev pub are_one_kind : Kind → Kind → Bool
are_one_kind Video Video = true
are_one_kind Audio Audio = true
are_one_kind Text Text = true
are_one_kind Video Audio = false
are_one_kind Video Text = false
are_one_kind Audio Video = false
are_one_kind Audio Text = false
are_one_kind Text Video = false
are_one_kind Text Audio = false
