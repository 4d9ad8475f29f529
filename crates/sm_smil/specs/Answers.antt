-- What the readers of live manifests answer, and what their parts hand on.
use Rattle.std.specs.Prelude.{◌≡◌, ℕ, true, List, Option, Some}
use Rattle.sm_model.specs.declared.tag.Tag.{Tag}
use Rattle.sm_smil.specs.declared.raw_track.Form.{Form}
use Rattle.sm_smil.specs.declared.raw_track.ParamName.{ParamName}
use Rattle.sm_smil.specs.declared.raw_track.SmilParam.{SmilParam}
use Rattle.sm_tag.specs.Tags.{Left, Runs}
use Rattle.sm_smil.specs.LiveTracks.{value_of, is_fit}
use Rattle.sm_smil.specs.LiveWalk.{Walk, nothing_met, walk_tags}
use Rattle.sm_tag.specs.Elements.{bad_of}

-- these tags were walked over, up to a tag at fault or the end
abbrev pub WalkedOver : Form → Left → Walk → Option ℕ → Type 0
WalkedOver form left w bad = (tags : List Tag) × Runs left tags × (w ≡ walk_tags form nothing_met tags) × (bad ≡ bad_of tags)

-- each param that counts has a value that fits
abbrev pub AreFit : List SmilParam → Type 0
AreFit ps = (name : ParamName) (v : List ℕ) → value_of name ps ≡ Some v → is_fit name v ≡ true
