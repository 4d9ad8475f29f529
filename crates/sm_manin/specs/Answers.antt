-- What the reader of manifests answers, and what its parts hand on.
use Rattle.std.specs.Prelude.{◌≡◌, ℕ, List, Option}
use Rattle.sm_model.specs.declared.tag.Tag.{Tag}
use Rattle.sm_tag.specs.Tags.{Left, Runs}
use Rattle.sm_manin.specs.ManifestWalk.{Walk, none_met, walk}
use Rattle.sm_tag.specs.Elements.{bad_of}

-- these tags were walked over, up to a tag at fault or the end
abbrev pub WalkedOver : Left → Walk → Option ℕ → Type 0
WalkedOver left w bad = (tags : List Tag) × Runs left tags × (w ≡ walk none_met tags) × (bad ≡ bad_of tags)
