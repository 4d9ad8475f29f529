-- The log that an image of the store is.
use Rattle.std.specs.Prelude.{ℕ, List}
use Rattle.std.specs.List.{AllZip}
use Rattle.sm_model.specs.declared.entry.Entry.{Entry}
use Rattle.sm_log.specs.Logs.{channel_of, IsSound}
use Rattle.sm_record.specs.Bodies.{IsBody}
use Rattle.sm_site.specs.Image.{Image}
use Rattle.sm_seglog.specs.Stores.{HasStore}

-- each body is its entry's, in either version
abbrev pub Spell : List (List ℕ) → List Entry → Type 0
Spell bodies log = AllZip (IsBody (channel_of log)) log bodies

-- the bodies of the image are those of a sound log
pub record IsStore (log : List Entry) (c : Image) : Type 0 where
  pub bodies : List (List ℕ)
  pub has : HasStore bodies c
  pub spell : Spell bodies log
  pub sound : IsSound log

-- the image is the store of no log
abbrev pub IsNoStore : Image → Type 0
IsNoStore c = (log : List Entry) → IsStore log c → ⊥
