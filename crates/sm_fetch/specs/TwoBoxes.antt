-- A body of two boxes.
use Rattle.std.specs.Prelude.{◌≡◌, ℕ, List, ◌++◌, true, codes}
use Rattle.sm_model.specs.declared.run.RawFragment.{RawFragment}
use Rattle.sm_model.specs.Boxes.{box_of, IsOneBox}
use Rattle.sm_model.specs.Found.{is_kind}
use Rattle.sm_fetch.specs.Spelt.{IsFragmentAt}

-- a `moof` and one box behind it, and nothing else
pub record IsPair (body moof mdat : List ℕ) : Type 0 where
  pub body_is : body ≡ moof ++ mdat
  pub moof_whole : IsOneBox moof
  pub moof_kind : is_kind (codes "moof") (box_of moof) ≡ true
  pub mdat_whole : IsOneBox mdat

abbrev pub HasNoPair : List ℕ → Type 0
HasNoPair body = (moof mdat : List ℕ) → IsPair body moof mdat → ⊥

abbrev pub HasNoFragment : ℕ → List ℕ → Type 0
HasNoFragment time body = (raw : RawFragment) → IsFragmentAt time body raw → ⊥
