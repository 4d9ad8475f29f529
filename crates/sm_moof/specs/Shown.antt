-- What a part of a fragment's text shows, read as a player reads it.
use Rattle.std.specs.Prelude.{◌≡◌, ℕ, List, ◌++◌, Some, Ok, slice_get}
use Rattle.sm_model.specs.declared.run.Defaults.{Defaults}
use Rattle.sm_model.specs.declared.run.Run.{Run}
use Rattle.sm_model.specs.declared.run.RawFragment.{RawFragment}
use Rattle.sm_model.specs.declared.sample.Sample.{Sample}
use Rattle.sm_model.specs.Boxes.{IsOneBox}
use Rattle.sm_model.specs.Frag.{frag, moof_run}

-- a player without a header
abbrev pub no_defaults : Defaults
no_defaults = record { duration = 0; size = 0; flags = 0 }

-- a moof stands whole in front, and one of its pairs ahead starts then
pub record NamesIn (part : List ℕ) (time : ℕ) : Type 0 where
  pub moof : List ℕ
  pub rest : List ℕ
  pub part_is : part ≡ moof ++ rest
  pub whole : IsOneBox moof
  pub run : Run
  pub read : moof_run no_defaults moof ≡ Ok run
  pub index : ℕ
  pub duration : ℕ
  pub pair : slice_get run.ahead index ≡ Some (time, duration)

-- a moof and an mdat stand whole in front, and say these samples and this duration
pub record ServesIn (part : List ℕ) (samples : List Sample) (duration : ℕ) : Type 0 where
  pub moof : List ℕ
  pub mdat : List ℕ
  pub rest : List ℕ
  pub part_is : part ≡ moof ++ (mdat ++ rest)
  pub moof_whole : IsOneBox moof
  pub mdat_whole : IsOneBox mdat
  pub raw : RawFragment
  pub read : frag no_defaults moof mdat ≡ Ok raw
  pub samples_are : raw.samples ≡ samples
  pub duration_is : raw.duration ≡ duration
