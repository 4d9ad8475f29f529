-- What holds of everything that is read.
use Rattle.std.specs.Prelude.{◌≡◌, ◌≤◌, ◌<◌, ◌^◌, ◌+◌, ℕ, List, length, take, Ok}
use Rattle.std.specs.List.{flat_map}
use Rattle.sm_model.specs.declared.run.Defaults.{Defaults}
use Rattle.sm_model.specs.declared.run.Run.{Run}
use Rattle.sm_model.specs.declared.run.RawFragment.{RawFragment}
use Rattle.sm_model.specs.Boxes.{box_of}
use Rattle.sm_model.specs.Fragments.{sample_bytes}
use Rattle.sm_model.specs.Frag.{moof_run, mdat_rest, sizes}

-- at least one sample and at most 65,536, a duration of at least 1, and an end below 2^63
pub record IsSoundRun (run : Run) : Type 0 where
  pub some : 0 < length run.samples
  pub few : length run.samples ≤ 65536
  pub lasts : 0 < run.duration
  pub ends : run.time + run.duration < 2 ^ 63

-- the same, and the samples' bytes lie in the body of the mdat: what a valid fragment needs but for its limit of bytes
pub record IsSoundFragment (md : List ℕ) (raw : RawFragment) : Type 0 where
  pub some : 0 < length raw.samples
  pub few : length raw.samples ≤ 65536
  pub lasts : 0 < raw.duration
  pub ends : raw.time + raw.duration < 2 ^ 63
  pub inside : sample_bytes raw.samples ≤ length (box_of md).body

-- the samples' bytes, joined, are the bytes from the place on that the moof says, as many as its sizes come to
pub record LieInOrder (d : Defaults) (m md : List ℕ) (raw : RawFragment) : Type 0 where
  pub run : Run
  pub says : moof_run d m ≡ Ok run
  pub joined : flat_map (λ s. s.bytes) raw.samples ≡ take (sizes run.samples) (mdat_rest m md run)
  pub all : sample_bytes raw.samples ≡ sizes run.samples
