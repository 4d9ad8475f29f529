-- Fragments, and which of them are valid.
use Rattle.std.specs.Prelude.{◌≤◌, ◌<◌, ◌^◌, ◌+◌, ℕ, List, length, sum_by}
use Rattle.sm_model.specs.declared.sample.Sample.{Sample}
use Rattle.sm_model.specs.declared.fragment.Fragment.{Fragment}

-- how many bytes all samples have together
abbrev pub sample_bytes : List Sample → ℕ
sample_bytes samples = sum_by (λ s. length s.bytes) samples

-- 1 to 65,536 samples of at most 64 MiB together, a duration of at least 1, and an end below 2^63
pub record IsValid (f : Fragment) : Type 0 where
  pub some : 0 < length f.samples
  pub few : length f.samples ≤ 65536
  pub lasts : 0 < f.duration
  pub ends : f.time + f.duration < 2 ^ 63
  pub short : sample_bytes f.samples ≤ 67108864

-- the sample's numbers have 32 bits, as those of a real sample have
pub record IsNarrow (s : Sample) : Type 0 where
  pub duration : s.duration < 2 ^ 32
  pub size : length s.bytes < 2 ^ 32
  pub flags : s.flags < 2 ^ 32
  pub offset : s.offset < 2 ^ 32

-- a time and a duration of 64 bits
abbrev pub IsWide : ℕ × ℕ → Type 0
IsWide p = (p.0 < 2 ^ 64) × (p.1 < 2 ^ 64)
