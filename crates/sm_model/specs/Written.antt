-- What may be asked to be written as a fragment, and what is read of it.
use Rattle.std.specs.Prelude.{◌≡◌, ◌<◌, ◌≤◌, ◌^◌, ℕ, true, List, length, map, drop, slice_index, slice_get, Some}
use Rattle.std.specs.List.{All}
use Rattle.std.specs.Int.{w32, cast_signed}
use Rattle.sm_model.specs.declared.sample.Sample.{Sample}
use Rattle.sm_model.specs.declared.fragment.Fragment.{Fragment}
use Rattle.sm_model.specs.declared.run.Row.{Row}
use Rattle.sm_model.specs.declared.run.Run.{Run}
use Rattle.sm_model.specs.declared.run.RawFragment.{RawFragment}
use Rattle.sm_model.specs.Fragments.{IsValid, IsNarrow, IsWide}
use Rattle.sm_model.specs.Boxes.{box_of, IsOneBox}
use Rattle.sm_model.specs.Found.{is_user}
use Rattle.sm_model.specs.Fields.{tfrf_fits, tfrf_pair, pairs}

-- a valid fragment, at most 255 pairs, and numbers that fit their fields, as those of real values do
pub record IsWritten (id : ℕ) (f : Fragment) (ahead : List (ℕ × ℕ)) : Type 0 where
  pub valid : IsValid f
  pub few : length ahead ≤ 255
  pub id_fits : id < 2 ^ 32
  pub samples : All IsNarrow f.samples
  pub pairs : All IsWide ahead

abbrev pub row_of : Sample → Row
row_of s = record { duration = s.duration; size = length s.bytes; flags = s.flags; offset = s.offset }

-- what is read of a traf whose samples begin `start` bytes behind the first byte of the moof
abbrev pub run_again : ℕ → ℕ → Fragment → List (ℕ × ℕ) → Run
run_again id start f ahead = record {
  id = id;
  time = f.time;
  duration = f.duration;
  signed = f.signed;
  start = Some (cast_signed w32 start);
  samples = map row_of f.samples;
  ahead = ahead;
}

-- what is read of a moof and its mdat
abbrev pub raw_again : ℕ → Fragment → List (ℕ × ℕ) → RawFragment
raw_again id f ahead = record { id = id; time = f.time; duration = f.duration; signed = f.signed; samples = f.samples; ahead = ahead }

-- one whole box of this user type, and what stands behind the user type
pub record IsUserBox (b name body : List ℕ) : Type 0 where
  pub one : IsOneBox b
  pub user : is_user name (box_of b) ≡ true
  pub body_is : drop 16 (box_of b).body ≡ body

-- the body of a tfrf, behind the user type, with these pairs
pub record IsPairsBox (b : List ℕ) (ahead : List (ℕ × ℕ)) : Type 0 where
  pub fits : tfrf_fits b ≡ true
  pub count : slice_index b 4 ≡ length ahead
  pub pair : (i : ℕ) (p : ℕ × ℕ) → slice_get ahead i ≡ Some p → tfrf_pair b i ≡ p
  pub all : pairs b (length ahead) ≡ ahead
