-- What one log keeps of another.
use Rattle.std.specs.Prelude.{◌≡◌, ℕ, List, Some, Contains, slice_get}
use Rattle.sm_model.specs.declared.entry.Entry.{Entry}
use Rattle.sm_model.specs.declared.entry.Entry.TheVariants.{Keep}
use Rattle.sm_model.specs.declared.fragment.Fragment.{Fragment}
use Rattle.sm_model.specs.Entries.{address_of}
use Rattle.sm_log.specs.Logs.{kept_at}

-- the log keeps it, at its address, with equal duration and samples, whose composition offsets are signed in both or in neither
pub record IsKeptIn (up : List Entry) (f : Fragment) : Type 0 where
  pub place : ℕ
  pub there : Fragment
  pub kept : kept_at up (address_of f) ≡ Some (place, there)
  pub duration : there.duration ≡ f.duration
  pub signed : there.signed ≡ f.signed
  pub samples : there.samples ≡ f.samples

-- each Keep of the log is kept by the other
abbrev pub Below : List Entry → List Entry → Type 0
Below log up = (f : Fragment) → Contains log (Keep f) → IsKeptIn up f

-- each Keep of the log is the entry of the other at its place
abbrev pub Places : List Entry → List Entry → Type 0
Places log up = (place : ℕ) (f : Fragment) → slice_get log place ≡ Some (Keep f) → slice_get up place ≡ Some (Keep f)
