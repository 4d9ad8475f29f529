-- What of a log is enough to answer players: the channel, what was kept, and the last fragments themselves.
use Rattle.std.specs.Prelude.{◌≡◌, ◌++◌, ℕ, List, [], ◌∷◌, Option, None, nat_le, map, sum_by, if◌then◌else◌, ◌⊎◌}
use Rattle.sm_model.specs.declared.address.Address.{Address}
use Rattle.sm_model.specs.declared.entry.Entry.{Entry}
use Rattle.sm_model.specs.declared.entry.Entry.TheVariants.{Declare, Keep}
use Rattle.sm_model.specs.declared.fragment.Fragment.{Fragment}
use Rattle.sm_model.specs.declared.track.Track.{Track}
use Rattle.sm_model.specs.Fragments.{sample_bytes}
use Rattle.sm_model.specs.Entries.{address_of}
use Rattle.sm_log.specs.Logs.{channel_of}

-- the fragments that are kept, in order of place
abbrev pub keeps_of : List Entry → List Fragment
keeps_of [] = []
keeps_of (Declare tracks ∷ more) = keeps_of more
keeps_of (Keep f ∷ more) = f ∷ keeps_of more

-- how many bytes the samples of all of them have
abbrev pub bytes_of : List Fragment → ℕ
bytes_of fs = sum_by (λ (f : Fragment). sample_bytes f.samples) fs

-- the longest list of them from the end on whose samples have at most 67,108,864 bytes
abbrev pub window_of : List Fragment → List Fragment
window_of [] = []
window_of (f ∷ fs) = if nat_le (bytes_of (f ∷ fs)) 67108864 then f ∷ fs else window_of fs

-- the channel, the addresses and durations of what is kept, in order of place, and the last fragments
pub record Digest : Type 0 where
  pub channel : Option (List Track)
  pub adds : List (Address × ℕ)
  pub window : List Fragment

abbrev pub digest_of : List Entry → Digest
digest_of log = record {
  channel = channel_of log;
  adds = map (λ (f : Fragment). (address_of f, f.duration)) (keeps_of log);
  window = window_of (keeps_of log);
}

-- the channel is the older one's, or that has none, and what was kept goes on from what the older one has
pub record Extends (digest older : Digest) : Type 0 where
  pub channel : (older.channel ≡ None) ⊎ (digest.channel ≡ older.channel)
  pub adds : (more : List (Address × ℕ)) × (digest.adds ≡ older.adds ++ more)
