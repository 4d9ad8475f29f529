-- The fragments of a quality, in the order of time.
use Rattle.std.specs.Prelude.{ℕ, List, [], ◌∷◌, ◌++◌, Option, Some, None}
use Rattle.sm_model.specs.declared.address.Address.{Address}
use Rattle.sm_model.specs.declared.entry.Entry.{Entry}
use Rattle.sm_model.specs.declared.fragment.Fragment.{Fragment}
use Rattle.sm_log.specs.Logs.{kept_at, times_in}

abbrev pub fragments_in : Option (ℕ × Fragment) → List Fragment
fragments_in None = []
fragments_in (Some kept) = kept.1 ∷ []

-- what the log keeps at an address
abbrev pub kept_list : List Entry → Address → List Fragment
kept_list log address = fragments_in (kept_at log address)

-- what it keeps of a quality at these times
abbrev pub kept_among : List Entry → List ℕ → ℕ → List (ℕ × ℕ) → List Fragment
kept_among log name bitrate [] = []
kept_among log name bitrate (t ∷ ts) = kept_list log (record { stream = name; bitrate = bitrate; time = t.0 }) ++ kept_among log name bitrate ts

-- all that it keeps of a quality, in the order of time
abbrev pub quality : List Entry → List ℕ → ℕ → List Fragment
quality log name bitrate = kept_among log name bitrate (times_in log name)
