-- What an end on a machine tells: its counts and what it is selected with, and nothing of what the system holds.
use Rattle.std.specs.Prelude.{ℕ, None}
use Rattle.sm_site.specs.Meanings.{Choice, Seen, View}

-- it was never asked to be selected
abbrev pub unasked : Choice
unasked = record { selection = None; asks = 0 }

abbrev pub counts_alone : ℕ → ℕ → ℕ → ℕ → Choice → View
counts_alone reads disk_faults link_faults send_faults chosen = record {
  moment = 0;
  contents = None;
  calls = None;
  reads = reads;
  disk_faults = disk_faults;
  transcript = None;
  script = None;
  link_faults = link_faults;
  send_faults = send_faults;
  chosen = chosen;
}

-- what contracts see of such an end: no image that a crash may leave
abbrev pub seen_as : {D : Type 0} → (D → View) → Seen D
seen_as view = record { view = view; may_leave = λ d c. ⊥; left_at = λ d t c. ⊥ }
