-- For how long nothing of a peer has moved.
use Rattle.std.specs.Prelude.{ℕ, ◌-◌, ◌/◌, ◌≤◌}
use Rattle.std.specs.Time.{instant_nanos}
use Rattle.std.specs.declared.time.Instant.{Instant}
use Rattle.sm_real.specs.declared.peer.Peer.{Peer}

-- nothing was read from it and nothing was taken by it for so many milliseconds
abbrev pub IsLate : ℕ → Instant → Peer → Type 0
IsLate limit now peer = limit ≤ (instant_nanos now - instant_nanos peer.since) / 1_000_000
