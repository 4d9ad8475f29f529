-- What waits for all peers.
use Rattle.std.specs.Prelude.{ℕ, List, length, sum_by}
use Rattle.sm_real.specs.declared.peer.Peer.{Peer}

-- how many bytes wait for one
abbrev pub waits : Peer → ℕ
waits peer = length peer.queue

-- how many wait for these together
abbrev pub wait_in_all : List Peer → ℕ
wait_in_all peers = sum_by waits peers
