-- Which peer a number means, and what becomes of the others.
use Rattle.std.specs.Prelude.{◌≡◌, ◌⊎◌, ◌<◌, ℕ, List, [], length, slice_index_or, slice_set}
use Rattle.sm_real.specs.declared.peer.Peer.{Peer}
use Rattle.sm_real.specs.Sends.{Sends}

-- the peer at a place has this number
pub record IsAt (number place : ℕ) (peers : List Peer) : Type 0 where
  pub inside : place < length peers
  pub number_is : (p : Peer) → (slice_index_or peers place p).number ≡ number

-- of all peers at most one is changed, which has this number
pub record Touches (number : ℕ) (old new : List Peer) : Type 0 where
  pub place : ℕ
  pub there : IsAt number place old
  pub after : Peer
  pub only : new ≡ slice_set old place after

-- one peer, which has this number, was sent these bytes; all others are as they were
pub record SentTo (number : ℕ) (bytes : List ℕ) (old new : List Peer) : Type 0 where
  pub place : ℕ
  pub there : IsAt number place old
  pub after : Peer
  pub goes_out : (p : Peer) → Sends bytes (slice_index_or old place p) after
  pub only : new ≡ slice_set old place after

-- each peer is as it was, or is given up: nothing waits for it any more
pub record GivesUp (old new : List Peer) : Type 0 where
  pub many : length new ≡ length old
  pub each : (i : ℕ) (p : Peer) → (slice_index_or new i p ≡ slice_index_or old i p)
      ⊎ (((slice_index_or new i p).number ≡ (slice_index_or old i p).number) × ((slice_index_or new i p).queue ≡ []))

-- one was sent these bytes, and then some were given up, since too much waits for all
pub record SentAmong (number : ℕ) (bytes : List ℕ) (old new : List Peer) : Type 0 where
  pub between : List Peer
  pub sent : SentTo number bytes old between
  pub rest : GivesUp between new
