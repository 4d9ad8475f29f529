-- The one that is visited.
use Rattle.std.proofs.Common.{◌≡◌, ℕ, ◌<◌, List, length, get_or, set, refl, sym, ap, ◌∙◌}
use Rattle.sm_real.specs.declared.peer.Peer.{Peer}
use Rattle.sm_real.specs.Numbers.{Touches}

-- it keeps its number, and no other is changed
pub touches_one : (place : ℕ) (peers : List Peer) (before after : Peer) → place < length peers → ((p : Peer) → before ≡ get_or peers place p) → after.number ≡ before.number
    → Touches after.number peers (set peers place after)
touches_one place peers before after inside is same = record {
  place = place;
  there = record { inside = inside; number_is = λ p. ap (λ (q : Peer). q.number) (sym (is p)) ∙ sym same };
  after = after;
  only = refl;
}
