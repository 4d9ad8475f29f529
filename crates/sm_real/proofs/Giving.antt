-- What becomes of the peers.
use Rattle.std.proofs.Common.{◌≡◌, ◌≢◌, ◌⊎◌, inl, inr, ℕ, ◌<◌, List, [], length, get_or, set, refl, sym, ap, subst, ◌∙◌, Result, Ok, Err}
use Rattle.std.specs.Prelude.{OnOk}
use Rattle.std.proofs.lemmas.List.{get_or-set_same, get_or-set_other, length-set}
use Rattle.std.proofs.lemmas.Bool.{cases_eq}
use Rattle.sm_real.specs.declared.peer.Peer.{Peer}
use Rattle.sm_real.specs.Numbers.{GivesUp, IsAt, SentAmong, SentTo}
use Rattle.sm_real.specs.Sends.{Sends}

pub gives_none : (peers : List Peer) → GivesUp peers peers
gives_none peers = record { many = refl; each = λ i p. inl refl }

-- one is given up
pub gives_one : (peers : List Peer) (place : ℕ) (after : Peer) → place < length peers → ((p : Peer) → after.number ≡ (get_or peers place p).number) → after.queue ≡ []
    → GivesUp peers (set peers place after)
gives_one peers place after inside number_is nothing = record {
  many = length-set peers place after;
  each = λ i p. by_place i p (cases_eq i place);
}
  where
    by_place : (i : ℕ) (p : Peer) → (i ≡ place) ⊎ (i ≢ place) → (get_or (set peers place after) i p ≡ get_or peers i p)
        ⊎ (((get_or (set peers place after) i p).number ≡ (get_or peers i p).number) × ((get_or (set peers place after) i p).queue ≡ []))
    by_place i p (inl same) =
        let now : get_or (set peers place after) i p ≡ after = ap (λ (k : ℕ). get_or (set peers place after) k p) same ∙ get_or-set_same peers place after p inside in
        inr (
          ap (λ (q : Peer). q.number) now ∙ number_is p ∙ ap (λ (k : ℕ). (get_or peers k p).number) (sym same),
          ap (λ (q : Peer). q.queue) now ∙ nothing,
        )
    by_place i p (inr other) = inl (get_or-set_other peers place i after p other)

abbrev one : List Peer → List Peer → ℕ → Peer → Type 0
one a b i p = (get_or b i p ≡ get_or a i p) ⊎ (((get_or b i p).number ≡ (get_or a i p).number) × ((get_or b i p).queue ≡ []))

pub gives_more : (old mid new : List Peer) → GivesUp old mid → GivesUp mid new → GivesUp old new
gives_more old mid new first second = record {
  many = second.many ∙ first.many;
  each = λ i p. both i p (first.each i p) (second.each i p);
}
  where
    both : (i : ℕ) (p : Peer) → one old mid i p → one mid new i p → one old new i p
    both i p (inl a) (inl b) = inl (b ∙ a)
    both i p (inr a) (inl b) = inr (ap (λ (q : Peer). q.number) b ∙ a.0, ap (λ (q : Peer). q.queue) b ∙ a.1)
    both i p (inl a) (inr b) = inr (b.0 ∙ ap (λ (q : Peer). q.number) a, b.1)
    both i p (inr a) (inr b) = inr (b.0 ∙ a.0, b.1)

pub sent_to : {T E : Type 0} (r : Result T E) (number place : ℕ) (bytes : List ℕ) (peers : List Peer) (before after : Peer) → IsAt number place peers
    → ((p : Peer) → before ≡ get_or peers place p) → OnOk r (Sends bytes before after) → OnOk r (SentTo number bytes peers (set peers place after))
sent_to (Ok x) number place bytes peers before after there is sends = record {
  place = place;
  there = there;
  after = after;
  goes_out = λ p. subst (λ (q : Peer). Sends bytes q after) (is p) sends;
  only = refl;
}
sent_to (Err e) number place bytes peers before after there is sends = tt

pub sent_among : {T E : Type 0} (r : Result T E) (number : ℕ) (bytes : List ℕ) (old mid new : List Peer) → OnOk r (SentTo number bytes old mid) → GivesUp mid new
    → OnOk r (SentAmong number bytes old new)
sent_among (Ok x) number bytes old mid new sent rest = record { between = mid; sent = sent; rest = rest }
sent_among (Err e) number bytes old mid new sent rest = tt
