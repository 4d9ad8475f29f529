-- Which connections are open after an entry more.
use Rattle.std.proofs.Common.{◌≡◌, ◌⊎◌, inl, inr, ℕ, ◌≤◌, ◌==◌, ◌<◌, Bool, true, false, if◌then◌else◌, List, [], ◌∷◌, ◌++◌, length, take, Option, None, Some, IfSome, Result, Ok, Err, OnOk, OnErr, sym, ap, ◌∙◌, subst, arith}
use Rattle.std.proofs.lemmas.Bool.Decides.{nat_tests}
use Rattle.sm_site.specs.Meanings.{Item, View, IsLive, open_from}
use Rattle.sm_site.specs.Meanings.Deal.{Began, Sent}
use Rattle.sm_site.specs.Clauses.{Both, Adds}
use Rattle.sm_site.proofs.Told.{both_if}
use Rattle.sm_site.proofs.Connections.{open_push}

both_now : {A : Type 0} (a b : Option A) (R : A → A → Type 0) (Q : A → Type 0) → ((x y : A) → R x y → Q y) → Both a b R → IfSome b Q
both_now None None R Q so both = tt
both_now (Some x) (Some y) R Q so both = so x y both
both_now (Some x) None R Q so both = absurd both
both_now None (Some y) R Q so both = absurd both

same_number : (n : ℕ) → (n == n) ≡ true
same_number n = grind (arith, nat_tests)

-- a connection that was opened is open
pub live_began : (n : ℕ) (old new : View) → Adds (Began n) old new → IfSome new.transcript (IsLive n)
live_began n old new adds = both_now old.transcript new.transcript _ (IsLive n) one adds
  where
    one : (before now : List Item) → (m : ℕ) × (old.moment < m) × (m ≤ new.moment) × (now ≡ before ++ (record { moment = m; deal = Began n }) ∷ []) → IsLive n now
    one before now (m, after, until, is) =
        let item : Item = record { moment = m; deal = Began n } in
        subst (λ (l : List Item). IsLive n l) (sym is) (open_push false n before item ∙ ap (λ b. if b then true else open_from false n before) (same_number n))

-- and a send leaves it open
pub live_sent : (n : ℕ) (bytes : List ℕ) (old new : View) (failed : Bool) → IfSome old.transcript (IsLive n) → Adds (Sent n bytes failed) old new → IfSome new.transcript (IsLive n)
live_sent n bytes old new failed live adds = both_if old.transcript new.transcript _ (IsLive n) (IsLive n) one live adds
  where
    one : (before now : List Item) → IsLive n before → (m : ℕ) × (old.moment < m) × (m ≤ new.moment) × (now ≡ before ++ (record { moment = m; deal = Sent n bytes failed }) ∷ []) → IsLive n now
    one before now was (m, after, until, is) =
        let item : Item = record { moment = m; deal = Sent n bytes failed } in
        subst (λ (l : List Item). IsLive n l) (sym is) (open_push false n before item ∙ was)

-- whatever it answers
pub live_after_send : {T E : Type 0} (r : Result T E) (n : ℕ) (bytes : List ℕ) (old new : View) → OnOk r (Adds (Sent n bytes false) old new)
    → OnErr r (((k : ℕ) × (k ≤ length bytes) × Adds (Sent n (take k bytes) true) old new) ⊎ (new.transcript ≡ old.transcript)) → IfSome old.transcript (IsLive n) → IfSome new.transcript (IsLive n)
live_after_send (Ok x) n bytes old new sent part live = live_sent n bytes old new false live sent
live_after_send (Err e) n bytes old new sent (inl (k, few, adds)) live = live_sent n (take k bytes) old new true live adds
live_after_send (Err e) n bytes old new sent (inr same) live = subst (λ (o : Option (List Item)). IfSome o (IsLive n)) (sym same) live
