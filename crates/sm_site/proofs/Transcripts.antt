-- One entry more in a transcript.
use Rattle.std.proofs.Common.{◌≡◌, ◌<◌, ◌≤◌, ℕ, Bool, List, [], ◌∷◌, ◌++◌, Option, Some, None, IfSome, IsTrue, refl, sym, subst, false}
use Rattle.sm_site.specs.Meanings.{View, Item, Deal, open_after, open_from, IsLive}
use Rattle.sm_site.specs.Clauses.{Both, Adds}

pub open_push : (was : Bool) (conn : ℕ) (items : List Item) (item : Item) → open_from was conn (items ++ item ∷ []) ≡ open_after (open_from was conn items) conn item.deal
open_push was conn [] item = refl
open_push was conn (x ∷ items) item = open_push (open_after was conn x.deal) conn items item

-- a connection stays open where an entry leaves it open
pub stays_live : (v w : View) (n : ℕ) (deal : Deal) → ((was : Bool) → IsTrue was → IsTrue (open_after was n deal)) → IfSome v.transcript (IsLive n) → Adds deal v w → IfSome w.transcript (IsLive n)
stays_live v w n deal keeps was adds = go v.transcript w.transcript was adds
  where
    go : (a b : Option (List Item)) → IfSome a (IsLive n) → Both a b (λ before now. (m : ℕ) × (v.moment < m) × (m ≤ w.moment) × (now ≡ before ++ (record { moment = m; deal = deal }) ∷ [])) → IfSome b (IsLive n)
    go None None was both = tt
    go None (Some y) was both = absurd both
    go (Some x) None was both = tt
    go (Some x) (Some y) was (m, lt, le, on) =
        subst (λ (l : List Item). IsLive n l) (sym on) (subst (λ (b : Bool). IsTrue b) (sym (open_push false n x (record { moment = m; deal = deal }))) (keeps (open_from false n x) was))
