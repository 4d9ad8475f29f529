-- Items with the track_IDs that stand beside them.
use Rattle.std.proofs.Common.{◌≡◌, ◌≤◌, ◌<◌, ℕ, zero, suc, List, [], ◌∷◌, ◌++◌, length, get_or, refl, sym, ap, ◌∙◌, arith}
use Rattle.std.specs.Prelude.{Some, None, map}
use Rattle.sm_model.specs.declared.track.Track.{Track}
use Rattle.sm_model.specs.declared.fragment.Fragment.{Fragment}
use Rattle.sm_model.specs.declared.item.Item.{Item}
use Rattle.sm_model.specs.declared.item.Item.TheVariants as items
use Rattle.sm_model.specs.Items.{Given, given_of, item_of, givens, id_of, id_at}

item_again : (item : Item) (id : ℕ) → item_of (given_of item id) ≡ item
item_again (items.Header channel) id = refl
item_again (items.Frag fragment) id = refl

-- the items are those that were given
pub items_are : (xs : List Item) (ids : List ℕ) → map item_of (givens xs ids) ≡ xs
unfolding givens
items_are [] ids = refl
items_are (x ∷ xs) [] = rw (item_again x 0, items_are xs []) refl
items_are (x ∷ xs) (id ∷ ids) = rw (item_again x id, items_are xs ids) refl

pub as_many : (xs : List Item) (ids : List ℕ) → length (givens xs ids) ≡ length xs
unfolding givens
as_many [] ids = refl
as_many (x ∷ xs) [] = ap suc (as_many xs [])
as_many (x ∷ xs) (id ∷ ids) = ap suc (as_many xs ids)

pub none_given : (ids : List ℕ) → givens [] ids ≡ []
unfolding givens
none_given ids = refl

-- one more at the end
pub given_more : (xs : List Item) (ids : List ℕ) (x : Item) (id : ℕ) → length xs ≡ length ids
    → givens (xs ++ x ∷ []) (ids ++ id ∷ []) ≡ givens xs ids ++ given_of x id ∷ []
unfolding givens
given_more [] [] x id e = refl
given_more [] (i ∷ ids) x id e = absurd (omega arith)
given_more (y ∷ xs) [] x id e = absurd (omega arith)
given_more (y ∷ xs) (i ∷ ids) x id e = ap (λ (gs : List Given). given_of y i ∷ gs) (given_more xs ids x id (omega arith))

-- past the end there is no track_ID
pub past_end : (xs : List Item) (ids : List ℕ) (n : ℕ) → length xs ≤ n → None ≡ id_at (givens xs ids) n
unfolding givens id_at
past_end [] ids n le = refl
past_end (x ∷ xs) ids zero le = absurd (omega arith)
past_end (x ∷ xs) [] (suc n) le = past_end xs [] n (omega arith)
past_end (x ∷ xs) (id ∷ ids) (suc n) le = past_end xs ids n (omega arith)

-- what stands at an index, with the number beside it
beside : (xs : List Item) (ids : List ℕ) (n : ℕ) (x : Item) (d : ℕ) → length xs ≡ length ids → n < length xs
    → x ≡ get_or xs n x → id_at (givens xs ids) n ≡ id_of (given_of x (get_or ids n d))
unfolding givens id_at
beside [] ids n x d e lt is = absurd (omega arith)
beside (y ∷ xs) [] n x d e lt is = absurd (omega arith)
beside (y ∷ xs) (i ∷ ids) zero x d e lt is = rw is refl
beside (y ∷ xs) (i ∷ ids) (suc n) x d e lt is = beside xs ids n x d (omega arith) (omega arith) is

-- a header has no track_ID
pub beside_header : (xs : List Item) (ids : List ℕ) (n : ℕ) (x : Item) (channel : List Track) → length xs ≡ length ids → n < length xs
    → x ≡ get_or xs n x → x ≡ items.Header channel → None ≡ id_at (givens xs ids) n
beside_header xs ids n x channel e lt is header = sym (beside xs ids n x 0 e lt is ∙ ap (λ (y : Item). id_of (given_of y (get_or ids n 0))) header)

-- a fragment has the one beside it
pub beside_fragment : (xs : List Item) (ids : List ℕ) (n : ℕ) (x : Item) (f : Fragment) (id : ℕ) → length xs ≡ length ids → n < length xs
    → x ≡ get_or xs n x → x ≡ items.Frag f → id ≡ get_or ids n id → Some id ≡ id_at (givens xs ids) n
beside_fragment xs ids n x f id e lt is fragment at =
    ap Some at ∙ sym (beside xs ids n x id e lt is ∙ ap (λ (y : Item). id_of (given_of y (get_or ids n id))) fragment)
