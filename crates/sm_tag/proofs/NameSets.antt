-- The names of attributes as an ordered set.
use Rattle.std.proofs.Common.{◌≡◌, ℕ, Bool, true, false, ◌||◌, not, List, [], ◌∷◌, ◌++◌, refl, sym, ap, ◌∙◌}
use Rattle.std.specs.Prelude.{nat_eq}
use Rattle.std.proofs.lemmas.Slice.Eq.{bytes_eq-Decides}
use Rattle.std.specs.List.{list_any}
use Rattle.std.specs.Ordering.{is_eq, nat_cmp, match_ordering}
use Rattle.std.specs.declared.cmp.Ordering.{Ordering}
use Rattle.std.specs.declared.cmp.Ordering.TheVariants.{Less, Equal, Greater}
use Rattle.std.specs.Cmp.Lexicographic.{slice_cmp, pointwise}
use Rattle.std.specs.BTreeSet.{BTreeSet, insert_key, contains}
use Rattle.std.proofs.lemmas.Map.Text.{is_eq-slice_cmp}
use denote.Ref.{Bor}
use Rattle.sm_model.specs.declared.tag.Attribute.{Attribute}
use Rattle.sm_tag.specs.TagParts.{has_name}

-- whether a name of the set is this one
abbrev pub in_set : List ℕ → List (Bor (List ℕ)) → Bool
in_set q keys = list_any (λ k. is_eq (slice_cmp nat_cmp q k.now)) keys

-- the set has the names of these attributes
abbrev pub Knows : List (Bor (List ℕ)) → List Attribute → Type 0
Knows keys seen = (q : List ℕ) → in_set q keys ≡ has_name q seen

-- the query compares equal to a key, or to one behind it
later : (o : Ordering) (q : List ℕ) (x key : Bor (List ℕ)) (xs more : List (Bor (List ℕ))) → slice_cmp nat_cmp key.now x.now ≡ o
    → in_set q more ≡ (in_set q xs || is_eq (slice_cmp nat_cmp q key.now))
    → in_set q (match_ordering o (key ∷ x ∷ xs) (x ∷ xs) (x ∷ more)) ≡ (in_set q (x ∷ xs) || is_eq (slice_cmp nat_cmp q key.now))
later Less q x key xs more is h = first (is_eq (slice_cmp nat_cmp q key.now)) (in_set q (x ∷ xs))
  where
    first : (a b : Bool) → (a || b) ≡ (b || a)
    first true true = refl
    first true false = refl
    first false true = refl
    first false false = refl
later Equal q x key xs more is h =
    let same : key.now ≡ x.now = (bytes_eq-Decides key.now x.now).0 (sym (is_eq-slice_cmp key.now x.now) ∙ ap is_eq is) in
    rw same (again (is_eq (slice_cmp nat_cmp q x.now)) (in_set q xs))
  where
    again : (a b : Bool) → (a || b) ≡ ((a || b) || a)
    again true b = refl
    again false true = refl
    again false false = refl
later Greater q x key xs more is h = rw h (behind (is_eq (slice_cmp nat_cmp q x.now)) (in_set q xs) (is_eq (slice_cmp nat_cmp q key.now)))
  where
    behind : (a b c : Bool) → (a || (b || c)) ≡ ((a || b) || c)
    behind true b c = refl
    behind false b c = refl

-- a name that was put into the set
set_push : (q : List ℕ) (keys : List (Bor (List ℕ))) (key : Bor (List ℕ)) → in_set q (insert_key (λ x y. slice_cmp nat_cmp x.now y.now) keys key) ≡ (in_set q keys || is_eq (slice_cmp nat_cmp q key.now))
set_push q [] key = alone (is_eq (slice_cmp nat_cmp q key.now))
  where
    alone : (a : Bool) → (a || false) ≡ (false || a)
    alone true = refl
    alone false = refl
set_push q (x ∷ xs) key = later (slice_cmp nat_cmp key.now x.now) q x key xs _ refl (set_push q xs key)

-- an attribute more
has_name_push : (q : List ℕ) (seen : List Attribute) (a : Attribute) → has_name q (seen ++ a ∷ []) ≡ (has_name q seen || pointwise nat_eq q a.name)
has_name_push q [] a = alone (pointwise nat_eq q a.name)
  where
    alone : (b : Bool) → (b || false) ≡ (false || b)
    alone true = refl
    alone false = refl
has_name_push q (s ∷ seen) a = rw (has_name_push q seen a) (behind (pointwise nat_eq q s.name) (has_name q seen) (pointwise nat_eq q a.name))
  where
    behind : (a b c : Bool) → (a || (b || c)) ≡ ((a || b) || c)
    behind true b c = refl
    behind false b c = refl

pub knows_more : (keys more : List (Bor (List ℕ))) (seen : List Attribute) (a : Attribute) (key : Bor (List ℕ)) → Knows keys seen
    → more ≡ insert_key (λ x y. slice_cmp nat_cmp x.now y.now) keys key → a.name ≡ key.now → Knows more (seen ++ a ∷ [])
knows_more keys more seen a key before is name q =
    rw (is, has_name_push q seen a, name) (set_push q keys key ∙ rw (before q, is_eq-slice_cmp q key.now) refl)

was_in : (b fresh : Bool) → fresh ≡ not b → fresh ≡ false → b ≡ true
was_in true fresh is stays = refl
was_in false fresh is stays = cc

was_out : (b fresh : Bool) → fresh ≡ not b → fresh ≡ true → b ≡ false
was_out true fresh is goes = cc
was_out false fresh is goes = refl

abbrev by_bytes : Bor (List ℕ) → Bor (List ℕ) → Ordering
by_bytes x y = slice_cmp nat_cmp x.now y.now

-- a name that is in the set was seen
pub seen_before : (s : BTreeSet (Bor (List ℕ))) (key : Bor (List ℕ)) (seen : List Attribute) (fresh : Bool) → Knows s.keys seen → fresh ≡ not (contains by_bytes s key) → fresh ≡ false → has_name key.now seen ≡ true
seen_before s key seen fresh known is stays = sym (known key.now) ∙ was_in (contains by_bytes s key) fresh is stays

-- and one that isn't, wasn't
pub seen_first : (s : BTreeSet (Bor (List ℕ))) (key : Bor (List ℕ)) (seen : List Attribute) (fresh : Bool) → Knows s.keys seen → fresh ≡ not (contains by_bytes s key) → fresh ≡ true → has_name key.now seen ≡ false
seen_first s key seen fresh known is goes = sym (known key.now) ∙ was_out (contains by_bytes s key) fresh is goes
