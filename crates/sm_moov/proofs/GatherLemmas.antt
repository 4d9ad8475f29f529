-- What bodies say one behind the other, one body more.
use Rattle.std.proofs.Common.{◌≡◌, ℕ, List, [], ◌∷◌, ◌++◌, Option, Some, None, true, false, refl, sym, ap, ◌∙◌, append_assoc, append-nil}
use Rattle.std.specs.Prelude.{nat_eq}
use Rattle.std.specs.Cmp.Lexicographic.{pointwise}
use Rattle.sm_model.specs.Boxes.{Box}
use Rattle.sm_model.specs.Found.{bodies}
use Rattle.sm_model.specs.Moov.{joined, gather}
use Rattle.sm_box.proofs.FoundLemmas.{one_kind, other_kind}

pub joined-assoc : {A : Type 0} (a b c : Option (List A)) → joined a (joined b c) ≡ joined (joined a b) c
joined-assoc None b c = refl
joined-assoc (Some x) None c = refl
joined-assoc (Some x) (Some y) None = refl
joined-assoc (Some x) (Some y) (Some z) = ap Some (sym (append_assoc x y z))

pub joined-nil : {A : Type 0} (a : Option (List A)) → joined a (Some []) ≡ a
joined-nil None = refl
joined-nil (Some x) = ap Some (append-nil x)

pub joined-none : {A : Type 0} (a : Option (List A)) → joined a None ≡ None
joined-none None = refl
joined-none (Some x) = refl

pub nil-joined : {A : Type 0} (a : Option (List A)) → joined (Some []) a ≡ a
nil-joined None = refl
nil-joined (Some x) = refl

pub gather-more : {A : Type 0} (f : List ℕ → Option (List A)) (bs : List (List ℕ)) (b : List ℕ) → gather f (bs ++ b ∷ []) ≡ joined (gather f bs) (f b)
unfolding gather
gather-more f [] b = joined-nil (f b) ∙ sym (nil-joined (f b))
gather-more f (x ∷ bs) b = ap (joined (f x)) (gather-more f bs b) ∙ joined-assoc (f x) (gather f bs) (f b)

-- a box of that type says something more
pub gather-kind : {A : Type 0} (f : List ℕ → Option (List A)) (name : List ℕ) (xs : List Box) (x : Box) → pointwise nat_eq x.kind name ≡ true
    → gather f (bodies name (xs ++ x ∷ [])) ≡ joined (gather f (bodies name xs)) (f x.body)
gather-kind f name xs x e = ap (gather f) (one_kind name xs x e) ∙ gather-more f (bodies name xs) x.body

-- a box of another type says nothing
pub gather-other : {A : Type 0} (f : List ℕ → Option (List A)) (name : List ℕ) (xs : List Box) (x : Box) → pointwise nat_eq x.kind name ≡ false
    → gather f (bodies name (xs ++ x ∷ [])) ≡ gather f (bodies name xs)
gather-other f name xs x e = ap (gather f) (other_kind name xs x e)

-- the same behind what was said before
pub joined-kind : {A : Type 0} (f : List ℕ → Option (List A)) (name : List ℕ) (before old new said : Option (List A)) (xs : List Box) (x : Box)
    → pointwise nat_eq x.kind name ≡ true → old ≡ joined before (gather f (bodies name xs)) → said ≡ f x.body → new ≡ joined old said
    → new ≡ joined before (gather f (bodies name (xs ++ x ∷ [])))
joined-kind f name before old new said xs x e o s n =
    n ∙ ap (joined old) s ∙ ap (λ o. joined o (f x.body)) o ∙ sym (joined-assoc before (gather f (bodies name xs)) (f x.body)) ∙ ap (joined before) (sym (gather-kind f name xs x e))

pub joined-other : {A : Type 0} (f : List ℕ → Option (List A)) (name : List ℕ) (before old : Option (List A)) (xs : List Box) (x : Box)
    → pointwise nat_eq x.kind name ≡ false → old ≡ joined before (gather f (bodies name xs)) → old ≡ joined before (gather f (bodies name (xs ++ x ∷ [])))
joined-other f name before old xs x e o = o ∙ ap (joined before) (sym (gather-other f name xs x e))

-- no bodies say nothing
pub gather-none : {A : Type 0} (f : List ℕ → Option (List A)) (name : List ℕ) → gather f (bodies name []) ≡ Some []
unfolding gather bodies
gather-none f name = refl

pub gathered-kind : {A : Type 0} (f : List ℕ → Option (List A)) (name : List ℕ) (old new said : Option (List A)) (xs : List Box) (x : Box)
    → pointwise nat_eq x.kind name ≡ true → old ≡ gather f (bodies name xs) → said ≡ f x.body → new ≡ joined old said
    → new ≡ gather f (bodies name (xs ++ x ∷ []))
gathered-kind f name old new said xs x e o s n =
    n ∙ ap (joined old) s ∙ ap (λ o. joined o (f x.body)) o ∙ sym (gather-kind f name xs x e)

pub gathered-other : {A : Type 0} (f : List ℕ → Option (List A)) (name : List ℕ) (old : Option (List A)) (xs : List Box) (x : Box)
    → pointwise nat_eq x.kind name ≡ false → old ≡ gather f (bodies name xs) → old ≡ gather f (bodies name (xs ++ x ∷ []))
gathered-other f name old xs x e o = o ∙ sym (gather-other f name xs x e)
