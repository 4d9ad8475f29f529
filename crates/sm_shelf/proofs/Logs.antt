-- What belongs to a log stays of it.
use Rattle.std.proofs.Common.{◌≡◌, ◌⊎◌, inl, inr, Option, List, [], ◌∷◌, ◌++◌, fold, map, All, sym, ap, ◌∙◌, subst, zero, suc, arith}
use Rattle.std.proofs.lemmas.List.{map-append}
use Rattle.std.proofs.lemmas.List.Elements.{All-append}
use Rattle.atomic_table.specs.Seated.{TableId}
use Rattle.sm_model.specs.declared.entry.Entry.{Entry}
use Rattle.sm_log.specs.Logs.{IsSound}
use Rattle.sm_log.specs.Digests.{Digest}
use Rattle.sm_site.specs.Meanings.{Item}
use Rattle.sm_shelf.specs.declared.laid.Laid.{Laid}
use Rattle.sm_shelf.specs.Laying.{Op, laid}
use Rattle.sm_shelf.specs.Shelf.{applied, op_in}
use Rattle.sm_shelf.specs.Past.{Publishing, publishing}
use Rattle.sm_shelf.specs.Shelf.{Desk, Belongs, IsFront, IsOf, shows_next}
use Rattle.sm_shelf.proofs.Grows.{fold_ops}
use Rattle.sm_shelf.proofs.Fronts.{laid_front}

-- what stands in the log keeps the digest that of a front
pub fold_of : (log : List Entry) → IsSound log → (ops : List Op) (d : Digest) → IsFront log d → All (IsOf log) ops → IsFront log (fold laid d ops)
fold_of log sound [] d on all = on
fold_of log sound (op ∷ ops) d on all =
    fold_of log sound ops (laid d op) (laid_front log d op sound on (all 0 op (omega arith))) (λ k a lt. all (suc k) a (omega (arith, lt)))

pub of_one : (log : List Entry) (op : Op) → IsOf log op → All (IsOf log) (op ∷ [])
of_one log op of zero a lt = of
of_one log op of (suc k) a lt = absurd (omega (arith, lt))

-- what was published, or what waits
abbrev pub Published : Desk → Desk → Op → Type 0
Published old new op = (new.published ≡ fold laid old.published (old.pending ++ op ∷ [])) × (new.pending ≡ [])

abbrev pub Waits : Desk → Desk → Op → Type 0
Waits old new op = (new.published ≡ old.published) × ((new.pending ≡ old.pending) ⊎ (new.pending ≡ old.pending ++ op ∷ []))

pub published_of : (log : List Entry) (old new : Desk) (op : Op) → IsSound log → Belongs log old → IsOf log op → Published old new op → Belongs log new
published_of log old new op sound belongs of is = (
  subst (IsFront log) (sym is.0) (fold_of log sound (old.pending ++ op ∷ []) old.published belongs.0 (All-append (IsOf log) old.pending (op ∷ []) belongs.1 (of_one log op of))),
  subst (All (IsOf log)) (sym is.1) (λ k a lt. absurd (omega (arith, lt))),
)

pub waits_of : (log : List Entry) (old new : Desk) (op : Op) → Belongs log old → IsOf log op → Waits old new op → Belongs log new
waits_of log old new op belongs of is = (
  subst (IsFront log) (sym is.0) belongs.0,
  elim is.1 [
    | inl same ↦ subst (All (IsOf log)) (sym same) belongs.1
    | inr more ↦ subst (All (IsOf log)) (sym more) (All-append (IsOf log) old.pending (op ∷ []) belongs.1 (of_one log op of))
  ],
)

-- ---- the operations of the core

pub pushed_ops : (ls ls' : List Laid) (l : Laid) → ls' ≡ ls ++ l ∷ [] → map op_in ls' ≡ map op_in ls ++ op_in l ∷ []
pushed_ops ls ls' l is = ap (map op_in) is ∙ map-append op_in ls (l ∷ [])

pub folded_ops : (ls ls' : List Laid) (l : Laid) (d d' : Digest) → ls' ≡ ls ++ l ∷ [] → d' ≡ fold applied d ls' → d' ≡ fold laid d (map op_in ls ++ op_in l ∷ [])
folded_ops ls ls' l d d' is folded = folded ∙ fold_ops ls' d ∙ ap (fold laid d) (pushed_ops ls ls' l is)

-- ---- what a publishing gives

pub kept_of : (log : List Entry) (old new : Desk) → new.published ≡ old.published → new.pending ≡ old.pending → Belongs log old → Belongs log new
kept_of log old new d p belongs = (subst (IsFront log) (sym d) belongs.0, subst (All (IsOf log)) (sym p) belongs.1)

abbrev pub desk : TableId → Digest → List Op → List Publishing → Desk
desk t d ops past = record { table = t; published = d; pending = ops; past = past }

desk_is : (t : TableId) (d e : Digest) (p q : List Op) (x y : List Publishing) → d ≡ e → p ≡ q → x ≡ y → desk t d p x ≡ desk t e q y
desk_is t d e p q x y a b c = ap (λ (z : Digest). desk t z p x) a ∙ ap (λ (z : List Op). desk t e z x) b ∙ ap (λ (z : List Publishing). desk t e q z) c

-- it was published, and noted
pub laid_ok : (old : Desk) (told : Option (List Item)) (t : TableId) (d0 d d' : Digest) (ls ls' left : List Laid) (past past' : List Publishing) (l : Laid)
    → desk t d0 (map op_in ls) past ≡ old → d ≡ d0 → ls' ≡ ls ++ l ∷ [] → (d' ≡ fold applied d ls') × (left ≡ []) → past' ≡ past ++ publishing told d' ∷ []
    → desk t d' (map op_in left) past' ≡ shows_next old told (fold laid old.published (old.pending ++ op_in l ∷ []))
laid_ok old told t d0 d d' ls ls' left past past' l view at is ok noted =
    let e : d' ≡ fold laid d0 (map op_in ls ++ op_in l ∷ []) =
    folded_ops ls ls' l d d' is ok.0 ∙ ap (λ (e : Digest). fold laid e (map op_in ls ++ op_in l ∷ [])) at in
    subst (λ (o : Desk). desk t d' (map op_in left) past' ≡ shows_next o told (fold laid o.published (o.pending ++ op_in l ∷ []))) view
    (desk_is t d' (fold laid d0 (map op_in ls ++ op_in l ∷ [])) (map op_in left) [] past' (past ++ publishing told (fold laid d0 (map op_in ls ++ op_in l ∷ [])) ∷ [])
    e (ap (map op_in) ok.1) (noted ∙ ap (λ (z : Digest). past ++ publishing told z ∷ []) e))

-- it waits
pub laid_err : (old : Desk) (t : TableId) (d0 d d' : Digest) (ls ls' left : List Laid) (past : List Publishing) (l : Laid) → desk t d0 (map op_in ls) past ≡ old → d ≡ d0
    → ls' ≡ ls ++ l ∷ [] → (d' ≡ d) × (left ≡ ls') → (d' ≡ old.published) × ((map op_in left ≡ old.pending) ⊎ (map op_in left ≡ old.pending ++ op_in l ∷ []))
laid_err old t d0 d d' ls ls' left past l view at is err =
    subst (λ (o : Desk). (d' ≡ o.published) × ((map op_in left ≡ o.pending) ⊎ (map op_in left ≡ o.pending ++ op_in l ∷ []))) view
    (err.0 ∙ at, inr (ap (map op_in) err.1 ∙ pushed_ops ls ls' l is))

pub next_log : (log : List Entry) (old new : Desk) (told : Option (List Item)) (op : Op) → IsSound log → Belongs log old → IsOf log op
    → new ≡ shows_next old told (fold laid old.published (old.pending ++ op ∷ [])) → Belongs log new
next_log log old new told op sound belongs of is = published_of log old new op sound belongs of (ap (λ (o : Desk). o.published) is, ap (λ (o : Desk). o.pending) is)
