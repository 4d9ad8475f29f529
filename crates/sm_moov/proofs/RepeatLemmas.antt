-- Numbers that stand twice, one number more.
use Rattle.std.proofs.Common.{◌≡◌, ℕ, ⊎_elim, Bool, true, false, not, eqb, ◌||◌, List, [], ◌∷◌, ◌++◌, refl, sym, ap, ◌∙◌}
use Rattle.std.specs.Prelude.{nat_eq}
use Rattle.std.specs.List.{list_any}
use Rattle.std.proofs.lemmas.Bool.{eq-eqb, ne_eqb, cases_eq}
use Rattle.std.proofs.lemmas.List.Folds.{list_any-append}
use Rattle.sm_model.specs.Moov.{repeats}

same_back : (m n : ℕ) → eqb m n ≡ eqb n m
same_back m n =
    ⊎_elim (λ e. eq-eqb m n e ∙ sym (eq-eqb n m (sym e))) (λ ne. ne_eqb m n ne ∙ sym (ne_eqb n m (λ e. ne (sym e)))) (cases_eq m n)

not_not : (b : Bool) → not (not b) ≡ b
not_not true = refl
not_not false = refl

moved : (a e r b : Bool) → (a || (e || false)) || (r || b) ≡ (a || r) || (e || b)
moved true e r b = refl
moved false true true b = refl
moved false true false b = refl
moved false false r b = refl

pub repeats-more : (ns : List ℕ) (n : ℕ) → repeats (ns ++ n ∷ []) ≡ repeats ns || list_any (nat_eq n) ns
unfolding repeats
repeats-more [] n = refl
repeats-more (x ∷ ns) n =
    let any : list_any (nat_eq x) (ns ++ n ∷ []) ≡ (list_any (nat_eq x) ns || (nat_eq n x || false))
    = list_any-append (nat_eq x) ns (n ∷ []) ∙ ap (λ (b : Bool). list_any (nat_eq x) ns || (b || false)) (same_back x n) in
    ap (λ (b : Bool). b || repeats (ns ++ n ∷ [])) any
    ∙ ap (λ (b : Bool). (list_any (nat_eq x) ns || (nat_eq n x || false)) || b) (repeats-more ns n)
    ∙ moved (list_any (nat_eq x) ns) (nat_eq n x) (repeats ns) (list_any (nat_eq n) ns)

-- a test for what is new among the numbers so far
pub twice-more : (ns ms : List ℕ) (n : ℕ) (twice new known : Bool) → ms ≡ ns ++ n ∷ [] → twice ≡ repeats ns → new ≡ not known
    → known ≡ list_any (nat_eq n) ns → twice || not new ≡ repeats ms
twice-more ns ms n twice new known m t a k =
    ap (λ (b : Bool). twice || not b) a ∙ ap (λ (b : Bool). twice || b) (not_not known ∙ k)
    ∙ ap (λ (b : Bool). b || list_any (nat_eq n) ns) t ∙ sym (repeats-more ns n) ∙ ap repeats (sym m)
