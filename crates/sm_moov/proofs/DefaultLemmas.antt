-- The defaults of a track, from a place of the trexes on.
use Rattle.std.proofs.Common.{◌≡◌, ◌<◌, ◌≤◌, ◌-◌, Option, Some, ℕ, suc, Bool, true, false, cond, eqb, List, length, drop, get_or, sym, ap, ◌∙◌, drop-cons, arith}
use Rattle.std.proofs.lemmas.List.{drop_all}
use Rattle.std.specs.Prelude.{unwrap_or}
use Rattle.std.specs.Ordering.{eq_by_cmp, nat_cmp}
use Rattle.std.specs.Cmp.{unsigned_tied}
use Rattle.sm_model.specs.declared.run.Defaults.{Defaults}
use Rattle.sm_model.specs.Moov.{no_defaults, defaults_for}

pub behind_all : (ts : List (ℕ × Defaults)) (n id : ℕ) → length ts ≤ n → defaults_for (drop n ts) id ≡ no_defaults
unfolding defaults_for
behind_all ts n id le = ap (λ (xs : List (ℕ × Defaults)). defaults_for xs id) (drop_all n ts le)

pub one_before : (ts : List (ℕ × Defaults)) (i id : ℕ) (d : ℕ × Defaults) → i < length ts
    → defaults_for (drop i ts) id ≡ cond (eqb (get_or ts i d).0 id) (get_or ts i d).1 (defaults_for (drop (suc i) ts) id)
unfolding defaults_for
one_before ts i id d lt = ap (λ (xs : List (ℕ × Defaults)). defaults_for xs id) (drop-cons ts i d lt)

chosen : (b : Bool) (v d : Defaults) (new old : Option Defaults) → new ≡ cond b (Some v) old → unwrap_or new d ≡ cond b v (unwrap_or old d)
chosen true v d new old e = ap (λ (o : Option Defaults). unwrap_or o d) e
chosen false v d new old e = ap (λ (o : Option Defaults). unwrap_or o d) e

-- a look-up that finds what the trexes behind say, after the one before them was put in
pub put_before : (ts : List (ℕ × Defaults)) (n id : ℕ) (d : ℕ × Defaults) (new old : Option Defaults) → 0 < n → n ≤ length ts
    → new ≡ cond (eq_by_cmp nat_cmp (get_or ts (n - 1) d).0 id) (Some (get_or ts (n - 1) d).1) old
    → unwrap_or old no_defaults ≡ defaults_for (drop n ts) id → unwrap_or new no_defaults ≡ defaults_for (drop (n - 1) ts) id
put_before ts n id d new old some within is behind =
    let t : ℕ × Defaults = get_or ts (n - 1) d in
    let next : suc (n - 1) ≡ n = omega arith in
    chosen (eq_by_cmp nat_cmp t.0 id) t.1 no_defaults new old is
    ∙ ap (λ (b : Bool). cond b t.1 (unwrap_or old no_defaults)) (unsigned_tied t.0 id)
    ∙ ap (λ (o : Defaults). cond (eqb t.0 id) t.1 o) (behind ∙ ap (λ (k : ℕ). defaults_for (drop k ts) id) (sym next))
    ∙ sym (one_before ts (n - 1) id d (omega arith))
