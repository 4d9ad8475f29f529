use Rattle.std.proofs.Common.{◌≡◌, ◌∙◌, ap, sym, List, ℕ, true, false}
use Rattle.std.specs.Prelude.{codes, nat_eq}
use Rattle.std.specs.Cmp.Lexicographic.{pointwise}
use Rattle.sm_model.specs.Moov.{mvex}
use Rattle.sm_moov.proofs.GatherLemmas.{gathered-kind, gathered-other}
use Rattle.sm_moov.proofs.trexes.add_child.Goals as goal

pub returns-in_ok-add_mvex : goal.returns-in_ok-add_mvex
returns-in_ok-add_mvex c = λ xs x kind body old.
    let is : pointwise nat_eq x.kind (codes "mvex") ≡ true
    = ap (λ (n : List ℕ). pointwise nat_eq n (codes "mvex")) kind ∙ sym c.is_same.ensures ∙ c.if-is_same.true in
    gathered-kind mvex (codes "mvex") _ _ (mvex c.args.body.now) xs x is old (ap mvex (sym body)) c.in_ok-add_mvex.ensures

pub returns-else-is_same : goal.returns-else-is_same
returns-else-is_same c = λ xs x kind body old.
    let is : pointwise nat_eq x.kind (codes "mvex") ≡ false
    = ap (λ (n : List ℕ). pointwise nat_eq n (codes "mvex")) kind ∙ sym c.is_same.ensures ∙ c.if-is_same.false in
    gathered-other mvex (codes "mvex") _ xs x is old
