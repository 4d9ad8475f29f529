use Rattle.std.proofs.Common.{◌≡◌, ◌∙◌, ap, sym, List, ℕ, true, false}
use Rattle.std.specs.Prelude.{codes, nat_eq}
use Rattle.std.specs.Cmp.Lexicographic.{pointwise}
use Rattle.sm_model.specs.Moov.{trex, single}
use Rattle.sm_moov.proofs.GatherLemmas.{joined-kind, joined-other}
use Rattle.sm_moov.proofs.trexes.add_trex.Goals as goal

pub returns-in_ok-add : goal.returns-in_ok-add
returns-in_ok-add c = λ before xs x kind body old.
    let is : pointwise nat_eq x.kind (codes "trex") ≡ true
    = ap (λ (n : List ℕ). pointwise nat_eq n (codes "trex")) kind ∙ sym c.is_same.ensures ∙ c.if-is_same.true in
    joined-kind (λ b. single (trex b)) (codes "trex") before _ _ _ xs x is old
    (ap single c.read_trex.ensures ∙ ap (λ (b : List ℕ). single (trex b)) (sym body)) c.in_ok-add.ensures

pub returns-else-is_same : goal.returns-else-is_same
returns-else-is_same c = λ before xs x kind body old.
    let is : pointwise nat_eq x.kind (codes "trex") ≡ false
    = ap (λ (n : List ℕ). pointwise nat_eq n (codes "trex")) kind ∙ sym c.is_same.ensures ∙ c.if-is_same.false in
    joined-other (λ b. single (trex b)) (codes "trex") before _ xs x is old
