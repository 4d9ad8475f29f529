use Rattle.std.proofs.Common.{◌≡◌, ◌∙◌, ap, sym, List, ℕ, true, false}
use Rattle.std.specs.Prelude.{codes, nat_eq}
use Rattle.std.specs.Cmp.Lexicographic.{pointwise}
use Rattle.sm_model.specs.Moov.{trak, single}
use Rattle.sm_moov.proofs.GatherLemmas.{gathered-kind, gathered-other}
use Rattle.sm_moov.proofs.heads.add_child.Goals as goal

pub returns-in_ok-add : goal.returns-in_ok-add
returns-in_ok-add c = λ xs x kind body old.
    let is : pointwise nat_eq x.kind (codes "trak") ≡ true
    = ap (λ (n : List ℕ). pointwise nat_eq n (codes "trak")) kind ∙ sym c.is_same.ensures ∙ c.if-is_same.true in
    gathered-kind (λ b. single (trak b)) (codes "trak") _ _ _ xs x is old
    (ap single c.read_trak.ensures ∙ ap (λ (b : List ℕ). single (trak b)) (sym body)) c.in_ok-add.ensures

pub returns-else-is_same : goal.returns-else-is_same
returns-else-is_same c = λ xs x kind body old.
    let is : pointwise nat_eq x.kind (codes "trak") ≡ false
    = ap (λ (n : List ℕ). pointwise nat_eq n (codes "trak")) kind ∙ sym c.is_same.ensures ∙ c.if-is_same.false in
    gathered-other (λ b. single (trak b)) (codes "trak") _ xs x is old
