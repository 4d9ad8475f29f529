use Rattle.std.proofs.lemmas.Bool.Decides.{nat_tests}
use Rattle.std.proofs.Common.{arith, ◌≡◌, ◌<◌, subst, sym, ◌∙◌, ap, take}
use Rattle.sm_body.proofs.Runs.{counted_gives, data_gives, counted_taken, data_taken}
use Rattle.sm_body.specs.Places.{place_after, is_data, IsOpen, body_from, data_left}
use Rattle.sm_body.specs.declared.place.Place.{Place}
use Rattle.sm_body.specs.declared.place.Place.TheVariants.{Counted, Data}
use Rattle.sm_body.proofs.framer.Framer.step.Goals as goal
use Rattle.sm_body.proofs.framer.Framer.step.Goals.{then-count-left, else-count-left, then-count-left-2, else-count-left-2}

pub returns-after-count-left : goal.returns-after-count-left
returns-after-count-left c =
    let at : c.args.self.now.place ≡ Counted c.in-Counted.left = c.in-Counted.is in
    let known : data_left c.args.self.now.place ≡ c.in-Counted.left = ap data_left at in
    let some : 0 < c.in-Counted.left = let h = subst IsOpen at c.args.self.now.live in grind (arith, nat_tests) in
    let n = c.min-count.result in
    let runs = counted_gives c.in-Counted.left n c.args.bytes.now some (omega arith) (omega arith) (λ h. omega arith) in
    let from = ap (λ (p : Place). place_after p (take n c.args.bytes.now)) at in
    let taken = ap (λ (p : Place). body_from p (take n c.args.bytes.now)) at ∙ counted_taken c.in-Counted.left n c.args.bytes.now (omega arith) in
    elim c.if-count-left.branch [
      | then-count-left w ↦ (ap is_data at, omega arith, omega arith, w.self-is ∙ sym (from ∙ runs.0 w.if-count-left.true), taken, (λ h. absurd (cc (w.self-is, h))))
      | else-count-left w ↦ (ap is_data at, omega arith, omega arith, w.self-is ∙ sym (from ∙ runs.1 (omega arith)), taken, (λ h. absurd (cc (w.self-is, h))))
    ]

pub returns-after-count-left-2 : goal.returns-after-count-left-2
returns-after-count-left-2 c =
    let at : c.args.self.now.place ≡ Data c.in-Data.left = c.in-Data.is in
    let known : data_left c.args.self.now.place ≡ c.in-Data.left = ap data_left at in
    let some : 0 < c.in-Data.left = let h = subst IsOpen at c.args.self.now.live in grind (arith, nat_tests) in
    let n = c.min-count-in-Data.result in
    let runs = data_gives c.in-Data.left n c.args.bytes.now some (omega arith) (omega arith) (λ h. omega arith) in
    let from = ap (λ (p : Place). place_after p (take n c.args.bytes.now)) at in
    let taken = ap (λ (p : Place). body_from p (take n c.args.bytes.now)) at ∙ data_taken c.in-Data.left n c.args.bytes.now (omega arith) in
    elim c.if-count-left-2.branch [
      | then-count-left-2 w ↦ (ap is_data at, omega arith, omega arith, w.self-is ∙ sym (from ∙ runs.0 w.if-count-left-2.true), taken, (λ h. absurd (cc (w.self-is, h))))
      | else-count-left-2 w ↦ (ap is_data at, omega arith, omega arith, w.self-is ∙ sym (from ∙ runs.1 (omega arith)), taken, (λ h. absurd (cc (w.self-is, h))))
    ]
