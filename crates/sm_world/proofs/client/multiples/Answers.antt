use Rattle.std.proofs.Common.{◌≡◌, ◌<◌, ◌%◌, ◌==◌, ℕ, ◌+◌, List, sym, ap, ◌∙◌, subst, arith}
use Rattle.std.proofs.lemmas.Bool.{ne_eqb, eq-eqb}
use Rattle.sm_site.specs.Faults.{is_listed}
use Rattle.sm_world.proofs.Numbers.{Multiples, multiple_more, multiple_not, no_multiples}
use Rattle.sm_world.proofs.client.multiples.Goals as goal
use Rattle.sm_world.proofs.client.multiples.Goals.{then-number-of-eq0+in_ok-push, else-number-of-eq0}

pub loop-number-init : goal.loop-number-init
loop-number-init c = no_multiples c.args.of c.new-numbers.result.items c.new-numbers.ensures.items

pub loop-number-preserved : goal.loop-number-preserved
loop-number-preserved c =
    let of = c.args.of in
    let k = c.loop-number.number in
    let xs = c.loop-number.numbers.items in
    elim c.if-number-of-eq0.branch [
      | then-number-of-eq0+in_ok-push w ↦
          subst (λ (ys : List ℕ). Multiples of (k + 1) ys) (sym (ap (λ (v : _). v.items) w.numbers-is ∙ w.in_ok-push.ensures.items))
          (multiple_more of k xs (eq-eqb (k % of) 0 w.if-number-of-eq0.true) c.loop-number.invariant)
      | else-number-of-eq0 w ↦
          subst (λ (ys : List ℕ). Multiples of (k + 1) ys) (sym (ap (λ (v : _). v.items) w.numbers-is))
          (multiple_not of k xs (ne_eqb (k % of) 0 w.if-number-of-eq0.false) c.loop-number.invariant)
    ]

pub returns : goal.returns
returns c n some within =
    let below : n < c.loop-number.number = omega arith in
    subst (λ (xs : List ℕ). is_listed n xs ≡ (n % c.args.of == 0)) (sym c.from_vec.ensures) (c.loop-number.invariant.0 n some below)
