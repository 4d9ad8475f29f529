use Rattle.std.proofs.Common.{◌≡◌, ◌++◌, take, drop, ap, ◌∙◌, sym, arith, List, ℕ, refl}
use Rattle.std.proofs.lemmas.Result.{err_from_is_err_and}
use Rattle.sm_push.specs.Body.{walk}
use Rattle.sm_push.proofs.Steps.{skip_advances, fault_advances, held_more}
use Rattle.sm_push.proofs.kept.Kept.advance.Goals as goal

pub returns-then-self-gt0-clause-advances : goal.returns-then-self-gt0-clause-advances
returns-then-self-gt0-clause-advances c more = skip_advances c.args.self.now c.min-count.result c.args.piece.now more (omega arith) c.requires.partial (omega arith) (omega arith)

pub returns-in_err-item-clause-advances : goal.returns-in_err-item-clause-advances
returns-in_err-item-clause-advances c =
    let p = err_from_is_err_and c.from_residual-in_err-item.result c.from_residual-in_err-item.ensures.1 in
    let held : c.extend.new.self ≡ c.args.self.now.held ++ take c.wanted-count.result c.args.piece.now = grind (arith, c.in_ok-extend.ensures) in
    rw (p.1, p.2) (fault_advances c.args.self.now (record { state = c.args.self.now.state; held = c.extend.new.self; skip = c.args.self.now.skip }) c.settle.new.self c.wanted-count.result
    c.args.piece.now c.in_err-item.field-0.0 refl refl held c.in_err-item.ensures.settles)

pub returns-clause-advances : goal.returns-clause-advances
returns-clause-advances c more =
    let held : c.extend.new.self ≡ c.args.self.now.held ++ take c.wanted-count.result c.args.piece.now = grind (arith, c.in_ok-extend.ensures) in
    ap (λ (xs : List ℕ). walk c.args.self.now.state c.args.self.now.skip xs) (held_more c.args.self.now.held c.wanted-count.result c.args.piece.now more ∙ ap
    (λ (xs : List ℕ). xs ++ (drop c.wanted-count.result c.args.piece.now ++ more)) (sym held))
    ∙ c.in_ok-item.ensures.settles (drop c.wanted-count.result c.args.piece.now ++ more)
