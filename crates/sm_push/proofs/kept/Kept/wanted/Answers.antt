use Rattle.std.proofs.Common.{◌≡◌, ◌≤◌, ◌+◌, ◌⊎◌, ℕ, length, ap, ◌∙◌, sym, subst, arith}
use Rattle.sm_push.specs.declared.state.BoxDecision.TheVariants.{Take}
use Rattle.sm_push.specs.PushHeads.{decision}
use Rattle.sm_push.specs.Heads.{IsOpen}
use Rattle.sm_push.specs.Standing.{StaysInside}
use Rattle.sm_push.specs.Held.{lacking}
use Rattle.sm_push.proofs.Limits.{nothing_lacks}
use Rattle.sm_push.proofs.Steps.{wanted_head, wanted_rest}
use Rattle.sm_push.proofs.kept.Kept.wanted.Goals as goal
use Rattle.sm_push.proofs.kept.Kept.wanted.Goals.{in-Take, in_default}

pub returns-clause-fits : goal.returns-clause-fits
returns-clause-fits c = elim c.match-decide.branch [
  | in-Take w ↦
      let e : decision c.args.self.now.state c.args.self.now.held ≡ Take w.in-Take.field-0 w.in-Take.size = cc in
      let due : IsOpen (length c.args.self.now.held) (Take w.in-Take.field-0 w.in-Take.size) = rw e at c.requires.partial.due in
      subst (λ (n : ℕ). StaysInside c.args.self.now n) (sym w.result-is) (wanted_rest c.args.self.now w.in-Take.field-0 w.in-Take.size w.min.result e (omega (arith, due)))
  | in_default w ↦
      subst (λ (n : ℕ). StaysInside c.args.self.now n) (sym w.result-is) (wanted_head c.args.self.now w.head_wanted.result
      (subst (λ (h : ℕ). (w.head_wanted.result ≤ 1) ⊎ (h + w.head_wanted.result ≤ 8)) w.len-in_default.ensures w.head_wanted.ensures.head) c.requires.partial
      (λ sort size e. w.in_default.not-Take sort size (c.decide.ensures ∙ ap (decision c.args.self.now.state) c.as_slice.ensures ∙ e)))
]

pub returns-clause-least : goal.returns-clause-least
returns-clause-least c = elim c.match-decide.branch [
  | in-Take w ↦
      let e : decision c.args.self.now.state c.args.self.now.held ≡ Take w.in-Take.field-0 w.in-Take.size = cc in
      rw e (omega arith)
  | in_default w ↦
      let none : lacking (length c.args.self.now.held) (decision c.args.self.now.state c.args.self.now.held) ≡ 0 =
      nothing_lacks _ _ (λ sort size e. w.in_default.not-Take sort size (c.decide.ensures ∙ ap (decision c.args.self.now.state) c.as_slice.ensures ∙ e)) in
      omega arith
]
