use Rattle.std.proofs.Common.{◌≡◌, ℕ, List, [], ◌∷◌, ◌++◌, if◌then◌else◌, ap, arith, sym, ◌∙◌, subst, append_assoc}
use Rattle.std.specs.Prelude.{OnOk}
use Rattle.sm_world.specs.Deeds.{before_a, body_of_a, chance_by, of_b, round_of}
use Rattle.sm_world.specs.Deeds.Deed.{Pushes}
use Rattle.sm_world.specs.Rounds.{drawn, is_crash, is_refused, stirred}
use Rattle.sm_world.specs.Stages.{HasPushed}
use Rattle.sm_world.specs.declared.kind.Kind.{Kind}
use Rattle.sm_world.proofs.Staging.{on_ok, pushed_as, pushed_then}
use Rattle.sm_world.proofs.stage.Stage.round.Goals as goal

pub push_of_b-requires-clause-of_a : goal.push_of_b-requires-clause-of_a
push_of_b-requires-clause-of_a c =
    let kept : c.push_taken.new.self.header ≡ c.args.self.now.header = c.in_ok-push_taken.ensures.header ∙ c.in_ok-begin.ensures.pushed.header in
    c.as_slice-body.ensures.value ∙ c.in_ok-pushed.ensures ∙ ap (λ (h : List ℕ). body_of_a h c.args.i) (c.as_slice.ensures ∙ sym kept)

pub returns-clause-pushed : goal.returns-clause-pushed
returns-clause-pushed c =
    let a = c.args.self.now in
    let i = c.args.i in
    let kind = c.draw_kind-kind.result in
    let body = c.as_slice-body.result.now in
    let x = c.draw_kind-kind.new.draws.state in
    let chance = drawn (stirred x) in
    let b = c.begin.new.self in
    let d = c.push_taken.new.self in
    let kept : d.header ≡ a.header = c.in_ok-push_taken.ensures.header ∙ c.in_ok-begin.ensures.pushed.header in
    let taken = pushed_then a b d (before_a kind body chance) (Pushes 3 body ∷ []) _ _ _ _ _ _ c.in_ok-begin.ensures.pushed c.in_ok-push_taken.ensures in
    let same : body ≡ body_of_a a.header i = c.as_slice-body.ensures.value ∙ c.in_ok-pushed.ensures ∙ ap (λ (h : List ℕ). body_of_a h i) c.as_slice.ensures in
    let deeds : (before_a kind body chance ++ Pushes 3 body ∷ []) ++ of_b kind d.header i ≡ round_of kind a.header i chance =
    append_assoc (before_a kind body chance) (Pushes 3 body ∷ []) (of_b kind d.header i)
    ∙ ap (λ (h : List ℕ). before_a kind body chance ++ Pushes 3 body ∷ of_b kind h i) kept
    ∙ ap (λ (l : List ℕ). before_a kind l chance ++ Pushes 3 l ∷ of_b kind a.header i) same
    in
    let drew : chance ≡ chance_by c.args.draws.now.state = ap (λ (n : ℕ). drawn (stirred n)) c.draw_kind-kind.ensures.state in
    subst (λ (k : Kind). OnOk c.push_of_b.result (HasPushed a c.push_of_b.new.self (round_of k a.header i (chance_by c.args.draws.now.state)) (if is_crash k then 1 else 0) (if is_refused k then 1 else 0) 9))
    c.draw_kind-kind.ensures.kind
    (on_ok c.push_of_b.result _ _
    (λ last. pushed_as a c.push_of_b.new.self _ (round_of kind a.header i (chance_by c.args.draws.now.state)) _ (if is_crash kind then 1 else 0) _ (if is_refused kind then 1 else 0) _ 9
    (deeds ∙ ap (round_of kind a.header i) drew) (omega arith) (omega arith) (omega arith)
    (pushed_then a d c.push_of_b.new.self (before_a kind body chance ++ Pushes 3 body ∷ []) (of_b kind d.header i) _ _ _ _ _ _ taken last))
    c.push_of_b.ensures)
