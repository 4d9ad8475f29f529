use Rattle.std.proofs.Common.{◌≡◌, ℕ, suc, ◌+◌, ◌-◌, ◌*◌, ◌<◌, List, [], ◌∷◌, ◌++◌, ap, sym, ◌∙◌, append_assoc, arith}
use Rattle.sm_manout.specs.Shown.{run_starts}
use Rattle.sm_manout.proofs.plain.run_starts.Goals as goal

starts_step : (count i s d : ℕ) → i < count → run_starts (count - i) (s + i * d) d ≡ (s + i * d) ∷ run_starts (count - (i + 1)) (s + (i + 1) * d) d
starts_step count i s d lt =
    let less : count - i ≡ suc (count - (i + 1)) = omega arith in
    let next : s + i * d + d ≡ s + (i + 1) * d = omega arith in
    ap (λ (n : ℕ). run_starts n (s + i * d) d) less ∙ ap (λ (t : ℕ). (s + i * d) ∷ run_starts (count - (i + 1)) t d) next

pub loop-i-preserved : goal.loop-i-preserved
loop-i-preserved c =
    let i = c.loop-i.i in
    let start = c.args.start + i * c.args.duration in
    let rest = run_starts (c.args.count - (i + 1)) (c.args.start + (i + 1) * c.args.duration) c.args.duration in
    ap (λ (l : List ℕ). l ++ rest) c.in_ok-push.ensures.items ∙ append_assoc c.loop-i.starts.items (start ∷ []) rest
    ∙ ap (λ (l : List ℕ). c.loop-i.starts.items ++ l) (sym (starts_step c.args.count i c.args.start c.args.duration c.loop-i-test.true)) ∙ c.loop-i.invariant
