use Rattle.std.proofs.Common.{◌≡◌, ◌+◌, ◌-◌, ◌++◌, ℕ, List, length, take, drop, subst, sym, ap, refl, ◌∙◌, arith}
use Rattle.std.proofs.lemmas.List.{append-nil, append_assoc, take_rest, length-drop, length-take, length-append, take_all}
use Rattle.std.proofs.Math.Seq.{take-add}
use Rattle.sm_pick.specs.Search.{Looks}
use Rattle.sm_pick.proofs.search.Search.take.Goals as goal

pub loop-done-init : goal.loop-done-init
loop-done-init c = record {
  inside = omega arith;
  looks = λ b h. subst (λ (xs : List ℕ). Looks c.args.self.now xs) (sym (append-nil b)) h;
  track = refl;
  time = refl;
}

pub due-requires : goal.due-requires
due-requires c = (c.requires.0 ++ take c.loop-done.done c.args.piece.now, c.loop-done.invariant.looks c.requires.0 c.requires.1)

pub take_part-requires-clause-looks : goal.take_part-requires-clause-looks
take_part-requires-clause-looks c = (
  c.requires.0 ++ take c.loop-done.done c.args.piece.now,
  c.loop-done.invariant.looks c.requires.0 c.requires.1,
  omega (
    arith,
    c.requires.2,
    c.loop-done.invariant.inside,
    length-append c.requires.0 (take c.loop-done.done c.args.piece.now),
    length-take c.loop-done.done c.args.piece.now,
    ap length
        (take_rest c.args.piece.now c.loop-done.done),
    length-drop c.loop-done.done c.args.piece.now,
    length-take c.min-count.result
        (take (length c.args.piece.now - c.loop-done.done) (drop c.loop-done.done c.args.piece.now)),
  ),
)

pub loop-done-preserved : goal.loop-done-preserved
loop-done-preserved c = record {
  inside = omega (arith, c.loop-done.invariant.inside, c.min-count.ensures, ap length (take_rest c.args.piece.now c.loop-done.done), length-drop c.loop-done.done c.args.piece.now);
  looks = λ b h.
      let more : take (c.loop-done.done + c.min-count.result) c.args.piece.now ≡ take c.loop-done.done c.args.piece.now ++ take c.min-count.result (drop c.loop-done.done c.args.piece.now) = take-add
      c.loop-done.done c.min-count.result c.args.piece.now in
      let now = c.in_ok-take_part.ensures.looks (b ++ take c.loop-done.done c.args.piece.now) (c.loop-done.invariant.looks b h) in
      let here : Looks c.take_part.new.self ((b ++ take c.loop-done.done c.args.piece.now) ++ take c.min-count.result (drop c.loop-done.done c.args.piece.now)) = rw
      (take_rest c.args.piece.now c.loop-done.done) at now in
      subst (λ (xs : List ℕ). Looks c.take_part.new.self xs) (append_assoc b (take c.loop-done.done c.args.piece.now) _ ∙ ap (λ (xs : List ℕ). b ++ xs) (sym more)) here;
  track = c.in_ok-take_part.ensures.asked.0 ∙ c.loop-done.invariant.track;
  time = c.in_ok-take_part.ensures.asked.1 ∙ c.loop-done.invariant.time;
}

pub returns-clause-looks : goal.returns-clause-looks
returns-clause-looks c b h =
    subst (λ (xs : List ℕ). Looks c.loop-done.self (b ++ xs)) (take_all c.loop-done.done c.args.piece.now (omega arith)) (c.loop-done.invariant.looks b h)
