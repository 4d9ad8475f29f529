use Rattle.std.proofs.Common.{rules, arith, ◌≡◌, length, take}
use Rattle.std.proofs.lemmas.Result.{IfErr-weaker}
use Rattle.std.proofs.lemmas.Grind.{common_steps}
use Rattle.sm_ends.proofs.Known.{Consumes-front}
use Rattle.sm_ends.proofs.Unread.{unread_behind}
use Rattle.sm_ends.proofs.input.read_input.Goals as goal

pub returns-clause-why : goal.returns-clause-why
returns-clause-why g c =
    let full : length (take c.loop-filled.filled c.loop-filled.room.items) ≡ c.args.limit = grind (arith, common_steps) in
    IfErr-weaker c.end_at_limit.result _ _ (λ fault. unread_behind c.args.limit _ _ _ _ fault full c.loop-filled.invariant.2 c.loop-filled.invariant.3) c.end_at_limit.ensures.why

pub loop-filled-preserved : goal.loop-filled-preserved
loop-filled-preserved g c = (
  search rules,
  search rules,
  Consumes-front _ _ _ _ _ _ _ _ c.make_room.ensures.kept c.read_behind.ensures.kept c.loop-filled.invariant.2 c.in_ok-count.ensures.bytes.0,
  search rules,
)
