use Rattle.std.proofs.Common.{◌≡◌, ◌≤◌, ℕ, suc, arith, Some, get_or, sym, ap, ◌∙◌}
use Rattle.sm_log.specs.Times.{ends}
use Rattle.sm_timeline.proofs.Apart.{over_behind, over_none}
use Rattle.sm_timeline.proofs.timeline.overlap_at.Goals as goal
use Rattle.sm_timeline.proofs.timeline.overlap_at.Goals.{else-place-times-via-then-place-times+else-times-place, else-place-times-via-else-place-times}

pub returns-then-times-place : goal.returns-then-times-place
returns-then-times-place c =
    let xs = c.args.times.now in
    let front : (j : ℕ) → suc j ≡ c.args.place → ends (get_or xs j (0, 0)) ≤ c.args.time = λ j e. c.in-None.ensures.none j (omega (arith, e)) in
    ap Some c.end_at.ensures ∙ sym (over_behind c.args.time c.args.duration xs c.args.place c.requires.times c.requires.absent c.requires.place front c.if-place-times.true c.if-times-place.true)

pub returns-else-place-times : goal.returns-else-place-times
returns-else-place-times c =
    let xs = c.args.times.now in
    let front : (j : ℕ) → suc j ≡ c.args.place → ends (get_or xs j (0, 0)) ≤ c.args.time = λ j e. c.in-None.ensures.none j (omega (arith, e)) in
    sym (over_none c.args.time c.args.duration xs c.args.place c.requires.times c.requires.place front
    (elim c.else-place-times.branch [ else-place-times-via-then-place-times+else-times-place w ↦ λ h. w.if-times-place.false | else-place-times-via-else-place-times w ↦ λ h. absurd (omega arith) ]))
