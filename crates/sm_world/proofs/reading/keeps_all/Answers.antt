use Rattle.std.proofs.Common.{◌≡◌, ◌<◌, ℕ, None, length, sym, ◌∙◌, arith}
use Rattle.sm_world.specs.Encoders.{entries_after, KeepsRound}
use Rattle.sm_world.proofs.Logs.{is_log_of}
use Rattle.sm_world.proofs.reading.keeps_all.Goals as goal

pub returns-clause-kept : goal.returns-clause-kept
returns-clause-kept g c same log holds =
    let rounds = c.args.rounds in
    let some : 0 < rounds = omega (arith, c.if-rounds-eq0.false) in
    let counted = c.len.ensures holds.bodies holds.body log None holds.keeps in
    let wanted = c.entries_after.ensures in
    let len : length log ≡ entries_after rounds = sym counted ∙ omega (arith, c.if-len-entries_after.false) ∙ wanted in
    let all : (j : ℕ) → j < rounds → KeepsRound log j = λ j below.
    c.loop-i.invariant.kept log holds j (let end = c.loop-i-test.false in omega (arith, below, end)) in
    is_log_of log rounds some len (c.in_ok-has_channel.ensures c.if-not-branch.false holds.bodies holds.body log None holds.keeps) all
