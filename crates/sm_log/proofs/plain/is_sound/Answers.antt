use Rattle.std.proofs.Common.{◌≡◌, ◌<◌, ◌^◌, true, false, length, sym, ◌∙◌, arith, add-one}
use Rattle.sm_log.proofs.AllLogs.{empty_sound}
use Rattle.sm_log.proofs.PlainLemmas.{sound_taken, fits_at}
use Rattle.sm_log.proofs.plain.is_sound.Goals as goal

never : {P : Type 0} → false ≡ true → P
never h = absurd cc

pub loop-i-init : goal.loop-i-init
loop-i-init c = empty_sound

pub returns-then-not-branch : goal.returns-then-not-branch
returns-then-not-branch c =
    let can = c.in_ok-fits_behind.ensures c.loop-i.invariant in
    (λ is. never is, λ sound. sym c.if-not-branch.true ∙ can.1 (fits_at c.args.log.now c.loop-i.i c.index-log-i.result c.loop-i-test.true c.index-log-i.is sound))

pub loop-i-preserved : goal.loop-i-preserved
loop-i-preserved c =
    let few : length c.args.log.now < 2 ^ 32 = omega (arith, c.if-log.false) in
    let can = c.in_ok-fits_behind.ensures c.loop-i.invariant in
    rw add-one (sound_taken c.args.log.now c.loop-i.i c.index-log-i.result few c.loop-i-test.true c.index-log-i.is c.loop-i.invariant (can.0 c.if-not-branch.false))
