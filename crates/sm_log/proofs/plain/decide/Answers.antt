use Rattle.std.proofs.Common.{◌≡◌, ◌+◌, ◌<◌, ◌^◌, sym, ap, arith}
use Rattle.sm_log.specs.declared.verdict.Decision.TheVariants.{Overlap}
use Rattle.sm_log.proofs.PlainLemmas.{over_fits}
use Rattle.sm_log.proofs.plain.decide.Goals as goal

pub returns-in-Some-overlapped : goal.returns-in-Some-overlapped
returns-in-Some-overlapped c = λ times.
    let other = c.in-Some-overlapped.other in
    let fits : other.0 + other.1 < 2 ^ 63 = over_fits c.args.time c.args.duration (other.0 + other.1) c.args.times.now times (sym c.in-Some-overlapped.ensures) in
    let sum : c.saturating_add.result ≡ other.0 + other.1 = omega (arith, c.saturating_add.ensures, fits) in
    rw (sym c.in-None.ensures.duration, sym c.in-Some-overlapped.ensures) (ap Overlap sum)
