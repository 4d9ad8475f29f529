use Rattle.std.proofs.Common.{IsSome}
use Rattle.sm_site.specs.Memory.{site_view, site_may_leave}
use Rattle.sm_origin.specs.Machine.{Machine}
use Rattle.sm_origin.specs.Acting.{StandsFor}
use Rattle.smooth_bench.proofs.acting.keep_all.Given as goal

abbrev pub invariant-loop-place : goal.invariant-loop-place
invariant-loop-place l = (m : Machine) × StandsFor (IsSome (site_view l.site).contents) m l.origin (site_may_leave l.site)
