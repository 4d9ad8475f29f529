use Rattle.std.proofs.Common.{IsSome}
use Rattle.sm_site.specs.Memory.{site_view, site_may_leave}
use Rattle.sm_origin.specs.Machine.{Machine}
use Rattle.sm_origin.specs.Acting.{StandsFor}
use Rattle.store_rows.proofs.origins.steps.Given as goal

abbrev pub invariant-loop-line : goal.invariant-loop-line
invariant-loop-line l = (m : Machine) × StandsFor (IsSome (site_view l.site).contents) m l.origin (site_may_leave l.site)
