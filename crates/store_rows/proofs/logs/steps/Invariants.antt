use Rattle.sm_site.specs.Memory.{site_may_leave}
use Rattle.sm_seglog.specs.Standing.{IsSegLog}
use Rattle.store_rows.proofs.logs.steps.Given as goal

abbrev pub invariant-loop-line : goal.invariant-loop-line
invariant-loop-line l = IsSegLog l.log (site_may_leave l.site)
