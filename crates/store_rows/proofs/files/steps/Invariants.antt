use Rattle.std.proofs.Common.{◌≡◌, true}
use Rattle.sm_site.specs.Memory.{site_may_leave}
use Rattle.sm_gatelog.specs.Logs.{IsLog}
use Rattle.store_rows.proofs.files.steps.Given as goal

abbrev pub invariant-loop-line : goal.invariant-loop-line
invariant-loop-line l = (l.log.made ≡ true) × IsLog l.log (site_may_leave l.site)
