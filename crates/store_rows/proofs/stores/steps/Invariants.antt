use Rattle.std.proofs.Common.{List, Option}
use Rattle.sm_model.specs.declared.entry.Entry.{Entry}
use Rattle.sm_site.specs.Memory.{site_may_leave}
use Rattle.sm_archive.specs.Stands.{Stands}
use Rattle.store_rows.proofs.stores.steps.Given as goal

abbrev pub invariant-loop-line : goal.invariant-loop-line
invariant-loop-line l = (log : List Entry) × (doubt : Option Entry) × Stands l.archive log doubt (site_may_leave l.site)
