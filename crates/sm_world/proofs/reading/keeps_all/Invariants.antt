use Rattle.std.proofs.Common.{ℕ, List, None, ◌<◌, ◌≤◌}
use Rattle.sm_model.specs.declared.entry.Entry.{Entry}
use Rattle.sm_site.specs.Meanings.{SameLink}
use Rattle.sm_archive.specs.Stands.{Stands as Holds}
use Rattle.sm_world.specs.Encoders.{KeepsRound}
use Rattle.sm_world.proofs.reading.keeps_all.Given as goal

abbrev pub invariant-loop-i : goal.invariant-loop-i
invariant-loop-i g l = record {
  stands : (log : List Entry) → Holds l.archive log None (g.S.Disk.seen.may_leave l.fn.site) → Holds l.archive log None (g.S.Disk.seen.may_leave l.site);
  kept : (log : List Entry) → Holds l.archive log None (g.S.Disk.seen.may_leave l.fn.site) → (j : ℕ) → j < l.i → KeepsRound log j;
  no_fewer : (g.S.Disk.seen.view l.fn.site).disk_faults ≤ (g.S.Disk.seen.view l.site).disk_faults;
  link : SameLink (g.S.Disk.seen.view l.fn.site) (g.S.Disk.seen.view l.site);
}
