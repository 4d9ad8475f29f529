use Rattle.std.proofs.Common.{◌≡◌, List, None, take, string_bytes, is_some}
use Rattle.std.specs.Prelude.{IsSome}
use Rattle.sm_model.specs.declared.entry.Entry.{Entry}
use Rattle.sm_site.specs.Clauses.{Throughout}
use Rattle.sm_site.specs.Meanings.{DiskAlone}
use Rattle.sm_archive.specs.Stands.{Stands}
use Rattle.sm_command.specs.Listing.{lines_from}
use Rattle.sm_command.proofs.listing.lines.Given as goal

abbrev pub invariant-loop-place : goal.invariant-loop-place
invariant-loop-place g l = record {
  some : (log : List Entry) × Stands l.archive log None (g.D.Disk.seen.may_leave l.disk);
  stands : (log : List Entry) → Stands l.archive log None (g.D.Disk.seen.may_leave l.fn.disk) → Stands l.archive log None (g.D.Disk.seen.may_leave l.disk);
  told : is_some (g.D.Disk.seen.view l.disk).contents ≡ is_some (g.D.Disk.seen.view l.fn.disk).contents;
  any_moment : Throughout g.D.Disk.seen l.fn.disk l.disk (λ t c. g.D.Disk.seen.may_leave l.fn.disk c);
  disk_alone : DiskAlone (g.D.Disk.seen.view l.fn.disk) (g.D.Disk.seen.view l.disk);
  text : (log : List Entry) → Stands l.archive log None (g.D.Disk.seen.may_leave l.fn.disk) → IsSome (g.D.Disk.seen.view l.fn.disk).contents
      → string_bytes l.text ≡ lines_from 0 (take l.place log);
}
