use Rattle.std.proofs.Common.{◌≡◌, ◌≤◌, IsSome}
use Rattle.sm_site.specs.Image.{Image}
use Rattle.sm_site.specs.Meanings.{SameLink}
use Rattle.sm_site.specs.Clauses.{Throughout}
use Rattle.sm_archive.specs.Opening.{IsRead}
use Rattle.sm_archive.proofs.opened.walk.Given as goal

abbrev pub invariant-loop-place : goal.invariant-loop-place
invariant-loop-place g l = record {
  is_read : IsRead (IsSome (g.D.Disk.seen.view l.fn.disk).contents) l.fn.log (g.D.Disk.seen.may_leave l.fn.disk) l.index l.used l.place;
  contents : (g.D.Disk.seen.view l.disk).contents ≡ (g.D.Disk.seen.view l.fn.disk).contents;
  crash : (c : Image) → g.D.Disk.seen.may_leave l.disk c → g.D.Disk.seen.may_leave l.fn.disk c;
  moments : Throughout g.D.Disk.seen l.fn.disk l.disk (λ t c. g.D.Disk.seen.may_leave l.fn.disk c);
  faults : (g.D.Disk.seen.view l.fn.disk).disk_faults ≤ (g.D.Disk.seen.view l.disk).disk_faults;
  link : SameLink (g.D.Disk.seen.view l.fn.disk) (g.D.Disk.seen.view l.disk);
}
