use Rattle.std.proofs.Common.{◌≤◌, reverse}
use Rattle.sm_show.specs.Recalling.{Recalls}
use Rattle.sm_show.proofs.Readings.{Gathered}
use Rattle.sm_show.proofs.reading.read_back.Given as goal

abbrev pub invariant-loop-site : goal.invariant-loop-site
invariant-loop-site g l = record {
  recalls : Recalls g.S.Disk.seen l.state l.initial.site l.site;
  gathered : Gathered g.S.Disk.seen l.state l.catalog.adds l.initial.site l.left l.bytes (reverse l.read.items);
  short : l.bytes ≤ 134217728;
}

abbrev pub decreases-loop-site : goal.decreases-loop-site
decreases-loop-site g l = l.left
