use Rattle.std.proofs.Common.{◌≡◌, ◌≤◌, ◌++◌, List, Option, length, take, IsSome}
use Rattle.std.specs.Prelude.{is_some}
use Rattle.sm_model.specs.declared.entry.Entry.{Entry}
use Rattle.sm_archive.specs.Stands.{Stands}
use Rattle.sm_export.specs.Exporting.{texts_from}
use Rattle.sm_export.specs.Gathering.{Leaves}
use Rattle.sm_export.specs.Qualities.{kept_among}
use Rattle.sm_export.specs.Reading.{IsOnlyRead}
use Rattle.sm_export.proofs.writing.gather_times.Given as goal

abbrev pub invariant-loop-time : goal.invariant-loop-time
invariant-loop-time g l = record {
  some : (log : List Entry) × (doubt : Option Entry) × Stands l.archive log doubt (g.D.Disk.seen.may_leave l.disk);
  read : IsOnlyRead g.D.Disk.seen l.archive l.fn.disk l.disk;
  told : is_some (g.D.Disk.seen.view l.disk).contents ≡ is_some (g.D.Disk.seen.view l.fn.disk).contents;
  later : g.O.Sink.faults l.fn.out ≤ g.O.Sink.faults l.out;
  few : l.written ≤ l.time-index;
  stream : l.address.stream ≡ l.name;
  bitrate : l.address.bitrate ≡ l.bitrate;
  wrote : (log : List Entry) (doubt : Option Entry) → Stands l.archive log doubt (g.D.Disk.seen.may_leave l.fn.disk) → IsSome (g.D.Disk.seen.view l.fn.disk).contents
      → Leaves (g.O.Sink.held l.fn.out) (g.O.Sink.held l.out) (l.fn.gathered.items ++ texts_from 1 l.id (kept_among log l.name l.bitrate (take l.time-index l.times))) l.gathered.items
      × (l.written ≡ length (kept_among log l.name l.bitrate (take l.time-index l.times)));
}
