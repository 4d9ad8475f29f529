use Rattle.std.proofs.Common.{ℕ, List, None, IsSome, subst}
use Rattle.sm_export.specs.Exporting.{ExportedAs}
use Rattle.sm_export.proofs.Reading.{not_read}
use Rattle.sm_export.proofs.storing.export_input.Goals as goal

pub returns-in-Ok-clause-means : goal.returns-in-Ok-clause-means
returns-in-Ok-clause-means g c log stands = record {
  text = c.in-Ok.text;
  consumed = c.in-Ok.ensures.all;
  ended = c.in-Ok.ensures.end;
  short = c.in-Ok.ensures.short;
  exported = subst
      (λ (b : List ℕ). ExportedAs (IsSome (g.D.Disk.seen.view c.args.disk.now).contents) log b c.args.name.now c.args.bitrate (g.O.Sink.held c.args.out.now) (g.O.Sink.held c.export-exported.new.out)
      c.export-exported.result)
      c.as_slice.ensures (c.export-exported.ensures.exported log None stands);
  disk_fault = c.export-exported.ensures.disk_fault;
  fault = c.export-exported.ensures.fault;
}

pub returns-in-Ok-clause-read : goal.returns-in-Ok-clause-read
returns-in-Ok-clause-read g c = let e = c.export-exported.ensures in record { stands = e.stands; any_moment = e.any_moment; disk_alone = e.disk_alone }

pub returns-in-Err-clause-read : goal.returns-in-Err-clause-read
returns-in-Err-clause-read g c = not_read g.D.Disk.seen g.met.D.Disk.no_later c.args.archive.now c.args.disk.now
