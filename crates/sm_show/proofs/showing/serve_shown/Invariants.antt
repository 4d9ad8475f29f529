use Rattle.std.proofs.Common.{◌≡◌, ◌≤◌, ◌+◌, IsSome, is_some}
use Rattle.sm_serve.specs.Standing.{History, StandsForSome}
use Rattle.sm_serve.specs.Serving.{Serves, TurnsBy, NoneIsOver}
use Rattle.sm_shelf.specs.Shelf.{Belongs}
use Rattle.sm_show.specs.Marks.{Shows}
use Rattle.sm_show.proofs.showing.serve_shown.Given as goal

abbrev pub invariant-loop-taken : goal.invariant-loop-taken
invariant-loop-taken g l = record {
  stands : StandsForSome g.S.Disk.seen l.state.origin l.site;
  told : is_some (g.S.Disk.seen.view l.site).transcript ≡ is_some (g.S.Disk.seen.view l.fn.site).transcript;
  chosen : (g.S.Disk.seen.view l.site).chosen ≡ (g.S.Disk.seen.view l.fn.site).chosen;
  link_faults : (g.S.Disk.seen.view l.fn.site).link_faults ≤ (g.S.Disk.seen.view l.site).link_faults;
  few : l.behind + l.short ≤ l.taken;
  table : l.writer.table ≡ l.fn.writer.table;
  goes_on : (h : History) → Serves g.S.Disk.seen h l.fn.state l.fn.site
      → (turns : TurnsBy g.S.Disk.seen h l.taken (g.S.Disk.seen.view l.fn.site).script l.state l.site) × NoneIsOver turns.deals
      × (IsSome (g.S.Disk.seen.view l.fn.site).contents → Belongs h.point.machine.log l.fn.writer → Shows h turns.turns.later l.taken l.behind l.short l.fn.writer l.writer);
}
