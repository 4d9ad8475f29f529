use Rattle.std.proofs.Common.{◌≡◌, ◌++◌, drop, take}
use Rattle.sm_site.specs.Meanings.{sent_on}
use Rattle.sm_site.specs.Past.{items_from}
use Rattle.sm_site.proofs.memory_crash.MemorySiteCrashing.sent.Given as goal

abbrev pub invariant-loop-step : goal.invariant-loop-step
invariant-loop-step l = record {
  items : l.step-items ≡ drop l.begun l.self.past.items;
  sent : l.bytes.items ≡ sent_on l.conn (items_from 0 (take l.begun l.self.past.items ++ take l.step-index l.step-items));
}
