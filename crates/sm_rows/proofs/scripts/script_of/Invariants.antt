use Rattle.std.proofs.Common.{◌++◌, List, take, IsTrue}
use Rattle.sm_site.specs.declared.event.Event.{Event}
use Rattle.sm_site.specs.Scripts.{is_script}
use Rattle.sm_rows.proofs.scripts.script_of.Given as goal

abbrev pub invariant-loop-i : goal.invariant-loop-i
invariant-loop-i l = (rest : List Event) → IsTrue (is_script l.from rest) → IsTrue (is_script l.first (take l.i l.events.items ++ rest))
