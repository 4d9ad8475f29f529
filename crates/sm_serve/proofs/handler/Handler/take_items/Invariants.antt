use Rattle.std.proofs.Common.{◌++◌, List, length, drop}
use Rattle.std.specs.Prelude.{map}
use Rattle.sm_wire.specs.declared.item.WireItem.{WireItem}
use Rattle.sm_serve.specs.declared.still.Still.TheVariants.{Open}
use Rattle.sm_serve.specs.Standing.{History}
use Rattle.sm_serve.specs.Resting.{SameBut}
use Rattle.sm_serve.specs.Items.{shown_item}
use Rattle.sm_serve.specs.Giving.{IsAt, Comes}
use Rattle.sm_serve.specs.Steps.{Leaves}
use Rattle.sm_serve.proofs.handler.Handler.take_items.Given as goal

abbrev pub invariant-loop-item : goal.invariant-loop-item
invariant-loop-item g l = record {
  leaves : Leaves g.S.Disk.seen SameBut l.fn.self l.self Open;
  goes_on : (h : History) (more : List WireItem) → IsAt g.S.Disk.seen h (map shown_item l.fn.items.items ++ more) l.fn.self
      → Comes g.S.Disk.seen h l.fn.self.live.now.number Open (map shown_item (drop (length l.yielded) l.fn.items.items) ++ more) l.self;
}
