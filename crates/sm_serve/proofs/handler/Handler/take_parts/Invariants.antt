use Rattle.std.proofs.Common.{ℕ, ◌++◌, List, length, take, drop, Option}
use Rattle.sm_conn.specs.Parts.{PartItem}
use Rattle.sm_wire.specs.declared.item.WireItem.{WireItem}
use Rattle.sm_wire.specs.Wire.{Left}
use Rattle.sm_conn.specs.Stands.{joined}
use Rattle.sm_serve.specs.declared.still.Still.TheVariants.{Open}
use Rattle.sm_serve.specs.Standing.{History}
use Rattle.sm_serve.specs.Resting.{PlaceIs, SameConn}
use Rattle.sm_serve.specs.Giving.{IsAt, StaysOpen}
use Rattle.sm_serve.specs.Steps.{Leaves}
use Rattle.sm_serve.proofs.handler.Handler.take_parts.Given as goal

abbrev pub invariant-loop-part : goal.invariant-loop-part
invariant-loop-part g l = record {
  leaves : Leaves g.S.Disk.seen SameConn l.fn.self l.self Open;
  goes_on : (place : Option (List ℕ)) (h : History) (more : List PartItem) (items : List WireItem) → IsAt g.S.Disk.seen h items l.fn.self
      → PlaceIs l.fn.self.live.now.push place → Left place (joined l.fn.parts.items ++ more) items
      → StaysOpen g.S.Disk.seen h l.fn.self.live.now.number place (joined (take (length l.yielded) l.fn.parts.items)) (joined (drop (length l.yielded) l.fn.parts.items) ++ more) l.self;
}
