use Rattle.std.proofs.Common.{is_some, ◌≡◌, ◌≤◌, ◌-◌, ℕ, ◌++◌, List, length, take, drop, Some, true}
use Rattle.std.specs.Prelude.{map}
use Rattle.sm_conn.specs.Parts.{PartItem, byte}
use Rattle.sm_wire.specs.declared.item.WireItem.{WireItem}
use Rattle.sm_wire.specs.Wire.{Left}
use Rattle.sm_serve.specs.declared.still.Still.TheVariants.{Open}
use Rattle.sm_serve.specs.Standing.{History}
use Rattle.sm_serve.specs.Resting.{PlaceIs, SameConn}
use Rattle.sm_serve.specs.Giving.{IsAt, StaysOpen}
use Rattle.sm_serve.specs.Steps.{Leaves}
use Rattle.sm_serve.proofs.handler.Handler.take_body.Given as goal

abbrev pub invariant-loop-done : goal.invariant-loop-done
invariant-loop-done g l = record {
  inside : l.done ≤ length l.bytes;
  leaves : Leaves g.S.Disk.seen SameConn l.fn.self l.self Open;
  open_ : is_some l.self.live.now.push ≡ true;
  goes_on : (b : List ℕ) (h : History) (more : List PartItem) (items : List WireItem) → IsAt g.S.Disk.seen h items l.fn.self
      → PlaceIs l.fn.self.live.now.push (Some b) → Left (Some b) (map (λ x. byte x) l.bytes ++ more) items
      → StaysOpen g.S.Disk.seen h l.fn.self.live.now.number (Some b) (map (λ x. byte x) (take l.done l.bytes)) (map (λ x. byte x) (drop l.done l.bytes) ++ more) l.self;
}

abbrev pub decreases-loop-done : goal.decreases-loop-done
decreases-loop-done g l = length l.bytes - l.done
