use Rattle.std.proofs.Common.{rules, ◌≡◌, ℕ, true, false, List, ◌++◌, Option, is_some, sym, subst}
use Rattle.sm_wire.specs.Wire.{Left}
use Rattle.sm_conn.specs.Stands.{items_of}
use Rattle.sm_serve.specs.Resting.{PlaceIs}
use Rattle.sm_serve.specs.Giving.{PartGives}
use Rattle.sm_serve.proofs.Giving.{place_some, place_none}
use Rattle.sm_serve.proofs.handler.Handler.take_part.Goals as goal

pub returns-then-is_some-clause-goes_on : goal.returns-then-is_some-clause-goes_on
returns-then-is_some-clause-goes_on g c place h more items here is left =
    let live = c.args.self.now.live.now in
    let some : is_some live.push ≡ true = search rules in
    let b = place_some live.push place some is in
    let gives = c.take_inside.ensures.goes_on b.0 h more items here (subst (λ (o : Option (List ℕ)). PlaceIs live.push o) b.1 is)
    (subst (λ (o : Option (List ℕ)). Left o (items_of c.args.part ++ more) items) b.1 left) in
    subst (λ (o : Option (List ℕ)). PartGives g.S.Disk.seen h live.number c.take_inside.result o (items_of c.args.part) more c.take_inside.new.self) (sym b.1) gives

pub returns-clause-goes_on : goal.returns-clause-goes_on
returns-clause-goes_on g c place h more items here is left =
    let live = c.args.self.now.live.now in
    let none : is_some live.push ≡ false = search rules in
    let b = place_none live.push place none is in
    let gives = c.take_outside.ensures.goes_on h more items here (subst (λ (o : Option (List ℕ)). PlaceIs live.push o) b is)
    (subst (λ (o : Option (List ℕ)). Left o (items_of c.args.part ++ more) items) b left) in
    subst (λ (o : Option (List ℕ)). PartGives g.S.Disk.seen h live.number c.take_outside.result o (items_of c.args.part) more c.take_outside.new.self) (sym b) gives
