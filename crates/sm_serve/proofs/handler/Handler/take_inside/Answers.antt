use Rattle.std.proofs.Common.{◌≡◌, ℕ, List, [], ◌∷◌, ◌++◌, Some, refl, sym, ◌∙◌, ap, subst}
use Rattle.std.specs.Prelude.{map}
use Rattle.sm_conn.specs.declared.part.Part.{Part}
use Rattle.sm_conn.specs.Parts.{byte, bad}
use Rattle.sm_wire.specs.declared.item.WireItem.TheVariants.{Refuse}
use Rattle.sm_wire.specs.Wire.{Left, unplaced}
use Rattle.sm_wire.proofs.WireLaw.{left_unique, bad_inside}
use Rattle.sm_conn.specs.Stands.{items_of}
use Rattle.sm_serve.specs.Run.{acting}
use Rattle.sm_serve.specs.Resting.{counts_of}
use Rattle.sm_serve.specs.Giving.{PartGives}
use Rattle.sm_serve.proofs.Giving.{starved_gives, place_clear, closed_gives}
use Rattle.sm_serve.proofs.Steps.{shut_leaves}
use Rattle.sm_serve.proofs.handler.Handler.take_inside.Goals as goal

pub returns-in-Body-clause-goes_on : goal.returns-in-Body-clause-goes_on
returns-in-Body-clause-goes_on g c b h more items here place left =
    let n = c.args.self.now.live.now.number in
    let bytes : List ℕ = c.in-Body.bytes in
    let same : c.as_slice.result.now ≡ bytes = c.as_slice.ensures in
    let left_body = subst (λ (x : List ℕ). Left (Some b) (map byte x ++ more) items) (sym same) (subst (λ (p : Part). Left (Some b) (items_of p ++ more) items) c.in-Body.is left) in
    subst (λ (p : Part). PartGives g.S.Disk.seen h n c.take_body.result (Some b) (items_of p) more c.take_body.new.self) (sym c.in-Body.is)
    (subst (λ (x : List ℕ). PartGives g.S.Disk.seen h n c.take_body.result (Some b) (map byte x) more c.take_body.new.self) same
    (c.take_body.ensures.goes_on b h more items here place left_body))

pub returns-in-End-clause-goes_on : goal.returns-in-End-clause-goes_on
returns-in-End-clause-goes_on g c b h more items here place left =
    subst (λ (p : Part). PartGives g.S.Disk.seen h c.args.self.now.live.now.number c.take_end.result (Some b) (items_of p) more c.take_end.new.self) (sym c.in-End.is)
    (c.take_end.ensures.goes_on b h more items here place (subst (λ (p : Part). Left (Some b) (items_of p ++ more) items) c.in-End.is left))

pub returns-in-Bad-clause-goes_on : goal.returns-in-Bad-clause-goes_on
returns-in-Bad-clause-goes_on g c b h more items here place left =
    let n = c.args.self.now.live.now.number in
    let r = unplaced c.in-Bad.cause in
    let is : items ≡ Refuse r ∷ [] = left_unique (Some b) (bad c.in-Bad.cause ∷ more) items _ (subst (λ (p : Part). Left (Some b) (items_of p ++ more) items) c.in-Bad.is left)
    (bad_inside b c.in-Bad.cause more (place_clear c.args.self.now.live.now.push b place)) in
    closed_gives g.S.Disk.seen h n c.act_on.result (Some b) (items_of c.args.part) more [] c.act_on.new.self (c.act_on.ensures.closed refl)
    (c.act_on.ensures.goes_on (Refuse r) refl refl (λ counted all. refl) h []
    (record { keeps = here.keeps; stands = here.stands; phase = here.phase ∙ ap (acting n) is; counts = here.counts }))

pub returns-clause-goes_on : goal.returns-clause-goes_on
returns-clause-goes_on g c b h more items here place left =
    starved_gives g.S.Disk.seen h c.args.self.now.live.now.number c.starve.result (Some b) (items_of c.args.part) more _ c.starve.ensures.closed
    (c.starve.ensures.goes_on h items (counts_of c.args.self.now.live.now) c.args.self.now.origin.now here.keeps here.stands here.phase)

pub returns-clause-leaves : goal.returns-clause-leaves
returns-clause-leaves g c =
    shut_leaves g.S.Disk.seen c.args.self.now c.args.self.now.live.now c.starve.new.site c.starve.result (record { number = refl; conn = refl })
    c.requires.may c.starve.ensures.sent c.starve.ensures.closed
