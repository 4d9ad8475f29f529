use Rattle.std.proofs.Common.{◌≡◌, List, [], ◌∷◌, ◌++◌, Option, Some, refl, sym, ◌∙◌, ap, subst}
use Rattle.std.specs.Prelude.{map}
use Rattle.sm_push.specs.Standing.{Standing}
use Rattle.sm_conn.specs.Parts.{PartItem, byte}
use Rattle.sm_wire.specs.declared.item.WireItem.{WireItem}
use Rattle.sm_wire.specs.declared.item.WireItem.TheVariants.{Refuse}
use Rattle.sm_wire.specs.Wire.{Left, shown}
use Rattle.sm_wire.proofs.WireLaw.{left_unique, bytes_left}
use Rattle.sm_serve.specs.Run.{acting}
use Rattle.sm_serve.specs.Resting.{PlaceIs, counts_of}
use Rattle.sm_serve.proofs.Giving.{starved_gives, fed_place, fed_refused, shown_vec, valid_vec, open_gives, closed_gives}
use Rattle.sm_serve.proofs.Reaching.{comes_then}
use Rattle.sm_serve.proofs.Steps.{shut_leaves}
use Rattle.sm_serve.proofs.handler.Handler.take_chunk.Goals as goal

pub returns-in-Ok-clause-goes_on : goal.returns-in-Ok-clause-goes_on
returns-in-Ok-clause-goes_on g c b h more items here place left =
    let n = c.args.self.now.live.now.number in
    let bytes = c.args.bytes.now in
    let fed = fed_place b bytes c.feed.new.push c.in-Ok.items (c.in-Ok.ensures.fed b place) in
    let rest = c.wire_of_front.ensures.left (Some (b ++ bytes)) more in
    let on = λ (qs : List PartItem) (ws : List WireItem) (l : Left (Some (b ++ bytes)) qs ws). bytes_left b bytes c.in-Ok.items qs ws fed.1 l in
    let is : items ≡ map shown c.in-Ok.items ++ rest.0 = left_unique (Some b) _ items _ left (on more rest.0 rest.1) in
    let phase = here.phase ∙ ap (acting n) (is ∙ sym (shown_vec c.into_vec.result.items c.in-Ok.items rest.0 c.into_vec.ensures)) in
    open_gives g.S.Disk.seen h n c.take_items.result (Some b) (Some (b ++ bytes)) (map byte bytes) more (map shown c.in-Ok.items) rest.0 c.take_items.new.self
    (c.take_items.ensures.goes_on h rest.0 (record { keeps = here.keeps; stands = here.stands; phase = phase; counts = here.counts }))
    (subst (λ (p : Option Standing). PlaceIs p (Some (b ++ bytes))) (sym c.take_items.ensures.leaves.same.push) fed.0) rest.1 on

pub returns-in-Closed-clause-goes_on : goal.returns-in-Closed-clause-goes_on
returns-in-Closed-clause-goes_on g c b h more items here place left =
    let bytes = c.args.bytes.now in
    let r = c.in-Err-Refused.refusal in
    let fed = rw c.in-Err-Refused.field-0-is at (c.in-Err-Refused.ensures.fed b place) in
    let body = fed_refused b bytes c.feed.new.push c.in-Err-Refused.before r fed in
    let is : items ≡ map shown c.in-Err-Refused.before ++ Refuse r ∷ [] = left_unique (Some b) _ items _ left (c.wire_of_front.ensures.ends b bytes c.in-Err-Refused.before body.0 r more body.1) in
    let phase = here.phase ∙ ap (acting c.args.self.now.live.now.number) (is ∙ sym (shown_vec c.into_vec-in-Err-Refused.result.items c.in-Err-Refused.before (Refuse r ∷ []) c.into_vec-in-Err-Refused.ensures)) in
    c.in-Closed.ensures.goes_on h (Refuse r ∷ []) (record { keeps = here.keeps; stands = here.stands; phase = phase; counts = here.counts })

pub returns-in-Open-clause-goes_on : goal.returns-in-Open-clause-goes_on
returns-in-Open-clause-goes_on g c b h more items here place left =
    let n = c.args.self.now.live.now.number in
    let bytes = c.args.bytes.now in
    let r = c.in-Err-Refused.refusal in
    let fed = rw c.in-Err-Refused.field-0-is at (c.in-Err-Refused.ensures.fed b place) in
    let body = fed_refused b bytes c.feed.new.push c.in-Err-Refused.before r fed in
    let is : items ≡ map shown c.in-Err-Refused.before ++ Refuse r ∷ [] = left_unique (Some b) _ items _ left (c.wire_of_front.ensures.ends b bytes c.in-Err-Refused.before body.0 r more body.1) in
    let phase = here.phase ∙ ap (acting n) (is ∙ sym (shown_vec c.into_vec-in-Err-Refused.result.items c.in-Err-Refused.before (Refuse r ∷ []) c.into_vec-in-Err-Refused.ensures)) in
    let was = c.in-Open.ensures.goes_on h (Refuse r ∷ []) (record { keeps = here.keeps; stands = here.stands; phase = phase; counts = here.counts }) in
    closed_gives g.S.Disk.seen h n c.act_on.result (Some b) (map byte bytes) more [] c.act_on.new.self (c.act_on.ensures.closed refl)
    (comes_then g.S.Disk.seen h n c.act_on.result (Refuse r ∷ []) [] c.take_items-in-Err-Refused.new.self c.act_on.new.self c.take_items-in-Err-Refused.ensures.leaves.same.number was
    (λ k there. c.act_on.ensures.goes_on (Refuse r) refl refl (λ counted all. refl) k [] there))

pub take_items-requires-clause-valid : goal.take_items-requires-clause-valid
take_items-requires-clause-valid g c = valid_vec c.into_vec.result.items c.in-Ok.items c.into_vec.ensures c.in-Ok.ensures.valid

pub take_items-requires-in-Err-Refused-clause-valid : goal.take_items-requires-in-Err-Refused-clause-valid
take_items-requires-in-Err-Refused-clause-valid g c =
    valid_vec c.into_vec-in-Err-Refused.result.items c.in-Err-Refused.before c.into_vec-in-Err-Refused.ensures (rw c.in-Err-Refused.field-0-is at c.in-Err-Refused.ensures.valid)

pub returns-in-Err-NoMemory-clause-goes_on : goal.returns-in-Err-NoMemory-clause-goes_on
returns-in-Err-NoMemory-clause-goes_on g c b h more items here place left =
    starved_gives g.S.Disk.seen h c.args.self.now.live.now.number c.starve-in-Err-NoMemory.result (Some b) (map byte c.args.bytes.now) more _ c.starve-in-Err-NoMemory.ensures.closed
    (c.starve-in-Err-NoMemory.ensures.goes_on h items (counts_of c.args.self.now.live.now) c.args.self.now.origin.now here.keeps here.stands here.phase)

pub returns-in-Err-Failed-clause-leaves : goal.returns-in-Err-Failed-clause-leaves
returns-in-Err-Failed-clause-leaves g c =
    shut_leaves g.S.Disk.seen c.args.self.now _ c.starve.new.site c.starve.result (record { number = refl; conn = refl }) c.requires.may c.starve.ensures.sent c.starve.ensures.closed

pub returns-in-Err-NoMemory-clause-leaves : goal.returns-in-Err-NoMemory-clause-leaves
returns-in-Err-NoMemory-clause-leaves g c =
    shut_leaves g.S.Disk.seen c.args.self.now _ c.starve-in-Err-NoMemory.new.site c.starve-in-Err-NoMemory.result (record { number = refl; conn = refl })
    c.requires.may c.starve-in-Err-NoMemory.ensures.sent c.starve-in-Err-NoMemory.ensures.closed
