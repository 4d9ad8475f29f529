use Rattle.std.proofs.Common.{◌≡◌, false, if◌then◌else◌, [], ◌∷◌, Some, None, refl, ap, ◌∙◌}
use Rattle.sm_push.specs.Body.{body_end}
use Rattle.sm_conn.specs.Parts.{ended}
use Rattle.sm_wire.specs.declared.item.WireItem.TheVariants.{Refuse}
use Rattle.sm_wire.specs.Wire.{wire}
use Rattle.sm_wire.proofs.WireLaw.{left_unique, ended_refused}
use Rattle.sm_serve.specs.Run.{acting}
use Rattle.sm_serve.proofs.Giving.{closed_gives, end_gives, end_items}
use Rattle.sm_serve.proofs.Steps.{shut_leaves}
use Rattle.sm_serve.proofs.handler.Handler.take_end.Goals as goal

pub returns-in-Ok-clause-goes_on : goal.returns-in-Ok-clause-goes_on
returns-in-Ok-clause-goes_on g c b h more items here place left =
    let n = c.args.self.now.live.now.number in
    let clear : body_end false b ≡ None = c.in-Ok.ensures b place in
    let is = end_items g.S.Disk.seen b c.args.close more items clear left in
    end_gives g.S.Disk.seen h n c.args.close c.end_push.result b more c.end_push.new.self clear c.end_push.ensures.closed c.end_push.ensures.push
    (c.end_push.ensures.goes_on h (if c.args.close then [] else wire None more)
    (record { keeps = here.keeps; stands = here.stands; phase = here.phase ∙ ap (acting n) is; counts = here.counts }))

pub returns-in-Err-Refused-clause-goes_on : goal.returns-in-Err-Refused-clause-goes_on
returns-in-Err-Refused-clause-goes_on g c b h more items here place left =
    let n = c.args.self.now.live.now.number in
    let r = c.in-Err-Refused.refusal in
    let ends = rw c.in-Err-Refused.field-0-is at (c.in-Err-Refused.ensures b place) in
    let is : items ≡ Refuse r ∷ [] = left_unique (Some b) (ended c.args.close ∷ more) items _ left (ended_refused b more c.args.close r ends.1) in
    closed_gives g.S.Disk.seen h n c.act_on.result (Some b) (ended c.args.close ∷ []) more [] c.act_on.new.self (c.act_on.ensures.closed refl)
    (c.act_on.ensures.goes_on (Refuse r) refl refl (λ counted all. refl) h []
    (record { keeps = here.keeps; stands = here.stands; phase = here.phase ∙ ap (acting n) is; counts = here.counts }))

pub returns-in-Err-Failed-clause-leaves : goal.returns-in-Err-Failed-clause-leaves
returns-in-Err-Failed-clause-leaves g c =
    shut_leaves g.S.Disk.seen c.args.self.now _ c.starve.new.site c.starve.result (record { number = refl; conn = refl }) c.requires.may c.starve.ensures.sent c.starve.ensures.closed

pub returns-clause-leaves : goal.returns-clause-leaves
returns-clause-leaves g c =
    shut_leaves g.S.Disk.seen c.args.self.now _ c.starve-in-Err-NoMemory.new.site c.starve-in-Err-NoMemory.result (record { number = refl; conn = refl })
    c.requires.may c.starve-in-Err-NoMemory.ensures.sent c.starve-in-Err-NoMemory.ensures.closed
