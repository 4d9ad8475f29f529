use Rattle.std.proofs.Common.{◌≡◌, false, if◌then◌else◌, [], ◌∷◌, ◌++◌, Option, Some, None, refl, sym, ◌∙◌, ap, subst}
use Rattle.sm_push.specs.Standing.{Standing}
use Rattle.sm_conn.specs.declared.part.Part.{Part}
use Rattle.sm_model.specs.declared.act.Act.{Act}
use Rattle.sm_conn.specs.Parts.{continued, posted, bad}
use Rattle.sm_wire.specs.declared.item.WireItem.TheVariants.{Get, Continue, Refuse}
use Rattle.sm_wire.specs.Wire.{Left, unplaced, wire}
use Rattle.sm_wire.proofs.WireLaw.{left_unique, continue_left, posted_left, posted_back, bad_left}
use Rattle.sm_conn.specs.Stands.{items_of}
use Rattle.sm_head.specs.declared.reply.TheConstants.{CONTINUE}
use Rattle.sm_serve.specs.Run.{idle, acting, sending, in_phase, continues}
use Rattle.sm_serve.specs.Resting.{PlaceIs, counts_of}
use Rattle.sm_serve.specs.Giving.{PartGives, StaysOpen}
use Rattle.sm_serve.specs.Standing.{stays_open}
use Rattle.sm_serve.proofs.Going.{paused}
use Rattle.sm_serve.proofs.Reaching.{reach_then, comes_here, continuing, paused_follows}
use Rattle.sm_serve.proofs.Giving.{starved_gives, get_gives, get_items, continue_gives, closed_gives}
use Rattle.sm_serve.proofs.Steps.{sent_leaves, shut_leaves}
use Rattle.sm_serve.proofs.handler.Handler.take_outside.Goals as goal

pub returns-in-Get-clause-goes_on : goal.returns-in-Get-clause-goes_on
returns-in-Get-clause-goes_on g c h more items here place left =
    let n = c.args.self.now.live.now.number in
    let t = c.in-Get.target in
    let close = c.in-Get.close in
    let is = get_items g.S.Disk.seen t close more items (subst (λ (p : Part). Left None (items_of p ++ more) items) c.in-Get.is left) in
    let none = subst (λ (p : Option Standing). PlaceIs p None) (sym c.act_on.ensures.leaves.same.push) place in
    subst (λ (p : Part). PartGives g.S.Disk.seen h n c.act_on.result None (items_of p) more c.act_on.new.self) (sym c.in-Get.is)
    (get_gives g.S.Disk.seen h n t close c.act_on.result more c.act_on.new.self c.act_on.ensures.closed none
    (c.act_on.ensures.goes_on (Get t close) (ap (λ (a : Act). Some a) (sym c.act_for-act.ensures.is)) refl (λ counted all. refl) h (if close then [] else wire None more)
    (record { keeps = here.keeps; stands = here.stands; phase = here.phase ∙ ap (acting n) is; counts = here.counts })))

pub returns-in-Continue-clause-goes_on : goal.returns-in-Continue-clause-goes_on
returns-in-Continue-clause-goes_on g c h more items here place left =
    let s = c.args.self.now in
    let n = s.live.now.number in
    let r = c.tell.result in
    let is : items ≡ Continue ∷ wire None more = left_unique None (continued ∷ more) items _ (subst (λ (p : Part). Left None (items_of p ++ more) items) c.in-Continue.is left) (continue_left more) in
    let phase = here.phase ∙ ap (acting n) is in
    let k = paused g.S.Disk.seen h (in_phase h.point (sending n CONTINUE.now false (wire None more))) in
    let told = c.tell.ensures.goes_on k (wire None more) s.origin.now (continuing g.S.Disk.seen h s.site.now n (wire None more) here.keeps phase) here.stands refl in
    let comes = reach_then g.S.Disk.seen h k n (stays_open r) (if stays_open r then acting n (wire None more) else idle) (h.point.counts n) (counts_of s.live.now) s.origin.now c.tell.new.site
    (paused_follows g.S.Disk.seen h n (sending n CONTINUE.now false (wire None more)) (continues n (wire None more) phase refl refl refl)) told (λ t. here.counts) in
    let new = record s { site = record s.site { now = c.tell.new.site } } in
    subst (λ (p : Part). PartGives g.S.Disk.seen h n r None (items_of p) more new) (sym c.in-Continue.is) (continue_gives g.S.Disk.seen h n r more new place comes)

pub returns-in-Post-clause-goes_on : goal.returns-in-Post-clause-goes_on
returns-in-Post-clause-goes_on g c h more items here place left =
    let s = c.args.self.now in
    let new = record s { live = record s.live { now = record s.live.now { push = Some c.new.result } } } in
    let gives : StaysOpen g.S.Disk.seen h s.live.now.number None (posted ∷ []) more new = record {
      after = Some [];
      after_is = c.new.ensures;
      given = [];
      on = λ qs ws l. posted_left qs ws l;
      left = items;
      left_is = posted_back more items (subst (λ (p : Part). Left None (items_of p ++ more) items) c.in-Post.is left);
      reaches = comes_here g.S.Disk.seen h items s here;
    } in
    subst (λ (p : Part). StaysOpen g.S.Disk.seen h s.live.now.number None (items_of p) more new) (sym c.in-Post.is) gives

pub returns-in-Bad-clause-goes_on : goal.returns-in-Bad-clause-goes_on
returns-in-Bad-clause-goes_on g c h more items here place left =
    let n = c.args.self.now.live.now.number in
    let r = unplaced c.in-Bad.cause in
    let is : items ≡ Refuse r ∷ [] = left_unique None (bad c.in-Bad.cause ∷ more) items _ (subst (λ (p : Part). Left None (items_of p ++ more) items) c.in-Bad.is left)
    (bad_left c.in-Bad.cause more) in
    closed_gives g.S.Disk.seen h n c.act_on-in-Bad.result None (items_of c.args.part) more [] c.act_on-in-Bad.new.self (c.act_on-in-Bad.ensures.closed refl)
    (c.act_on-in-Bad.ensures.goes_on (Refuse r) refl refl (λ counted all. refl) h []
    (record { keeps = here.keeps; stands = here.stands; phase = here.phase ∙ ap (acting n) is; counts = here.counts }))

pub returns-clause-goes_on : goal.returns-clause-goes_on
returns-clause-goes_on g c h more items here place left =
    starved_gives g.S.Disk.seen h c.args.self.now.live.now.number c.starve.result None (items_of c.args.part) more _ c.starve.ensures.closed
    (c.starve.ensures.goes_on h items (counts_of c.args.self.now.live.now) c.args.self.now.origin.now here.keeps here.stands here.phase)

pub returns-in-Continue-clause-leaves : goal.returns-in-Continue-clause-leaves
returns-in-Continue-clause-leaves g c =
    sent_leaves g.S.Disk.seen c.args.self.now c.args.self.now.live.now c.tell.new.site c.tell.result (record { number = refl; conn = refl })
    c.requires.may c.tell.ensures.sent c.tell.ensures.live

pub returns-clause-leaves : goal.returns-clause-leaves
returns-clause-leaves g c =
    shut_leaves g.S.Disk.seen c.args.self.now c.args.self.now.live.now c.starve.new.site c.starve.result (record { number = refl; conn = refl })
    c.requires.may c.starve.ensures.sent c.starve.ensures.closed
