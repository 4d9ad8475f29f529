use Rattle.std.proofs.Common.{rules, ◌≡◌, true, false, if◌then◌else◌, List, [], ◌++◌, refl, sym, ◌∙◌, ap, subst}
use Rattle.sm_site.specs.Meanings.Deal.{Came}
use Rattle.sm_conn.specs.declared.conn.Conn.{Conn}
use Rattle.sm_conn.specs.declared.part.Part.{Part}
use Rattle.sm_conn.specs.Stands.{StandsFor as Gave}
use Rattle.sm_conn.specs.Stands.{joined}
use Rattle.sm_head.specs.declared.reply.TheConstants.{NO_MEMORY}
use Rattle.sm_serve.specs.Connections.{received}
use Rattle.sm_serve.specs.Run.{idle, acting, sending, at, at_event, unread}
use Rattle.sm_serve.specs.declared.still.Still.{Still}
use Rattle.sm_serve.specs.Standing.{moved, Reaches, stays_open}
use Rattle.sm_serve.specs.Resting.{counts_of}
use Rattle.sm_serve.proofs.Reaching.{closed_counts}
use Rattle.sm_serve.proofs.Pieces.{came_move, read_move, unread_move, piece_left, piece_gives}
use Rattle.sm_serve.proofs.piece.take_piece.Goals as goal

pub returns-in-Ok-clause-goes_on : goal.returns-in-Ok-clause-goes_on
returns-in-Ok-clause-goes_on g c h m pending stands phase is_live counts rests =
    let n = c.args.live.now.number in
    let piece = c.args.piece.now in
    let ps = joined c.into_vec.result.items in
    let gave = subst (λ (qs : List Part). Gave c.feed.new.self (received n h.items ++ piece) (rests.parts ++ joined qs)) (sym c.into_vec.ensures)
    (c.in-Ok.ensures.stands (received n h.items) rests.parts rests.stands) in
    let items = c.wire_of_front.ensures.left rests.place (ps ++ []) in
    let keeps = read_move g.S.Disk.seen h m n piece c.args.live.now c.feed.new.self ps c.args.site.now pending phase is_live rests gave items.0 items.1 in
    let gives = c.take_parts.ensures.goes_on rests.place (moved h (at m (Came n piece)) (at_event h.point (acting n items.0) m)) [] items.0
    (record { keeps = keeps; stands = stands; phase = refl; counts = counts }) rests.place_is items.1 in
    piece_left g.S.Disk.seen h m n piece (stays_open c.take_parts.result) (search rules) (search rules) (search rules)
    (piece_gives g.S.Disk.seen h m n piece c.args.live.now c.take_parts.result ps items.0 c.take_parts.new.self rests
    (subst (λ (k : Conn). Gave k (received n h.items ++ piece) (rests.parts ++ ps)) (sym c.take_parts.ensures.leaves.same.conn) gave)
    (came_move g.S.Disk.seen false h m n piece c.args.live.now c.feed.new.self ps phase is_live rests gave items.0 items.1) gives)

pub returns-in-Err-clause-goes_on : goal.returns-in-Err-clause-goes_on
returns-in-Err-clause-goes_on g c h m pending stands phase is_live counts rests =
    let n = c.args.live.now.number in
    let piece = c.args.piece.now in
    let k = moved h (at m (Came n piece)) (at_event h.point (sending n NO_MEMORY.now true []) m) in
    let keeps = unread_move g.S.Disk.seen h m n piece c.args.site.now pending phase is_live in
    let shut = c.tell.ensures.closed refl in
    let told = c.tell.ensures.goes_on k [] c.args.origin.now keeps stands refl in
    record {
      from = at_event h.point (sending n NO_MEMORY.now true []) m;
      from_counts = refl;
      move = unread m n piece phase is_live refl refl refl;
      reaches = subst (λ (s : Still). Reaches g.S.Disk.seen k n (stays_open s) idle (counts_of c.args.live.now) c.args.origin.now c.tell.new.site) (sym shut)
          (closed_counts g.S.Disk.seen k n idle _ (counts_of c.args.live.now) c.args.origin.now c.tell.new.site
          (subst (λ (s : Still). Reaches g.S.Disk.seen k n (stays_open s) (if stays_open s then acting n [] else idle) (k.point.counts n) c.args.origin.now c.tell.new.site) shut told));
      rests = λ t. absurd (let both : false ≡ true = sym (ap stays_open shut) ∙ t in cc);
    }

pub returns-in-Err-clause-stands : goal.returns-in-Err-clause-stands
returns-in-Err-clause-stands g c =
    let m = c.requires.stands in
    (m.0, c.tell.ensures.sent.stands m.0 c.args.origin.now m.1)

pub returns-in-Err-clause-link : goal.returns-in-Err-clause-link
returns-in-Err-clause-link g c = c.tell.ensures.sent.link
