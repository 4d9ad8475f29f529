use Rattle.std.proofs.Common.{◌≤◌, ◌+◌, ◌++◌, ℕ, List, take, subst, arith}
use Rattle.std.proofs.KnownBytes.{Consumes-kept}
use Rattle.sm_ends.specs.Ended.{input_most}
use Rattle.sm_pick.specs.Search.{Looks}
use Rattle.sm_ends.proofs.Unread.{at_most, long, passed_on, rose_since}
use Rattle.sm_pick.proofs.Picking.{IsPiece, piece_taken, read_on, read_over}
use Rattle.sm_pick.proofs.reading.pick.Goals as goal

pub loop-total-preserved-in_ok-take : goal.loop-total-preserved-in_ok-take
loop-total-preserved-in_ok-take g c =
    let room : List ℕ = c.read_piece.new.room.items in
    let piece : IsPiece (g.I.Source.left c.loop-total.input) (g.I.Source.left c.read_piece.new.input) c.loop-total.total c.in_ok-count.count room
    = record { taken = c.in_ok-count.ensures.bytes.0; inside = c.in_ok-count.ensures.bound; within = omega (arith, c.in_ok-count.ensures.most) } in
    let looks : (b : List ℕ) → Looks c.loop-total.search b → Looks c.take.new.self (b ++ take c.in_ok-count.count room)
    = subst (λ (r : List ℕ). (b : List ℕ) → Looks c.loop-total.search b → Looks c.take.new.self (b ++ take c.in_ok-count.count r)) c.deref.ensures.value c.in_ok-take.ensures.looks in
    record {
      room = c.read_piece.ensures.room;
      read = read_on _ _ _ _ _ c.loop-total.search c.take.new.self c.loop-total.total c.in_ok-count.count room c.loop-total.invariant.read piece (omega arith) looks c.in_ok-take.ensures.asked.0 c.in_ok-take.ensures.asked.1;
      later = omega (arith, c.loop-total.invariant.later, c.read_piece.ensures.cause.later);
    }

pub returns-in_err-take-clause-why : goal.returns-in_err-take-clause-why
returns-in_err-take-clause-why g c =
    let room : List ℕ = c.read_piece.new.room.items in
    let piece : IsPiece (g.I.Source.left c.loop-total.input) (g.I.Source.left c.read_piece.new.input) c.loop-total.total c.in_ok-count.count room
    = record { taken = c.in_ok-count.ensures.bytes.0; inside = c.in_ok-count.ensures.bound; within = omega (arith, c.in_ok-count.ensures.most) } in
    passed_on c.from_residual-in_err-take.result _ _ c.from_residual-in_err-take.ensures.1
    (at_most _ _ (c.loop-total.total + c.in_ok-count.count) input_most (piece_taken _ _ _ _ _ c.loop-total.search c.loop-total.total c.in_ok-count.count room c.loop-total.invariant.read piece) (omega arith))

pub loop-total-preserved : goal.loop-total-preserved
loop-total-preserved g c =
    let room : List ℕ = c.read_piece.new.room.items in
    let piece : IsPiece (g.I.Source.left c.loop-total.input) (g.I.Source.left c.read_piece.new.input) c.loop-total.total c.in_ok-count.count room
    = record { taken = c.in_ok-count.ensures.bytes.0; inside = c.in_ok-count.ensures.bound; within = omega (arith, c.in_ok-count.ensures.most) } in
    record {
      room = c.read_piece.ensures.room;
      read = read_over _ _ _ _ _ c.loop-total.search c.loop-total.total c.in_ok-count.count room c.loop-total.invariant.read piece (omega arith);
      later = omega (arith, c.loop-total.invariant.later, c.read_piece.ensures.cause.later);
    }

pub returns-clause-why : goal.returns-clause-why
returns-clause-why g c =
    let read = c.loop-total.invariant.read in
    (long input_most _ _ read.bytes read.taken (omega (arith, read.total_is)), (read.bytes, read.taken, omega (arith, read.total_is, read.within)))

pub returns-in_err-count-clause-why : goal.returns-in_err-count-clause-why
returns-in_err-count-clause-why g c =
    let read = c.loop-total.invariant.read in
    let few : c.loop-total.total ≤ input_most = omega arith in
    passed_on c.from_residual-in_err-count.result _ _ c.from_residual-in_err-count.ensures.1 (
      rose_since _ _ _ c.loop-total.invariant.later c.in_err-count.ensures.cause.failed,
      (read.bytes, Consumes-kept _ _ _ read.bytes read.taken c.in_err-count.ensures.bytes, omega (arith, few, read.total_is)),
    )
