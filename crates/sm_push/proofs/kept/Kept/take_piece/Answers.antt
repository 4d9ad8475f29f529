use Rattle.std.proofs.Common.{length, ap, arith, refl, inl}
use Rattle.std.proofs.lemmas.List.{take_rest, length-drop}
use Rattle.std.proofs.lemmas.Result.{err_from_is_err_and}
use Rattle.sm_push.proofs.Steps.{begun, goes_on, fault_gives, room_gives, grows_on, all_taken}
use Rattle.sm_push.proofs.kept.Kept.take_piece.Goals as goal

pub loop-done-init : goal.loop-done-init
loop-done-init c = record { partial = c.requires.partial; inside = omega arith; grows = inl (refl, λ x. x); taking = begun c.args.self.now c.args.piece.now c.args.items.now c.requires.none }

pub returns-in_err-count-clause-gives : goal.returns-in_err-count-clause-gives
returns-in_err-count-clause-gives c =
    let p = err_from_is_err_and c.from_residual.result c.from_residual.ensures.1 in
    rw (p.1, p.2) (fault_gives c.args.self.now c.loop-done.self c.advance.new.self c.args.piece.now _ c.loop-done.done c.loop-done.items c.in_err-count.field-0.0 c.loop-done.invariant.taking
    c.loop-done.invariant.grows (take_rest c.args.piece.now c.loop-done.done) c.in_err-count.ensures.advances)

pub loop-done-preserved : goal.loop-done-preserved
loop-done-preserved c = record {
  partial = c.in_ok-count.ensures.partial;
  inside = omega (arith, c.in_ok-count.ensures.moves.1, ap length (take_rest c.args.piece.now c.loop-done.done), length-drop c.loop-done.done c.args.piece.now);
  grows = grows_on c.args.self.now c.loop-done.self c.advance.new.self c.loop-done.invariant.grows c.in_ok-count.ensures.grows;
  taking = goes_on c.args.self.now c.loop-done.self c.advance.new.self c.args.piece.now _ c.loop-done.done c.in_ok-count.count c.loop-done.items _ c.in_ok-count.item c.loop-done.invariant.taking
      (take_rest c.args.piece.now c.loop-done.done) c.in_ok-count.ensures.advances c.in_ok-add.ensures.ok;
}

pub returns-clause-gives : goal.returns-clause-gives
returns-clause-gives c = all_taken c.args.self.now c.loop-done.self c.args.piece.now c.loop-done.done c.loop-done.items (omega arith) c.loop-done.invariant.taking

pub returns-in_err-add-clause-gives : goal.returns-in_err-add-clause-gives
returns-in_err-add-clause-gives c =
    let p = err_from_is_err_and c.from_residual-in_err-add.result c.from_residual-in_err-add.ensures.1 in
    let taking = goes_on c.args.self.now c.loop-done.self c.advance.new.self c.args.piece.now _ c.loop-done.done c.in_ok-count.count c.loop-done.items _ c.in_ok-count.item
    c.loop-done.invariant.taking (take_rest c.args.piece.now c.loop-done.done) c.in_ok-count.ensures.advances refl in
    let grows = grows_on c.args.self.now c.loop-done.self c.advance.new.self c.loop-done.invariant.grows c.in_ok-count.ensures.grows in
    rw (p.1, p.2) (room_gives c.args.self.now c.advance.new.self c.args.piece.now _ _ c.add.new.items c.in_err-add.field-0.0 taking grows c.in_err-add.ensures.err)
