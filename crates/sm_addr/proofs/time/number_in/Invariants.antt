use Rattle.std.proofs.Common.{◌≡◌, ◌+◌, ◌*◌, ◌^◌, ◌≤◌, take}
use Rattle.sm_model.specs.Digits.{decimal_from}
use Rattle.sm_addr.proofs.time.number_in.Given as goal

abbrev pub invariant-loop-digit : goal.invariant-loop-digit
invariant-loop-digit l = record {
  number : l.number ≡ decimal_from 0 (take l.digit-index l.digits);
  small : l.number + 24 ≤ 24 * 10 ^ l.digit-index;
}
