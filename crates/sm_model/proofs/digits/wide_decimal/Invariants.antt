use Rattle.std.proofs.Common.{◌≡◌, take, min}
use Rattle.sm_model.specs.Digits.{decimal_from}
use Rattle.sm_model.proofs.digits.wide_decimal.Given as goal

abbrev pub invariant-loop-digit : goal.invariant-loop-digit
invariant-loop-digit l = l.number ≡ min (decimal_from 0 (take l.digit-index l.digits)) 18446744073709551616
