use Rattle.std.proofs.Common.{get_or, take, arith}
use Rattle.std.proofs.lemmas.List.{take_more}
use Rattle.sm_model.proofs.DigitLemmas.{decimal_from-push}
use Rattle.sm_model.proofs.digits.wide_decimal.Goals as goal

pub loop-digit-preserved : goal.loop-digit-preserved
loop-digit-preserved c =
    let i = c.loop-digit.digit-index in
    let ds = c.args.digits.now in
    let longer = take_more ds i 0 (omega arith) in
    rw longer (rw (decimal_from-push 0 (take i ds) (get_or ds i 0)) (omega arith))
