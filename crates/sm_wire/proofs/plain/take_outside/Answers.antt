use Rattle.std.proofs.Common.{◌∙◌, ◌<◌, ap, refl, arith, length, None, Some}
use Rattle.std.proofs.lemmas.Bool.Decides.{nat_tests}
use Rattle.sm_wire.specs.declared.plain.Behind.TheVariants.{More, Last}
use Rattle.sm_wire.proofs.PartLaw.{goes_as, got_goes, continue_goes, post_goes, bytes_are_last, end_is_last, bad_is_last}
use Rattle.sm_wire.proofs.plain.take_outside.Goals as goal

pub returns-in-Get : goal.returns-in-Get
returns-in-Get c =
    goes_as c.args.out.now.items _ _ None _ _ _ _ c.in-Get.is c.unless_closed.ensures c.in_ok-push-in-Get.ensures.items (got_goes c.args.out.now.items c.in-Get.target c.in-Get.close)

pub returns-in-Continue : goal.returns-in-Continue
returns-in-Continue c =
    goes_as c.args.out.now.items _ _ None _ _ (More None) (More None) c.in-Continue.is refl c.in_ok-push-in-Continue.ensures.items (continue_goes c.args.out.now.items)

pub returns-in-Post : goal.returns-in-Post
returns-in-Post c =
    goes_as c.args.out.now.items c.args.out.now.items c.args.out.now.items None _ _ (More (Some c.from_vec.result)) _ c.in-Post.is
    (ap (λ b. More (Some b)) (c.from_vec.ensures ∙ c.new.ensures.items)) refl (post_goes c.args.out.now.items)

pub returns-in-Body : goal.returns-in-Body
returns-in-Body c =
    let some : 0 < length c.in-Body.bytes = grind (arith, nat_tests) in
    goes_as c.args.out.now.items _ _ None _ _ Last Last c.in-Body.is refl refl (bytes_are_last c.args.out.now.items c.in-Body.bytes some)

pub returns-in-End : goal.returns-in-End
returns-in-End c = goes_as c.args.out.now.items _ _ None _ _ Last Last c.in-End.is refl refl (end_is_last c.args.out.now.items c.in-End.close)

pub returns : goal.returns
returns c = goes_as c.args.out.now.items _ _ None _ _ Last Last c.in-Bad.is refl c.in_ok-refuse-in-Bad.ensures (bad_is_last c.args.out.now.items c.in-Bad.cause)
