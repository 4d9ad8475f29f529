use Rattle.std.proofs.Common.{◌≡◌, ap, arith, refl, subst}
use Rattle.sm_world.specs.Told.{Says, known_by, refused_by}
use Rattle.sm_world.specs.declared.told.Told.TheVariants as told
use Rattle.sm_world.proofs.Staging.{has_pushed}
use Rattle.sm_world.proofs.stage.Stage.push.Goals as goal

pub returns-in-Taken : goal.returns-in-Taken
returns-in-Taken c = has_pushed _ _ refl refl refl c.args.body.now c.push_body-pushed.result (told.Taken c.in-Taken.known) c.args.fragments
    c.push_body-pushed.ensures.asked (subst (Says c.args.fragments c.push_body-pushed.result) c.in-Taken.is c.in_ok-told.ensures) c.requires.few
    refl (omega arith) c.push_body-pushed.ensures.dial.on.goes_on

pub returns-in-Refused : goal.returns-in-Refused
returns-in-Refused c =
    let k : known_by c.in_ok-told.told ≡ 0 = ap known_by c.in-Refused.is in
    let r : refused_by c.in_ok-told.told ≡ 1 = ap refused_by c.in-Refused.is in
    has_pushed _ _ refl refl refl c.args.body.now c.push_body-pushed.result c.in_ok-told.told c.args.fragments
    c.push_body-pushed.ensures.asked c.in_ok-told.ensures c.requires.few (omega (arith, k)) (omega (arith, r)) c.push_body-pushed.ensures.dial.on.goes_on

pub returns-in-Failed : goal.returns-in-Failed
returns-in-Failed c =
    let k : known_by c.in_ok-told.told ≡ 0 = ap known_by c.in-Failed.is in
    let r : refused_by c.in_ok-told.told ≡ 0 = ap refused_by c.in-Failed.is in
    has_pushed _ _ refl refl refl c.args.body.now c.push_body-pushed.result c.in_ok-told.told c.args.fragments
    c.push_body-pushed.ensures.asked c.in_ok-told.ensures c.requires.few (omega (arith, k)) (omega (arith, r)) c.push_body-pushed.ensures.dial.on.goes_on
