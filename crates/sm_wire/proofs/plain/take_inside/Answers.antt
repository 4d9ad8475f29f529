use Rattle.std.proofs.Common.{◌≡◌, ◌∙◌, ap, refl, true, false, Some, ◌++◌, List, ℕ, []}
use Rattle.sm_conn.specs.declared.part.Part.TheVariants as part
use Rattle.sm_wire.specs.declared.plain.Behind.TheVariants.{More, Last}
use Rattle.sm_wire.specs.Wire.{wire}
use Rattle.sm_wire.proofs.PartLaw.{goes_as, given_as, bytes_go, refused_end, end_goes, refused_bad, bad_goes, stray_is_last}
use Rattle.sm_wire.proofs.plain.take_inside.Goals as goal

pub returns-then-not-branch : goal.returns-then-not-branch
returns-then-not-branch c =
    goes_as c.args.out.now.items _ _ (Some c.args.bytes) _ _ Last Last c.in-End.is refl refl
    (refused_end c.args.out.now.items c.give_push.new.out.items c.args.bytes c.in-End.close
    (given_as _ _ true _ false _ _ c.as_slice-in-End.ensures c.if-not-branch.true c.in_ok-give_push-in-End.ensures))

pub returns-then-not-branch-2 : goal.returns-then-not-branch-2
returns-then-not-branch-2 c =
    goes_as c.args.out.now.items _ _ (Some c.args.bytes) _ _ Last Last c.in-Bad.is refl refl
    (refused_bad c.args.out.now.items c.give_push-in-Bad.new.out.items c.args.bytes c.in-Bad.cause
    (given_as _ _ false _ false _ _ c.as_slice-in-Bad.ensures c.if-not-branch-2.true c.in_ok-give_push-in-Bad.ensures))

pub returns-in_ok-extend_from_slice-in-Body : goal.returns-in_ok-extend_from_slice-in-Body
returns-in_ok-extend_from_slice-in-Body c =
    let before = c.args.out.now.items in
    let joined : c.from_vec.result ≡ c.args.bytes ++ c.in-Body.piece =
    c.from_vec.ensures ∙ c.in_ok-extend_from_slice-in-Body.ensures.items ∙ ap (λ x. x ++ c.as_slice.result.now) c.in_ok-all-in-Body.ensures ∙ ap (λ y. c.args.bytes ++ y) c.as_slice.ensures in
    goes_as before before before (Some c.args.bytes) _ _ (More (Some c.from_vec.result)) _ c.in-Body.is (ap (λ b. More (Some b)) joined) refl (bytes_go before c.args.bytes c.in-Body.piece)

pub returns-in_ok-push-in-End : goal.returns-in_ok-push-in-End
returns-in_ok-push-in-End c =
    goes_as c.args.out.now.items _ _ (Some c.args.bytes) _ _ _ _ c.in-End.is c.unless_closed.ensures refl
    (end_goes c.args.out.now.items c.give_push.new.out.items c.push.new.self.items c.args.bytes c.in-End.close
    (given_as _ _ true _ true _ _ c.as_slice-in-End.ensures c.if-not-branch.false c.in_ok-give_push-in-End.ensures) c.in_ok-push-in-End.ensures.items)

pub returns-in_ok-refuse-in-Bad : goal.returns-in_ok-refuse-in-Bad
returns-in_ok-refuse-in-Bad c =
    goes_as c.args.out.now.items _ _ (Some c.args.bytes) _ _ Last Last c.in-Bad.is refl refl
    (bad_goes c.args.out.now.items c.give_push-in-Bad.new.out.items c.refuse.new.out.items c.args.bytes c.in-Bad.cause
    (given_as _ _ false _ true _ _ c.as_slice-in-Bad.ensures c.if-not-branch-2.false c.in_ok-give_push-in-Bad.ensures) c.in_ok-refuse-in-Bad.ensures)

pub returns-in_ok-cut_push-in-Get : goal.returns-in_ok-cut_push-in-Get
returns-in_ok-cut_push-in-Get c =
    let before = c.args.out.now.items in
    goes_as before _ _ (Some c.args.bytes) _ _ Last Last c.in-Get.is refl refl
    (stray_is_last before c.cut_push.new.out.items c.args.bytes (part.Get c.in-Get.target c.in-Get.close) tt (c.in_ok-cut_push-in-Get.ensures ∙ ap (λ (b : List ℕ). before ++ wire (Some b) []) c.as_slice-in-Get.ensures))

pub returns-in_ok-cut_push-in-Continue : goal.returns-in_ok-cut_push-in-Continue
returns-in_ok-cut_push-in-Continue c =
    let before = c.args.out.now.items in
    goes_as before _ _ (Some c.args.bytes) _ _ Last Last c.in-Continue.is refl refl
    (stray_is_last before c.cut_push-in-Continue.new.out.items c.args.bytes part.Continue tt (c.in_ok-cut_push-in-Continue.ensures ∙ ap (λ (b : List ℕ). before ++ wire (Some b) []) c.as_slice-in-Continue.ensures))

pub returns-in_ok-cut_push-in-Post : goal.returns-in_ok-cut_push-in-Post
returns-in_ok-cut_push-in-Post c =
    let before = c.args.out.now.items in
    goes_as before _ _ (Some c.args.bytes) _ _ Last Last c.in-Post.is refl refl
    (stray_is_last before c.cut_push-in-Post.new.out.items c.args.bytes part.Post tt (c.in_ok-cut_push-in-Post.ensures ∙ ap (λ (b : List ℕ). before ++ wire (Some b) []) c.as_slice-in-Post.ensures))
