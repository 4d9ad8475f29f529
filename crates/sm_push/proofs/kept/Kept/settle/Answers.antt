use Rattle.std.proofs.Common.{◌≡◌, ◌≤◌, ℕ, List, subst, sym, refl, arith, length}
use Rattle.sm_push.specs.declared.state.BoxDecision.TheVariants.{Take, Pass, Refuse}
use Rattle.sm_model.specs.Boxes.{IsOneBox}
use Rattle.sm_push.specs.PushHeads.{decision}
use Rattle.sm_push.specs.PushBoxes.{taken}
use Rattle.sm_push.specs.Steps.{Takes, HoldsBoxes}
use Rattle.sm_push.specs.Held.{most_of}
use Rattle.sm_push.proofs.Limits.{take_limited}
use Rattle.sm_push.proofs.Stable.{taken_whole}
use Rattle.sm_push.proofs.Steps.{passed_settles, refused_settles, box_settles, box_partial, empty_partial, box_grows}
use Rattle.sm_push.proofs.kept.Kept.settle.Goals as goal

pub take-requires-clause-whole : goal.take-requires-clause-whole
take-requires-clause-whole c =
    let e : decision c.args.self.now.state c.args.self.now.held ≡ Take c.in-Take.sort c.in-Take.size = cc in
    let fits : length c.args.self.now.held ≤ c.in-Take.size = rw e at c.requires.fits in
    let whole : length c.args.self.now.held ≡ c.in-Take.size = omega arith in
    subst IsOneBox (sym c.take-whole.ensures.taken) (taken_whole c.args.self.now.state c.args.self.now.held c.in-Take.sort c.in-Take.size e whole)

pub take-requires-clause-short : goal.take-requires-clause-short
take-requires-clause-short c =
    let e : decision c.args.self.now.state c.args.self.now.held ≡ Take c.in-Take.sort c.in-Take.size = cc in
    let fits : length c.args.self.now.held ≤ c.in-Take.size = rw e at c.requires.fits in
    let short : length c.args.self.now.held ≤ most_of c.in-Take.sort = omega (arith, fits, take_limited c.args.self.now.state c.args.self.now.held c.in-Take.sort c.in-Take.size e) in
    subst (λ (b : List ℕ). length b ≤ most_of c.in-Take.sort) (sym c.take-whole.ensures.taken) short

pub returns-in-Refuse-clause-settles : goal.returns-in-Refuse-clause-settles
returns-in-Refuse-clause-settles c =
    let e : decision c.args.self.now.state c.args.self.now.held ≡ Refuse c.in-Refuse.cause = cc in
    rw c.refuse.ensures (λ more. refused_settles c.args.self.now.state c.args.self.now.held more c.args.self.now.skip c.in-Refuse.cause c.requires.here e)

pub returns-in-Pass-clause-settles : goal.returns-in-Pass-clause-settles
returns-in-Pass-clause-settles c more =
    let e : decision c.args.self.now.state c.args.self.now.held ≡ Pass c.in-Pass.size = cc in
    rw c.pass.ensures (passed_settles c.args.self.now.state c.args.self.now.held c.clear.new.self more c.args.self.now.skip _ c.in-Pass.size c.requires.here e c.requires.fits c.clear.ensures
    (omega arith))

pub returns-in-Pass-clause-partial : goal.returns-in-Pass-clause-partial
returns-in-Pass-clause-partial c =
    let boxes : HoldsBoxes c.pass.new.state = rw c.pass.ensures (record { stage = c.requires.boxes.stage; moof = c.requires.boxes.moof }) in
    empty_partial c.pass.new.state c.clear.new.self _ c.clear.ensures boxes

pub returns-else-len-size-clause-settles : goal.returns-else-len-size-clause-settles
returns-else-len-size-clause-settles c =
    let e : decision c.args.self.now.state c.args.self.now.held ≡ Take c.in-Take.sort c.in-Take.size = cc in
    let step : Takes c.take.new.state c.take.result (taken c.args.self.now.state c.in-Take.sort c.args.self.now.held) = rw c.take-whole.ensures.taken at c.take.ensures.takes in
    box_settles c.args.self.now (record { state = c.take.new.state; held = c.take-whole.new.self; skip = c.args.self.now.skip }) c.in-Take.sort c.in-Take.size c.take.result c.requires.here e
    c.requires.fits (omega arith) step c.take.ensures.header c.take-whole.ensures.left refl

pub returns-else-len-size-clause-partial : goal.returns-else-len-size-clause-partial
returns-else-len-size-clause-partial c = box_partial c.take.new.state c.take-whole.new.self c.args.self.now.skip c.take.result c.take-whole.ensures.left c.take.ensures.boxes

pub returns-else-len-size-clause-grows : goal.returns-else-len-size-clause-grows
returns-else-len-size-clause-grows c =
    let step : Takes c.take.new.state c.take.result (taken c.args.self.now.state c.in-Take.sort c.args.self.now.held) = rw c.take-whole.ensures.taken at c.take.ensures.takes in
    box_grows c.args.self.now.state c.take.new.state c.in-Take.sort c.args.self.now.held c.take.result step
