use Rattle.std.proofs.Common.{◌≡◌, ◌<◌, length, sym, ◌∙◌, arith}
use Rattle.std.specs.Prelude.{Some, codes, true}
use Rattle.sm_box.specs.Heads.{head_of}
use Rattle.sm_box.specs.declared.head.Head.TheVariants.{Whole}
use Rattle.sm_model.specs.Same.{is_same}
use Rattle.sm_push.specs.declared.state.BoxDecision.TheVariants.{Take}
use Rattle.sm_push.specs.declared.state.TopBox.TheVariants.{Mdat}
use Rattle.sm_push.specs.PushHeads.{decision}
use Rattle.sm_pick.proofs.Passing.{coming, head_inside, still_open, moof_short, lengths_fit}
use Rattle.sm_pick.proofs.skim.Skim.passable.Goals as goal

pub overflow_sub-size : goal.overflow_sub-size
overflow_sub-size c =
    let s = c.args.self.now.kept.state in
    let h = c.args.self.now.kept.held in
    let taken : decision s h ≡ Take Mdat c.in-Take-Mdat-default.size = cc in
    let read : head_of h ≡ Whole c.in-Whole.kind c.in-Whole.head c.in-Whole.size = cc in
    let lt : length h < c.in-Take-Mdat-default.size = still_open s h _ c.requires.due taken in
    head_inside s h _ _ _ _ taken read (omega (arith, lt))

pub samples_fit-requires : goal.samples_fit-requires
samples_fit-requires c =
    let s = c.args.self.now.kept.state in
    let h = c.args.self.now.kept.held in
    let taken : decision s h ≡ Take Mdat c.in-Take-Mdat-default.size = cc in
    let read : head_of h ≡ Whole c.in-Whole.kind c.in-Whole.head c.in-Whole.size = cc in
    let waits : s.moof ≡ Some c.in-Some.moof = cc in
    record { short = lengths_fit s h _ _ _ _ c.in-Some.moof c.requires.due taken read (moof_short s.moof c.in-Some.moof c.requires.boxes.moof waits) }

pub returns-then-samples_fit : goal.returns-then-samples_fit
returns-then-samples_fit c =
    let s = c.args.self.now.kept.state in
    let h = c.args.self.now.kept.held in
    let taken : decision s h ≡ Take Mdat c.in-Take-Mdat-default.size = cc in
    let read : head_of h ≡ Whole c.in-Whole.kind c.in-Whole.head c.in-Whole.size = cc in
    let kind : true ≡ is_same c.in-Whole.kind (codes "mdat") = sym c.if-is_same.true ∙ c.is_same.ensures in
    record {
      moof = c.in-Some.moof;
      waits = cc;
      other = sym c.is_at.ensures ∙ c.if-is_at.false;
      begun = taken;
      short = still_open s h _ c.requires.due taken;
      comes = λ rest whole. coming s c.in-Some.moof h rest c.in-Whole.kind c.in-Whole.head c.in-Whole.size c.in-Take-Mdat-default.size taken read kind
          (λ body e. sym c.if-samples_fit.true ∙ c.samples_fit.ensures body e) whole;
    }
