use Rattle.std.proofs.Common.{◌≡◌, ⊎_elim, ◌+◌, ◌*◌, ℕ, List, refl, ap, ◌∙◌}
use Rattle.sm_world.specs.Deeds.{body_of_a, body_of_b}
use Rattle.sm_world.specs.declared.kind.Kind.TheVariants.{Known, Clash, Overlap, Crash, Same, Alone}
use Rattle.sm_world.proofs.Staging.{pushed_by_b, silent_b}
use Rattle.sm_world.proofs.stage.Stage.push_of_b.Goals as goal

pub returns-in_ok-other-in-Known : goal.returns-in_ok-other-in-Known
returns-in_ok-other-in-Known c =
    pushed_by_b c.args.self.now c.push_taken.new.self c.push_taken.result 1 c.deref.result.now (body_of_b c.args.self.now.header (20000000 * c.args.i) 20000000) c.args.kind Known c.args.i 0
    (c.deref.ensures.value ∙ c.in_ok-other-in-Known.ensures ∙ ap (λ (h : List ℕ). body_of_b h (20000000 * c.args.i) 20000000) c.as_slice-header.ensures) c.in-Known.is refl refl c.push_taken.ensures

pub returns-in_ok-other-in-Clash : goal.returns-in_ok-other-in-Clash
returns-in_ok-other-in-Clash c =
    pushed_by_b c.args.self.now c.push_refused.new.self c.push_refused.result 1 c.deref-in-Clash.result.now (body_of_b c.args.self.now.header (20000000 * c.args.i) 1) c.args.kind Clash c.args.i 1
    (c.deref-in-Clash.ensures.value ∙ c.in_ok-other-in-Clash.ensures ∙ ap (λ (h : List ℕ). body_of_b h (20000000 * c.args.i) 1) c.as_slice-header.ensures) c.in-Clash.is refl refl c.push_refused.ensures

pub returns-in_ok-other-in-Overlap : goal.returns-in_ok-other-in-Overlap
returns-in_ok-other-in-Overlap c = pushed_by_b c.args.self.now c.push_refused-in-Overlap.new.self c.push_refused-in-Overlap.result 1
    c.deref-in-Overlap.result.now (body_of_b c.args.self.now.header (20000000 * c.args.i + 1) 20000000) c.args.kind Overlap c.args.i 1
    (c.deref-in-Overlap.ensures.value ∙ c.in_ok-other-in-Overlap.ensures ∙ ap (λ (h : List ℕ). body_of_b h (20000000 * c.args.i + 1) 20000000) c.as_slice-header.ensures) c.in-Overlap.is refl refl c.push_refused-in-Overlap.ensures

pub returns-in-Same : goal.returns-in-Same
returns-in-Same c = pushed_by_b c.args.self.now c.push_taken-in-Same.new.self c.push_taken-in-Same.result 3 c.args.body.now (body_of_a c.args.self.now.header c.args.i) c.args.kind Same c.args.i 0
    c.requires.of_a c.in-Same.is refl refl c.push_taken-in-Same.ensures

pub returns-in-Crash : goal.returns-in-Crash
returns-in-Crash c = ⊎_elim
    (λ (is : c.args.kind ≡ Crash). silent_b c.args.self.now c.args.kind Crash c.args.i 0 refl is refl refl)
    (λ (is : c.args.kind ≡ Alone). silent_b c.args.self.now c.args.kind Alone c.args.i 0 refl is refl refl)
    c.in-Crash.is
