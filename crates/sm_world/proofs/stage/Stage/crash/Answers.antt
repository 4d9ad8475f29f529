use Rattle.std.proofs.Common.{◌≡◌, ◌%◌, [], ◌∷◌, ap, arith, refl, sym, ◌∙◌, append-nil}
use Rattle.sm_world.specs.Deeds.{before_a}
use Rattle.sm_world.specs.Deeds.Deed.{Crashes, Pushes, Stops}
use Rattle.sm_world.specs.declared.kind.Kind.TheVariants.{Crash}
use Rattle.sm_world.specs.Rounds.{drawn}
use Rattle.sm_world.proofs.Staging.{pushed_as, pushed_then, quiet}
use Rattle.sm_world.proofs.stage.Stage.crash.Goals as goal

pub returns-clause-pushed : goal.returns-clause-pushed
returns-clause-pushed c =
    let a = c.args.self.now in
    let stop = c.stop_disk.ensures.stop in
    let crash = c.crash_by.ensures.crash in
    let chance = c.draw-chance.result in
    let b = record a { dial = c.stop_disk.new.self } in
    let d = c.push_stopped.new.self in
    let e = record d { dial = c.crash_by.new.self } in
    let stopped = quiet a b refl refl refl (Stops (chance % 12)) 0 refl stop (ap (λ (d : _). d.made) stop.dialing) refl refl
    (λ low. (let e = ap (λ (d : _). d.crashes) stop.dialing in omega (arith, e)))
    (λ w stands. (w, c.stop_disk.ensures.stands w stands, refl, ([], sym (append-nil w.log)))) in
    let crashed = quiet d e refl refl refl (Crashes (chance % 4)) 1 refl crash (ap (λ (d : _). d.made) crash.dialing) refl refl
    (λ low. (let e = ap (λ (d : _). d.crashes) crash.dialing in omega (arith, e, low)))
    (λ w stands. (let x = c.crash_by.ensures.crashes w stands in (x.0, x.1, x.2.first, (x.2.more, x.2.log)))) in
    let drew : chance ≡ drawn c.draw-chance.new.self.state = c.draw-chance.ensures.drawn in
    pushed_as a e (Stops (chance % 12) ∷ Pushes 3 c.args.body.now ∷ Crashes (chance % 4) ∷ []) _ 1 1 0 0 3 3
    (ap (λ (n : _). before_a Crash c.args.body.now n) (drew ∙ ap drawn c.draw-chance.ensures.state)) refl refl (omega arith)
    (pushed_then a d e (Stops (chance % 12) ∷ Pushes 3 c.args.body.now ∷ []) (Crashes (chance % 4) ∷ []) 0 1 0 0 3 0
    (pushed_then a b d (Stops (chance % 12) ∷ []) (Pushes 3 c.args.body.now ∷ []) 0 0 0 0 0 3 stopped c.in_ok-push_stopped.ensures) crashed)
