use Rattle.std.proofs.Common.{◌≡◌, ◌≢◌, ◌∙◌, ap, sym, subst, arith, true, ℕ, List, [], ◌++◌, drop, refl}
use Rattle.std.proofs.lemmas.List.{append-nil}
use Rattle.sm_body.specs.declared.place.Place.{Place}
use Rattle.sm_body.specs.declared.place.Place.TheVariants.{Failed}
use Rattle.sm_conn.specs.declared.conn.State.{State}
use Rattle.sm_conn.specs.Live.{is_live, hasnt_failed}
use Rattle.sm_conn.specs.Parts.{PartItem, Mode, in_head, in_body, shut, Reads}
use Rattle.sm_conn.specs.Stands.{mode_at, mode_from, rank}
use Rattle.sm_conn.proofs.PartsLaw.{nothing_yet}
use Rattle.sm_conn.proofs.ActLaw.{joined_push, skip_act, body_act, end_act, more_act, bad_act}
use Rattle.sm_conn.proofs.conn.Conn.act.Goals as goal

not_failed : (p : Place) → hasnt_failed p ≡ true → p ≢ Failed
not_failed p live e = absurd (cc (ap hasnt_failed (sym e) ∙ live))

nothing_added : (i : List PartItem) → i ≡ i ++ []
nothing_added i = sym (append-nil i)

pub returns-in-Closed : goal.returns-in-Closed
returns-in-Closed c =
    ([], nothing_added _, shut _ _ c.args.bytes.now [] (ap mode_at c.in-Closed.is) refl (ap (λ (s : State). mode_from s c.args.self.now.kept.items) c.in-Closed.is))

pub returns-then-is_empty : goal.returns-then-is_empty
returns-then-is_empty c =
    let at : mode_at c.args.self.now.state ≡ in_head [] = ap mode_at c.in-Head.is in
    let behind = ap (λ (s : State). mode_from s c.clear.new.self.items) c.in-Head.is ∙ ap (λ (k : List ℕ). in_head k) c.clear.ensures.items in
    ([], nothing_added _, nothing_yet _ _ c.args.bytes.now (sym c.is_empty.ensures ∙ c.if-is_empty.true) at behind)

pub returns-in-Skip : goal.returns-in-Skip
returns-in-Skip c =
    let b = c.in-Body in
    let at : mode_at c.args.self.now.state ≡ in_body b.framer.place b.close = ap mode_at b.is in
    let near : rank c.args.self.now.state ≡ 1 = ap rank b.is in
    let g = c.in-Skip.ensures in
    (g.2, omega (arith, g.1, g.2), [], nothing_added _, skip_act _ b.framer.place c.step.new.self.place b.close c.args.bytes.now c.in-Skip.count at g.0 g.1 g.3)

pub returns-in_ok-push-in-Body-step : goal.returns-in_ok-push-in-Body-step
returns-in_ok-push-in-Body-step c =
    let b = c.in-Body in
    let at : mode_at c.args.self.now.state ≡ in_body b.framer.place b.close = ap mode_at b.is in
    let near : rank c.args.self.now.state ≡ 1 = ap rank b.is in
    let g = c.in-Body-step.ensures in (
      omega (arith, g.2),
      omega (arith, g.1, g.2),
      _,
      joined_push _ _ _ c.in_ok-push-in-Body-step.ensures.items,
      body_act _ b.framer.place c.step.new.self.place b.close c.args.bytes.now _ c.in-Body-step.count at g.3 g.4 c.in_ok-from_slice-in-Body-step.ensures,
    )

pub returns-in_ok-push-in-End : goal.returns-in_ok-push-in-End
returns-in_ok-push-in-End c =
    let b = c.in-Body in
    let at : mode_at c.args.self.now.state ≡ in_body b.framer.place b.close = ap mode_at b.is in
    let near : rank c.args.self.now.state ≡ 1 = ap rank b.is in
    let g = c.in-End.ensures in (
      g.2,
      omega (arith, g.1, g.2, c.behind_item-self.ensures.low),
      _,
      joined_push _ _ _ c.in_ok-push-in-End.ensures.items,
      λ items last next. end_act _ b.framer.place b.close c.args.bytes.now c.in-End.count at g.0 g.1 g.3 items last
          (subst (λ (m : Mode). Reads m (drop c.in-End.count c.args.bytes.now) items last) c.behind_item-self.ensures.leads next),
    )

pub returns-in-More : goal.returns-in-More
returns-in-More c =
    let b = c.in-Body in
    let at : mode_at c.args.self.now.state ≡ in_body b.framer.place b.close = ap mode_at b.is in
    let g = c.in-More.ensures in
    ([], nothing_added _, more_act _ b.framer.place c.step.new.self.place b.close c.args.bytes.now at g.0 g.1 g.2 g.3)

pub returns-in_ok-push-in-Bad : goal.returns-in_ok-push-in-Bad
returns-in_ok-push-in-Bad c =
    let b = c.in-Body in
    let at : mode_at c.args.self.now.state ≡ in_body b.framer.place b.close = ap mode_at b.is in
    let g = c.in-Bad.ensures in
    (_, joined_push _ _ _ c.in_ok-push-in-Bad.ensures.items, bad_act _ b.framer.place b.close c.args.bytes.now at (not_failed b.framer.place (ap is_live (sym b.is) ∙ c.args.self.now.live)) g.2)
