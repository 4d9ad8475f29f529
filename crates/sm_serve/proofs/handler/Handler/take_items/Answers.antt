use Rattle.std.proofs.Common.{rules, ◌≡◌, ◌+◌, ℕ, List, [], ◌++◌, ◌∷◌, length, drop, refl, sym, ◌∙◌, subst, arith}
use Rattle.std.specs.Prelude.{map}
use Rattle.std.proofs.lemmas.Iterator.Adapters.{YieldsList-from_vec}
use Rattle.std.proofs.lemmas.Iterator.Consumers.{YieldsList-turn, YieldsList-end}
use Rattle.std.proofs.lemmas.List.{length_push}
use Rattle.sm_model.specs.declared.item.Item.{Item}
use Rattle.sm_wire.specs.declared.item.WireItem.{WireItem}
use Rattle.sm_serve.specs.declared.still.Still.TheVariants.{Open, Closed}
use Rattle.sm_serve.specs.Resting.{SameBut}
use Rattle.sm_serve.specs.Items.{shown_item}
use Rattle.sm_serve.specs.Giving.{Comes}
use Rattle.sm_serve.proofs.Steps.{but_lasts, here_leaves, both_leave, may_still}
use Rattle.sm_serve.proofs.Lists.{next_shown, drop_all}
use Rattle.sm_serve.proofs.Reaching.{comes_here, comes_then}
use Rattle.sm_serve.proofs.handler.Handler.take_items.Goals as goal

pub returns-in-Closed-clause-goes_on : goal.returns-in-Closed-clause-goes_on
returns-in-Closed-clause-goes_on g c h more at =
    let n = c.args.self.now.live.now.number in
    let items = c.args.items.items in
    let gives = c.into_iter-item-iterator.ensures.into_iter_gives in
    let t = YieldsList-turn (YieldsList-from_vec items gives.0 (gives.1 ∙ search rules)) c.loop-item.yielded c.loop-item.item-iterator c.loop-item.yielded_by _ c.next.new.self c.in-Some.item c.in-Some.is c.next.ensures.steps in
    let i = length c.loop-item.yielded in
    let rest = map shown_item (drop (i + 1) items) ++ more in
    let was = subst (λ (ws : List WireItem). Comes g.S.Disk.seen h n Open ws c.loop-item.self) (next_shown items i c.in-Some.item more t.0 t.1) (c.loop-item.invariant.goes_on h more at) in
    comes_then g.S.Disk.seen h n Closed (shown_item c.in-Some.item ∷ rest) more c.loop-item.self c.take_item.new.self c.loop-item.invariant.leaves.same.number was
    (λ k here. c.in-Closed.ensures.goes_on k rest here)

pub loop-item-preserved : goal.loop-item-preserved
loop-item-preserved g c =
    let n = c.args.self.now.live.now.number in
    let items = c.args.items.items in
    let gives = c.into_iter-item-iterator.ensures.into_iter_gives in
    let t = YieldsList-turn (YieldsList-from_vec items gives.0 (gives.1 ∙ search rules)) c.loop-item.yielded c.loop-item.item-iterator c.loop-item.yielded_by _ c.next.new.self c.in-Some.item c.in-Some.is c.next.ensures.steps in
    let i = length c.loop-item.yielded in
    record {
      leaves = both_leave g.S.Disk.seen but_lasts c.loop-item.invariant.leaves c.in-Open.ensures.leaves;
      goes_on = λ h more at.
          let rest = map shown_item (drop (i + 1) items) ++ more in
          let was = subst (λ (ws : List WireItem). Comes g.S.Disk.seen h n Open ws c.loop-item.self) (next_shown items i c.in-Some.item more t.0 t.1) (c.loop-item.invariant.goes_on h more at) in
          subst (λ (j : ℕ). Comes g.S.Disk.seen h n Open (map shown_item (drop j items) ++ more) c.take_item.new.self) (sym (length_push c.loop-item.yielded c.in-Some.item))
          (comes_then g.S.Disk.seen h n Open (shown_item c.in-Some.item ∷ rest) rest c.loop-item.self c.take_item.new.self c.loop-item.invariant.leaves.same.number was
          (λ k here. c.in-Open.ensures.goes_on k rest here));
    }

pub returns-clause-goes_on : goal.returns-clause-goes_on
returns-clause-goes_on g c h more at =
    let items = c.args.items.items in
    let gives = c.into_iter-item-iterator.ensures.into_iter_gives in
    let t = YieldsList-end (YieldsList-from_vec items gives.0 (gives.1 ∙ search rules)) c.loop-item.yielded c.loop-item.item-iterator c.loop-item.yielded_by _ c.next.new.self c.in-None.is c.next.ensures.steps in
    let none : drop (length c.loop-item.yielded) items ≡ [] = drop_all (length c.loop-item.yielded) items (omega (arith, t.1)) in
    subst (λ (ys : List Item). Comes g.S.Disk.seen h c.args.self.now.live.now.number Open (map shown_item ys ++ more) c.loop-item.self) none (c.loop-item.invariant.goes_on h more at)

pub loop-item-init : goal.loop-item-init
loop-item-init g c = record {
  leaves = here_leaves g.S.Disk.seen SameBut c.args.self.now c.args.self.now.live.now Open (record { number = refl; conn = refl; push = refl }) c.requires.may;
  goes_on = λ h more at. comes_here g.S.Disk.seen h (map shown_item c.args.items.items ++ more) c.args.self.now at;
}

pub take_item-requires-clause-may : goal.take_item-requires-clause-may
take_item-requires-clause-may g c = may_still g.S.Disk.seen but_lasts c.loop-item.invariant.leaves
