use Rattle.std.proofs.Common.{rules, ◌+◌, ◌≤◌, ℕ, List, ◌++◌, length, take, drop, refl, sym, ◌∙◌, subst, arith}
use Rattle.std.proofs.lemmas.Iterator.Adapters.{YieldsList-from_vec}
use Rattle.std.proofs.lemmas.Iterator.Consumers.{YieldsList-turn, YieldsList-end}
use Rattle.std.proofs.lemmas.List.{length_push, take_all}
use Rattle.sm_conn.specs.declared.part.Part.{Part}
use Rattle.sm_conn.specs.Stands.{items_of, joined}
use Rattle.sm_conn.specs.Parts.{PartItem}
use Rattle.sm_serve.specs.declared.still.Still.TheVariants.{Open, Closed}
use Rattle.sm_serve.specs.Resting.{SameConn}
use Rattle.sm_serve.specs.Giving.{StaysOpen}
use Rattle.sm_serve.proofs.Steps.{conn_lasts, here_leaves, both_leave, may_still}
use Rattle.sm_serve.proofs.Lists.{joined_drop, joined_take, drop_all}
use Rattle.sm_serve.proofs.Giving.{open_here, then_gives}
use Rattle.sm_serve.proofs.handler.Handler.take_parts.Goals as goal

pub loop-part-init : goal.loop-part-init
loop-part-init g c = record {
  leaves = here_leaves g.S.Disk.seen SameConn c.args.self.now c.args.self.now.live.now Open (record { number = refl; conn = refl }) c.requires.may;
  goes_on = λ place h more items here is left. open_here g.S.Disk.seen h place (joined c.args.parts.items ++ more) items c.args.self.now here is left;
}

pub returns-in-Closed-clause-goes_on : goal.returns-in-Closed-clause-goes_on
returns-in-Closed-clause-goes_on g c place h more items here is left =
    let n = c.args.self.now.live.now.number in
    let parts = c.args.parts.items in
    let gives = c.into_iter-part-iterator.ensures.into_iter_gives in
    let t = YieldsList-turn (YieldsList-from_vec parts gives.0 (gives.1 ∙ search rules)) c.loop-part.yielded c.loop-part.part-iterator c.loop-part.yielded_by _ c.next.new.self c.in-Some.part c.in-Some.is c.next.ensures.steps in
    let i = length c.loop-part.yielded in
    let x = c.in-Some.part in
    let rest = joined (drop (i + 1) parts) ++ more in
    let one = subst (λ (qs : List PartItem). StaysOpen g.S.Disk.seen h n place (joined (take i parts)) qs c.loop-part.self) (joined_drop parts i x more t.0 t.1)
    (c.loop-part.invariant.goes_on place h more items here is left) in
    then_gives g.S.Disk.seen h n Closed place (joined (take i parts)) (items_of x) rest c.loop-part.self c.take_part.new.self c.loop-part.invariant.leaves.same.number one
    (λ k there. c.in-Closed.ensures.goes_on one.after k rest one.left there one.after_is one.left_is)

pub loop-part-preserved : goal.loop-part-preserved
loop-part-preserved g c =
    let n = c.args.self.now.live.now.number in
    let parts = c.args.parts.items in
    let gives = c.into_iter-part-iterator.ensures.into_iter_gives in
    let t = YieldsList-turn (YieldsList-from_vec parts gives.0 (gives.1 ∙ search rules)) c.loop-part.yielded c.loop-part.part-iterator c.loop-part.yielded_by _ c.next.new.self c.in-Some.part c.in-Some.is c.next.ensures.steps in
    let i = length c.loop-part.yielded in
    let x = c.in-Some.part in
    record {
      leaves = both_leave g.S.Disk.seen conn_lasts c.loop-part.invariant.leaves c.in-Open.ensures.leaves;
      goes_on = λ place h more items here is left.
          let rest = joined (drop (i + 1) parts) ++ more in
          let one = subst (λ (qs : List PartItem). StaysOpen g.S.Disk.seen h n place (joined (take i parts)) qs c.loop-part.self) (joined_drop parts i x more t.0 t.1)
          (c.loop-part.invariant.goes_on place h more items here is left) in
          let all = then_gives g.S.Disk.seen h n Open place (joined (take i parts)) (items_of x) rest c.loop-part.self c.take_part.new.self c.loop-part.invariant.leaves.same.number one
          (λ k there. c.in-Open.ensures.goes_on one.after k rest one.left there one.after_is one.left_is) in
          subst (λ (j : ℕ). StaysOpen g.S.Disk.seen h n place (joined (take j parts)) (joined (drop j parts) ++ more) c.take_part.new.self) (sym (length_push c.loop-part.yielded x))
          (subst (λ (ps : List PartItem). StaysOpen g.S.Disk.seen h n place ps rest c.take_part.new.self) (sym (joined_take parts i x t.0 t.1)) all);
    }

pub returns-clause-goes_on : goal.returns-clause-goes_on
returns-clause-goes_on g c place h more items here is left =
    let n = c.args.self.now.live.now.number in
    let parts = c.args.parts.items in
    let gives = c.into_iter-part-iterator.ensures.into_iter_gives in
    let t = YieldsList-end (YieldsList-from_vec parts gives.0 (gives.1 ∙ search rules)) c.loop-part.yielded c.loop-part.part-iterator c.loop-part.yielded_by _ c.next.new.self c.in-None.is c.next.ensures.steps in
    let i = length c.loop-part.yielded in
    let long : length parts ≤ i = omega (arith, t.1) in
    subst (λ (ps : List Part). StaysOpen g.S.Disk.seen h n place (joined ps) more c.loop-part.self) (take_all i parts long)
    (subst (λ (ps : List Part). StaysOpen g.S.Disk.seen h n place (joined (take i parts)) (joined ps ++ more) c.loop-part.self) (drop_all i parts long)
    (c.loop-part.invariant.goes_on place h more items here is left))

pub take_part-requires : goal.take_part-requires
take_part-requires g c = record { may = may_still g.S.Disk.seen conn_lasts c.loop-part.invariant.leaves }
