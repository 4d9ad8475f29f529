use Rattle.std.proofs.Common.{rules, arith, ◌≤◌, [], List, length, ap, ◌∙◌}
use Rattle.sm_site.specs.declared.step.Pending.{Pending}
use Rattle.sm_site.specs.Past.{undone, ranges_from}
use Rattle.sm_site.proofs.Kept.{forget_ranges, forget_own, forget_others, kept_all}
use Rattle.sm_site.proofs.pending.forget.Goals as goal

pub returns-clause-ranges : goal.returns-clause-ranges
returns-clause-ranges c =
    let most : length c.loop-i.pending.items ≤ c.loop-i.i = search (rules, arith) in
    let kept = kept_all c.args.file c.loop-i.pending.items c.args.pending.now.items c.loop-i.i most c.loop-i.invariant.same in
    ap (λ (l : List Pending). ranges_from [] l) kept ∙ forget_ranges c.args.file [] c.args.pending.now.items

pub returns-clause-own : goal.returns-clause-own
returns-clause-own c = λ bytes.
    let most : length c.loop-i.pending.items ≤ c.loop-i.i = search (rules, arith) in
    let kept = kept_all c.args.file c.loop-i.pending.items c.args.pending.now.items c.loop-i.i most c.loop-i.invariant.same in
    ap (λ (l : List Pending). undone c.args.file l bytes) kept ∙ forget_own c.args.file c.args.pending.now.items bytes

pub returns-clause-others : goal.returns-clause-others
returns-clause-others c = λ other bytes apart.
    let most : length c.loop-i.pending.items ≤ c.loop-i.i = search (rules, arith) in
    let kept = kept_all c.args.file c.loop-i.pending.items c.args.pending.now.items c.loop-i.i most c.loop-i.invariant.same in
    ap (λ (l : List Pending). undone other l bytes) kept ∙ forget_others c.args.file other c.args.pending.now.items bytes apart
