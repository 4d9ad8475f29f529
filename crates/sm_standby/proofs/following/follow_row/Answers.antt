use Rattle.std.proofs.Common.{◌≡◌, ◌+◌, ◌++◌, ◌∷◌, [], List, drop, ap, sym, ◌∙◌, arith}
use Rattle.std.proofs.lemmas.List.{drop_more}
use Rattle.sm_model.specs.declared.address.Address.{Address}
use Rattle.sm_standby.proofs.Opens.{passed_on}
use Rattle.sm_standby.proofs.Plans.{drop_all}
use Rattle.sm_standby.proofs.Taking.{follows_start, follows_stands, follows_next, follows_end, ends_next}
use Rattle.sm_standby.proofs.following.follow_row.Goals as goal

pub loop-address-init : goal.loop-address-init
loop-address-init g c = record {
  some = c.requires.stands;
  follows = λ log more s o d. follows_start g.met.D.Disk.no_later g.met.C.Dial.later_same c.args.disk.now c.args.dial.now c.args.archive.now log c.args.held.now (c.args.addresses.now ++ more) s o d;
}

pub loop-address-preserved : goal.loop-address-preserved
loop-address-preserved g c =
    let inv = c.loop-address.invariant in
    let e = c.in_ok-follow_one.ensures in
    let xs = c.args.addresses.now in
    let i = c.loop-address.address-index in
    let a = c.address-item.result in
    let rest : drop i xs ≡ a ∷ drop (i + 1) xs = drop_more xs i a (omega arith) ∙ ap (λ (u : Address). u ∷ drop (i + 1) xs) (sym c.address-item.is) in
    let one = e.ok inv.some.0 [] inv.some.1 inv.some.2 inv.some.3 in
    record {
      some = (one.0.log, follows_stands one.0, one.0.waiting, one.1);
      follows = λ log more s o d.
          follows_next (drop i xs ++ more) (a ∷ (drop (i + 1) xs ++ more)) (drop (i + 1) xs ++ more) g.met.C.Dial.later_then (inv.follows log more s o d) (ap (λ (ys : List Address). ys ++ more) rest)
          (λ l t p u. e.ok l (drop (i + 1) xs ++ more) t p u);
    }

pub returns-in_err-follow_one-clause-err : goal.returns-in_err-follow_one-clause-err
returns-in_err-follow_one-clause-err g c =
    passed_on c.from_residual.result _ _ c.from_residual.ensures.1
    (λ log more s o d.
    let inv = c.loop-address.invariant in
    let xs = c.args.addresses.now in
    let i = c.loop-address.address-index in
    let a = c.address-item.result in
    let rest : drop i xs ≡ a ∷ drop (i + 1) xs = drop_more xs i a (omega arith) ∙ ap (λ (u : Address). u ∷ drop (i + 1) xs) (sym c.address-item.is) in
    ends_next (drop i xs ++ more) (a ∷ (drop (i + 1) xs ++ more)) c.in_err-follow_one.field-0.0 g.met.C.Dial.later_then (inv.follows log more s o d) (ap (λ (ys : List Address). ys ++ more) rest) (λ l t p u.
    c.in_err-follow_one.ensures.err l (drop (i + 1) xs ++ more) t p u))

pub returns-clause-ok : goal.returns-clause-ok
returns-clause-ok g c = λ log more s o d.
    let xs = c.args.addresses.now in
    let i = c.loop-address.address-index in
    follows_end (drop i xs ++ more) more (ap (λ (ys : List Address). ys ++ more) (drop_all xs i (omega arith))) (c.loop-address.invariant.follows log more s o d)
