use Rattle.std.proofs.Common.{arith, ◌≡◌, ◌-◌, ◌∙◌, sym, subst, ℕ, false, IsTrue, Some, slice_get}
use Rattle.sm_shelf.proofs.Places.{held_at, not_held}
use Rattle.sm_shelf.proofs.stock.seek.Goals as goal

pub returns-then-place-passed-clause-missing : goal.returns-then-place-passed-clause-missing
returns-then-place-passed-clause-missing c i f at same =
    let r = c.requires in
    let h = held_at c.args.catalog.now.adds c.args.window.now c.args.address.now c.in-Some.place r.listing r.within r.last (sym c.place.ensures ∙ c.in-Some.is) i f at same in
    let few = r.listing.few in
    omega (arith, h.0, c.len.ensures, c.len-2.ensures, c.if-place-passed.true, r.within, few)

pub returns-then-i-len-clause-missing : goal.returns-then-i-len-clause-missing
returns-then-i-len-clause-missing c i f at same =
    let r = c.requires in
    let h = held_at c.args.catalog.now.adds c.args.window.now c.args.address.now c.in-Some.place r.listing r.within r.last (sym c.place.ensures ∙ c.in-Some.is) i f at same in
    let few = r.listing.few in
    omega (arith, h.0, h.1, c.len.ensures, c.len-2.ensures, c.len-3.ensures, c.if-place-passed.false, c.if-i-len.true, r.within, few)

pub returns-else-has-clause-missing : goal.returns-else-has-clause-missing
returns-else-has-clause-missing c i f at same =
    let r = c.requires in
    let h = held_at c.args.catalog.now.adds c.args.window.now c.args.address.now c.in-Some.place r.listing r.within r.last (sym c.place.ensures ∙ c.in-Some.is) i f at same in
    let few = r.listing.few in
    let here : i ≡ c.in-Some.place - (c.len.result - c.len-2.result) - 1 = omega (arith, h.0, h.1, c.len.ensures, c.len-2.ensures, c.if-place-passed.false, r.within, few) in
    let yes : IsTrue c.has.result = c.has.ensures.1 (f, subst (λ (k : ℕ). slice_get c.args.window.now k ≡ Some f) here at, same) in
    let no : c.has.result ≡ false = c.if-has.false in
    cc

pub returns-in_default-clause-missing : goal.returns-in_default-clause-missing
returns-in_default-clause-missing c i f at same =
    let r = c.requires in
    not_held c.args.catalog.now.adds c.args.window.now c.args.address.now r.listing r.within r.last (sym c.place.ensures ∙ c.in_default.is) i f at same
