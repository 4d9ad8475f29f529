use Rattle.std.proofs.Common.{refl, sym, ◌∙◌, arith}
use Rattle.sm_moov.proofs.PlainLemmas.{adds_none, adds_nothing, adds_front, shorter}
use Rattle.sm_moov.proofs.plain.+add_bodies.Goals as goal

pub returns-then-is_empty : goal.returns-then-is_empty
returns-then-is_empty t c = adds_none c.args.name.now c.args.bytes.now c.args.found.now.items (sym c.is_empty.ensures ∙ c.if-is_empty.true)

pub returns-in_default : goal.returns-in_default
returns-in_default t c =
    adds_nothing c.args.name.now c.args.bytes.now c.args.found.now.items c.args.found.now.items (sym c.is_empty.ensures ∙ c.if-is_empty.false) c.in_default.ensures.none

pub returns : goal.returns
returns t c = adds_front _ _ _ _ _ _ _ _ _ _ _ c.in-Some.ensures.some refl refl refl c.in_ok-add_body.ensures c.add_bodies.ensures

pub add_bodies-requires : goal.add_bodies-requires
add_bodies-requires t c = (omega (arith, shorter c.args.bytes.now _ _ c.in-Some.ensures.some, c.decreases), tt)
