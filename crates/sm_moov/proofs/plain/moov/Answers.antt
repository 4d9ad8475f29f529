use Rattle.std.proofs.Common.{Some, ap, sym, ◌∙◌}
use Rattle.std.specs.Prelude.{codes}
use Rattle.std.specs.Option.{option_and_then}
use Rattle.sm_model.specs.Moov.{settled}
use Rattle.sm_moov.proofs.PlainLemmas.{unboxed, untold, told, repeated, apart}
use Rattle.sm_moov.proofs.plain.moov.Goals as goal

pub returns-in_default : goal.returns-in_default
returns-in_default c = unboxed (codes "mvex") c.args.body.now (rw c.in_default.is at c.in_ok-mvexes.ensures)

pub returns-in_default-2 : goal.returns-in_default-2
returns-in_default-2 c =
    untold c.args.body.now c.in-Some.mvexes.items (rw c.in-Some.is at c.in_ok-mvexes.ensures)
    (rw c.deref.ensures.value at (rw c.in_default-2.is at c.in_ok-trexes.ensures))

pub returns-in_default-4 : goal.returns-in_default-4
returns-in_default-4 c =
    ap (option_and_then (settled c.in-Some-2.trexes.items)) (rw c.deref-2.ensures.value at (rw c.in_default-4.is at c.in_ok-heads.ensures))
    ∙ told c.args.body.now c.in-Some.mvexes.items c.in-Some-3.traks.items c.in-Some-2.trexes.items (rw c.in-Some.is at c.in_ok-mvexes.ensures)
    (rw c.deref.ensures.value at (rw c.in-Some-2.is at c.in_ok-trexes.ensures)) (rw c.in-Some-3.is at c.in_ok-traks.ensures)

pub returns-then-repeats : goal.returns-then-repeats
returns-then-repeats c =
    sym (repeated c.in-Some-2.trexes.items c.in-Some-4.heads.items (sym (rw c.deref-3.ensures.value at c.repeats.ensures) ∙ c.if-repeats.true))
    ∙ ap (option_and_then (settled c.in-Some-2.trexes.items)) (rw c.deref-2.ensures.value at (rw c.in-Some-4.is at c.in_ok-heads.ensures))
    ∙ told c.args.body.now c.in-Some.mvexes.items c.in-Some-3.traks.items c.in-Some-2.trexes.items (rw c.in-Some.is at c.in_ok-mvexes.ensures)
    (rw c.deref.ensures.value at (rw c.in-Some-2.is at c.in_ok-trexes.ensures)) (rw c.in-Some-3.is at c.in_ok-traks.ensures)

pub returns : goal.returns
returns c =
    ap Some (c.from_vec.ensures ∙ (rw (c.deref-4.ensures.value, c.deref-5.ensures.value) at c.in_ok-with_defaults.ensures))
    ∙ sym (apart c.in-Some-2.trexes.items c.in-Some-4.heads.items (sym (rw c.deref-3.ensures.value at c.repeats.ensures) ∙ c.if-repeats.false))
    ∙ ap (option_and_then (settled c.in-Some-2.trexes.items)) (rw c.deref-2.ensures.value at (rw c.in-Some-4.is at c.in_ok-heads.ensures))
    ∙ told c.args.body.now c.in-Some.mvexes.items c.in-Some-3.traks.items c.in-Some-2.trexes.items (rw c.in-Some.is at c.in_ok-mvexes.ensures)
    (rw c.deref.ensures.value at (rw c.in-Some-2.is at c.in_ok-trexes.ensures)) (rw c.in-Some-3.is at c.in_ok-traks.ensures)
