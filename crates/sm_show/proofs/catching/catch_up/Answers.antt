use Rattle.std.proofs.Common.{arith, ◌≡◌, ◌∙◌, length, refl, sym, subst}
use Rattle.sm_archive.specs.declared.archive.Archive.{Archive}
use Rattle.sm_archive.specs.Stands.{Keeps}
use Rattle.sm_shelf.specs.Shelf.{height_of}
use Rattle.sm_show.specs.declared.outcome.Up.TheVariants.{Whole, Behind, Short}
use Rattle.sm_show.proofs.Resting.{brings_here, brings_then}
use Rattle.sm_show.proofs.catching.catch_up.Goals as goal

pub loop-init : goal.loop-init
loop-init g c = record { brings = brings_here g.S.Disk.seen c.args.state.now c.args.site.now c.args.writer.now Whole (λ is. absurd (cc)) c.requires }

pub loop-preserved : goal.loop-preserved
loop-preserved g c =
    record { brings = brings_then g.S.Disk.seen c.args.state.now _ _ _ _ _ _ Whole Whole c.loop.invariant.brings c.in-Whole.ensures.brings }

pub returns-then-height-len-clause-whole : goal.returns-then-height-len-clause-whole
returns-then-height-len-clause-whole g c h serves told belongs =
    let stands = serves.rest.stands.stands in
    let log = h.point.machine.log in
    let d = c.loop.writer.published in
    let front = (c.loop.invariant.brings.belongs h serves told belongs).0 in
    let le = c.heights_tell.ensures.front log d stands.keeps.sound front in
    let long = c.len-len.ensures stands.bodies stands.body log h.point.machine.doubt (subst (λ (a : Archive). Keeps a stands.bodies stands.body log h.point.machine.doubt) (sym c.archive.ensures) stands.keeps) in
    let high : height_of d ≡ length log = omega (arith, le, long, c.height.ensures, c.if-height-len.true) in
    (λ w. c.heights_tell.ensures.whole log d stands.keeps.sound front high, λ w. refl)

pub returns-then-height-len-2-clause-whole : goal.returns-then-height-len-2-clause-whole
returns-then-height-len-2-clause-whole g c h serves told belongs =
    let stands = serves.rest.stands.stands in
    let log = h.point.machine.log in
    let d = c.loop.writer.published in
    let front = (c.loop.invariant.brings.belongs h serves told belongs).0 in
    let le = c.heights_tell.ensures.front log d stands.keeps.sound front in
    let long = c.len-len.ensures stands.bodies stands.body log h.point.machine.doubt (subst (λ (a : Archive). Keeps a stands.bodies stands.body log h.point.machine.doubt) (sym c.archive.ensures) stands.keeps) in
    let high : height_of d ≡ length log = omega (arith, le, long, c.height-2.ensures, c.if-height-len-2.true) in
    (λ w. c.heights_tell.ensures.whole log d stands.keeps.sound front high, λ w. refl)

pub returns-else-height-len-2-clause-whole : goal.returns-else-height-len-2-clause-whole
returns-else-height-len-2-clause-whole g c h serves told belongs =
    let stands = serves.rest.stands.stands in
    let log = h.point.machine.log in
    let d = c.loop.writer.published in
    let long = c.len-len.ensures stands.bodies stands.body log h.point.machine.doubt (subst (λ (a : Archive). Keeps a stands.bodies stands.body log h.point.machine.doubt) (sym c.archive.ensures) stands.keeps) in
    (λ w. absurd cc, λ is. absurd (let high = c.heights_tell.ensures.back log d stands.keeps.sound is in omega (arith, high, long, c.height-2.ensures, c.if-height-len-2.false)))

pub returns-in-Behind-clause-brings : goal.returns-in-Behind-clause-brings
returns-in-Behind-clause-brings g c = brings_then g.S.Disk.seen c.args.state.now _ _ _ _ _ _ Whole Behind c.loop.invariant.brings c.in-Behind.ensures.brings

pub returns-in-Short-clause-brings : goal.returns-in-Short-clause-brings
returns-in-Short-clause-brings g c = brings_then g.S.Disk.seen c.args.state.now _ _ _ _ _ _ Whole Short c.loop.invariant.brings c.in-Short.ensures.brings

pub returns-in-Behind-clause-whole : goal.returns-in-Behind-clause-whole
returns-in-Behind-clause-whole g c h serves told belongs =
    let stands = serves.rest.stands.stands in
    let log = h.point.machine.log in
    let d = c.loop.writer.published in
    let long = c.len-len.ensures stands.bodies stands.body log h.point.machine.doubt (subst (λ (a : Archive). Keeps a stands.bodies stands.body log h.point.machine.doubt) (sym c.archive.ensures) stands.keeps) in
    let still = c.step.ensures.short (λ w. let both : Behind ≡ Whole = sym c.in-Behind.is ∙ w in cc) in
    (λ w. absurd cc, λ is. absurd (let high = c.heights_tell.ensures.back log d stands.keeps.sound (sym still ∙ is) in omega (arith, high, long, c.height.ensures, c.if-height-len.false)))

pub returns-in-Short-clause-whole : goal.returns-in-Short-clause-whole
returns-in-Short-clause-whole g c h serves told belongs =
    let stands = serves.rest.stands.stands in
    let log = h.point.machine.log in
    let d = c.loop.writer.published in
    let long = c.len-len.ensures stands.bodies stands.body log h.point.machine.doubt (subst (λ (a : Archive). Keeps a stands.bodies stands.body log h.point.machine.doubt) (sym c.archive.ensures) stands.keeps) in
    let still = c.step.ensures.short (λ w. let both : Short ≡ Whole = sym c.in-Short.is ∙ w in cc) in
    (λ w. absurd cc, λ is. absurd (let high = c.heights_tell.ensures.back log d stands.keeps.sound (sym still ∙ is) in omega (arith, high, long, c.height.ensures, c.if-height-len.false)))
