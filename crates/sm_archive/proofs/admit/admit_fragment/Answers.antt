use Rattle.std.proofs.Common.{arith, ◌≡◌, ◌∙◌, sym, ap}
use Rattle.sm_log.specs.declared.verdict.Judged.TheVariants.{New}
use Rattle.sm_log.specs.Adds.{verdict}
use Rattle.sm_model.specs.Fragments.{IsValid}
use Rattle.sm_record.specs.Metas.{IsMetaOf}
use Rattle.sm_archive.proofs.Places.{is_declared_by}
use Rattle.sm_archive.proofs.Readying.{meta_is}
use Rattle.sm_archive.proofs.Admitting.{same_verdict, space_less, fragment_admitted}
use Rattle.sm_archive.proofs.admit.admit_fragment.Goals as goal

pub add-requires-clause-space : goal.add-requires-clause-space
add-requires-clause-space c =
    let i = c.args.index.now.catalog in
    let new : verdict i.channel i.adds c.in_ok-address.address c.args.fragment.now.duration ≡ New = c.is_new.ensures.0 c.if-not-is_new.false in
    space_less c.reserve.new.self c.in_ok-address.address.stream (c.in_ok-reserve.ensures.space (is_declared_by i.channel i.adds c.in_ok-address.address c.args.fragment.now.duration New (sym new) (λ e. cc)))

pub add-requires-clause-verdict : goal.add-requires-clause-verdict
add-requires-clause-verdict c =
    let ch = c.args.index.now.catalog.channel in
    let m : IsMetaOf ch c.args.fragment.now c.in-Some.meta = meta_is ch c.args.fragment.now c.args.body.now c.in-Some.meta c.in-Some.ensures (c.front_of_a_fragment.ensures ch c.args.fragment.now c.args.body.now c.requires.is) in
    same_verdict c.args.index.now c.reserve.new.self c.in_ok-address.address c.args.fragment.now.duration c.in-Some.meta.duration c.in_ok-reserve.ensures.reserved m.duration (c.is_new.ensures.0 c.if-not-is_new.false)

pub add-requires-clause-lasts : goal.add-requires-clause-lasts
add-requires-clause-lasts c =
    let ch = c.args.index.now.catalog.channel in
    let m : IsMetaOf ch c.args.fragment.now c.in-Some.meta = meta_is ch c.args.fragment.now c.args.body.now c.in-Some.meta c.in-Some.ensures (c.front_of_a_fragment.ensures ch c.args.fragment.now c.args.body.now c.requires.is) in
    let v : IsValid c.args.fragment.now = c.is_valid.ensures.0 c.if-not-is_valid.false in
    omega (arith, m.duration, v.lasts)

pub add-requires-clause-ends : goal.add-requires-clause-ends
add-requires-clause-ends c =
    let ch = c.args.index.now.catalog.channel in
    let m : IsMetaOf ch c.args.fragment.now c.in-Some.meta = meta_is ch c.args.fragment.now c.args.body.now c.in-Some.meta c.in-Some.ensures (c.front_of_a_fragment.ensures ch c.args.fragment.now c.args.body.now c.requires.is) in
    let v : IsValid c.args.fragment.now = c.is_valid.ensures.0 c.if-not-is_valid.false in
    let t = ap (λ (a : Rattle.sm_model.specs.declared.address.Address.Address). a.time) c.in_ok-address.ensures in
    omega (arith, m.duration, v.ends, t)

pub unreachable-requires : goal.unreachable-requires
unreachable-requires c =
    let ch = c.args.index.now.catalog.channel in
    let m = c.front_of_a_fragment.ensures ch c.args.fragment.now c.args.body.now c.requires.is in
    let none = c.in-None.ensures ∙ m.1 in
    absurd cc

pub returns-clause-fits : goal.returns-clause-fits
returns-clause-fits c = λ log is place_is.
    let ch = c.args.index.now.catalog.channel in
    let m : IsMetaOf ch c.args.fragment.now c.in-Some.meta = meta_is ch c.args.fragment.now c.args.body.now c.in-Some.meta c.in-Some.ensures (c.front_of_a_fragment.ensures ch c.args.fragment.now c.args.body.now c.requires.is) in
    let v : IsValid c.args.fragment.now = c.is_valid.ensures.0 c.if-not-is_valid.false in
    let h = fragment_admitted c.args.index.now c.reserve.new.self c.add.new.self c.args.fragment.now c.in_ok-address.address c.in-Some.meta c.args.place log c.in_ok-reserve.ensures.reserved c.in_ok-address.ensures m
    (c.is_new.ensures.0 c.if-not-is_new.false) c.add.ensures is place_is in
    ((v, h.0), h.1)
