use Rattle.std.proofs.Common.{◌≡◌, ◌<◌, All, List, [], ◌∷◌, ◌++◌, subst, sym, ap, ◌∙◌, arith}
use Rattle.std.proofs.lemmas.List.Elements.{All-push}
use Rattle.sm_model.specs.Fragments.{IsValid}
use Rattle.sm_log.specs.Adds.{Add}
use Rattle.sm_shelf.proofs.Places.{listing_grows}
use Rattle.player_rows.proofs.Filled.{same_grows}
use Rattle.player_rows.proofs.filling.Filling.add.Goals as goal

pub invariant_of-self-2-clause-listing : goal.invariant_of-self-2-clause-listing
invariant_of-self-2-clause-listing c =
    let self = c.args.self.now in
    let x : Add = record { address = c.in_ok-address.address; duration = c.args.fragment.duration; place = c.saturating_add-place.result } in
    let more : c.add.new.self.adds ≡ self.catalog.adds ++ x ∷ [] = c.add.ensures.adds ∙ ap (λ (l : List Add). l ++ x ∷ []) c.reserve.ensures.adds in
    let small : c.saturating_add-place.result < 4294967295 = c.if-place-ge4294967295.false in
    let long = c.len.ensures in
    let sum = c.saturating_add-place.ensures in
    listing_grows self.catalog.channel self.catalog.adds c.add.new.self.adds c.in_ok-address.address c.args.fragment.duration c.saturating_add-place.result self.listing
    (sym c.in-New.ensures.verdict) (omega (arith, long, sum, small)) small more

pub invariant_of-self-2-clause-same : goal.invariant_of-self-2-clause-same
invariant_of-self-2-clause-same c =
    let self = c.args.self.now in
    let x : Add = record { address = c.in_ok-address.address; duration = c.args.fragment.duration; place = c.saturating_add-place.result } in
    let more : c.add.new.self.adds ≡ self.catalog.adds ++ x ∷ [] = c.add.ensures.adds ∙ ap (λ (l : List Add). l ++ x ∷ []) c.reserve.ensures.adds in
    same_grows self.catalog.adds c.add.new.self.adds x self.fragments.items c.push.new.self.items c.args.fragment self.same more c.in_ok-push.ensures.items c.in_ok-address.ensures

pub invariant_of-self-2-clause-valid : goal.invariant_of-self-2-clause-valid
invariant_of-self-2-clause-valid c =
    subst (All IsValid) (sym c.in_ok-push.ensures.items) (All-push IsValid c.args.self.now.fragments.items c.args.fragment c.args.self.now.valid c.requires)
