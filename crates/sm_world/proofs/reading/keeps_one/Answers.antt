use Rattle.std.proofs.Common.{◌≡◌, ℕ, Some, None, subst, ap, ◌∙◌, arith}
use Rattle.std.specs.Prelude.{slice_get}
use Rattle.sm_model.specs.declared.entry.Entry.TheVariants.{Keep}
use Rattle.sm_model.specs.declared.fragment.Fragment.{Fragment}
use Rattle.sm_world.specs.Encoders.{of_encoder_a}
use Rattle.sm_world.proofs.reading.keeps_one.Goals as goal

pub returns-in-Found-clause-kept : goal.returns-in-Found-clause-kept
returns-in-Found-clause-kept g c same log holds =
    let found = (c.fetch.ensures.found c.in-Found.at c.in-Found.fragment c.in-Found.is).1 log None holds in
    let place : c.in-Found.at ≡ c.args.place = omega (arith, c.if-at-place.false) in
    let wanted : c.in-Found.fragment ≡ of_encoder_a c.args.i c.args.id = c.is_same_fragment.ensures same ∙ c.in_ok-wanted.ensures.0 in
    subst (λ (k : ℕ). slice_get log k ≡ Some (Keep (of_encoder_a c.args.i c.args.id))) place
    (found.1 (g.met.S.Crashing.tells c.args.site.now).contents ∙ ap (λ (f : Fragment). Some (Keep f)) wanted)
