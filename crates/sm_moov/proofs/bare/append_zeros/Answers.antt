use Rattle.std.proofs.Common.{◌∙◌, ◌++◌, ℕ, List, ap}
use Rattle.std.proofs.lemmas.List.{take-replicate}
use Rattle.sm_model.specs.MoovText.{zeros}
use Rattle.sm_moov.proofs.bare.append_zeros.Goals as goal

pub returns : goal.returns
unfolding zeros
returns c =
    c.in_ok-extend_from_slice.ensures.items
    ∙ ap (λ (z : List ℕ). c.args.out.now.items ++ z) (c.split_at.ensures.front ∙ take-replicate c.args.count 100 0 c.requires)
