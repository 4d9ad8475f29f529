use Rattle.std.proofs.Common.{inl, inr}
use Rattle.sm_smil.proofs.Fit.{decodes}
use Rattle.sm_smil.proofs.track.read_digits.Goals as goal

pub unreachable-requires : goal.unreachable-requires
unreachable-requires c =
    elim c.in-Err.ensures.err [
      | inl memory ↦ c.in_default.not-OutOfMemory memory
      | inr bad ↦ decodes c.args.digits.now _ c.requires bad
    ]
