use Rattle.std.proofs.Common.{sym}
use Rattle.sm_smil.proofs.Fit.{fit_private}
use Rattle.sm_smil.proofs.track.private_of.Goals as goal

pub read_digits-requires : goal.read_digits-requires
read_digits-requires c =
    fit_private _ _ c.requires (sym (rw (c.in-Some.is, c.as_slice.ensures) at c.value_of.ensures))
