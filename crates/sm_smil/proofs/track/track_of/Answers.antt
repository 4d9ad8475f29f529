use Rattle.sm_smil.proofs.Fit.{fit_name}
use Rattle.sm_smil.proofs.track.track_of.Goals as goal

pub read_name-requires : goal.read_name-requires
read_name-requires c = rw c.name_of.ensures (fit_name c.args.raw.now c.requires)
