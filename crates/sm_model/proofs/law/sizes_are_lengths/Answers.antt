use Rattle.sm_model.proofs.TextLengths.{mfhd-len, tfhd-len, trun-len, tfxd-len, tfrf-len, traf-len, moof-len, mdat-len}
use Rattle.sm_model.proofs.law.sizes_are_lengths.Goals as goal

pub returns : goal.returns
returns c = record { mfhd = mfhd-len; tfhd = tfhd-len; trun = trun-len; tfxd = tfxd-len; tfrf = tfrf-len; traf = traf-len; moof = moof-len; mdat = mdat-len }
