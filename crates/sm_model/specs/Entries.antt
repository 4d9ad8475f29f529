-- Addresses of fragments.
use Rattle.sm_model.specs.declared.fragment.Fragment.{Fragment}
use Rattle.sm_model.specs.declared.address.Address.{Address}

-- the stream, the bitrate and the start of a fragment
abbrev pub address_of : Fragment → Address
address_of f = record { stream = f.stream; bitrate = f.bitrate; time = f.time }
