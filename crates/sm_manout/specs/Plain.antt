-- What the plain program gives.
use Rattle.sm_model.specs.declared.address.Address.{Address}
use Rattle.sm_manout.specs.declared.plain.ListedAt.{ListedAt}

abbrev pub address : ListedAt → Address
address l = record { stream = l.stream; bitrate = l.bitrate; time = l.time }
