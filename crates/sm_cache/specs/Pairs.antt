-- When two addresses are one.
use Rattle.std.specs.Prelude.{◌&&◌, ◌==◌, Bool, bytes_eq}
use Rattle.sm_model.specs.declared.address.Address.{Address}

abbrev pub is_one_address : Address → Address → Bool
is_one_address a b = bytes_eq a.stream b.stream && (a.bitrate == b.bitrate && a.time == b.time)
