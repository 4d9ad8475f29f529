-- That a connection in a body hasn't failed.
use Rattle.std.specs.Prelude.{Bool, true, false}
use Rattle.sm_body.specs.declared.place.Place.{Place}
use Rattle.sm_body.specs.declared.place.Place.TheVariants.{Failed}
use Rattle.sm_conn.specs.declared.conn.State.{State}
use Rattle.sm_conn.specs.declared.conn.State.TheVariants.{Head, Body, Closed}

abbrev pub hasnt_failed : Place → Bool
hasnt_failed Failed = false
hasnt_failed _ = true

abbrev pub is_live : State → Bool
is_live Head = true
is_live (Body framer close) = hasnt_failed framer.place
is_live Closed = true
