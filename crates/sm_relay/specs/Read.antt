-- What was kept, as it was read.
use Rattle.std.specs.Prelude.{◌≡◌, List, [], Contains}
use Rattle.sm_model.specs.declared.fragment.Fragment.{Fragment}
use Rattle.sm_model.specs.declared.run.RawFragment.{RawFragment}
use Rattle.sm_model.specs.Entries.{address_of}
use Rattle.sm_fetch.specs.declared.dial.Exchange.{Exchange}
use Rattle.sm_fetch.specs.declared.got.Got.TheVariants as got
use Rattle.sm_fetch.specs.declared.place.Place.{Place}
use Rattle.sm_fetch.specs.Spelt.{given}
use Rattle.sm_client.specs.declared.report.Miss.{Miss}
use Rattle.sm_pull.specs.Asks.{AsksFragment}
use Rattle.sm_relay.specs.declared.report.RelayEnd.{RelayEnd}
use Rattle.sm_relay.specs.declared.report.RelayEnd.TheVariants as ends
use Rattle.sm_relay.specs.Wants.{Want}

-- one of these exchanges asked for its address, which is listed, by the Url that is listed with it, and its answer spells it
pub record WasRead (place : Place) (wants : List Want) (made : List Exchange) (f : Fragment) : Type 0 where
  pub want : Want
  pub wanted : Contains wants want
  pub address_is : address_of f ≡ want.address
  pub exchange : Exchange
  pub there : Contains made exchange
  pub raw : RawFragment
  pub asked : AsksFragment place want.url want.address exchange (got.Fragment raw)
  pub is : f ≡ given f.stream f.bitrate raw

-- what came in place of what was asked, as an end carries it
abbrev pub carried : RelayEnd → List Miss
carried ends.Done = []
carried (ends.NoManifest outcomes) = outcomes
carried (ends.NoTrack index) = []
carried (ends.GaveUp address outcomes) = outcomes
carried (ends.Refused address cause) = []
carried ends.Full = []
carried ends.DiskFault = []
carried ends.NoMemory = []
