-- What is kept, as it was read.
use Rattle.std.specs.Prelude.{◌≡◌, ℕ, List, Contains}
use Rattle.sm_model.specs.declared.fragment.Fragment.{Fragment}
use Rattle.sm_model.specs.declared.run.RawFragment.{RawFragment}
use Rattle.sm_model.specs.Entries.{address_of}
use Rattle.sm_manin.specs.declared.listing.Listing.{Listing}
use Rattle.sm_fetch.specs.declared.dial.Exchange.{Exchange}
use Rattle.sm_fetch.specs.declared.place.Place.{Place}
use Rattle.sm_fetch.specs.declared.placed.Placed.TheVariants as placed
use Rattle.sm_fetch.specs.Spelt.{given}
use Rattle.sm_standby.specs.Turns.{AsksPlaced, url_of}

-- One of these exchanges asked for the fragment's address, by the Url that the manifest lists for its stream. What its answer spells is the
-- fragment, with this place as its sequence number.
pub record IsSpelled (place : Place) (listing : Listing) (made : List Exchange) (at : ℕ) (f : Fragment) : Type 0 where
  pub exchange : Exchange
  pub there : Contains made exchange
  pub raw : RawFragment
  pub asks : AsksPlaced place (url_of listing (address_of f)) (address_of f) exchange (placed.Fragment at raw)
  pub fragment_is : f ≡ given f.stream f.bitrate raw
