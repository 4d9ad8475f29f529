-- The tracks of a channel in a manifest.
use Rattle.std.specs.Prelude.{◌≡◌, ◌==◌, ◌&&◌, ℕ, Bool, true, false, List, ◌∷◌, ◌++◌, length, Option, None, Some}
use Rattle.std.specs.List.{list_any, AllByRecursion}
use Rattle.sm_model.specs.declared.address.Address.{Address}
use Rattle.sm_model.specs.declared.track.Track.{Track}
use Rattle.sm_manin.specs.declared.listing.Listing.{Listing}
use Rattle.sm_manin.specs.declared.listing.StreamListing.{StreamListing}
use Rattle.sm_client.specs.Stands.{listed}

abbrev pub address_at : Track → ℕ → Address
address_at t time = record { stream = t.name; bitrate = t.bitrate; time = time }

-- what is listed of its stream has the track's timescale and its bitrate
abbrev pub has_quality : Track → Option StreamListing → Bool
has_quality t None = false
has_quality t (Some s) = s.timescale == t.timescale && list_any (λ l. l.bitrate == t.bitrate) s.levels

abbrev pub has_track : Listing → Track → Bool
has_track listing t = has_quality t (listed t.name listing.streams)

abbrev pub HasTracks : Listing → List Track → Type 0
HasTracks listing channel = AllByRecursion (λ t. has_track listing t ≡ true) channel

-- the listing has each track before the one at this place, and lacks that one
pub record IsFirstMissing (listing : Listing) (channel : List Track) (index : ℕ) : Type 0 where
  pub front : List Track
  pub track : Track
  pub back : List Track
  pub channel_is : channel ≡ front ++ track ∷ back
  pub index_is : index ≡ length front
  pub there : HasTracks listing front
  pub lacks : has_track listing track ≡ false
