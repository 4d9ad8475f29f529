-- What is read of an origin that keeps a log is the log's.
use Rattle.std.specs.Prelude.{◌≡◌, ℕ, true, List, Some, All, is_some}
use Rattle.std.specs.List.{AllByRecursion}
use Rattle.sm_model.specs.declared.address.Address.{Address}
use Rattle.sm_model.specs.declared.entry.Entry.{Entry}
use Rattle.sm_model.specs.declared.fragment.Fragment.{Fragment}
use Rattle.sm_model.specs.declared.run.RawFragment.{RawFragment}
use Rattle.sm_model.specs.declared.track.Track.{Track}
use Rattle.sm_model.specs.Channels.{IsNarrowTrack}
use Rattle.sm_model.specs.Written.{raw_again}
use Rattle.sm_log.specs.Adds.{id_in, track_at, is_declared}
use Rattle.sm_log.specs.Logs.{channel_of, kept_at, listed_in, ahead_in}
use Rattle.sm_log.specs.Times.{entry_at}
use Rattle.sm_manin.specs.declared.listing.Level.{Level}
use Rattle.sm_manin.specs.declared.listing.Listing.{Listing}
use Rattle.sm_manin.specs.declared.listing.StreamListing.{StreamListing}
use Rattle.sm_manout.specs.ManifestText.{url}
use Rattle.sm_manout.specs.ReadAgain.{listing_again}
use Rattle.sm_fetch.specs.declared.place.Place.{Place}
use Rattle.sm_client.specs.Served.{IsPlace, IsStream}

-- ---- listings

-- the listing of a log's manifest
abbrev pub again : List Track → List Entry → Listing
again channel log = listing_again channel (listed_in log)

-- a quality of the stream that the channel declares
abbrev pub IsQuality : List Track → List ℕ → Level → Type 0
IsQuality channel name l = is_some (track_at name l.bitrate channel) ≡ true

-- a stream of the channel, as its manifest lists it
pub record IsListedStream (channel : List Track) (name : List ℕ) (s : StreamListing) : Type 0 where
  pub pattern : s.pattern ≡ url name
  pub levels : AllByRecursion (IsQuality channel name) s.levels

-- ---- fragments

-- an address of the channel, at a listed start, asked for by the Url of its manifest
pub record IsListedAt (place : Place) (channel : List Track) (log : List Entry) (pattern : List ℕ) (a : Address) : Type 0 where
  pub place_is : IsPlace place
  pub tracks : All IsNarrowTrack channel
  pub stream : IsStream channel a.stream
  pub pattern_is : pattern ≡ url a.stream
  pub declared : is_declared channel a ≡ true
  pub listed : is_some (entry_at a.time (listed_in log a.stream)) ≡ true

-- what the log keeps at an address, as it is read: under the track_ID of its track, with the times that are listed behind it
pub record IsTheOrigins (log : List Entry) (a : Address) (raw : RawFragment) : Type 0 where
  pub place : ℕ
  pub id : ℕ
  pub fragment : Fragment
  pub placed : kept_at log a ≡ Some (place, fragment)
  pub id_is : (channel : List Track) → channel_of log ≡ Some channel → id ≡ id_in channel a
  pub is : raw ≡ raw_again id fragment (ahead_in log a.stream a.time)
