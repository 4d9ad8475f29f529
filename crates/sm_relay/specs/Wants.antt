-- What a relay asks for of a manifest.
use Rattle.std.specs.Prelude.{ℕ, List, [], map, Option, None, Some, if◌then◌else◌}
use Rattle.std.specs.List.{flat_map, list_any}
use Rattle.sm_model.specs.declared.address.Address.{Address}
use Rattle.sm_model.specs.declared.track.Track.{Track}
use Rattle.sm_model.specs.Same.{is_same}
use Rattle.sm_log.specs.Adds.{names_of, tracks_of}
use Rattle.sm_manin.specs.declared.listing.Listing.{Listing}
use Rattle.sm_manin.specs.declared.listing.StreamListing.{StreamListing}
use Rattle.sm_client.specs.Stands.{listed}
use Rattle.sm_pull.specs.Tracks.{address_at}

-- a fragment that is listed: its address, and the Url that its stream has in the manifest
pub record Want : Type 0 where
  pub url : List ℕ
  pub address : Address

-- each of these tracks at a start
abbrev pub wants_at : List ℕ → ℕ → List Track → List Want
wants_at url time tracks = map (λ t. record { url = url; address = address_at t time }) tracks

-- each listed time, and at each of them each of these tracks
abbrev pub wants_over : List ℕ → List Track → List (ℕ × ℕ) → List Want
wants_over url tracks times = flat_map (λ x. wants_at url x.0 tracks) times

-- what is listed of a stream, of the tracks that the channel has of it
abbrev pub stream_wants : List Track → Option StreamListing → List Want
stream_wants channel None = []
stream_wants channel (Some s) = wants_over s.pattern (tracks_of s.name channel) s.times

-- for each stream of the channel in order, each listed time in order, and each of its tracks in order
abbrev pub wants_of : List Track → Listing → List Want
wants_of channel listing = flat_map (λ name. stream_wants channel (listed name listing.streams)) (names_of channel)

-- those of the stream of a track that is the first of its name, where these stand before it
abbrev pub first_wants : List Track → Listing → List Track → Track → List Want
first_wants channel listing before t =
    if list_any (λ u. is_same u.name t.name) before then [] else stream_wants channel (listed t.name listing.streams)
