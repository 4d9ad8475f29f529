-- What a reader makes of a manifest that was written.
use Rattle.std.specs.Prelude.{ℕ, ◌+◌, List, [], ◌∷◌, ◌++◌, if◌then◌else◌}
use Rattle.std.specs.List.{list_any}
use Rattle.sm_model.specs.declared.track.Track.{Track}
use Rattle.sm_model.specs.Same.{is_same}
use Rattle.sm_log.specs.Adds.{tracks_of}
use Rattle.sm_manin.specs.declared.listing.Level.{Level}
use Rattle.sm_manin.specs.declared.listing.StreamListing.{StreamListing}
use Rattle.sm_manin.specs.declared.listing.Listing.{Listing}
use Rattle.sm_manin.specs.Listings.{with_level}
use Rattle.sm_manout.specs.ManifestText.{url}

-- the qualities so far, and those of these tracks, from that Index on, in ascending order of bitrate
abbrev pub levels_again : List Level → ℕ → List Track → List Level
levels_again sorted index [] = sorted
levels_again sorted index (t ∷ ts) = levels_again (with_level (record { index = index; bitrate = t.bitrate }) sorted) (index + 1) ts

-- the stream whose first track this is
abbrev pub stream_again : List Track → List (ℕ × ℕ) → Track → StreamListing
stream_again channel times t = record {
  kind = t.kind;
  name = t.name;
  timescale = t.timescale;
  pattern = url t.name;
  levels = levels_again [] 0 (tracks_of t.name channel);
  times = times;
}

-- the streams whose first tracks stand in the second list, behind the tracks of the first
abbrev pub streams_again : List Track → (List ℕ → List (ℕ × ℕ)) → List Track → List Track → List StreamListing
streams_again channel times earlier [] = []
streams_again channel times earlier (t ∷ ts) =
    (if list_any (λ u. is_same u.name t.name) earlier then [] else stream_again channel (times t.name) t ∷ []) ++ streams_again channel times (earlier ++ t ∷ []) ts

-- the streams of the channel, with their times
abbrev pub listing_again : List Track → (List ℕ → List (ℕ × ℕ)) → Listing
listing_again channel times = record { look = 2; streams = streams_again channel times [] channel }
