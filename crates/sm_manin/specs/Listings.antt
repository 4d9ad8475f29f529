-- What a manifest without faults lists.
use Rattle.std.specs.Prelude.{ℕ, ◌+◌, false, List, [], ◌∷◌, map, Option, Some, None, nat_lt, if◌then◌else◌, unwrap_or}
use Rattle.sm_manin.specs.declared.listing.Level.{Level}
use Rattle.sm_manin.specs.declared.listing.StreamListing.{StreamListing}
use Rattle.sm_manin.specs.declared.listing.Listing.{Listing}
use Rattle.sm_manin.specs.declared.raw.RawLevel.{RawLevel}
use Rattle.sm_manin.specs.declared.raw.RawStream.{RawStream}
use Rattle.sm_manin.specs.declared.raw.RawRoot.{RawRoot}
use Rattle.sm_model.specs.declared.track.Kind.TheVariants as kind
use Rattle.sm_manin.specs.Values.{narrow_in, narrow_or, kind_in_type}
use Rattle.sm_manin.specs.ManifestWalk.{Walk}
use Rattle.sm_manin.specs.RunTimes.{times_in, times_or_none}
use Rattle.sm_manin.specs.ManifestFaults.{look_text, name_of}

-- a quality more, in ascending order of bitrate
abbrev pub with_level : Level → List Level → List Level
with_level l [] = l ∷ []
with_level l (k ∷ ks) = if nat_lt l.bitrate k.bitrate then l ∷ k ∷ ks else k ∷ with_level l ks

-- the Index is the place in the text where it isn't said
abbrev pub level_in : ℕ → RawLevel → Level
level_in place l = record { index = unwrap_or (narrow_or place l.index) 0; bitrate = unwrap_or (narrow_in l.bitrate) 0 }

-- the qualities so far, and these, of which the first has that place
abbrev pub levels_from : List Level → ℕ → List RawLevel → List Level
levels_from sorted place [] = sorted
levels_from sorted place (l ∷ ls) = levels_from (with_level (level_in place l) sorted) (place + 1) ls

abbrev pub levels_of : List RawLevel → List Level
levels_of ls = levels_from [] 0 ls

abbrev pub listing_of : ℕ → RawStream → StreamListing
listing_of timescale s = record {
  kind = unwrap_or (kind_in_type s.kind_text) kind.Video;
  name = name_of s;
  timescale = unwrap_or (narrow_or timescale s.timescale) 0;
  pattern = unwrap_or s.url [];
  levels = levels_of s.levels;
  times = times_or_none (times_in false 0 0 s.times);
}

abbrev pub look_of : Option RawRoot → ℕ
look_of None = 0
look_of (Some r) = unwrap_or (narrow_or 0 (look_text r)) 0

abbrev pub timescale_of : Option RawRoot → ℕ
timescale_of None = 10000000
timescale_of (Some r) = unwrap_or (narrow_or 10000000 r.timescale) 10000000

abbrev pub read_of : Walk → Listing
read_of w = record { look = look_of w.root; streams = map (listing_of (timescale_of w.root)) w.done }
