-- The faults of a manifest, by the places of the elements at fault.
use Rattle.std.specs.Prelude.{ℕ, ◌==◌, ◌&&◌, ◌||◌, not, Bool, true, false, List, [], ◌∷◌}
use Rattle.std.specs.Prelude.{◌++◌, length, Option, Some, None, is_none, is_some, option_to_list, nat_le, if◌then◌else◌, unwrap_or}
use Rattle.std.specs.List.{list_any}
use Rattle.sm_manin.specs.declared.raw.RawLevel.{RawLevel}
use Rattle.sm_manin.specs.declared.raw.RawStream.{RawStream}
use Rattle.sm_manin.specs.declared.raw.RawRoot.{RawRoot}
use Rattle.sm_model.specs.Names.{is_name}
use Rattle.sm_model.specs.Same.{is_same}
use Rattle.sm_manin.specs.Values.{narrow_in, narrow_or, kind_in_type}
use Rattle.sm_manin.specs.Patterns.{is_pattern}
use Rattle.sm_manin.specs.ManifestWalk.{Walk}
use Rattle.sm_manin.specs.RunTimes.{times_in, fault_in}

abbrev pub at_if : Bool → ℕ → List ℕ
at_if b at = if b then at ∷ [] else []

abbrev pub is_two : Option ℕ → Bool
is_two None = false
is_two (Some n) = n == 2

-- LookAheadFragmentCount, else LookaheadCount
abbrev pub look_text : RawRoot → Option (List ℕ)
look_text r = if is_some r.look then r.look else r.lookahead

unfoldable pub is_root_at_fault : RawRoot → Bool
is_root_at_fault r =
    not (is_two (narrow_in r.major)) || (is_none (narrow_or 0 (look_text r)) || is_none (narrow_or 10000000 r.timescale))

abbrev pub root_faults : Option RawRoot → List ℕ
root_faults None = []
root_faults (Some r) = at_if (is_root_at_fault r) r.at

abbrev pub name_of : RawStream → List ℕ
name_of s = unwrap_or s.name (unwrap_or s.kind_text [])

abbrev pub is_misfit : Option (List ℕ) → Bool
is_misfit None = true
is_misfit (Some url) = not (is_pattern url)

-- what its start tag shows: the 65th, Type, Url, Name and TimeScale, and the name of an earlier stream
unfoldable pub is_stream_at_fault : List RawStream → RawStream → Bool
is_stream_at_fault earlier s =
    nat_le 64 (length earlier)
    || (is_none (kind_in_type s.kind_text) || (is_misfit s.url ||
    (not (is_name (name_of s)) || (is_none (narrow_or 0 s.timescale) || list_any (λ e. is_same (name_of e) (name_of s)) earlier))))

abbrev pub are_equal_bitrates : Option ℕ → Option ℕ → Bool
are_equal_bitrates (Some a) (Some b) = a == b
are_equal_bitrates (Some a) None = false
are_equal_bitrates None b = false

unfoldable pub is_level_at_fault : List RawLevel → RawLevel → Bool
is_level_at_fault earlier l =
    nat_le 64 (length earlier) || (is_none (narrow_in l.bitrate) ||
    (is_none (narrow_or 0 l.index) || list_any (λ e. are_equal_bitrates (narrow_in e.bitrate) (narrow_in l.bitrate)) earlier))

abbrev pub level_faults : List RawLevel → List RawLevel → List ℕ
level_faults earlier [] = []
level_faults earlier (l ∷ ls) = at_if (is_level_at_fault earlier l) l.at ++ level_faults (earlier ++ l ∷ []) ls

-- a stream that has ended has a quality
abbrev pub lacks_levels : Bool → RawStream → Bool
lacks_levels open' s = not open' && length s.levels == 0

abbrev pub stream_faults : Bool → List RawStream → RawStream → List ℕ
stream_faults open' earlier s =
    at_if (is_stream_at_fault earlier s || lacks_levels open' s) s.at ++ (level_faults [] s.levels ++ fault_in (times_in open' 0 0 s.times))

abbrev pub streams_faults : List RawStream → List RawStream → List ℕ
streams_faults earlier [] = []
streams_faults earlier (s ∷ ss) = stream_faults false earlier s ++ streams_faults (earlier ++ s ∷ []) ss

abbrev pub open_faults : List RawStream → Option RawStream → List ℕ
open_faults earlier None = []
open_faults earlier (Some s) = stream_faults true earlier s

-- the places of all that is at fault in a text whose tags were walked over up to a tag at fault or the end
abbrev pub faults_of : Option ℕ → Walk → List ℕ
faults_of bad w =
    root_faults w.root ++ (option_to_list w.other ++ (option_to_list w.protection ++
    (streams_faults [] w.done ++ (open_faults w.done w.current ++ option_to_list bad))))
