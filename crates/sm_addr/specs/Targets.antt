-- What a target names. [MS-SSTR] 2.2.1, 2.2.3.
use Rattle.std.specs.Prelude.{ℕ, ◌||◌, List, codes, Option, Some, None, option_and_then, if◌then◌else◌}
use Rattle.std.specs.Str.{bytes_eq}
use Rattle.percent_encoding.specs.Percent.{percent_decode}
use Rattle.sm_model.specs.declared.target.Target.{Target}
use Rattle.sm_model.specs.declared.target.Target.TheVariants.{Manifest, Fragment, Streams, Unknown}
use Rattle.sm_model.specs.Digits.{number_of}
use Rattle.sm_model.specs.Names.{is_name}
use Rattle.sm_addr.specs.Cuts.{behind, before, up_to, from}
use Rattle.sm_addr.specs.Paths.{cut_isml, is_short}
use Rattle.sm_addr.specs.Times.{time_of}

-- the text that a target stands for: all before a `?`, with the escapes read
abbrev pub target_text : List ℕ → List ℕ
target_text bytes = percent_decode (up_to 63 bytes)

-- `ID`
abbrev pub streams : List ℕ → Target
streams id = if is_name id then Streams id else Unknown

-- B, NAME and T
abbrev pub fragment : ℕ → List ℕ → ℕ → Target
fragment bitrate stream time =
    if is_name stream then Fragment (record { stream = stream; bitrate = bitrate; time = time }) else Unknown

-- `=T)`
abbrev pub time_before : Option (List ℕ) → Option ℕ
time_before None = None
time_before (Some rest) = option_and_then time_of (before (codes ")") rest)

abbrev pub time_in : List ℕ → Option ℕ
time_in text = time_before (behind (codes "=") text)

-- NAME, with B and T
abbrev pub fragment_if : ℕ → List ℕ → Option ℕ → Target
fragment_if bitrate stream None = Unknown
fragment_if bitrate stream (Some time) = fragment bitrate stream time

-- `NAME=T)`, with B
abbrev pub fragment_at : ℕ → List ℕ → Target
fragment_at bitrate text = fragment_if bitrate (up_to 61 text) (time_in (from 61 text))

-- B, and what stands behind `)/Fragments(`
abbrev pub level_if : Option ℕ → Option (List ℕ) → Target
level_if number None = Unknown
level_if None (Some rest) = Unknown
level_if (Some bitrate) (Some rest) = fragment_at bitrate rest

-- `B)/Fragments(NAME=T)`
abbrev pub level_at : List ℕ → Target
level_at text = level_if (number_of (up_to 41 text)) (behind (codes ")/Fragments(") (from 41 text))

-- `ID)`
abbrev pub streams_at : Option (List ℕ) → Target
streams_at None = Unknown
streams_at (Some id) = streams id

-- what stands behind `.isml/`, with what stands behind `QualityLevels(` and `Streams(` in it
abbrev pub target_from : Option (List ℕ) → Option (List ℕ) → Target
target_from (Some level) push = level_at level
target_from None (Some push) = streams_at (before (codes ")") push)
target_from None None = Unknown

-- what stands behind `.isml/`
abbrev pub target_behind : List ℕ → Target
target_behind rest =
    if bytes_eq rest (codes "Manifest") || bytes_eq rest (codes "manifest") then Manifest
    else target_from (behind (codes "QualityLevels(") rest) (behind (codes "Streams(") rest)

-- `/PATH` before `.isml/`, and what stands behind it
abbrev pub target_cut : Option (List ℕ) → List ℕ → Target
target_cut None rest = Unknown
target_cut (Some path) rest = if is_short path then target_behind rest else Unknown

abbrev pub target_parts : Option (List ℕ × List ℕ) → Target
target_parts None = Unknown
target_parts (Some (front, rest)) = target_cut (behind (codes "/") front) rest

-- what the unescaped text of a target names
abbrev pub target_in : List ℕ → Target
target_in text = target_parts (cut_isml text)

-- what a target names
abbrev pub target_of : List ℕ → Target
target_of bytes = target_in (target_text bytes)
