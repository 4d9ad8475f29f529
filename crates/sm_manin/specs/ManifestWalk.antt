-- The walk over the tags of a manifest.
use Rattle.std.specs.Prelude.{ℕ, ◌-◌, ◌==◌, ◌&&◌, Bool, false, List, [], ◌∷◌, ◌++◌, length, take, Option, Some, None, option_to_list, if◌then◌else◌, codes, unwrap_or}
use Rattle.sm_model.specs.declared.tag.Attribute.{Attribute}
use Rattle.sm_model.specs.declared.tag.Tag.{Tag}
use Rattle.sm_model.specs.declared.tag.Tag.TheVariants.{Start, Finish, Text, End, Bad}
use Rattle.sm_manin.specs.declared.raw.RawTime.{RawTime}
use Rattle.sm_manin.specs.declared.raw.RawLevel.{RawLevel}
use Rattle.sm_manin.specs.declared.raw.RawStream.{RawStream}
use Rattle.sm_manin.specs.declared.raw.RawRoot.{RawRoot}
use Rattle.sm_model.specs.Same.{is_same}
use Rattle.sm_tag.specs.Elements.{attribute_of, enters}

-- What was met so far: the open elements from the outermost on, the outermost one, the place of one that isn't
-- SmoothStreamingMedia, that of the first Protection, the streams that have ended and the one that hasn't.
pub record Walk : Type 0 where
  pub path : List (List ℕ)
  pub root : Option RawRoot
  pub other : Option ℕ
  pub protection : Option ℕ
  pub done : List RawStream
  pub current : Option RawStream

abbrev pub none_met : Walk
none_met = record { path = []; root = None; other = None; protection = None; done = []; current = None }

abbrev pub root_of : List Attribute → ℕ → RawRoot
root_of a at = record {
  at = at;
  major = attribute_of (codes "MajorVersion") a;
  look = attribute_of (codes "LookAheadFragmentCount") a;
  lookahead = attribute_of
      (codes "LookaheadCount") a;
  timescale = attribute_of (codes "TimeScale") a;
}

abbrev pub stream_of : List Attribute → ℕ → RawStream
stream_of a at = record {
  at = at;
  kind_text = attribute_of (codes "Type") a;
  url = attribute_of (codes "Url") a;
  name = attribute_of
      (codes "Name") a;
  timescale = attribute_of (codes "TimeScale") a;
  levels = [];
  times = [];
}

abbrev pub level_of : List Attribute → ℕ → RawLevel
level_of a at = record { at = at; index = attribute_of (codes "Index") a; bitrate = attribute_of (codes "Bitrate") a }

abbrev pub time_of : List Attribute → ℕ → RawTime
time_of a at = record { at = at; t = attribute_of (codes "t") a; d = attribute_of (codes "d") a; r = attribute_of (codes "r") a }

abbrev pub is_in_root : List (List ℕ) → Bool
is_in_root (a ∷ []) = is_same a (codes "SmoothStreamingMedia")
is_in_root _ = false

abbrev pub is_in_stream : List (List ℕ) → Bool
is_in_stream (a ∷ b ∷ []) = is_same a (codes "SmoothStreamingMedia") && is_same b (codes "StreamIndex")
is_in_stream _ = false

abbrev pub with_child : List ℕ → List Attribute → ℕ → Option RawStream → Option RawStream
with_child name attributes at None = None
with_child name attributes at (Some s) =
    if is_same name (codes "QualityLevel") then Some (record s { levels = s.levels ++ level_of attributes at ∷ [] })
    else if is_same name (codes "c") then Some (record s { times = s.times ++ time_of attributes at ∷ [] })
    else Some s

abbrev pub begins : Walk → Bool → RawStream → Walk
begins w empty s = if empty then record w { done = w.done ++ s ∷ [] } else record w { current = Some s }

abbrev pub meets : Walk → List ℕ → List Attribute → Bool → ℕ → Walk
meets w name attributes empty at =
    if length w.path == 0 then (if is_same name (codes "SmoothStreamingMedia") then record w { root = Some (root_of attributes at) } else record w { other = Some at })
    else if is_in_root w.path && is_same name (codes "StreamIndex") then begins w empty (stream_of attributes at)
    else if is_in_stream w.path then record w { current = with_child name attributes at w.current }
    else w

abbrev pub starts : Walk → List ℕ → List Attribute → Bool → ℕ → Walk
starts w name attributes empty at =
    let met = meets w name attributes empty at in
    record met { path = enters empty name w.path; protection = if is_same name (codes "Protection") then Some (unwrap_or w.protection at) else w.protection }

abbrev pub finishes : Walk → List (List ℕ) → Walk
finishes w path =
    if length path == 1 then record w { path = path; done = w.done ++ option_to_list w.current; current = None }
    else record w { path = path }

abbrev pub step : Walk → Tag → Walk
step w (Start name attributes empty at) = starts w name attributes empty at
step w (Finish name at) = finishes w (take (length w.path - 1) w.path)
step w (Text at) = w
step w End = w
step w (Bad at) = w

abbrev pub walk : Walk → List Tag → Walk
walk w [] = w
walk w (t ∷ ts) = walk (step w t) ts
