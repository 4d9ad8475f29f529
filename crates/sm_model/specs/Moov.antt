-- What a moov says of its tracks (ISO/IEC 14496-12, 8.2.1 to 8.8.3): a head for each trak, or nothing where the moov is
-- malformed. Boxes that are not named here are skipped unread; of several boxes of one type where one is meant, the first counts.
use Rattle.std.specs.Prelude.{ℕ, Bool, false, not, ◌&&◌, ◌||◌, ◌==◌, nat_le, nat_eq, List, [], ◌∷◌, ◌++◌, length, drop, map, codes, Option, Some, None}
use Rattle.std.specs.Prelude.{if◌then◌else◌}
use Rattle.std.specs.Option.{option_map, option_and_then}
use Rattle.std.specs.List.{list_any}
use Rattle.std.specs.Cmp.Lexicographic.{pointwise}
use Rattle.sm_model.specs.declared.run.Defaults.{Defaults}
use Rattle.sm_model.specs.declared.heads.TrackHead.{TrackHead}
use Rattle.sm_model.specs.Numbers.{number32_at}
use Rattle.sm_model.specs.Boxes.{Box, boxes, box_of, starts_whole}
use Rattle.sm_model.specs.Found.{Found, found, bodies}
use Rattle.sm_model.specs.Fields.{version}

-- ---- children

abbrev pub some_body : Found → Option (List ℕ)
some_body f = if f.some then Some f.first else None

-- the body of the first box of this type among the children; none where a child is cut or has a bad size
unfoldable pub first_child : List ℕ → List ℕ → Option (List ℕ)
first_child name b = option_and_then (λ xs. some_body (found (bodies name xs))) (boxes b)

-- what two bodies say, one behind the other
abbrev pub joined : {A : Type 0} → Option (List A) → Option (List A) → Option (List A)
joined None ys = None
joined (Some xs) None = None
joined (Some xs) (Some ys) = Some (xs ++ ys)

-- what all these bodies say, one behind the other; none where one of them is malformed
unfoldable pub gather : {A : Type 0} → (List ℕ → Option (List A)) → List (List ℕ) → Option (List A)
gather f [] = Some []
gather f (b ∷ bs) = joined (f b) (gather f bs)

-- ---- a trak

-- the field of 32 bits behind version and flags and two times, which have 32 bits each in version 0 and 64 bits each in
-- version 1; none where the body is too short for it, or of another version
unfoldable pub number_behind_times : List ℕ → Option ℕ
number_behind_times b =
    if version b == 0 && nat_le 16 (length b) then Some (number32_at 12 b)
    else if version b == 1 && nat_le 24 (length b) then Some (number32_at 20 b)
    else None

-- tkhd (8.3.2)
unfoldable pub tkhd_id : List ℕ → Option ℕ
tkhd_id trak = option_and_then number_behind_times (first_child (codes "tkhd") trak)

abbrev pub unless_zero : ℕ → Option ℕ
unless_zero n = if n == 0 then None else Some n

-- mdhd (8.4.2): ticks a second, at least one
unfoldable pub timescale : List ℕ → Option ℕ
timescale mdia = option_and_then unless_zero (option_and_then number_behind_times (first_child (codes "mdhd") mdia))

-- stsd (8.5.2): the type of the first sample entry, behind version and flags and the count. The entry is a whole box;
-- those behind it are not looked at.
unfoldable pub first_entry : List ℕ → Option (List ℕ)
first_entry stsd =
    if nat_le 16 (length stsd) && (nat_le (version stsd) 1 && (not (number32_at 4 stsd == 0) && starts_whole (drop 8 stsd)))
    then Some (box_of (drop 8 stsd)).kind
    else None

unfoldable pub entry_type : List ℕ → Option (List ℕ)
entry_type mdia =
    option_and_then first_entry
    (option_and_then (first_child (codes "stsd")) (option_and_then (first_child (codes "stbl")) (first_child (codes "minf") mdia)))

-- the types of sample entries whose samples are encrypted (8.12)
abbrev pub is_encrypted : List ℕ → Bool
is_encrypted kind = pointwise nat_eq kind (codes "encv") || pointwise nat_eq kind (codes "enca")

abbrev pub no_defaults : Defaults
no_defaults = record { duration = 0; size = 0; flags = 0 }

abbrev pub head_of : ℕ → ℕ → List ℕ → TrackHead
head_of id ticks kind = record { id = id; timescale = ticks; protected = is_encrypted kind; defaults = no_defaults }

-- the head of a track, before its defaults are known
unfoldable pub trak : List ℕ → Option TrackHead
trak b =
    option_and_then
    (λ id.
    option_and_then (λ mdia. option_and_then (λ ticks. option_map (head_of id ticks) (entry_type mdia)) (timescale mdia))
    (first_child (codes "mdia") b))
    (tkhd_id b)

-- ---- an mvex

-- trex (8.8.3): version and flags, track_ID, description index, default duration, size and flags. The version is not tested.
unfoldable pub trex : List ℕ → Option (ℕ × Defaults)
trex b =
    if nat_le 24 (length b)
    then Some (number32_at 4 b, record { duration = number32_at 12 b; size = number32_at 16 b; flags = number32_at 20 b })
    else None

abbrev pub single : {A : Type 0} → Option A → Option (List A)
single o = option_map (λ x. x ∷ []) o

abbrev pub trexes_in : List Box → Option (List (ℕ × Defaults))
trexes_in xs = gather (λ b. single (trex b)) (bodies (codes "trex") xs)

unfoldable pub mvex : List ℕ → Option (List (ℕ × Defaults))
mvex b = option_and_then trexes_in (boxes b)

-- those of the first trex of the track, or zeros
unfoldable pub defaults_for : List (ℕ × Defaults) → ℕ → Defaults
defaults_for [] id = no_defaults
defaults_for (t ∷ ts) id = if t.0 == id then t.1 else defaults_for ts id

abbrev pub with_defaults : List (ℕ × Defaults) → TrackHead → TrackHead
with_defaults ts h = record h { defaults = defaults_for ts h.id }

-- ---- a moov

-- a number stands twice
unfoldable pub repeats : List ℕ → Bool
repeats [] = false
repeats (n ∷ ns) = list_any (nat_eq n) ns || repeats ns

-- no two tracks have one track_ID
unfoldable pub settled : List (ℕ × Defaults) → List TrackHead → Option (List TrackHead)
settled ts hs = if repeats (map (λ h. h.id) hs) then None else Some (map (with_defaults ts) hs)

abbrev pub traks_of : List Box → Option (List TrackHead)
traks_of xs = gather (λ b. single (trak b)) (bodies (codes "trak") xs)

abbrev pub trexes_of : List Box → Option (List (ℕ × Defaults))
trexes_of xs = gather mvex (bodies (codes "mvex") xs)

unfoldable pub moov_of : List Box → Option (List TrackHead)
moov_of xs = option_and_then (λ ts. option_and_then (settled ts) (traks_of xs)) (trexes_of xs)

-- a moov's body
unfoldable pub moov : List ℕ → Option (List TrackHead)
moov b = option_and_then moov_of (boxes b)
