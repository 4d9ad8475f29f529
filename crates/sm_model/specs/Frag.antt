-- What a moof and the mdat behind it say (ISO/IEC 14496-12, 8.8 and 8.1.1): a raw fragment, or the cause that stands
-- first in the list of causes among those that hold. A moof has one traf, and that has one trun.
use Rattle.std.specs.Prelude.{ℕ, ℤ, pos, negsuc, ◌+◌, ◌-◌, ◌^◌, Bool, not, ◌&&◌, ◌||◌, ◌==◌, nat_le, nat_lt, List, [], ◌∷◌, ◌++◌, length, drop, slice_index, codes, Option, Some, None, Result, Ok, Err, if◌then◌else◌}
use Rattle.std.specs.Option.{option_map_or}
use Rattle.sm_model.specs.declared.cause.Cause.{Cause}
use Rattle.sm_model.specs.declared.cause.Cause.TheVariants.{BadBox, Protected, ManyTracks, ManyRuns, BaseOffset, NoTime, NoDuration, TimeTooLarge, NoSamples, TooManySamples, BadRun, NoMdat, SamplesOutside}
use Rattle.sm_model.specs.declared.run.Defaults.{Defaults}
use Rattle.sm_model.specs.declared.run.Row.{Row}
use Rattle.sm_model.specs.declared.run.Run.{Run}
use Rattle.sm_model.specs.declared.run.RawFragment.{RawFragment}
use Rattle.sm_model.specs.Numbers.{number32_at}
use Rattle.sm_model.specs.Boxes.{Box, boxes, box_of}
use Rattle.sm_model.specs.FragText.{tfxd_type, tfrf_type}
use Rattle.sm_model.specs.Found.{Found, found, is_kind, bodies, user_bodies}
use Rattle.sm_model.specs.Fields.{version, has, tfhd_fits, defaults_of, trun_fits, rows, data_offset, tfxd_fits, tfxd_pair, tfrf_fits, pairs}
unfoldable pub use Rattle.sm_model.specs.Cut.{cut, sizes}

-- a condition, and the cause that it gives
abbrev pub Line : Type 0
Line = Bool × Cause

abbrev pub first_cause : List Line → Option Cause
first_cause [] = None
first_cause (line ∷ lines) = if line.0 then Some line.1 else first_cause lines

-- ---- a traf

-- the sample encryption box: a2394f52-5a9b-4f14-a244-6c427c648df4
abbrev pub sealed_type : List ℕ
sealed_type = 0xa2 ∷ 0x39 ∷ 0x4f ∷ 0x52 ∷ 0x5a ∷ 0x9b ∷ 0x4f ∷ 0x14 ∷ 0xa2 ∷ 0x44 ∷ 0x6c ∷ 0x42 ∷ 0x7c ∷ 0x64 ∷ 0x8d ∷ 0xf4 ∷ []

-- what stands in it; all other boxes are skipped
pub record Traf : Type 0 where
  pub head : Found
  pub run : Found
  pub time : Found
  pub ahead : Found
  pub senc : Found
  pub sealed : Found

abbrev pub traf_of : List Box → Traf
traf_of xs = record {
  head = found (bodies (codes "tfhd") xs);
  run = found (bodies (codes "trun") xs);
  time = found (user_bodies tfxd_type xs);
  ahead = found (user_bodies tfrf_type xs);
  senc = found (bodies (codes "senc") xs);
  sealed = found (user_bodies sealed_type xs);
}

-- the conditions, in the order of the list

abbrev pub lacks_tfhd : Traf → Bool
lacks_tfhd t = not t.head.some

abbrev pub doubles_one : Traf → Bool
doubles_one t = t.head.twice || (t.time.twice || t.ahead.twice)

abbrev pub has_bad_tfhd : Traf → Bool
has_bad_tfhd t = not (tfhd_fits t.head.first)

abbrev pub has_bad_tfxd : Traf → Bool
has_bad_tfxd t = t.time.some && not (tfxd_fits t.time.first)

abbrev pub has_bad_tfrf : Traf → Bool
has_bad_tfrf t = t.ahead.some && not (tfrf_fits t.ahead.first)

abbrev pub is_protected : Traf → Bool
is_protected t = t.senc.some || t.sealed.some

abbrev pub has_many_truns : Traf → Bool
has_many_truns t = t.run.twice

abbrev pub has_base_offset : Traf → Bool
has_base_offset t = has (number32_at 0 t.head.first) 0x1

abbrev pub lacks_tfxd : Traf → Bool
lacks_tfxd t = not t.time.some

abbrev pub lasts_nothing : Traf → Bool
lasts_nothing t = (tfxd_pair t.time.first).1 == 0

abbrev pub ends_too_late : Traf → Bool
ends_too_late t = nat_le (2 ^ 63) ((tfxd_pair t.time.first).0 + (tfxd_pair t.time.first).1)

abbrev pub lacks_trun : Traf → Bool
lacks_trun t = not t.run.some

-- a trun with fewer than eight bytes counts nothing
abbrev pub counts : Traf → Bool
counts t = nat_le 8 (length t.run.first)

abbrev pub counts_none : Traf → Bool
counts_none t = counts t && number32_at 4 t.run.first == 0

abbrev pub counts_too_many : Traf → Bool
counts_too_many t = counts t && nat_lt 65536 (number32_at 4 t.run.first)

abbrev pub has_bad_trun : Traf → Bool
has_bad_trun t = not (trun_fits t.run.first)

-- what is cut, missing, doubled, or not as long as its flags, version and count say
abbrev pub bad_lines : Traf → List Line
bad_lines t =
    (lacks_tfhd t, BadBox)
    ∷ (doubles_one t, BadBox)
    ∷ (has_bad_tfhd t, BadBox)
    ∷ (has_bad_tfxd t, BadBox)
    ∷ (has_bad_tfrf t, BadBox)
    ∷ []

-- everything else that a traf shows
abbrev pub other_lines : Traf → List Line
other_lines t =
    (is_protected t, Protected)
    ∷ (has_many_truns t, ManyRuns)
    ∷ (has_base_offset t, BaseOffset)
    ∷ (lacks_tfxd t, NoTime)
    ∷ (lasts_nothing t, NoDuration)
    ∷ (ends_too_late t, TimeTooLarge)
    ∷ (lacks_trun t, NoSamples)
    ∷ (counts_none t, NoSamples)
    ∷ (counts_too_many t, TooManySamples)
    ∷ (has_bad_trun t, BadRun)
    ∷ []

unfoldable pub refusal : Traf → Option Cause
refusal t = first_cause (bad_lines t ++ other_lines t)

-- no pairs where there is no tfrf
unfoldable pub ahead_of : Found → List (ℕ × ℕ)
ahead_of f = if f.some then pairs f.first (slice_index f.first 4) else []

-- what it says, where no line holds
unfoldable pub run_of : Defaults → Traf → Run
run_of d t = record {
  id = number32_at 4 t.head.first;
  time = (tfxd_pair t.time.first).0;
  duration = (tfxd_pair t.time.first).1;
  signed = version t.run.first == 1;
  start = data_offset t.run.first;
  samples = rows (defaults_of d t.head.first) t.run.first (number32_at 4 t.run.first);
  ahead = ahead_of t.ahead;
}

unfoldable pub judged : Defaults → Traf → Result Run Cause
judged d t = option_map_or (λ c. Err c) (refusal t) (Ok (run_of d t))

-- the body of a traf: where a child is cut or has a bad size, it is a BadBox
unfoldable pub traf : Defaults → List ℕ → Result Run Cause
traf d b = option_map_or (λ xs. judged d (traf_of xs)) (boxes b) (Err BadBox)

-- ---- a moof alone

abbrev pub lacks_traf : Found → Bool
lacks_traf trafs = not trafs.some

abbrev pub has_many_trafs : Found → Bool
has_many_trafs trafs = trafs.twice

-- everything that a moof shows by itself; its first traf is t, and of a second one only its being there counts
abbrev pub moof_lines : Found → Traf → List Line
moof_lines trafs t = (lacks_traf trafs, BadBox) ∷ bad_lines t ++ ((has_many_trafs trafs, ManyTracks) ∷ other_lines t)

unfoldable pub judged_moof : Defaults → Found → Traf → Result Run Cause
judged_moof d trafs t = option_map_or (λ c. Err c) (first_cause (moof_lines trafs t)) (Ok (run_of d t))

unfoldable pub run_in : Defaults → Found → Result Run Cause
run_in d trafs = option_map_or (λ ys. judged_moof d trafs (traf_of ys)) (boxes trafs.first) (Err BadBox)

-- a whole moof
unfoldable pub moof_run : Defaults → List ℕ → Result Run Cause
moof_run d m = option_map_or (λ xs. run_in d (found (bodies (codes "traf") xs))) (boxes (box_of m).body) (Err BadBox)

-- ---- the mdat behind it

-- The body from the first sample on. The place counts from the first byte of the moof, and the body begins at `lead`.
-- A place before the body or past it leaves nothing, in which only samples of no bytes lie.
unfoldable pub rest_of : ℕ → Option ℤ → List ℕ → List ℕ
rest_of lead None body = body
rest_of lead (Some (pos n)) body = if nat_le lead n then drop (n - lead) body else []
rest_of lead (Some (negsuc n)) body = []

-- behind a moof of so many bytes
abbrev pub rest_behind : ℕ → List ℕ → Run → List ℕ
rest_behind size md run = rest_of (size + (box_of md).head) run.start (box_of md).body

abbrev pub mdat_rest : List ℕ → List ℕ → Run → List ℕ
mdat_rest m md run = rest_behind (length m) md run

abbrev pub is_no_mdat : List ℕ → Bool
is_no_mdat md = not (is_kind (codes "mdat") (box_of md))

abbrev pub lacks_bytes : List ℕ → List Row → Bool
lacks_bytes rest rs = nat_lt (length rest) (sizes rs)

abbrev pub lines_behind : ℕ → List ℕ → Run → List Line
lines_behind size md run = (is_no_mdat md, NoMdat) ∷ (lacks_bytes (rest_behind size md run) run.samples, SamplesOutside) ∷ []

abbrev pub last_lines : List ℕ → List ℕ → Run → List Line
last_lines m md run = lines_behind (length m) md run

-- the samples taken out of the body
unfoldable pub raw_of : List ℕ → Run → RawFragment
raw_of rest run = record {
  id = run.id;
  time = run.time;
  duration = run.duration;
  signed = run.signed;
  samples = cut rest run.samples;
  ahead = run.ahead;
}

-- what is left to judge once a moof of so many bytes said run
unfoldable pub finish : ℕ → List ℕ → Run → Result RawFragment Cause
finish size md run = option_map_or (λ c. Err c) (first_cause (lines_behind size md run)) (Ok (raw_of (rest_behind size md run) run))

abbrev pub last : List ℕ → List ℕ → Run → Result RawFragment Cause
last m md run = finish (length m) md run

-- ---- a whole moof and a whole mdat

-- the list of causes, whole
abbrev pub frag_lines : Found → Traf → List ℕ → List ℕ → Run → List Line
frag_lines trafs t m md run = moof_lines trafs t ++ last_lines m md run

unfoldable pub judged_frag : Defaults → List ℕ → List ℕ → Found → Traf → Result RawFragment Cause
judged_frag d m md trafs t =
    option_map_or (λ c. Err c)
    (first_cause (frag_lines trafs t m md (run_of d t)))
    (Ok (raw_of (mdat_rest m md (run_of d t)) (run_of d t)))

unfoldable pub frag_in : Defaults → List ℕ → List ℕ → Found → Result RawFragment Cause
frag_in d m md trafs = option_map_or (λ ys. judged_frag d m md trafs (traf_of ys)) (boxes trafs.first) (Err BadBox)

-- the raw fragment, or the first cause that holds
unfoldable pub frag : Defaults → List ℕ → List ℕ → Result RawFragment Cause
frag d m md = option_map_or (λ xs. frag_in d m md (found (bodies (codes "traf") xs))) (boxes (box_of m).body) (Err BadBox)
