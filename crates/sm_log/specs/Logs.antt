-- A log of entries: what is kept in it, what is said of a further fragment, and which logs are sound.
use Rattle.std.specs.Prelude.{◌≡◌, ◌==◌, ◌&&◌, ◌<◌, ◌^◌, ◌++◌, ℕ, suc, Bool, List, [], ◌∷◌, length, Option, None, Some, if◌then◌else◌}
use Rattle.sm_model.specs.declared.address.Address.{Address}
use Rattle.sm_model.specs.declared.entry.Entry.{Entry}
use Rattle.sm_model.specs.declared.entry.Entry.TheVariants.{Declare, Keep}
use Rattle.sm_model.specs.declared.fragment.Fragment.{Fragment}
use Rattle.sm_model.specs.declared.track.Track.{Track}
use Rattle.sm_model.specs.Channels.{IsChannel}
use Rattle.sm_model.specs.Entries.{address_of}
use Rattle.sm_model.specs.Fragments.{IsValid}
use Rattle.sm_model.specs.Same.{is_same}
use Rattle.sm_log.specs.declared.verdict.Judged.{Judged}
use Rattle.sm_log.specs.declared.verdict.Judged.TheVariants as judged
use Rattle.sm_log.specs.Times.{entry_at}
use Rattle.sm_log.specs.Adds.{Add, times_of, verdict, listed, behind}

-- the channel of the first entry
abbrev pub channel_of : List Entry → Option (List Track)
channel_of [] = None
channel_of (Declare tracks ∷ more) = Some tracks
channel_of (Keep f ∷ more) = None

-- what the Keeps add, each with its place, where the first entry has that place
abbrev pub adds_from : ℕ → List Entry → List Add
adds_from place [] = []
adds_from place (Declare tracks ∷ more) = adds_from (suc place) more
adds_from place (Keep f ∷ more) = (record { address = address_of f; duration = f.duration; place = place }) ∷ adds_from (suc place) more

-- what a log adds; places count from 0
abbrev pub adds_of : List Entry → List Add
adds_of log = adds_from 0 log

-- ---- what is kept

abbrev pub is_kept_at : Address → Fragment → Bool
is_kept_at address f = is_same f.stream address.stream && (f.bitrate == address.bitrate && f.time == address.time)

abbrev pub kept_from : Address → ℕ → List Entry → Option (ℕ × Fragment)
kept_from address place [] = None
kept_from address place (Declare tracks ∷ more) = kept_from address (suc place) more
kept_from address place (Keep f ∷ more) = if is_kept_at address f then Some (place, f) else kept_from address (suc place) more

-- the Keep at that address, with its place
abbrev pub kept_at : List Entry → Address → Option (ℕ × Fragment)
kept_at log address = kept_from address 0 log

-- ---- times

-- the starts and durations of the Keeps of a stream, each start once, in order of time
abbrev pub times_in : List Entry → List ℕ → List (ℕ × ℕ)
times_in log stream = times_of stream (adds_of log)

abbrev pub listed_by : Option (List Track) → List Add → List ℕ → List (ℕ × ℕ)
listed_by None adds stream = []
listed_by (Some channel) adds stream = listed channel adds stream

-- those of them at which every track of the stream is kept
abbrev pub listed_in : List Entry → List ℕ → List (ℕ × ℕ)
listed_in log stream = listed_by (channel_of log) (adds_of log) stream

-- up to two listed times behind what is kept at that start, each starting where the one before it ends
abbrev pub ahead_in : List Entry → List ℕ → ℕ → List (ℕ × ℕ)
ahead_in log stream start = behind (listed_in log stream) start (entry_at start (times_in log stream))

-- ---- sound logs

abbrev pub verdict_by : Option (List Track) → List Add → Address → ℕ → Judged
verdict_by None adds address duration = judged.NotDeclared
verdict_by (Some channel) adds address duration = verdict channel adds address duration

-- what is said of a fragment behind these entries
abbrev pub verdict_on : List Entry → Fragment → Judged
verdict_on log f = verdict_by (channel_of log) (adds_of log) (address_of f) f.duration

-- the entry may stand behind these: the channel first and alone, then valid fragments that were new
abbrev pub FitsBehind : List Entry → Entry → Type 0
FitsBehind before (Declare tracks) = (before ≡ []) × IsChannel tracks
FitsBehind before (Keep f) = IsValid f × (verdict_on before f ≡ judged.New)

-- each entry fits what stands before it, and there are at most 2^32 - 1
pub record IsSound (log : List Entry) : Type 0 where
  pub few : length log < 2 ^ 32
  pub each : (front back : List Entry) (e : Entry) → log ≡ front ++ e ∷ back → FitsBehind front e
