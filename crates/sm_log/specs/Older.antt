-- The verdict of stores that were written before late fragments were kept: a new time starts at or behind the last end.
use Rattle.std.specs.Prelude.{◌≡◌, ◌+◌, ◌==◌, ◌<◌, ◌^◌, ◌++◌, ℕ, List, [], ◌∷◌, length, nat_le, Option, Some, None, if◌then◌else◌}
use Rattle.sm_model.specs.declared.address.Address.{Address}
use Rattle.sm_model.specs.declared.entry.Entry.{Entry}
use Rattle.sm_model.specs.declared.entry.Entry.TheVariants.{Declare, Keep}
use Rattle.sm_model.specs.declared.fragment.Fragment.{Fragment}
use Rattle.sm_model.specs.declared.track.Track.{Track}
use Rattle.sm_model.specs.Channels.{IsChannel}
use Rattle.sm_model.specs.Fragments.{IsValid}
use Rattle.sm_log.specs.declared.verdict.Decision.{Decision}
use Rattle.sm_log.specs.declared.verdict.Decision.TheVariants.{New, There, Clash, Overlap}
use Rattle.sm_log.specs.declared.verdict.Judged.{Judged}
use Rattle.sm_log.specs.declared.verdict.Judged.TheVariants as judged
use Rattle.sm_log.specs.Times.{entry_at}
use Rattle.sm_log.specs.Adds.{Add, is_declared, place_of, times_of, judged_by}
use Rattle.sm_model.specs.Entries.{address_of}
use Rattle.sm_log.specs.Logs.{channel_of, adds_of}

-- where the last time ends
abbrev pub last_end : List (ℕ × ℕ) → ℕ
last_end [] = 0
last_end (x ∷ []) = x.0 + x.1
last_end (x ∷ y ∷ ys) = last_end (y ∷ ys)

abbrev pub older_decided : ℕ → ℕ → ℕ → Option ℕ → Decision
older_decided end start duration (Some kept) = if kept == duration then There else Clash kept
older_decided end start duration None = if nat_le end start then New else Overlap end

abbrev pub older_decision : List (ℕ × ℕ) → ℕ → ℕ → Decision
older_decision times start duration = older_decided (last_end times) start duration (entry_at start times)

abbrev pub older_verdict : List Track → List Add → Address → ℕ → Judged
older_verdict channel adds address duration =
    if is_declared channel address then judged_by (place_of address adds) (older_decision (times_of address.stream adds) address.time duration)
    else judged.NotDeclared

abbrev pub older_verdict_by : Option (List Track) → List Add → Address → ℕ → Judged
older_verdict_by None adds address duration = judged.NotDeclared
older_verdict_by (Some channel) adds address duration = older_verdict channel adds address duration

abbrev pub older_verdict_on : List Entry → Fragment → Judged
older_verdict_on log f = older_verdict_by (channel_of log) (adds_of log) (address_of f) f.duration

-- the entry could stand behind these
abbrev pub OlderFitsBehind : List Entry → Entry → Type 0
OlderFitsBehind before (Declare tracks) = (before ≡ []) × IsChannel tracks
OlderFitsBehind before (Keep f) = IsValid f × (older_verdict_on before f ≡ judged.New)

pub record IsOlderSound (log : List Entry) : Type 0 where
  pub few : length log < 2 ^ 32
  pub each : (front back : List Entry) (e : Entry) → log ≡ front ++ e ∷ back → OlderFitsBehind front e
