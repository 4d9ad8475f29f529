-- What one entry more does.
use Rattle.std.specs.Prelude.{ℕ, Bool, false, ◌==◌, ◌&&◌, List, if◌then◌else◌}
use Rattle.sm_model.specs.declared.entry.Entry.{Entry}
use Rattle.sm_model.specs.declared.entry.Entry.TheVariants.{Declare, Keep}
use Rattle.sm_model.specs.Same.{is_same}
use Rattle.sm_log.specs.Times.{with_entry}

-- the times with what the entry keeps of the stream
abbrev pub times_more : List ℕ → List (ℕ × ℕ) → Entry → List (ℕ × ℕ)
times_more stream times (Declare tracks) = times
times_more stream times (Keep f) = if is_same f.stream stream then with_entry f.time f.duration times else times

abbrev pub keeps : List ℕ → ℕ → ℕ → Entry → Bool
keeps stream bitrate time (Declare tracks) = false
keeps stream bitrate time (Keep f) = is_same f.stream stream && (f.bitrate == bitrate && f.time == time)
