-- The steps in which a fragment is judged.
use Rattle.std.specs.Prelude.{Bool, true, false, not, ◌||◌, Result, Ok, Err, if◌then◌else◌}
use Rattle.sm_model.specs.declared.cause.Cause.{Cause}
use Rattle.sm_model.specs.declared.cause.Cause.TheVariants.{BadBox, ManyTracks}
use Rattle.sm_model.specs.declared.run.Run.{Run}
use Rattle.sm_model.specs.declared.run.RawFragment.{RawFragment}

-- a cause of the first step stays
abbrev pub and_then : Result Run Cause → (Run → Result RawFragment Cause) → Result RawFragment Cause
and_then (Ok run) next = next run
and_then (Err c) next = Err c

abbrev pub is_bad : Cause → Bool
is_bad BadBox = true
is_bad _ = false

-- What a moof with at least one traf says, by the answer of its first one and by whether there are many: ManyTracks stands
-- behind BadBox and before every other cause.
abbrev pub alone : Bool → Result Run Cause → Result Run Cause
alone many (Ok run) = if many then Err ManyTracks else Ok run
alone many (Err c) = if is_bad c || not many then Err c else Err ManyTracks
