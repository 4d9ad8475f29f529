-- How a cause is told.
use Rattle.std.specs.Prelude.{ℕ, Bool, true, false, List, [], ◌++◌, codes, decimal}
use Rattle.sm_model.specs.declared.cause.Cause.{Cause}
use Rattle.sm_model.specs.declared.cause.Cause.TheVariants.{BadBox, BoxTooLarge, OpenEnded, NoHeader, BadLiveManifest, BadMoov, UnknownTrack, NotDeclared}
use Rattle.sm_model.specs.declared.cause.Cause.TheVariants.{DeclClash, Protected, ManyTracks, ManyRuns, BaseOffset, NoTime, NoDuration, NoSamples}
use Rattle.sm_model.specs.declared.cause.Cause.TheVariants.{SamplesOutside, NoMdat, DurationClash, Overlap, CutOff, TimeTooLarge, TooManySamples, BadRun}
use Rattle.sm_model.specs.declared.cause.Cause.TheVariants.{Full, DiskFault, Damaged, NoMemory, Forward, BadHead, HeadTooLarge, NoTarget, Method, Encoded}
use Rattle.sm_model.specs.declared.cause.Cause.TheVariants.{BadChunk, LengthRequired, NotKept, NoChannel, TooManyConnections}

-- how a cause is told: by its number, for a reader that is a program, by its name, by the HTTP status of the reply, and
-- whether its place in the received bytes is told: it is with what boxes, headers and fragments of a push are refused for
pub record Telling : Type 0 where
  pub number : ℕ
  pub name : List ℕ
  pub status : ℕ
  pub place : Bool

abbrev pub telling : ℕ → List ℕ → ℕ → Bool → Telling
telling number name status place = record { number = number; name = name; status = status; place = place }

-- the table of the causes, a line each
abbrev pub cause_row : Cause → Telling
cause_row BadBox = telling 1 (codes "BadBox") 400 true
cause_row BoxTooLarge = telling 2 (codes "BoxTooLarge") 413 true
cause_row OpenEnded = telling 3 (codes "OpenEnded") 400 true
cause_row NoHeader = telling 4 (codes "NoHeader") 400 true
cause_row (BadLiveManifest inside) = telling 5 (codes "BadLiveManifest") 400 true
cause_row BadMoov = telling 6 (codes "BadMoov") 400 true
cause_row UnknownTrack = telling 7 (codes "UnknownTrack") 400 true
cause_row (NotDeclared stream bitrate) = telling 8 (codes "NotDeclared") 409 false
cause_row (DeclClash stream bitrate) = telling 9 (codes "DeclClash") 409 false
cause_row Protected = telling 10 (codes "Protected") 415 true
cause_row ManyTracks = telling 11 (codes "ManyTracks") 400 true
cause_row ManyRuns = telling 12 (codes "ManyRuns") 400 true
cause_row BaseOffset = telling 13 (codes "BaseOffset") 400 true
cause_row NoTime = telling 14 (codes "NoTime") 400 true
cause_row NoDuration = telling 15 (codes "NoDuration") 400 true
cause_row NoSamples = telling 16 (codes "NoSamples") 400 true
cause_row SamplesOutside = telling 17 (codes "SamplesOutside") 400 true
cause_row NoMdat = telling 18 (codes "NoMdat") 400 true
cause_row (DurationClash kept given) = telling 19 (codes "DurationClash") 409 false
cause_row (Overlap end) = telling 20 (codes "Overlap") 409 false
cause_row CutOff = telling 21 (codes "CutOff") 400 true
cause_row TimeTooLarge = telling 22 (codes "TimeTooLarge") 400 true
cause_row TooManySamples = telling 23 (codes "TooManySamples") 413 true
cause_row BadRun = telling 24 (codes "BadRun") 400 true
cause_row Full = telling 30 (codes "Full") 507 false
cause_row DiskFault = telling 31 (codes "DiskFault") 503 false
cause_row Damaged = telling 32 (codes "Damaged") 503 false
cause_row NoMemory = telling 33 (codes "NoMemory") 500 false
cause_row Forward = telling 35 (codes "Forward") 503 false
cause_row BadHead = telling 40 (codes "BadHead") 400 false
cause_row HeadTooLarge = telling 41 (codes "HeadTooLarge") 431 false
cause_row NoTarget = telling 42 (codes "NoTarget") 404 false
cause_row Method = telling 43 (codes "Method") 405 false
cause_row Encoded = telling 44 (codes "Encoded") 415 false
cause_row BadChunk = telling 45 (codes "BadChunk") 400 false
cause_row LengthRequired = telling 46 (codes "LengthRequired") 411 false
cause_row NotKept = telling 47 (codes "NotKept") 404 false
cause_row NoChannel = telling 48 (codes "NoChannel") 404 false
cause_row TooManyConnections = telling 49 (codes "TooManyConnections") 503 false

abbrev pub cause_number : Cause → ℕ
cause_number cause = (cause_row cause).number

abbrev pub cause_name : Cause → List ℕ
cause_name cause = (cause_row cause).name

abbrev pub cause_status : Cause → ℕ
cause_status cause = (cause_row cause).status

abbrev pub has_place : Cause → Bool
has_place cause = (cause_row cause).place

-- the values that a cause names, each behind a space
abbrev pub cause_values : Cause → List ℕ
cause_values (BadLiveManifest inside) = codes " inside " ++ decimal inside
cause_values (NotDeclared stream bitrate) = codes " " ++ (stream ++ (codes " " ++ decimal bitrate))
cause_values (DeclClash stream bitrate) = codes " " ++ (stream ++ (codes " " ++ decimal bitrate))
cause_values (DurationClash kept given) = codes " kept " ++ (decimal kept ++ (codes " given " ++ decimal given))
cause_values (Overlap end) = codes " end " ++ decimal end
cause_values _ = []

abbrev pub place_text : Bool → ℕ → List ℕ
place_text true at = codes " at " ++ decimal at
place_text false at = []

-- number, name, the values, the place where one is told, and a line feed
abbrev pub cause_line : ℕ → Cause → List ℕ
cause_line at cause =
    decimal (cause_number cause)
    ++ (codes " " ++ (cause_name cause ++ (cause_values cause ++ (place_text (has_place cause) at ++ codes "\n"))))
