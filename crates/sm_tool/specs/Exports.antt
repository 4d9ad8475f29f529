-- What `export` answers.
use Rattle.std.specs.Prelude.{◌≡◌, ◌⊎◌, ℕ, true, false, List, []}
use Rattle.sm_ends.specs.declared.input.InputFault.{InputFault}
use Rattle.sm_ends.specs.declared.input.InputFault.TheVariants as input
use Rattle.sm_site.specs.Meanings.{View}
use Rattle.sm_export.specs.declared.exported.Exported.{Exported}
use Rattle.sm_export.specs.declared.exported.Exported.TheVariants as exported
use Rattle.sm_export.specs.declared.exported.StoreExport.{StoreExport}
use Rattle.sm_export.specs.declared.exported.StoreExport.TheVariants as ends
use Rattle.sm_export.specs.Storing.{ComesTo}
use Rattle.sm_tool.specs.declared.answer.Answer.{Answer}
use Rattle.sm_tool.specs.declared.answer.Answer.TheVariants.{Found, Unread, TooLong, Refused, Clash, Starved, Unfinished}
use Rattle.sm_tool.specs.declared.answer.Stop.TheVariants as stops
use Rattle.sm_pick.specs.Due.{refusal_line}
use Rattle.sm_tool.specs.Stores.{Tells, clash_line}
use Rattle.sm_ends.specs.Ended.{End}

-- How it is told what came of an archive and an input. A file that is whole is told by nothing further, and one that was begun and isn't
-- whole is followed by no line.
abbrev pub TellsExported : Exported → Answer → Type 0
TellsExported (exported.Done written) answer = answer ≡ Found []
TellsExported (exported.Input refusal) answer = answer ≡ Refused (refusal_line refusal)
TellsExported (exported.Other cause) answer = answer ≡ Clash (clash_line cause)
TellsExported exported.DiskFault answer = answer ≡ Unfinished stops.Disk
TellsExported exported.Damaged answer = answer ≡ Unfinished stops.Damaged
TellsExported exported.WriteFault answer = answer ≡ Unfinished stops.Output
TellsExported (exported.NoMemory true) answer = answer ≡ Unfinished stops.Memory
TellsExported (exported.NoMemory false) answer = answer ≡ Starved

-- how it is told that the input was not read
abbrev pub TellsUnread : InputFault → Answer → Type 0
TellsUnread input.Failed answer = answer ≡ Unread
TellsUnread input.TooLong answer = answer ≡ TooLong
TellsUnread input.NoMemory answer = answer ≡ Starved

abbrev pub TellsExport : StoreExport → Answer → Type 0
TellsExport (ends.Ended e) answer = TellsExported e answer
TellsExport (ends.Unopened why) answer = Tells why answer
TellsExport (ends.Unread fault) answer = TellsUnread fault answer

-- a line is due, and nothing was written
abbrev pub IsRefusal : Exported → Type 0
IsRefusal (exported.Done written) = ⊥
IsRefusal (exported.Input refusal) = Unit {0}
IsRefusal (exported.Other cause) = Unit {0}
IsRefusal exported.DiskFault = ⊥
IsRefusal exported.Damaged = ⊥
IsRefusal exported.WriteFault = ⊥
IsRefusal (exported.NoMemory begun) = ⊥

abbrev pub IsUnwritten : StoreExport → Type 0
IsUnwritten (ends.Ended e) = IsRefusal e
IsUnwritten (ends.Unopened why) = Unit {0}
IsUnwritten (ends.Unread fault) = ⊥

-- A quality was exported, or why not, and what came of it is told; where nothing was written it may be told that there was no memory for the
-- line.
abbrev pub ExportMeans : List ℕ → ℕ → View → View → End → End → End → End → Answer → Type 0
ExportMeans name bitrate old new input input' output output' answer =
    (comes : StoreExport) × ComesTo name bitrate old new input input' output output' comes
    × (TellsExport comes answer ⊎ ((answer ≡ Starved) × IsUnwritten comes))
