-- What exporting from the store in a folder comes to.
use Rattle.std.specs.Prelude.{◌≡◌, ◌⊎◌, ◌≤◌, ℕ, List, length, None, Some, IfSome, IsSome}
use Rattle.std.specs.Io.KnownBytes.{Consumes, IsAtEnd}
use Rattle.sm_ends.specs.Faults.{Rose as FaultsRose}
use Rattle.sm_model.specs.declared.entry.Entry.{Entry}
use Rattle.sm_site.specs.Clauses.{Rose}
use Rattle.sm_site.specs.Meanings.{Chosen, View, asked}
use Rattle.sm_archive.specs.Store.{IsStore}
use Rattle.sm_command.specs.Serving.{WhyUnopened}
use Rattle.sm_export.specs.declared.exported.Exported.{Exported}
use Rattle.sm_export.specs.declared.exported.Exported.TheVariants as answers
use Rattle.sm_export.specs.declared.exported.StoreExport.{StoreExport}
use Rattle.sm_export.specs.declared.exported.StoreExport.TheVariants as ends
use Rattle.sm_export.specs.Exporting.{ExportedAs}
use Rattle.sm_ends.specs.Ended.{End, WhyUnread, input_most}

-- the input was read to its end, and this came of it and of the log; a fault of the disk or of the output was counted
pub record IsTaken (told : Type 0) (log : List Entry) (name : List ℕ) (bitrate : ℕ) (old new : View)
    (input input' output output' : End) (e : Exported) : Type 0 where
  pub text : List ℕ
  pub consumed : Consumes input.told input'.told text
  pub ended : IsAtEnd input'.told
  pub short : length text ≤ input_most
  pub exported : ExportedAs told log text name bitrate output.told output'.told e
  pub disk_fault : e ≡ answers.DiskFault → Rose old.disk_faults new.disk_faults
  pub fault : e ≡ answers.WriteFault → FaultsRose output.faults output'.faults

-- what an archive that stands for this log comes to
abbrev pub TakesTo : Type 0 → List Entry → List ℕ → ℕ → View → View → End → End → End → End → StoreExport → Type 0
TakesTo told log name bitrate old new input input' output output' (ends.Ended e) = IsTaken told log name bitrate old new input input' output output' e
TakesTo told log name bitrate old new input input' output output' (ends.Unopened why) = ⊥
TakesTo told log name bitrate old new input input' output output' (ends.Unread fault) = WhyUnread input_most input input' fault × (output' ≡ output)

-- What a store comes to: a log, which is the store's where the disk tells its contents, and what came of it, or why the input was not read; or
-- why no store was opened, and nothing was read. Where the input was not read or no store was opened, nothing was written.
abbrev pub ComesTo : List ℕ → ℕ → View → View → End → End → End → End → StoreExport → Type 0
ComesTo name bitrate old new input input' output output' (ends.Ended e) =
    (log : List Entry) × IfSome old.contents (IsStore log) × IsTaken (IsSome old.contents) log name bitrate old new input input' output output' e
ComesTo name bitrate old new input input' output output' (ends.Unopened why) = WhyUnopened old new why × (input' ≡ input) × (output' ≡ output)
ComesTo name bitrate old new input input' output output' (ends.Unread fault) =
    ((log : List Entry) × IfSome old.contents (IsStore log)) × WhyUnread input_most input input' fault × (output' ≡ output)

-- the site was asked once to be selected, and is with this; where no store was opened, with nothing else than this
abbrev pub IsChosenFor : StoreExport → Chosen → View → View → Type 0
IsChosenFor (ends.Ended e) chosen old new = new.chosen ≡ asked old.chosen (Some chosen)
IsChosenFor (ends.Unopened why) chosen old new = (new.chosen ≡ asked old.chosen (Some chosen)) ⊎ (new.chosen ≡ asked old.chosen None)
IsChosenFor (ends.Unread fault) chosen old new = new.chosen ≡ asked old.chosen (Some chosen)
