-- How it is told what came of an export.
use Rattle.std.proofs.Common.{◌≡◌, ◌⊎◌, inl, inr, ℕ, true, false, List, Result, Ok, Err, sym, ap, subst, ◌∙◌}
use Rattle.std.specs.Prelude.{IfOk, OnErr}
use Rattle.sm_ends.specs.declared.input.InputFault.{InputFault}
use Rattle.sm_ends.specs.declared.input.InputFault.TheVariants as input
use Rattle.sm_model.specs.declared.no_memory.NoMemory.{NoMemory}
use Rattle.sm_site.specs.Meanings.{Chosen, View}
use Rattle.sm_command.specs.declared.fault.StoreFault.{StoreFault}
use Rattle.sm_command.specs.declared.fault.StoreFault.TheVariants as fault
use Rattle.sm_export.specs.declared.exported.Exported.{Exported}
use Rattle.sm_export.specs.declared.exported.Exported.TheVariants as exported
use Rattle.sm_export.specs.declared.exported.StoreExport.{StoreExport}
use Rattle.sm_export.specs.declared.exported.StoreExport.TheVariants as ends
use Rattle.sm_export.specs.Storing.{IsChosenFor}
use Rattle.sm_tool.specs.declared.answer.Answer.{Answer}
use Rattle.sm_tool.specs.declared.answer.Answer.TheVariants.{NotAStore, Starved}
use Rattle.sm_tool.specs.Exports.{IsUnwritten, TellsExport, TellsExported, TellsUnread}
use Rattle.sm_tool.specs.Stores.{IsSelected, or_starved}
use Rattle.sm_tool.proofs.Storing.{placed, selected, told_selected}

pub told_so : (comes : StoreExport) (r : Result Answer NoMemory) (answer : Answer) → IfOk r (λ a. TellsExport comes a) → OnErr r (IsUnwritten comes) → answer ≡ or_starved r
    → TellsExport comes answer ⊎ ((answer ≡ Starved) × IsUnwritten comes)
told_so comes (Ok a) answer tells none is = inl (subst (λ (x : Answer). TellsExport comes x) (sym is) tells)
told_so comes (Err e) answer tells none is = inr (is, none)

-- ---- what is told to be no store

exported_so : (e : Exported) (answer : Answer) (line : List ℕ) → TellsExported e answer → answer ≡ NotAStore line → ⊥
exported_so (exported.Done written) answer line is e = let no = sym is ∙ e in cc
exported_so (exported.Input refusal) answer line is e = let no = sym is ∙ e in cc
exported_so (exported.Other cause) answer line is e = let no = sym is ∙ e in cc
exported_so exported.DiskFault answer line is e = let no = sym is ∙ e in cc
exported_so exported.Damaged answer line is e = let no = sym is ∙ e in cc
exported_so exported.WriteFault answer line is e = let no = sym is ∙ e in cc
exported_so (exported.NoMemory true) answer line is e = let no = sym is ∙ e in cc
exported_so (exported.NoMemory false) answer line is e = let no = sym is ∙ e in cc

unread_so : (f : InputFault) (answer : Answer) (line : List ℕ) → TellsUnread f answer → answer ≡ NotAStore line → ⊥
unread_so input.Failed answer line is e = let no = sym is ∙ e in cc
unread_so input.TooLong answer line is e = let no = sym is ∙ e in cc
unread_so input.NoMemory answer line is e = let no = sym is ∙ e in cc

-- the place of the fault that is told so
told_placed : (comes : StoreExport) (answer : Answer) (line : List ℕ) → TellsExport comes answer → answer ≡ NotAStore line → (at : ℕ) × (comes ≡ ends.Unopened (fault.NotAStore at))
told_placed (ends.Ended x) answer line tells e = absurd (exported_so x answer line tells e)
told_placed (ends.Unopened why) answer line tells e = let p = placed why answer line tells e in (p.0, ap (λ (w : StoreFault). ends.Unopened w) p.1)
told_placed (ends.Unread f) answer line tells e = absurd (unread_so f answer line tells e)

pub export_placed : (comes : StoreExport) (r : Result Answer NoMemory) (answer : Answer) (line : List ℕ) → IfOk r (λ a. TellsExport comes a) → answer ≡ or_starved r → answer ≡ NotAStore line
    → (at : ℕ) × (comes ≡ ends.Unopened (fault.NotAStore at))
export_placed comes (Ok a) answer line tells is e = told_placed comes a line tells (sym is ∙ e)
export_placed comes (Err none) answer line tells is e = absurd (let no = sym is ∙ e in cc)

-- ---- what the site is selected with

chosen_selected : (comes : StoreExport) (answer : Answer) (chosen : Chosen) (old view : View) → TellsExport comes answer → IsChosenFor comes chosen old view → IsSelected answer chosen old view
chosen_selected (ends.Ended e) answer chosen old view tells is = selected answer chosen old view is
chosen_selected (ends.Unopened why) answer chosen old view tells is = told_selected why answer chosen old view tells is
chosen_selected (ends.Unread f) answer chosen old view tells is = selected answer chosen old view is

starved_selected : (comes : StoreExport) (chosen : Chosen) (old view : View) → IsChosenFor comes chosen old view → IsSelected Starved chosen old view
starved_selected (ends.Ended e) chosen old view is = inl is
starved_selected (ends.Unopened why) chosen old view is = is
starved_selected (ends.Unread f) chosen old view is = inl is

pub export_selected : (comes : StoreExport) (r : Result Answer NoMemory) (answer : Answer) (chosen : Chosen) (old view : View) → IfOk r (λ a. TellsExport comes a) → answer ≡ or_starved r
    → IsChosenFor comes chosen old view → IsSelected answer chosen old view
export_selected comes (Ok a) answer chosen old view tells is h = subst (λ (x : Answer). IsSelected x chosen old view) (sym is) (chosen_selected comes a chosen old view tells h)
export_selected comes (Err none) answer chosen old view tells is h = subst (λ (x : Answer). IsSelected x chosen old view) (sym is) (starved_selected comes chosen old view h)
