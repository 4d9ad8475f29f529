-- What a site is chosen with, and why it was not chosen.
use Rattle.std.specs.Prelude.{◌≡◌, ◌⊎◌, None, Some, Result, Ok, Err}
use Rattle.sm_site.specs.Clauses.{Rose}
use Rattle.sm_site.specs.Meanings.{Chosen, View, asked}
use Rattle.sm_command.specs.declared.fault.StoreFault.{StoreFault}
use Rattle.sm_command.specs.declared.fault.StoreFault.TheVariants as fault
use Rattle.sm_command.specs.Lasting.{NoFewer}

-- A call that chose a site asked it once to be selected, and leaves it selected with this; where it answers a fault, with nothing else than this.
abbrev pub IsChosen : {T : Type 0} → Result T StoreFault → Chosen → View → View → Type 0
IsChosen (Ok x) chosen old new = new.chosen ≡ asked old.chosen (Some chosen)
IsChosen (Err why) chosen old new = (new.chosen ≡ asked old.chosen (Some chosen)) ⊎ (new.chosen ≡ asked old.chosen None)

-- why a site was not chosen; behind want of memory no count fell
abbrev pub WhyUnchosen : View → View → StoreFault → Type 0
WhyUnchosen old new fault.DiskFault = Rose old.disk_faults new.disk_faults
WhyUnchosen old new fault.LinkFault = Rose old.link_faults new.link_faults
WhyUnchosen old new (fault.NotAStore at) = ⊥
WhyUnchosen old new fault.Unread = ⊥
WhyUnchosen old new fault.LongLadder = ⊥
WhyUnchosen old new (fault.BadLadder at) = ⊥
WhyUnchosen old new (fault.Refused cause) = ⊥
WhyUnchosen old new fault.Full = ⊥
WhyUnchosen old new fault.Damaged = ⊥
WhyUnchosen old new fault.NoMemory = NoFewer old new
