-- How an edge is opened.
use Rattle.std.specs.Prelude.{◌≡◌, ◌⊎◌, ℕ, List, None, Some}
use Rattle.sm_model.specs.declared.entry.Entry.{Entry}
use Rattle.sm_model.specs.declared.track.Track.{Track}
use Rattle.sm_log.specs.Logs.{channel_of}
use Rattle.sm_site.specs.Meanings.{Chosen, Seen, asked}
use Rattle.sm_site.specs.Clauses.{SameOutcomes}
use Rattle.sm_archive.specs.declared.archive.Archive.{Archive}
use Rattle.sm_archive.specs.Stands.{Stands}
use Rattle.sm_command.specs.declared.fault.StoreFault.{StoreFault}
use Rattle.sm_command.specs.declared.fault.StoreFault.TheVariants as fault
use Rattle.sm_command.specs.Choosing.{WhyUnchosen}
use Rattle.sm_command.specs.Lasting.{NoFewer, OnlyChosen}
use Rattle.sm_command.specs.Opening.{IsDeclared, WhyUndeclared}
use Rattle.sm_fetch.specs.Exchanges.{Rose}
use Rattle.sm_ends.specs.Ended.{End}

-- The store was opened as it stood, with the channel of the ladder that the input is.
pub record IsEdgeStore {S : Type 0} (site : Seen S) (input input' : End) (archive : Archive) (channel : List Track)
    (old new : S) : Type 0 where
  pub declared : IsDeclared site input input' archive old new
  pub log : List Entry
  pub stands : Stands archive log None (site.may_leave new)
  pub channel_is : channel_of log ≡ Some channel

-- The site was asked once to be selected, and was with this, and its files stayed as they were.
pub record IsSiteOf {S : Type 0} (site : Seen S) (selection : Chosen) (old new : S) : Type 0 where
  pub chosen_is : (site.view new).chosen ≡ asked (site.view old).chosen (Some selection)
  pub contents : (site.view new).contents ≡ (site.view old).contents
  pub crash : SameOutcomes (site.may_leave old) (site.may_leave new)
  pub no_fewer : NoFewer (site.view old) (site.view new)

-- The site was selected with this, and then its store was opened.
pub record IsEdge {S : Type 0} (seen : Seen S) (input input' : End) (archive : Archive) (channel : List Track)
    (selection : Chosen) (old new : S) : Type 0 where
  pub selected : S
  pub site : IsSiteOf seen selection old selected
  pub no_fewer : NoFewer (seen.view old) (seen.view new)
  pub store : IsEdgeStore seen input input' archive channel selected new

-- the dial failed, which it counted, or memory was wanting
abbrev pub WhyUnturned : ℕ → ℕ → StoreFault → Type 0
WhyUnturned before now fault.DiskFault = ⊥
WhyUnturned before now fault.LinkFault = Rose before now
WhyUnturned before now (fault.NotAStore at) = ⊥
WhyUnturned before now fault.Unread = ⊥
WhyUnturned before now fault.LongLadder = ⊥
WhyUnturned before now (fault.BadLadder at) = ⊥
WhyUnturned before now (fault.Refused cause) = ⊥
WhyUnturned before now fault.Full = ⊥
WhyUnturned before now fault.Damaged = ⊥
WhyUnturned before now fault.NoMemory = Unit {0}

-- why no store was opened with its channel, or memory was wanting for that channel
abbrev pub WhyNoStore : {S : Type 0} → Seen S → End → End → S → S → StoreFault → Type 0
WhyNoStore site input input' old new why =
    WhyUndeclared site input input' old new why ⊎ ((why ≡ fault.NoMemory) × ((archive : Archive) × IsDeclared site input input' archive old new))

-- The site wasn't selected, or the dial not turned: the input wasn't read, and nothing was done at the site but that it was asked. Or the store
-- was not opened.
abbrev pub WhyNoEdge : {S : Type 0} → Seen S → End → End → ℕ → ℕ → Chosen → S → S → StoreFault → Type 0
WhyNoEdge {S} site input input' faults faults' selection old new why =
    (WhyUnchosen (site.view old) (site.view new) why × (input' ≡ input) × OnlyChosen site old new)
    ⊎ ((WhyUnturned faults faults' why × (input' ≡ input) × OnlyChosen site old new)
    ⊎ ((selected : S) × IsSiteOf site selection old selected × WhyNoStore site input input' selected new why))
