-- The list of what a store keeps.
use Rattle.std.specs.Prelude.{◌≡◌, ◌≤◌, ℕ, suc, List, [], ◌∷◌, ◌++◌, length, codes, decimal, Option, Some, None, IfSome, IsSome, slice_get}
use Rattle.sm_model.specs.declared.address.Address.{Address}
use Rattle.sm_model.specs.declared.entry.Entry.{Entry}
use Rattle.sm_model.specs.declared.entry.Entry.TheVariants.{Declare, Keep}
use Rattle.sm_model.specs.declared.fragment.Fragment.{Fragment}
use Rattle.sm_model.specs.Entries.{address_of}
use Rattle.sm_site.specs.Clauses.{Rose}
use Rattle.sm_site.specs.Meanings.{View, Seen}
use Rattle.sm_archive.specs.Opening.{NotAStore}
use Rattle.sm_command.specs.declared.fault.StoreFault.{StoreFault}
use Rattle.sm_command.specs.declared.fault.StoreFault.TheVariants as fault
use Rattle.sm_command.specs.Lasting.{NoFewer, Untouched}

-- the place in the log, the name of the stream and the bitrate
abbrev pub place_text : ℕ → Fragment → List ℕ
place_text place f = codes "keep " ++ (decimal place ++ (codes " " ++ (f.stream ++ (codes " " ++ decimal f.bitrate))))

-- the start, the duration, and how many samples there are
abbrev pub span_text : Fragment → List ℕ
span_text f = codes " " ++ (decimal f.time ++ (codes " " ++ (decimal f.duration ++ (codes " " ++ (decimal (length f.samples) ++ codes "\n")))))

abbrev pub kept_line : ℕ → Fragment → List ℕ
kept_line place f = place_text place f ++ span_text f

abbrev pub line_at : ℕ → Entry → List ℕ
line_at place (Declare tracks) = []
line_at place (Keep f) = kept_line place f

abbrev pub line_in : ℕ → Option Entry → List ℕ
line_in place None = []
line_in place (Some e) = line_at place e

-- a line for each fragment, in order, where the first entry has this place
abbrev pub lines_from : ℕ → List Entry → List ℕ
lines_from place [] = []
lines_from place (e ∷ log) = line_at place e ++ lines_from (suc place) log

abbrev pub lines_of : List Entry → List ℕ
lines_of log = lines_from 0 log

-- the address of the fragment at a place, and none where no fragment stands there
abbrev pub AddressIs : List Entry → ℕ → Option Address → Type 0
AddressIs log place None = (f : Fragment) → slice_get log place ≡ Some (Keep f) → ⊥
AddressIs log place (Some address) = (f : Fragment) × (slice_get log place ≡ Some (Keep f)) × (address ≡ address_of f)

-- What may have kept a list from being made. An entry is never damaged on a disk that tells its contents.
abbrev pub UnlistedBy : View → View → StoreFault → Type 0
UnlistedBy old new fault.DiskFault = Rose old.disk_faults new.disk_faults
UnlistedBy old new fault.LinkFault = Rose old.link_faults new.link_faults
UnlistedBy old new (fault.NotAStore at) = IfSome old.contents (NotAStore at)
UnlistedBy old new fault.Unread = ⊥
UnlistedBy old new fault.LongLadder = ⊥
UnlistedBy old new (fault.BadLadder at) = ⊥
UnlistedBy old new (fault.Refused cause) = ⊥
UnlistedBy old new fault.Full = ⊥
UnlistedBy old new fault.Damaged = IsSome old.contents → ⊥
UnlistedBy old new fault.NoMemory = old.disk_faults ≤ new.disk_faults

-- Why nothing was listed. What is no store wasn't written.
pub record WhyUnlisted {D : Type 0} (site : Seen D) (old new : D) (why : StoreFault) : Type 0 where
  pub cause : UnlistedBy (site.view old) (site.view new) why
  pub no_fewer : NoFewer (site.view old) (site.view new)
  pub untouched : (at : ℕ) → why ≡ fault.NotAStore at → Untouched site old new

-- why a place was not put into the list; behind want of memory the disk's count didn't fall
abbrev pub WhyUnput : View → View → StoreFault → Type 0
WhyUnput old new fault.DiskFault = Rose old.disk_faults new.disk_faults
WhyUnput old new fault.LinkFault = ⊥
WhyUnput old new (fault.NotAStore at) = ⊥
WhyUnput old new fault.Unread = ⊥
WhyUnput old new fault.LongLadder = ⊥
WhyUnput old new (fault.BadLadder at) = ⊥
WhyUnput old new (fault.Refused cause) = ⊥
WhyUnput old new fault.Full = ⊥
WhyUnput old new fault.Damaged = IsSome old.contents → ⊥
WhyUnput old new fault.NoMemory = old.disk_faults ≤ new.disk_faults
