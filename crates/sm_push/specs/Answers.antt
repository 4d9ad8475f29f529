-- What the readers of a header answer, where memory may be wanting.
use Rattle.std.specs.Prelude.{◌≡◌, ℕ, Result, Ok, Err}
use Rattle.sm_model.specs.declared.cause.Cause.TheVariants.{BadLiveManifest}
use Rattle.sm_model.specs.declared.fault.ReadFault.{ReadFault}
use Rattle.sm_model.specs.declared.fault.ReadFault.TheVariants.{Refused, NoMemory}

-- what a live manifest says, or its fault as the cause of the place inside it
abbrev pub Reads : {A : Type 0} → Result A ReadFault → Result A ℕ → Type 0
Reads (Ok value) defined = defined ≡ Ok value
Reads (Err (Refused cause)) defined = (inside : ℕ) × (cause ≡ BadLiveManifest inside) × (defined ≡ Err inside)
Reads (Err NoMemory) defined = Unit {0}
