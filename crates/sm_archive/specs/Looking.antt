-- What an archive shows of its log.
use Rattle.std.specs.Prelude.{◌≡◌, ℕ, List, Option, None, Some, slice_get}
use Rattle.sm_model.specs.declared.track.Track.{Track}
use Rattle.sm_model.specs.declared.fragment.Fragment.{Fragment}
use Rattle.sm_model.specs.declared.entry.Entry.{Entry}
use Rattle.sm_model.specs.declared.entry.Entry.TheVariants.{Keep}
use Rattle.sm_log.specs.Logs.{channel_of, adds_of}
use Rattle.sm_record.specs.declared.meta.Meta.{Meta}
use Rattle.sm_record.specs.Metas.{IsMetaOf}
use Rattle.sm_catalog.specs.Content.{Content}

-- the track and span of the fragment at the place, and nothing where none stands
abbrev pub ShowsMeta : Option Meta → List Entry → ℕ → Type 0
ShowsMeta None log place = (f : Fragment) → slice_get log place ≡ Some (Keep f) → ⊥
ShowsMeta (Some m) log place = (channel : List Track) × (f : Fragment) × (channel_of log ≡ Some channel) × (slice_get log place ≡ Some (Keep f))
    × IsMetaOf channel f m

-- the catalog is of the log's channel and of what it keeps
abbrev pub ShowsCatalog : Option Content → List Entry → Type 0
ShowsCatalog None log = channel_of log ≡ None
ShowsCatalog (Some c) log = (channel_of log ≡ Some c.channel) × (c.adds ≡ adds_of log)
