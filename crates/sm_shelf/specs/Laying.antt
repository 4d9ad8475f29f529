-- What is laid on a shelf, and the digest that it leaves.
use Rattle.std.specs.Prelude.{◌≡◌, ◌==◌, ◌&&◌, ◌+◌, ℕ, Bool, true, false, nat_lt, List, [], ◌∷◌, ◌++◌, length, map, None, Some, is_none, if◌then◌else◌}
use Rattle.std.specs.Arc.{arc_value}
use Rattle.std.specs.declared.alloc.Global.{Global}
use Rattle.std.specs.declared.sync.Arc.{Arc}
use Rattle.sm_model.specs.declared.address.Address.{Address}
use Rattle.sm_model.specs.declared.entry.Entry.{Entry}
use Rattle.sm_model.specs.declared.entry.Entry.TheVariants as entry
use Rattle.sm_model.specs.declared.fragment.Fragment.{Fragment}
use Rattle.sm_model.specs.declared.track.Track.{Track}
use Rattle.sm_model.specs.Channels.{IsChannel}
use Rattle.sm_model.specs.Entries.{address_of}
use Rattle.sm_model.specs.Fragments.{IsValid}
use Rattle.sm_log.specs.declared.verdict.Judged.{Judged}
use Rattle.sm_log.specs.declared.verdict.Judged.TheVariants as judged
use Rattle.sm_log.specs.Adds.{Add}
use Rattle.sm_log.specs.Logs.{verdict_by}
use Rattle.sm_log.specs.Digests.{Digest, window_of}
use Rattle.sm_catalog.specs.Content.{Content}
use Rattle.sm_shelf.specs.Parts.{placed, stripped}
use Rattle.sm_shelf.specs.declared.laid.What.{What}
use Rattle.sm_shelf.specs.declared.laid.What.TheVariants.{Fill, Keep}

-- all of a log so far, or the fragment that is kept at a place
pub data Op : Type 0 where
  Whole : Digest → Op
  Next : ℕ → Fragment → Op

abbrev pub op_of : What → Op
op_of (Fill all) = Whole all
op_of (Keep place fragment) = Next place (arc_value fragment)

-- the fragment that is laid is valid
pub record IsFit (w : What) : Type 0 where
  pub fragment : (place : ℕ) (f : Arc Fragment Global) → w ≡ Keep place f → IsValid (arc_value f)

-- nothing
abbrev pub nothing : Digest
nothing = record { channel = None; adds = []; window = [] }

-- a channel, of which nothing is kept
abbrev pub declared : List Track → Digest
declared channel = record { channel = Some channel; adds = []; window = [] }

-- what a catalog has, and the end of these fragments that fits a window
abbrev pub filling : Content → List Fragment → Digest
filling c fragments = record { channel = Some c.channel; adds = map stripped c.adds; window = window_of fragments }

-- what an entry is that stands at a place
abbrev pub op_at : ℕ → Entry → Op
op_at place (entry.Declare channel) = Whole (declared channel)
op_at place (entry.Keep f) = Next place f

-- its channel or fragment is valid
abbrev pub IsValidEntry : Entry → Type 0
IsValidEntry (entry.Declare channel) = IsChannel channel
IsValidEntry (entry.Keep f) = IsValid f

-- ---- what is left

-- what a digest has added, each with its place in the log
abbrev pub adds_in : Digest → List Add
adds_in d = placed 1 d.adds

abbrev pub is_new : Judged → Bool
is_new judged.New = true
is_new (judged.Known place) = false
is_new judged.NotDeclared = false
is_new (judged.Clash kept) = false
is_new (judged.Overlap end) = false

abbrev pub is_span : ℕ → ℕ → Bool
is_span time duration = nat_lt 0 duration && nat_lt (time + duration) 9223372036854775808

-- it stands at the place behind the last, may stand there, and the place behind it has 32 bits
abbrev pub is_next : Digest → ℕ → Address → ℕ → Bool
is_next d place address duration =
    (place == length d.adds + 1)
    && (nat_lt place 4294967295 && (is_new (verdict_by d.channel (adds_in d) address duration) && is_span address.time duration))

abbrev pub with_add : Digest → Address → ℕ → List Fragment → Digest
with_add d address duration window = record { channel = d.channel; adds = d.adds ++ (address, duration) ∷ []; window = window }

abbrev pub kept : Digest → ℕ → Fragment → Digest
kept d place f =
    if is_next d place (address_of f) f.duration then with_add d (address_of f) f.duration (window_of (d.window ++ f ∷ [])) else d

-- nothing is there
abbrev pub is_fresh : Digest → Bool
is_fresh d = is_none d.channel && (length d.adds == 0)

abbrev pub filled : Digest → Digest → Digest
filled d all = if is_fresh d then all else d

-- A whole log is taken where nothing is there, and a fragment where its place is the next one. All else changes nothing.
abbrev pub laid : Digest → Op → Digest
laid d (Whole all) = filled d all
laid d (Next place f) = kept d place f
