-- Where one stream of a play stands, by the exchanges that were made for it ([MS-SSTR] 2.2.2, 2.2.4).
use Rattle.std.specs.Prelude.{ℕ, ◌+◌, List, [], ◌∷◌, ◌++◌, map, slice_index, Option, Some, None, bytes_eq}
use Rattle.std.specs.List.{find}
use Rattle.sm_model.specs.declared.address.Address.{Address}
use Rattle.sm_model.specs.declared.fragment.Fragment.{Fragment}
use Rattle.sm_model.specs.declared.run.RawFragment.{RawFragment}
use Rattle.sm_manin.specs.declared.listing.Level.{Level}
use Rattle.sm_manin.specs.declared.listing.StreamListing.{StreamListing}
use Rattle.sm_fetch.specs.declared.dial.Exchange.{Exchange}
use Rattle.sm_fetch.specs.declared.got.Got.{Got}
use Rattle.sm_fetch.specs.declared.got.Got.TheVariants as got
use Rattle.sm_fetch.specs.Spelt.{given}
use Rattle.sm_client.specs.declared.plan.Plan.{Plan}
use Rattle.sm_client.specs.declared.report.Miss.{Miss}
use Rattle.sm_client.specs.declared.report.Miss.TheVariants as miss
use Rattle.sm_client.specs.Starts.{starts}

-- One exchange of a stream, and what its answer spells: for the manifest, or for the expected start at this place of the ladder.
pub data Item : Type 0 where
  list : Exchange → Got → Item
  piece : Exchange → Got → ℕ → Item

-- a fragment that was read, the place in the ladder at which it was asked for, and the Url by which
pub record Piece : Type 0 where
  pub fragment : Fragment
  pub level : ℕ
  pub url : List ℕ

-- after a manifest: what the last one lists of the stream; the start that is expected; the starts that the last manifest and each
-- fragment since named; the fragments so far; how many manifests were read since the last fragment, or since the stream began
pub record Standing : Type 0 where
  pub listing : Option StreamListing
  pub expected : ℕ
  pub known : List ℕ
  pub written : List Piece
  pub manifests : ℕ

-- no manifest was read yet; the first one had no such stream; or else
pub data Stand : Type 0 where
  unread : Stand
  absent : Stand
  standing : Standing → Stand

-- with what came of the exchanges since the last answer that was read
pub record State : Type 0 where
  pub stand : Stand
  pub missed : List Miss

abbrev pub nothing_read : State
nothing_read = record { stand = unread; missed = [] }

-- ---- what a manifest lists

-- the stream of this name
abbrev pub listed : List ℕ → List StreamListing → Option StreamListing
listed name streams = find (λ s. bytes_eq s.name name) streams

abbrev pub times_of : Option StreamListing → List (ℕ × ℕ)
times_of None = []
times_of (Some s) = s.times

abbrev pub listed_starts : Option StreamListing → List ℕ
listed_starts listing = starts (times_of listing)

-- bitrates in ascending order
abbrev pub ladder_of : List Level → List ℕ
ladder_of levels = map (λ l. l.bitrate) levels

-- the start that the plan names, else the first that is listed, else 0
abbrev pub first_start : Option ℕ → List (ℕ × ℕ) → ℕ
first_start (Some start) times = start
first_start None [] = 0
first_start None (t ∷ times) = t.0

-- ---- a manifest was read

abbrev pub begun : Plan → Option StreamListing → Stand
begun plan None = absent
begun plan (Some s) =
    standing (record { listing = Some s; expected = first_start plan.from s.times; known = starts s.times; written = []; manifests = 1 })

abbrev pub relisted : Standing → Option StreamListing → Standing
relisted p listing = record {
  listing = listing;
  expected = p.expected;
  known = listed_starts listing;
  written = p.written;
  manifests = p.manifests + 1;
}

abbrev pub read_at : Plan → Stand → Option StreamListing → Stand
read_at plan unread listing = begun plan listing
read_at plan absent listing = absent
read_at plan (standing p) listing = standing (relisted p listing)

-- ---- a fragment was read

abbrev pub address_at : List ℕ → StreamListing → ℕ → ℕ → Address
address_at name s start level = record { stream = name; bitrate = slice_index (ladder_of s.levels) level; time = start }

abbrev pub piece_of : List ℕ → StreamListing → ℕ → RawFragment → Piece
piece_of name s level raw =
    record { fragment = given name (slice_index (ladder_of s.levels) level) raw; level = level; url = s.pattern }

-- it is the last one, and what it names ahead is known
abbrev pub wrote : List ℕ → Standing → StreamListing → ℕ → RawFragment → Standing
wrote name p s level raw = record {
  listing = p.listing;
  expected = raw.time + raw.duration;
  known = p.known ++ starts raw.ahead;
  written = p.written ++ piece_of name s level raw ∷ [];
  manifests = 0;
}

abbrev pub wrote_by : List ℕ → Standing → Option StreamListing → ℕ → RawFragment → Standing
wrote_by name p None level raw = p
wrote_by name p (Some s) level raw = wrote name p s level raw

abbrev pub wrote_at : List ℕ → Stand → ℕ → RawFragment → Stand
wrote_at name unread level raw = unread
wrote_at name absent level raw = absent
wrote_at name (standing p) level raw = standing (wrote_by name p p.listing level raw)

-- ---- nothing was read

-- what came in place of a manifest or a fragment
abbrev pub miss_of : Got → Option Miss
miss_of (got.Manifest listing) = None
miss_of (got.Fragment raw) = None
miss_of (got.Status status) = Some (miss.Status status)
miss_of got.Cut = Some miss.Cut
miss_of (got.Unreadable at) = Some (miss.Unreadable at)
miss_of got.Lost = Some miss.Lost
miss_of got.NoMemory = None

abbrev pub missed_by : State → Option Miss → State
missed_by s None = s
missed_by s (Some m) = record { stand = s.stand; missed = s.missed ++ m ∷ [] }

-- ---- an exchange was made

abbrev pub after_list : Plan → List ℕ → State → Got → State
after_list plan name s (got.Manifest l) = record { stand = read_at plan s.stand (listed name l.streams); missed = [] }
after_list plan name s (got.Fragment raw) = s
after_list plan name s (got.Status status) = missed_by s (miss_of (got.Status status))
after_list plan name s got.Cut = missed_by s (miss_of got.Cut)
after_list plan name s (got.Unreadable at) = missed_by s (miss_of (got.Unreadable at))
after_list plan name s got.Lost = missed_by s (miss_of got.Lost)
after_list plan name s got.NoMemory = s

abbrev pub after_piece : List ℕ → State → Got → ℕ → State
after_piece name s (got.Manifest l) level = s
after_piece name s (got.Fragment raw) level = record { stand = wrote_at name s.stand level raw; missed = [] }
after_piece name s (got.Status status) level = missed_by s (miss_of (got.Status status))
after_piece name s got.Cut level = missed_by s (miss_of got.Cut)
after_piece name s (got.Unreadable at) level = missed_by s (miss_of (got.Unreadable at))
after_piece name s got.Lost level = missed_by s (miss_of got.Lost)
after_piece name s got.NoMemory level = s

abbrev pub state_by : Plan → List ℕ → State → Item → State
state_by plan name s (list x g) = after_list plan name s g
state_by plan name s (piece x g level) = after_piece name s g level

-- where these exchanges lead
abbrev pub state_after : Plan → List ℕ → State → List Item → State
state_after plan name s [] = s
state_after plan name s (x ∷ more) = state_after plan name (state_by plan name s x) more

abbrev pub written_at : Stand → List Piece
written_at unread = []
written_at absent = []
written_at (standing p) = p.written
