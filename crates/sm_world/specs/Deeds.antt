-- What is done to the origin in the rounds of a rehearsal.
use Rattle.std.specs.Prelude.{◌≡◌, ℕ, zero, suc, ◌+◌, ◌*◌, ◌%◌, List, [], ◌∷◌, ◌++◌, None, Some, IfSome, codes}
use Rattle.sm_model.specs.FragText.{frag_text}
use Rattle.sm_fetch.specs.declared.dial.Answer.{Answer}
use Rattle.sm_fetch.specs.declared.dial.Exchange.{Exchange}
use Rattle.sm_fetch.specs.declared.place.Place.{Place}
use Rattle.sm_fetch.specs.Requests.{push_request, push_limit}
use Rattle.sm_site.specs.declared.memory.MemorySite.{MemorySite}
use Rattle.sm_site.specs.Image.{bytes_of}
use Rattle.sm_site.specs.Memory.{faults_of, site_seen, site_view, site_left_by, state_of}
use Rattle.sm_site.specs.Sites.{SameCounts}
use Rattle.sm_world.specs.Answering.{one_more}
use Rattle.sm_world.specs.Dialing.{Dialing, next_number}
use Rattle.sm_world.specs.Encoders.{fragment_of, of_encoder_a}
use Rattle.sm_world.specs.Later.{IsLater}
use Rattle.sm_world.specs.Numbered.{IsAnswered}
use Rattle.sm_world.specs.Rounds.{drawn, stirred, state_by, state_at, kind_at}
use Rattle.sm_world.specs.declared.kind.Kind.{Kind}
use Rattle.sm_world.specs.declared.kind.Kind.TheVariants.{Known, Clash, Overlap, Crash, Same, Alone}

-- where the origin is
abbrev pub place : Place
place = record { host = codes "rehearsal"; port = 80; path = codes "live" }

-- A body of so many fragments is pushed; the disk stops behind so many further writes and syncs; the site crashes with this choice.
pub data Deed : Type 0 where
  Pushes : ℕ → List ℕ → Deed
  Stops : ℕ → Deed
  Crashes : ℕ → Deed

-- ---- bodies

-- encoder A pushes the header and a fragment of each track
abbrev pub body_of_a : List ℕ → ℕ → List ℕ
body_of_a header i =
    header ++ (frag_text 1 1 (of_encoder_a i 1) [] ++ (frag_text 1 2 (of_encoder_a i 2) [] ++ frag_text 1 3 (of_encoder_a i 3) []))

-- encoder B pushes the header and a fragment of track 1, whose one sample is the byte 0
abbrev pub body_of_b : List ℕ → ℕ → ℕ → List ℕ
body_of_b header time duration = header ++ frag_text 1 1 (fragment_of 1 time duration (0 ∷ [])) []

-- ---- rounds

-- what comes before the push of encoder A that counts, by the number that is drawn for a crash
abbrev pub before_a : Kind → List ℕ → ℕ → List Deed
before_a Known body c = []
before_a Clash body c = []
before_a Overlap body c = []
before_a Crash body c = Stops (c % 12) ∷ Pushes 3 body ∷ Crashes (c % 4) ∷ []
before_a Same body c = []
before_a Alone body c = []

-- what encoder B pushes then, in round i
abbrev pub of_b : Kind → List ℕ → ℕ → List Deed
of_b Known header i = Pushes 1 (body_of_b header (20000000 * i) 20000000) ∷ []
of_b Clash header i = Pushes 1 (body_of_b header (20000000 * i) 1) ∷ []
of_b Overlap header i = Pushes 1 (body_of_b header (20000000 * i + 1) 20000000) ∷ []
of_b Crash header i = []
of_b Same header i = Pushes 3 (body_of_a header i) ∷ []
of_b Alone header i = []

abbrev pub round_of : Kind → List ℕ → ℕ → ℕ → List Deed
round_of kind header i c = before_a kind (body_of_a header i) c ++ (Pushes 3 (body_of_a header i) ∷ of_b kind header i)

-- the number that is drawn behind that of the round
abbrev pub chance_by : ℕ → ℕ
chance_by x = drawn (stirred (state_by x))

-- in the first rounds, from this number on
abbrev pub deeds_in : List ℕ → ℕ → ℕ → List Deed
deeds_in header zero x = []
deeds_in header (suc i) x = deeds_in header i x ++ round_of (kind_at i x) header i (chance_by (state_at i x))

-- the requests among them
abbrev pub requests_of : Place → List ℕ → List Deed → List (List ℕ)
requests_of to id [] = []
requests_of to id (Pushes fragments body ∷ deeds) = push_request to id body ∷ requests_of to id deeds
requests_of to id (Stops calls ∷ deeds) = requests_of to id deeds
requests_of to id (Crashes choice ∷ deeds) = requests_of to id deeds

-- how many fragments each of these pushes has
abbrev pub fragments_in : List Deed → List ℕ
fragments_in [] = []
fragments_in (Pushes fragments body ∷ deeds) = fragments ∷ fragments_in deeds
fragments_in (Stops calls ∷ deeds) = fragments_in deeds
fragments_in (Crashes choice ∷ deeds) = fragments_in deeds

-- ---- what they make of an origin in memory

-- the exchange of the push of this body
abbrev pub push_of : Place → List ℕ → List ℕ → Answer → Exchange
push_of to id body answer = record { request = push_request to id body; limit = push_limit; answer = answer }

-- one exchange was told, of the push of this body, and its answer is what came of that push at the site
pub record IsPush (place : Place) (id body : List ℕ) (old new : MemorySite × Dialing) : Type 0 where
  pub answer : Answer
  pub made : new.1.made ≡ old.1.made ++ push_of place id body answer ∷ []
  pub answered : IsAnswered (site_view old.0) (site_view new.0) old.1.lost old.1.cut (next_number old.1) (push_of place id body answer)
  pub later : IsLater site_seen old new

-- so many writes and syncs still pass
pub record IsStop (calls : ℕ) (old new : MemorySite × Dialing) : Type 0 where
  pub dialing : new.1 ≡ old.1
  pub view : site_view new.0 ≡ site_view old.0
  pub faults : faults_of new.0 ≡ record (faults_of old.0) { stop = Some calls }

-- The disk holds the image of this choice and stops no more, and the store isn't open. The counts of faults stay, and the transcript begins anew.
pub record IsCrash (choice : ℕ) (old new : MemorySite × Dialing) : Type 0 where
  pub dialing : new.1 ≡ record old.1 { state = None; crashes = one_more old.1.crashes }
  pub kept : (file : ℕ) → bytes_of (state_of new.0).contents file ≡ bytes_of (site_left_by old.0 choice) file
  pub faults : faults_of new.0 ≡ record (faults_of old.0) { stop = None }
  pub counts : SameCounts (site_view old.0) (site_view new.0)
  pub told : IfSome (site_view new.0).transcript (λ items. items ≡ [])

abbrev pub IsDone : Place → List ℕ → Deed → MemorySite × Dialing → MemorySite × Dialing → Type 0
IsDone to id (Pushes fragments body) old new = IsPush to id body old new
IsDone to id (Stops calls) old new = IsStop calls old new
IsDone to id (Crashes choice) old new = IsCrash choice old new

-- one after another, and nothing else
abbrev pub AreDone : Place → List ℕ → List Deed → MemorySite × Dialing → MemorySite × Dialing → Type 0
AreDone to id [] old new = new ≡ old
AreDone to id (deed ∷ deeds) old new = (mid : MemorySite × Dialing) × IsDone to id deed old mid × AreDone to id deeds mid new
