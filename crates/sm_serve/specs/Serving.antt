-- The loop between two events.
use Rattle.std.specs.Prelude.{◌≡◌, ◌≢◌, ◌⊎◌, ◌+◌, ◌<◌, ◌≤◌, ◌-◌, ◌^◌, ℕ, true, false, List, [], ◌∷◌, ◌++◌, length, map, Option, Some, None, IsSome, IfSome, IsTrue}
use Rattle.sm_site.specs.Image.{Image}
use Rattle.sm_site.specs.Meanings.{Deal, Item, IsLive, Seen}
use Rattle.sm_site.specs.Meanings.Deal.{Over}
use Rattle.sm_site.specs.Clauses.{Both}
use Rattle.sm_site.specs.Event.{deal_of}
use Rattle.sm_site.specs.Scripts.{Takes}
use Rattle.sm_site.specs.declared.event.Event.{Event}
use Rattle.sm_site.specs.declared.event.Event.TheVariants.{Opened, Piece, Closed, Ended}
use Rattle.sm_model.specs.declared.act.Act.TheVariants.{Header, Fragment as Ask}
use Rattle.sm_model.specs.declared.address.Address.{Address}
use Rattle.sm_model.specs.declared.track.Track.{Track}
use Rattle.sm_archive.specs.declared.answers.Declared.{Declared}
use Rattle.sm_archive.specs.declared.fetch.Fetched.{Fetched}
use Rattle.sm_origin.specs.Answers.{reply_to_header, reply_to_fetched}
use Rattle.sm_serve.specs.declared.live.Live.{Live}
use Rattle.sm_serve.specs.declared.state.State.{State}
use Rattle.sm_origin.specs.Machine.{Machine}
use Rattle.sm_serve.specs.declared.outcome.Turn.{Turn as Turned}
use Rattle.sm_serve.specs.declared.outcome.Turn.TheVariants as turned
use Rattle.sm_serve.specs.declared.outcome.Served.{Served as Outcome}
use Rattle.sm_serve.specs.declared.outcome.Served.TheVariants as served
use Rattle.sm_serve.specs.Connections.{received, live, without, is_among, AreDistinct, events_in, deals_in}
use Rattle.sm_serve.specs.Run.{Stepped, idle, at, ladders, Run}
use Rattle.sm_serve.specs.Moments.{FitsAt}
use Rattle.sm_serve.specs.Surviving.{Survives}
use Rattle.sm_serve.specs.Between.{TakesNone}
use Rattle.sm_serve.specs.Standing.{History, StandsOn, StandsForSome, is_told, GoesOn, Keeps, Pending, calls_of}
use Rattle.sm_serve.specs.Resting.{Rests, counts_of}

abbrev pub numbers_of : List Live → List ℕ
numbers_of lives = map (λ l. l.number) lives

-- the connection stands for the bytes that it has sent, and has the counts of its push
pub record IsResting (h : History) (l : Live) : Type 0 where
  pub rests : Rests l (received l.number h.items)
  pub counts : h.point.counts l.number ≡ counts_of l

abbrev pub AreResting : History → List Live → Type 0
AreResting h [] = Unit {0}
AreResting h (l ∷ ls) = IsResting h l × AreResting h ls

-- the state is where the run is
pub record IsAtRest {D : Type 0} (site : Seen D) (h : History) (state : State) (d : D) : Type 0 where
  pub stands : StandsOn site h.point.machine state.origin d
  pub phase_is : h.point.phase ≡ idle
  pub numbers : numbers_of state.lives.items ≡ live h.items
  pub resting : AreResting h state.lives.items

pub record Serves {D : Type 0} (site : Seen D) (h : History) (state : State)
    (d : D) : Type 0 where
  pub keeps : Keeps site h d
  pub rest : IsAtRest site h state d

-- a later history from the same start
pub record Since (h k : History) : Type 0 where
  pub first : k.first ≡ h.first
  pub begin : k.begin ≡ h.begin
  pub base : k.base ≡ h.base
  pub found : k.found ≡ h.found
  pub on : GoesOn h k

-- the run goes on by these events, and declares no ladder
pub record Turns {D : Type 0} (site : Seen D) (h : History) (deals : List Deal)
    (state : State) (d : D) : Type 0 where
  pub later : History
  pub serves : Serves site later state d
  pub since : Since h later
  pub taken : deals_in later.items ≡ deals_in h.items ++ deals
  pub no_ladder : ladders later.steps ≡ ladders h.steps

-- where the transcript is told, the state is where a run is
abbrev pub Known : {D : Type 0} (site : Seen D) → State → D → Type 0
Known site state d = IsSome (site.view d).transcript → (h : History) × Serves site h state d

-- a connection is out of the list
pub record Forgets (n : ℕ) (old new : State) : Type 0 where
  pub origin : new.origin ≡ old.origin
  pub resting : (h k : History) → ((l : Live) → (l.number ≡ n → ⊥) → IsResting h l → IsResting k l) → AreDistinct (numbers_of old.lives.items)
      → AreResting h old.lives.items → AreResting k new.lives.items
  pub numbers : AreDistinct (numbers_of old.lives.items) → numbers_of new.lives.items ≡ without n (numbers_of old.lives.items)

-- an event that was just taken may be handled: its connection is open, if the transcript is told
abbrev pub MayHandle : Event → List Live → Option (List Item) → Type 0
MayHandle (Opened n) lives told = IfSome told (IsLive n)
MayHandle (Piece n piece) lives told = is_among n (numbers_of lives) ≡ true → IfSome told (IsLive n)
MayHandle (Closed n) lives told = Unit {0}
MayHandle Ended lives told = Unit {0}

-- a connection that begins is none of those that are live
abbrev pub IsNew : Event → History → Type 0
IsNew (Opened n) h = is_among n (live h.items) ≡ false
IsNew (Piece n piece) h = Unit {0}
IsNew (Closed n) h = Unit {0}
IsNew Ended h = Unit {0}

-- An event that was taken is handled: the run goes on from it, the origin stands for some machine, and no further event is taken.
pub record Handles {D : Type 0} (site : Seen D) (event : Event) (before after : State) (old new : D) : Type 0 where
  pub goes_on : (h : History) (m : ℕ) → Pending site h m (deal_of event) old → IsAtRest site h before old → IsNew event h
      → Turns site h (deal_of event ∷ []) after new
  pub stands : StandsForSome site after.origin new
  pub link : TakesNone (site.view old) (site.view new)

-- the last entry says that nothing more comes
abbrev pub IsOver : Option (List Item) → Type 0
IsOver told = IfSome told (λ items. (before : List Item) × (m : ℕ) × (items ≡ before ++ at m Over))

-- none of these events says that nothing more comes
abbrev pub NoneIsOver : List Deal → Type 0
NoneIsOver [] = Unit {0}
NoneIsOver (deal ∷ deals) = (deal ≢ Over) × NoneIsOver deals

-- the last of them says it, and no other
abbrev pub LastIsOver : List Deal → Type 0
LastIsOver deals = (before : List Deal) × (deals ≡ before ++ Over ∷ []) × NoneIsOver before

-- Done is answered after as many events as were asked, or where one more came, which said that nothing more comes. No other event of those
-- that were taken says so. Another end comes before that, after fewer events.
abbrev pub EndsAs : ℕ → Outcome → Option (List Item) → ℕ → ℕ → List Deal → Type 0
EndsAs turns (served.Done taken behind short) told before now deals =
    ((taken ≡ turns) × (now ≡ taken + before) × NoneIsOver deals)
    ⊎ ((taken < turns) × (now ≡ taken + 1 + before) × IsOver told × LastIsOver deals)
EndsAs turns served.LinkFault told before now deals = (now < turns + before) × NoneIsOver deals
EndsAs turns served.NoMemory told before now deals = (now < turns + before) × NoneIsOver deals

-- no turn is counted as one behind which less was shown than is kept
abbrev pub CountsNone : Outcome → Type 0
CountsNone (served.Done taken behind short) = (behind ≡ 0) × (short ≡ 0)
CountsNone served.LinkFault = Unit {0}
CountsNone served.NoMemory = Unit {0}

-- The loop served: from wherever a run had come it goes on, over the entries since; and at every moment since its start, each image that a
-- crash may leave is the store of the last step that ended by then, or of that with the doubt, or of one of these with the entry that
-- is being written. So it holds whatever had been shown by then.
pub record Served {D : Type 0} (site : Seen D) (h : History) (result : Outcome)
    (turns : ℕ)
    (state : State) (d : D) : Type 0 where
  pub later : History
  pub since : Since h later
  -- the events that were taken
  pub deals : List Deal
  pub taken : deals_in later.items ≡ deals_in h.items ++ deals
  -- the loop declares no ladder: beside what was declared before, its channel is one that a connection pushed
  pub no_ladder : ladders later.steps ≡ ladders h.steps
  pub ended : EndsAs turns result (site.view d).transcript (events_in h.items) (events_in later.items) deals
  pub run : Run (is_told (site.view d)) later.first later.begin later.found.disk_faults later.items later.steps later.point
  pub awaits : later.point.phase ≡ idle
  pub told : (site.view d).transcript ≡ Some (later.base ++ later.items)
  pub stands : StandsOn site later.point.machine state.origin d
  pub recorded : Both later.found.calls (site.view d).calls (λ before now. now ≡ before ++ calls_of later.steps)
  pub blamed : (site.view d).send_faults < 2 ^ 64 - 1 → later.found.send_faults + later.point.failed ≤ (site.view d).send_faults
  pub counted : later.point.faults ≡ (site.view d).disk_faults
  pub still_told : is_told (site.view d) ≡ is_told later.found
  pub crash : (t : ℕ) (image : Image) → later.begin ≤ t → site.left_at d t image → FitsAt later.first later.steps t image
  pub survives : (t : ℕ) (image : Image) → later.begin ≤ t → site.left_at d t image → Survives later.first later.items t image

-- A new state is where a run begins, whatever the machine that its origin stands for and the transcript before it. The site is as it is found.
abbrev pub Begins : {D : Type 0} (site : Seen D) → State → D → Type 0
Begins site state d = (m : Machine) (base : List Item) → StandsOn site m state.origin d → (site.view d).transcript ≡ Some base
    → (h : History) × (h.first ≡ m) × (h.begin ≡ (site.view d).moment) × (h.base ≡ base) × (h.items ≡ []) × (h.steps ≡ [])
    × Serves site h state d × (h.found ≡ site.view d)

-- how many events a turn took
abbrev pub taken_by : Turned → ℕ
taken_by turned.Went = 1
taken_by turned.Ended = 1
taken_by turned.LinkFault = 0
taken_by turned.NoMemory = 0

-- what a turn took: one event, which says that nothing more comes exactly where the turn says Ended, or none
abbrev pub HasTaken : Turned → List Deal → Type 0
HasTaken turned.Went deals = (deal : Deal) × (deals ≡ deal ∷ []) × (deal ≢ Over)
HasTaken turned.Ended deals = deals ≡ Over ∷ []
HasTaken turned.LinkFault deals = deals ≡ []
HasTaken turned.NoMemory deals = deals ≡ []

-- A ladder is one step more, without a connection and without an entry.
pub record DeclaresIn {D : Type 0} (site : Seen D) (h : History) (channel : List Track)
    (result : Declared)
    (state : State) (d : D) : Type 0 where
  pub later : History
  pub serves : Serves site later state d
  pub since : Since h later
  pub same : later.items ≡ h.items
  pub step : Stepped
  pub steps : later.steps ≡ h.steps ++ step ∷ []
  pub conn : step.conn ≡ None
  pub act : step.act ≡ Header channel
  pub reply : step.reply ≡ reply_to_header result

-- A read-back is one step more, without a connection and without an entry. It leaves the log, where the disk tells its contents.
pub record RecallsIn {D : Type 0} (site : Seen D) (h : History) (a : Address)
    (result : Fetched)
    (state : State) (d : D) : Type 0 where
  pub later : History
  pub serves : Serves site later state d
  pub since : Since h later
  pub same : later.items ≡ h.items
  pub step : Stepped
  pub steps : later.steps ≡ h.steps ++ step ∷ []
  pub conn : step.conn ≡ None
  pub act : step.act ≡ Ask a
  pub reply : step.reply ≡ reply_to_fetched h.point.machine.log a result
  pub log : IsTrue (is_told (site.view d)) → later.point.machine.log ≡ h.point.machine.log

-- these events are the next ones of a script, one after the other
abbrev pub AreTaken : List Deal → List Deal → List Deal → Type 0
AreTaken [] was now = now ≡ was
AreTaken (deal ∷ deals) was now = (rest : List Deal) × Takes deal was rest × AreTaken deals rest now

-- The run goes on by so many events, which are the next ones of the script, where one is told.
pub record TurnsBy {D : Type 0} (site : Seen D) (h : History) (events : ℕ)
    (script : Option (List Deal)) (state : State) (d : D) : Type 0 where
  pub deals : List Deal
  pub many : length deals ≡ events
  pub turns : Turns site h deals state d
  pub script_is : Both script (site.view d).script (AreTaken deals)
