-- Runs: what a transcript does, from the log found at the start on.
use Rattle.std.specs.Prelude.{◌≡◌, ℕ, ◌+◌, ◌<◌, ◌≤◌, ◌-◌, ◌^◌, min, Bool, true, false, ◌||◌, ◌==◌, List, [], ◌∷◌, ◌++◌, length, take, Option, Some, None, if◌then◌else◌, IsTrue}
use Rattle.sm_model.specs.declared.act.Act.{Act}
use Rattle.sm_model.specs.declared.act.Act.TheVariants as acts
use Rattle.sm_model.specs.declared.address.Address.{Address}
use Rattle.sm_model.specs.declared.track.Track.{Track}
use Rattle.sm_model.specs.declared.target.Target.{Target}
use Rattle.sm_model.specs.declared.target.Target.TheVariants as targets
use Rattle.sm_site.specs.Meanings.{Deal, Item, DiskCall}
use Rattle.sm_site.specs.Meanings.Deal.{Began, Came, Left, Over, Sent, Shut}
use Rattle.sm_site.specs.Clauses.{Rose, last_moment}
use Rattle.sm_head.specs.declared.reply.TheConstants.{CONTINUE, NO_MEMORY}
use Rattle.sm_wire.specs.declared.item.WireItem.{WireItem}
use Rattle.sm_wire.specs.declared.item.WireItem.TheVariants.{Continue, Get, Header, Frag, End, Refuse}
use Rattle.sm_wire.specs.Wire.{IsWire}
use Rattle.sm_reply.specs.declared.reply.Counted.{Counted}
use Rattle.sm_reply.specs.declared.reply.Counted.TheVariants as counted
use Rattle.sm_reply.specs.declared.reply.Reply.{Reply}
use Rattle.sm_archive.specs.Stands as archive
use Rattle.sm_origin.specs.Machine.{Machine, SameLog, Step}
use Rattle.sm_serve.specs.declared.texts.TheConstants.{TOO_MANY}
use Rattle.sm_serve.specs.Connections.{received, live, is_among}
use Rattle.sm_archive.specs.Seen.{limits_of}

-- the counts of the push that is open on a connection
pub record Counts : Type 0 where
  pub kept : ℕ
  pub known : ℕ

abbrev pub no_counts : Counts
no_counts = record { kept = 0; known = 0 }

-- ---- items and acts

abbrev pub act_of_target : Target → Act
act_of_target targets.Manifest = acts.Manifest
act_of_target (targets.Fragment a) = acts.Fragment a
act_of_target (targets.Streams name) = acts.Unknown
act_of_target targets.Unknown = acts.Unknown

-- the act of an item
abbrev pub act_of : Counts → WireItem → Option Act
act_of counts Continue = None
act_of counts (Get target close) = Some (act_of_target target)
act_of counts (Header channel) = Some (acts.Header channel)
act_of counts (Frag f) = Some (acts.Frag f)
act_of counts (End close) = Some (acts.End counts.kept counts.known)
act_of counts (Refuse r) = Some (acts.Refuse r)

-- whether the item itself closes
abbrev pub closes : WireItem → Bool
closes Continue = false
closes (Get target close) = close
closes (Header channel) = false
closes (Frag f) = false
closes (End close) = close
closes (Refuse r) = true

-- a count stands still at its end
abbrev pub one_more : ℕ → ℕ
one_more n = min (n + 1) (2 ^ 64 - 1)

abbrev pub counts_by : Counted → Counts → Counts
counts_by counted.Kept counts = record { kept = one_more counts.kept; known = counts.known }
counts_by counted.Known counts = record { kept = counts.kept; known = one_more counts.known }
counts_by counted.Neither counts = counts

-- an End takes the counts
abbrev pub counts_after : WireItem → Counted → Counts → Counts
counts_after (End close) c counts = no_counts
counts_after Continue c counts = counts_by c counts
counts_after (Get target close) c counts = counts_by c counts
counts_after (Header channel) c counts = counts_by c counts
counts_after (Frag f) c counts = counts_by c counts
counts_after (Refuse r) c counts = counts_by c counts

-- what is sent of a reply; an accepted header or fragment has none, and want of memory has the text that stands ready
abbrev pub sent_of : Reply → Option (List ℕ)
sent_of reply = if reply.status == 0 then None else if reply.status == 500 then Some NO_MEMORY.now else Some reply.bytes

-- ---- points of a run

pub data Phase : Type 0 where
  -- the next event is awaited
  idle : Phase
  -- a connection has these items to be acted on
  acting : ℕ → List WireItem → Phase
  -- these bytes are to be sent on it; then it is closed, or has these items to be acted on
  sending : ℕ → List ℕ → Bool → List WireItem → Phase
  -- it is to be closed
  shutting : ℕ → Phase

pub record Point : Type 0 where
  pub machine : Machine
  pub counts : ℕ → Counts
  pub phase : Phase
  -- the end of the last step, or the moment of the last event where that is later
  pub ended : ℕ
  -- how many sends failed
  pub failed : ℕ
  -- the disk's count of faults
  pub faults : ℕ

abbrev pub set_counts : ℕ → Counts → (ℕ → Counts) → ℕ → Counts
set_counts n new counts k = if k == n then new else counts k

-- one step: the connection (none for a ladder), the act, the machine before and behind it, the reply, the moment at which it began, its
-- disk calls, the disk's count of faults before and behind it, and the moment at which it ended
pub record Stepped : Type 0 where
  pub conn : Option ℕ
  pub act : Act
  pub before : Machine
  pub after : Machine
  pub reply : Reply
  pub began : ℕ
  pub calls : List DiskCall
  pub faults : ℕ
  pub faults_after : ℕ
  pub ends : ℕ

-- the channel that a step declares, where no connection asks for it
abbrev pub ladder_in : Option ℕ → Act → List (List Track)
ladder_in (Some n) act = []
ladder_in None (acts.Header channel) = channel ∷ []
ladder_in None act = []

-- the channels that steps declare and no connection asks for: those of ladders
abbrev pub ladders : List Stepped → List (List Track)
ladders [] = []
ladders (x ∷ xs) = ladder_in x.conn x.act ++ ladders xs

-- the archive is one of the log and the doubt: it has used what their records take
pub record IsArchived (m : Machine) : Type 0 where
  pub bodies : List (List ℕ)
  pub body : Option (List ℕ)
  pub keeps : archive.Keeps m.archive bodies body m.log m.doubt

-- A step of the machine, from a point on. It ends with its last disk call, or else with what came before it.
pub record OnMachine (p : Point) (x : Stepped) : Type 0 where
  pub step : Step (Rose x.faults x.faults_after) x.before x.act x.after x.reply
  pub still : x.calls ≡ [] → SameLog x.before x.after
  pub limits : limits_of x.after.archive ≡ limits_of x.before.archive
  pub archived : IsArchived x.after
  pub began : p.ended ≤ x.began
  pub ends_is : x.ends ≡ last_moment p.ended x.calls

-- One step, from a point on. It begins with the disk's count of faults at the point, which doesn't fall. Of a disk that doesn't tell its
-- contents nothing is said of logs and moments.
pub record IsStep (told : Bool) (p : Point) (act : Act) (x : Stepped) : Type 0 where
  pub act_is : x.act ≡ act
  pub before_is : x.before ≡ p.machine
  pub faults_is : x.faults ≡ p.faults
  pub no_fewer : x.faults ≤ x.faults_after
  pub machine : IsTrue told → OnMachine p x

abbrev pub phase_after : ℕ → Option (List ℕ) → Bool → List WireItem → Phase
phase_after n None close items = if close then shutting n else acting n items
phase_after n (Some bytes) close items = sending n bytes close items

abbrev pub at : ℕ → Deal → List Item
at m deal = (record { moment = m; deal = deal }) ∷ []

abbrev pub in_phase : Point → Phase → Point
in_phase p phase = record p { phase = phase }

abbrev pub at_event : Point → Phase → ℕ → Point
at_event p phase m = record p { phase = phase; ended = m }

abbrev pub behind_failure : Point → Phase → Point
behind_failure p phase = record p { phase = phase; failed = p.failed + 1 }

abbrev pub behind_step : Point → ℕ → WireItem → List WireItem → Stepped → Point
behind_step p n item items x = record {
  machine = x.after;
  counts = set_counts n (counts_after item x.reply.counted (p.counts n)) p.counts;
  phase = phase_after n (sent_of x.reply) (x.reply.close || closes item) items;
  ended = x.ends;
  failed = p.failed;
  faults = x.faults_after;
}

-- What happens next, behind the entries so far: further entries es of the transcript, further steps xs, and the point q.
pub data Moves (told : Bool) (items : List Item) (p : Point) (es : List Item) (xs : List Stepped) (q : Point) : Type 0 where
  -- a connection begins, with no bytes and counts 0
  opened : (m n : ℕ) → p.phase ≡ idle → length (live items) < 64 → es ≡ at m (Began n) → xs ≡ []
      → q ≡ record { machine = p.machine; counts = set_counts n no_counts p.counts; phase = acting n []; ended = m; failed = p.failed; faults = p.faults }
      → Moves told items p es xs q
  -- where 64 are live, it gets the refusal and is closed
  crowded : (m n : ℕ) → p.phase ≡ idle → 64 ≤ length (live items) → es ≡ at m (Began n) → xs ≡ []
      → q ≡ at_event p (sending n TOO_MANY.now true []) m → Moves told items p es xs q
  -- a piece has these items more
  came : (m n : ℕ) (bytes : List ℕ) (given more : List WireItem) → p.phase ≡ idle → is_among n (live items) ≡ true
      → es ≡ at m (Came n bytes) → xs ≡ []
      → IsWire (received n items) given → IsWire (received n items ++ bytes) (given ++ more)
      → q ≡ at_event p (acting n more) m → Moves told items p es xs q
  -- want of memory while a piece is taken in gives 500 in place of its items
  unread : (m n : ℕ) (bytes : List ℕ) → p.phase ≡ idle → is_among n (live items) ≡ true → es ≡ at m (Came n bytes) → xs ≡ []
      → q ≡ at_event p (sending n NO_MEMORY.now true []) m → Moves told items p es xs q
  -- a piece of a connection that isn't live is passed over
  passed : (m n : ℕ) (bytes : List ℕ) → p.phase ≡ idle → is_among n (live items) ≡ false → es ≡ at m (Came n bytes) → xs ≡ []
      → q ≡ at_event p idle m → Moves told items p es xs q
  left : (m n : ℕ) → p.phase ≡ idle → es ≡ at m (Left n) → xs ≡ [] → q ≡ at_event p idle m → Moves told items p es xs q
  over : (m : ℕ) → p.phase ≡ idle → es ≡ at m Over → xs ≡ [] → q ≡ at_event p idle m → Moves told items p es xs q
  -- the head 100 is sent, and is no step
  continues : (n : ℕ) (more : List WireItem) → p.phase ≡ acting n (Continue ∷ more) → es ≡ [] → xs ≡ []
      → q ≡ in_phase p (sending n CONTINUE.now false more) → Moves told items p es xs q
  -- the next item is acted on, by one step
  acts_on : (n : ℕ) (item : WireItem) (more : List WireItem) (act : Act) (x : Stepped) → p.phase ≡ acting n (item ∷ more)
      → act_of (p.counts n) item ≡ Some act → x.conn ≡ Some n → IsStep told p act x → es ≡ [] → xs ≡ x ∷ []
      → q ≡ behind_step p n item more x → Moves told items p es xs q
  -- want of memory gives 500 in place of the next item
  wants : (n : ℕ) (more : List WireItem) → p.phase ≡ acting n more → es ≡ [] → xs ≡ []
      → q ≡ in_phase p (sending n NO_MEMORY.now true []) → Moves told items p es xs q
  -- nothing is left
  done : (n : ℕ) → p.phase ≡ acting n [] → es ≡ [] → xs ≡ [] → q ≡ in_phase p idle → Moves told items p es xs q
  -- the bytes are sent, after the step has ended
  sent : (m n : ℕ) (bytes : List ℕ) (close : Bool) (more : List WireItem) → p.phase ≡ sending n bytes close more → (IsTrue told → p.ended < m)
      → es ≡ at m (Sent n bytes false) → xs ≡ []
      → q ≡ in_phase p (if close then shutting n else acting n more) → Moves told items p es xs q
  -- a part of them is sent, and then the send fails
  failed : (m n k : ℕ) (bytes : List ℕ) (close : Bool) (more : List WireItem) → p.phase ≡ sending n bytes close more → (IsTrue told → p.ended < m)
      → es ≡ at m (Sent n (take k bytes) true) → xs ≡ []
      → q ≡ behind_failure p (shutting n) → Moves told items p es xs q
  -- the send fails, and leaves no entry
  unsent : (n : ℕ) (bytes : List ℕ) (close : Bool) (more : List WireItem) → p.phase ≡ sending n bytes close more → es ≡ [] → xs ≡ []
      → q ≡ behind_failure p (shutting n) → Moves told items p es xs q
  shut : (m n : ℕ) → p.phase ≡ shutting n → es ≡ at m (Shut n) → xs ≡ [] → q ≡ in_phase p idle → Moves told items p es xs q
  -- a ladder is one step, without a connection
  declared : (header : List Track) (x : Stepped) → p.phase ≡ idle → x.conn ≡ None → IsStep told p (acts.Header header) x → es ≡ [] → xs ≡ x ∷ []
      → q ≡ record { machine = x.after; counts = p.counts; phase = idle; ended = x.ends; failed = p.failed; faults = x.faults_after }
      → Moves told items p es xs q
  -- a fragment is read back for players, by one step, without a connection; its reply is not sent
  recalled : (a : Address) (x : Stepped) → p.phase ≡ idle → x.conn ≡ None → IsStep told p (acts.Fragment a) x → es ≡ [] → xs ≡ x ∷ []
      → q ≡ record { machine = x.after; counts = p.counts; phase = idle; ended = x.ends; failed = p.failed; faults = x.faults_after }
      → Moves told items p es xs q

-- where a run begins, at a moment and with a count of the disk's faults
abbrev pub start : Machine → ℕ → ℕ → Point
start m begin faults = record { machine = m; counts = λ n. no_counts; phase = idle; ended = begin; failed = 0; faults = faults }

-- From a machine at a moment, and a count of the disk's faults, the entries and steps lead to a point. The disk tells its contents, or not.
pub data Run (told : Bool) (first : Machine) (begin faults : ℕ) : List Item → List Stepped → Point → Type 0 where
  begins : Run told first begin faults [] [] (start first begin faults)
  goes_on : (items es now : List Item) (steps xs all : List Stepped) (p q : Point) → Run told first begin faults items steps p
      → Moves told items p es xs q → now ≡ items ++ es → all ≡ steps ++ xs → Run told first begin faults now all q

-- From one point of a run by moves to a later one, behind further entries and steps. Whether the disk tells its contents is left open.
pub data LeadsTo (items : List Item) (steps : List Stepped) (p : Point) : List Item → List Stepped → Point → Type 0 where
  rests : (now : List Item) (all : List Stepped) (q : Point) → now ≡ items → all ≡ steps → q ≡ p → LeadsTo items steps p now all q
  moves_on : (was es now : List Item) (ss xs all : List Stepped) (r q : Point) → LeadsTo items steps p was ss r → Moves false was r es xs q
      → now ≡ was ++ es → all ≡ ss ++ xs → LeadsTo items steps p now all q
