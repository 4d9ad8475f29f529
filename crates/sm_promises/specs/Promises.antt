-- The words of the promises.
use Rattle.std.specs.Prelude.{◌≡◌, ◌⊎◌, ◌≤◌, ◌<◌, ◌+◌, ◌++◌, ℕ, true, false, List, [], ◌∷◌, length, map, Option, Some, None, IsSome, Contains}
use Rattle.std.specs.List.{AllByRecursion}
use Rattle.std.specs.Io.KnownBytes.{Appends, Consumes, IsAtEnd}
use Rattle.sm_model.specs.declared.address.Address.{Address}
use Rattle.sm_model.specs.declared.cause.Refusal.{Refusal}
use Rattle.sm_model.specs.declared.entry.Entry.{Entry}
use Rattle.sm_model.specs.declared.fragment.Fragment.{Fragment}
use Rattle.sm_model.specs.declared.header.HeaderTrack.{HeaderTrack}
use Rattle.sm_model.specs.declared.run.RawFragment.{RawFragment}
use Rattle.sm_model.specs.Items.{Given}
use Rattle.sm_model.specs.Entries.{address_of}
use Rattle.sm_model.specs.declared.sample.Sample.{Sample}
use Rattle.sm_model.specs.declared.track.Track.{Track}
use Rattle.sm_log.specs.Logs.{channel_of, kept_at, listed_in}
use Rattle.sm_log.specs.Times.{entry_at}
use Rattle.sm_site.specs.Clauses.{Rose}
use Rattle.sm_fetch.specs.declared.dial.Exchange.{Exchange}
use Rattle.sm_fetch.specs.declared.got.Got.TheVariants as got
use Rattle.sm_fetch.specs.declared.place.Place.{Place}
use Rattle.sm_fetch.specs.Spelt.{given}
use Rattle.sm_fetch.specs.declared.placed.Placed.TheVariants as placed
use Rattle.sm_pull.specs.Adds.{keeps_of}
use Rattle.sm_pull.specs.Asks.{AsksFragment}
use Rattle.sm_push.specs.Body.{body, led_by, refused}
use Rattle.sm_conn.specs.Parts.{PartItem, IsParts, posted, byte}
use Rattle.sm_wire.specs.declared.item.WireItem.{WireItem}
use Rattle.sm_wire.specs.declared.item.WireItem.TheVariants.{Continue}
use Rattle.sm_wire.specs.Wire.{IsWire}
use Rattle.sm_site.specs.Image.{Image}
use Rattle.sm_site.specs.Meanings.{Item, Seen}
use Rattle.sm_head.specs.declared.reply.Content.TheVariants.{Mp4}
use Rattle.sm_reply.specs.Replies.{fragment_of, no_memory, ok}
use Rattle.sm_origin.specs.Machine.{Machine}
use Rattle.sm_origin.specs.Opening.{HasOneStore}
use Rattle.sm_origin.specs.Shown.{Claim, Listed, Ahead, Served, Acknowledged, KeptAs}
use Rattle.sm_archive.specs.Store.{IsStore}
use Rattle.sm_serve.specs.Moments.{machine_at, FitsAt}
use Rattle.sm_serve.specs.Connections.{is_open, received}
use Rattle.sm_serve.specs.Run.{Counts, Point, Run, Stepped, act_of, counts_after, idle, no_counts}
use Rattle.sm_serve.specs.declared.outcome.Served.{Served as Outcome}
use Rattle.sm_serve.specs.Shown.{Shown}
use Rattle.sm_serve.specs.Standing.{History}
use Rattle.sm_shelf.specs.Shelf.{Desk}
use Rattle.sm_export.specs.Exporting.{IsExportText}
use Rattle.sm_client.specs.declared.plan.Plan.{Plan}
use Rattle.sm_client.specs.Ends.{texts}
use Rattle.sm_client.specs.Kept.{AreKept}
use Rattle.sm_client.specs.Plays.{Gapless}
use Rattle.sm_client.specs.Stands.{Piece}
use Rattle.sm_client.specs.Turns.{Meaning}
use Rattle.sm_relay.specs.declared.report.RelayReport.{RelayReport}
use Rattle.sm_relay.specs.Rounds.{kept_in}
use Rattle.sm_standby.specs.declared.report.FollowReport.{FollowReport}
use Rattle.sm_standby.specs.Rounds as following
use Rattle.sm_standby.specs.Turns as turning
use Rattle.sm_standby.specs.Turns.{AsksPlaced}
use Rattle.sm_edge.specs.Following.{HasFollowed}
use Rattle.sm_edge.specs.Relaying.{HasRelayed}
use Rattle.sm_tool.specs.Edges.{Dialing, at_edge, plan_of}
use Rattle.sm_tool.specs.declared.answer.Answer.{Answer}
use Rattle.sm_tool.specs.declared.answer.Answer.TheVariants as answers
use Rattle.sm_tool.specs.declared.answer.Stop.TheVariants as stops
use Rattle.sm_tool.specs.Ran.{Around, Means, Prints}
use Rattle.sm_run.specs.Runs.{Runs, ShowAnswers}
use Rattle.sm_run.specs.Showing.{ShowsRun}
use Rattle.sm_run.specs.Staff.{IsStaffed, JoinsSome, Staff, wires_of}
use Rattle.sm_players.specs.declared.spawner.Finished.{Finished}
use Rattle.sm_players.specs.Starting.{count_of}
use Rattle.sm_words.specs.Words.{Pulling, Serve, ServeShown, Serving, asked}
use Rattle.sm_ends.specs.Ended.{End}

-- One run of the program, whatever its words, input, dial, tracks and players were, and however it ended. `runs` is the clause of the top call `run`.
pub record ProgramRan {D C P : Type 0} (site : Seen D) (t : Dialing C) (m : Meaning P) (before after : D) : Type 0 where
  pub policies : List P
  pub words : List (List ℕ)
  pub around : Around
  pub around' : Around
  pub output : End
  pub output' : End
  pub dial : C
  pub dial' : C
  pub staff : Staff
  pub staff' : Staff
  pub status : ℕ
  pub runs : Runs site t m policies words around around' output output' before after dial dial' staff staff' status

-- Where a run begins: the disk and the connections can be told, and whatever a crash might have left on the disk was one store, of this log.
pub record BeginsWith {D : Type 0} (site : Seen D) (before : D) (log : List Entry) (base : List Item) : Type 0 where
  pub disk : IsSome (site.view before).contents
  pub one_store : HasOneStore log (site.may_leave before)
  pub link : (site.view before).transcript ≡ Some base

-- a crash at this moment, not before the run began, might have left these files on the disk
pub record MayBeLeft {D : Type 0} (site : Seen D) (before after : D) (t : ℕ) (image : Image) : Type 0 where
  pub in_run : (site.view before).moment ≤ t
  pub left : site.left_at after t image

-- By this moment the connections of the run had shown this claim to someone, in a reply that says that all is well.
pub record Told {D : Type 0} (site : Seen D) (after : D) (base : List Item) (t : ℕ) (claim : Claim) : Type 0 where
  pub items : List Item
  pub since : (site.view after).transcript ≡ Some (base ++ items)
  pub shown : Shown items t claim

-- A log keeps all that was told by this moment.
pub record KeepsAllTold {D : Type 0} (site : Seen D) (after : D) (base : List Item) (t : ℕ) (kept : List Entry) : Type 0 where
  -- a fragment of a push that was told to be well is kept at its address
  pub acknowledged : (a : Address) → Told site after base t (Acknowledged a) → IsSome (kept_at kept a)
  -- so is one that a manifest lists
  pub listed : (a : Address) → Told site after base t (Listed a) → IsSome (kept_at kept a)
  -- a start that a fragment announced is listed
  pub announced : (stream : List ℕ) (start : ℕ) → Told site after base t (Ahead stream start)
      → IsSome (entry_at start (listed_in kept stream))
  -- a fragment that was given whole is kept with the same samples and the same duration
  pub served : (a : Address) (samples : List Sample) (duration : ℕ) → Told site after base t (Served a samples duration)
      → KeptAs kept a samples duration

-- ---- serving

-- the words ask to serve a store, alone or beside players
abbrev pub AskToServe : List (List ℕ) → Type 0
AskToServe words = (s : Serving) × ((asked words ≡ Some (Serve s)) ⊎ ((players : ℕ) × (asked words ≡ Some (ServeShown s players))))

-- The loop of `serve` ran, from the log that was found. `items` is what came and went on its connections, and `steps` are its acts on what came, one
-- after the other: each has the log before it, the act, the reply, and the log behind it. `Run` says which entry and which step may come next.
pub record LoopRan {D : Type 0} (site : Seen D) (before after : D) (found : List Entry) (base : List Item) : Type 0 where
  pub items : List Item
  pub steps : List Stepped
  pub first : Machine
  pub faults : ℕ
  pub last : Point
  pub first_is : first.log ≡ found
  -- nothing is in doubt when it begins
  pub settled : first.doubt ≡ None
  pub since : (site.view after).transcript ≡ Some (base ++ items)
  pub run : Run true first (site.view before).moment faults items steps last
  pub left : (t : ℕ) (image : Image) → MayBeLeft site before after t image → FitsAt first steps t image
  pub counted : (site.view before).disk_faults ≤ faults
  pub counts : last.faults ≡ (site.view after).disk_faults

-- the log of the last step that had ended by this moment
abbrev pub log_at : {D : Type 0} {site : Seen D} {before after : D} {found : List Entry} {base : List Item}
    → LoopRan site before after found base → ℕ → List Entry
log_at loop t = (machine_at loop.first loop.steps t).log

-- the reply gives the fragment that is kept at this place, with status 200: its place as its number, its samples, and up to two listed later starts
abbrev pub GivesWhole : Stepped → Address → ℕ → Fragment → Type 0
GivesWhole x a place f =
    (channel : List Track) × (channel_of x.before.log ≡ Some channel) × (x.reply ≡ ok Mp4 (fragment_of channel x.before.log a place f))

-- the disk failed in this step: its count of faults rose in it, or is at its maximum
abbrev pub DiskFailed : Stepped → Type 0
DiskFailed x = Rose x.faults x.faults_after

-- the reply is 500, which is said where memory ran out
abbrev pub IsOutOfMemory : Stepped → Type 0
IsOutOfMemory x = x.reply ≡ no_memory

-- ---- requests

-- The steps of a connection acted on these items of what it sent, one after the other, and these are the counts of its push then. The head 100 is sent
-- without a step.
pub data AreActs (n : ℕ) : List Stepped → List WireItem → Counts → Type 0 where
  nothing : AreActs n [] [] no_counts
  continued : (steps : List Stepped) (items : List WireItem) (counts : Counts) → AreActs n steps items counts
      → AreActs n steps (items ++ Continue ∷ []) counts
  acted : (steps : List Stepped) (items : List WireItem) (counts : Counts) (item : WireItem) (x : Stepped) → AreActs n steps items counts
      → x.conn ≡ Some n → act_of counts item ≡ Some x.act
      → AreActs n (steps ++ x ∷ []) (items ++ item ∷ []) (counts_after item x.reply.counted counts)
  elsewhere : (steps : List Stepped) (items : List WireItem) (counts : Counts) (x : Stepped) → AreActs n steps items counts
      → (x.conn ≡ Some n → ⊥) → AreActs n (steps ++ x ∷ []) items counts

-- All that a connection sent gives these items, and its steps acted on each.
pub record AllActedOn (n : ℕ) (items : List Item) (steps : List Stepped) : Type 0 where
  pub given : List WireItem
  pub are : IsWire (received n items) given
  pub counts : Counts
  pub acts : AreActs n steps given counts

-- The requests of a connection, the headers and fragments of its pushes among them, become its steps: those of a front of what it sent, in their order, and
-- all of them while it is open and the loop awaits an event.
pub record BecomeSteps (n : ℕ) (items : List Item) (steps : List Stepped) (p : Point) : Type 0 where
  -- the bytes that were read, and those that came behind them
  pub read : List ℕ
  pub late : List ℕ
  pub came : received n items ≡ read ++ late
  -- what those give: the steps acted on these, and not on the rest
  pub given : List WireItem
  pub are : IsWire read given
  pub done : List WireItem
  pub rest : List WireItem
  pub front : given ≡ done ++ rest
  pub counts : Counts
  pub acts : AreActs n steps done counts
  pub all : p.phase ≡ idle → is_open n items ≡ true → AllActedOn n items steps

-- What a connection sent begins with a push whose bytes have these items in front of their first fault, and that fault, at its place; whatever is behind it.
pub record IsFaultyPush (bytes : List ℕ) (items : List Given) (fault : Refusal) : Type 0 where
  pub push : List ℕ
  pub behind : List PartItem
  pub parts : IsParts bytes (posted ∷ (map (λ b. byte b) push ++ behind))
  pub header : List HeaderTrack
  pub faulty : body false push ≡ led_by items (refused header fault)

-- ---- playing and exporting

-- The track got fragments, each of which starts where the one before it ended, as many as were wanted; and the log keeps each at the address that was
-- asked for.
pub record WroteKept (plan : Plan) (log : List Entry) (track track' : Option (List ℕ)) : Type 0 where
  pub pieces : List Piece
  pub text : Appends track track' (texts 1 pieces)
  pub start : ℕ
  pub gapless : Gapless start pieces
  pub all : length pieces ≡ plan.count
  pub kept : AreKept plan log pieces

-- so did each stream's track, from this number on
abbrev pub AllWroteKept : Plan → List Entry → ℕ → List (List ℕ) → (ℕ → Option (List ℕ)) → (ℕ → Option (List ℕ)) → Type 0
AllWroteKept plan log n [] tracks tracks' = Unit {0}
AllWroteKept plan log n (name ∷ names) tracks tracks' =
    WroteKept plan log (tracks n) (tracks' n) × AllWroteKept plan log (n + 1) names tracks tracks'

-- The input was read to its end, and this was written behind what the output held: the header of the input, and then each fragment that the log keeps
-- of the quality, in the order of time.
pub record IsExported (log : List Entry) (name : List ℕ) (bitrate : ℕ) (input input' output output' : Option (List ℕ)) : Type 0 where
  pub bytes : List ℕ
  pub read : Consumes input input' bytes
  pub ended : IsAtEnd input'
  pub text : List ℕ
  pub is : IsExportText bytes log name bitrate text
  pub written : Appends output output' text

-- ---- pulling

-- One of these exchanges with the origin asked for the address of this fragment, and what its answer spells, whole, is this fragment.
pub record WasReadFrom (place : Place) (made : List Exchange) (f : Fragment) : Type 0 where
  pub url : List ℕ
  pub exchange : Exchange
  pub there : Contains made exchange
  pub raw : RawFragment
  pub asked : AsksFragment place url (address_of f) exchange (got.Fragment raw)
  pub is : f ≡ given f.stream f.bitrate raw

-- A relay ran into the store (`HasRelayed`), and all that its rounds kept, or were to keep last, was read in these exchanges with the origin. A crash leaves what
-- the store held and a front of what was read so.
pub record IsPulled {D C : Type 0} (site : Seen D) (t : Dialing C) (edge : Pulling) (input input' : End) (before after : D) (dial dial' : C)
    (made : List Exchange) : Type 0 where
  pub channel : List Track
  pub report : RelayReport
  pub ran : HasRelayed site t.log t.store t.later t.faults t.chosen input input' (at_edge edge) edge.place.host (plan_of edge)
      before after dial dial' channel report
  pub was_read : AllByRecursion (WasReadFrom edge.place made) ((kept_in ran.relayed.rounds ++ ran.relayed.added) ++ ran.relayed.tried)
  pub left : IsSome (site.view ran.opened).contents → (t : ℕ) (image : Image) → (site.view ran.opened).moment < t → site.left_at after t image
      → (front : List Fragment) × IsStore (ran.edge.store.log ++ keeps_of front) image × AllByRecursion (WasReadFrom edge.place made) front

-- what the rounds of a standby kept, and what was to be kept last where that came to nothing
abbrev pub all_followed : List following.Round → following.Part → List Fragment
all_followed rounds part = (following.kept_by rounds ++ turning.kept_in part.turns) ++ turning.kept_in part.tried

-- One of these exchanges with the primary asked for the address of this fragment, and what its answer spells, whole, is this fragment, with its place in the
-- log as its number.
pub record WasReadAt (place : Place) (made : List Exchange) (at : ℕ) (f : Fragment) : Type 0 where
  pub url : List ℕ
  pub exchange : Exchange
  pub there : Contains made exchange
  pub raw : RawFragment
  pub asked : AsksPlaced place url (address_of f) exchange (placed.Fragment at raw)
  pub is : f ≡ given f.stream f.bitrate raw

-- each of these fragments was read so, the first with this place as its number, and each further one with the next
abbrev pub AllReadAt : Place → List Exchange → ℕ → List Fragment → Type 0
AllReadAt place made at [] = Unit {0}
AllReadAt place made at (f ∷ fs) = WasReadAt place made at f × AllReadAt place made (at + 1) fs

-- A standby ran into the store (`HasFollowed`), and all that its rounds kept, or were to keep last, was read in these exchanges with the primary, each at the
-- place that comes next behind what the store held. A crash leaves that and a front of what was read so.
pub record IsFollowed {D C : Type 0} (site : Seen D) (t : Dialing C) (edge : Pulling) (input input' : End) (before after : D) (dial dial' : C)
    (made : List Exchange) : Type 0 where
  pub channel : List Track
  pub report : FollowReport
  pub ran : HasFollowed site t.log t.store t.later t.faults t.chosen input input' (at_edge edge) edge.place.host (plan_of edge)
      before after dial dial' channel report
  pub was_read : AllReadAt edge.place made (length ran.edge.store.log) (all_followed ran.followed.called.rounds ran.followed.called.part)
  pub left : IsSome (site.view ran.opened).contents → (t : ℕ) (image : Image) → (site.view ran.opened).moment < t → site.left_at after t image
      → (front : List Fragment) × IsStore (ran.edge.store.log ++ keeps_of front) image × AllReadAt edge.place made (length ran.edge.store.log) front

-- ---- players

-- So many players were started and joined behind the loop, each of which played (`JoinsSome`: all of one shelf), and each is counted as one that ended well.
pub record AllPlayed (players : ℕ) (staff staff' : Staff) : Type 0 where
  pub started : staff'.started ≡ staff.started + players
  pub joins : JoinsSome staff staff'
  pub well : (count_of staff'.ended).done ≡ players

-- The loop ran from the log that was found, and beside it this was published, turn by turn, on a shelf that was made for it (`ShowsRun`): behind each turn
-- the digest of a front of the loop's log, and of all of it but where the turn is counted, before the next event was taken. The players read that shelf.
pub record IsPublished {D : Type 0} (site : Seen D) (s : Serving) (players : ℕ) (before after : D) (staff staff' : Staff) (found : List Entry) : Type 0 where
  pub ended : Outcome
  pub finished : Finished
  pub shelf : Desk
  pub begun : History
  pub begin_is : begun.begin ≡ (site.view before).moment
  pub first_is : begun.first.log ≡ found
  pub shows : ShowsRun site shelf begun ended s.turns after
  pub staffed : IsStaffed shelf.table (wires_of s players) staff staff' finished

-- ---- ends

-- what an exit status says
pub data Ending : Type 0 where
  -- what was asked for was done, and its line was written
  Well : Ending
  WrongWords : Ending
  -- the input, or the ladder, is none, or is too long
  WrongInput : Ending
  -- what was asked for isn't there, or may not stand there, or what was read isn't what was written
  NotHad : Ending
  FaultOfDisk : Ending
  FaultOfInput : Ending
  FaultOfOutput : Ending
  FaultOfLink : Ending
  WantOfMemory : Ending
  LimitWasMet : Ending
  NoStore : Ending

abbrev pub number_of : Ending → ℕ
number_of Well = 0
number_of WrongWords = 2
number_of WrongInput = 3
number_of NotHad = 4
number_of FaultOfDisk = 5
number_of FaultOfInput = 6
number_of FaultOfOutput = 7
number_of FaultOfLink = 8
number_of WantOfMemory = 9
number_of LimitWasMet = 10
number_of NoStore = 11

-- which answers end so; where what was found could not be written, the output's fault is told instead
abbrev pub IsSaidOf : Ending → Answer → Type 0
IsSaidOf Well a = (text : List ℕ) × (a ≡ answers.Found text)
IsSaidOf WrongWords a = (text : List ℕ) × (a ≡ answers.Words text)
IsSaidOf WrongInput a = (a ≡ answers.TooLong) ⊎ ((a ≡ answers.LongLadder) ⊎ ((line : List ℕ) × (a ≡ answers.Refused line)))
IsSaidOf NotHad a = (a ≡ answers.NotKept) ⊎ (((line : List ℕ) × ((a ≡ answers.Clash line) ⊎ (a ≡ answers.Undone line)))
    ⊎ ((a ≡ answers.Damaged) ⊎ (a ≡ answers.Unfinished stops.Damaged)))
IsSaidOf FaultOfDisk a = (a ≡ answers.DiskFault) ⊎ (a ≡ answers.Unfinished stops.Disk)
IsSaidOf FaultOfInput a = a ≡ answers.Unread
IsSaidOf FaultOfOutput a = (a ≡ answers.TrackFault) ⊎ ((a ≡ answers.Unfinished stops.Output) ⊎ ((text : List ℕ) × (a ≡ answers.Found text)))
IsSaidOf FaultOfLink a = a ≡ answers.LinkFault
IsSaidOf WantOfMemory a = (a ≡ answers.Starved) ⊎ (a ≡ answers.Unfinished stops.Memory)
IsSaidOf LimitWasMet a = a ≡ answers.Full
IsSaidOf NoStore a = (line : List ℕ) × (a ≡ answers.NotAStore line)

-- The answer that a run has: it means what was done, alone (`Means`) or with players beside (`ShowAnswers`); its line was printed, and the status tells it.
pub record HasAnswer {D C P : Type 0} (site : Seen D) (t : Dialing C) (m : Meaning P) (before after : D) (ran : ProgramRan site t m before after)
    (answer : Answer) : Type 0 where
  pub written : End
  pub means : Means site t m ran.policies ran.words ran.around ran.around' ran.output written before after ran.dial ran.dial' answer
      ⊎ ((written ≡ ran.output) × (s : Serving) × (players : ℕ) × (asked ran.words ≡ Some (ServeShown s players))
      × ShowAnswers site s players ran.around.input ran.around'.input before after ran.staff ran.staff' answer)
  pub prints : Prints answer written ran.output' ran.status
