-- An origin that keeps a log, as a play meets it: what it answers, and how a play of its streams ends.
use Rattle.std.specs.Prelude.{◌≡◌, ◌≢◌, ◌<◌, ◌≤◌, ◌^◌, ℕ, zero, suc, ◌+◌, true, List, [], ◌∷◌, ◌++◌, length, Option, Some, All, Contains}
use Rattle.std.specs.List.{list_any, AllByRecursion, AllPass}
use Rattle.sm_model.specs.declared.entry.Entry.{Entry}
use Rattle.sm_model.specs.declared.entry.Entry.TheVariants.{Keep}
use Rattle.sm_model.specs.declared.track.Track.{Track}
use Rattle.sm_model.specs.Channels.{IsNarrowTrack}
use Rattle.sm_model.specs.Same.{is_same}
use Rattle.sm_log.specs.Times.{entry_at}
use Rattle.sm_log.specs.Logs.{channel_of, listed_in, IsSound}
use Rattle.httparse.specs.Grammar.{is_value_byte}
use Rattle.sm_addr.specs.Paths.{IsPath}
use Rattle.sm_fetch.specs.declared.dial.Answer.{Answer}
use Rattle.sm_fetch.specs.declared.dial.Answer.TheVariants as answers
use Rattle.sm_fetch.specs.declared.dial.Exchange.{Exchange}
use Rattle.sm_fetch.specs.declared.place.Place.{Place}
use Rattle.sm_fetch.specs.Origins.{FromOrigin}
use Rattle.sm_fetch.specs.Answered.{IsWholeReply}
use Rattle.sm_client.specs.declared.plan.Plan.{Plan}
use Rattle.sm_client.specs.declared.report.End.{End}
use Rattle.sm_client.specs.declared.report.End.TheVariants as ends
use Rattle.sm_client.specs.declared.report.Report.{Report}
use Rattle.sm_client.specs.Turns.{Meaning, Turn, settle}
use Rattle.sm_client.specs.Stands.{Piece, first_start}
use Rattle.sm_client.specs.Plays.{Part, PlaysFrom, first_times, written_of}

-- ---- answers

-- a moment of the log: it is sound, has this channel, and lists no more times of a stream than a reader takes
pub record IsMoment (channel : List Track) (log : List Entry) : Type 0 where
  pub sound : IsSound log
  pub channel_is : channel_of log ≡ Some channel
  pub few : (stream : List ℕ) → length (listed_in log stream) ≤ 262144

-- each is answered at some moment of the log, which only grows from what it was before to what it is behind them
abbrev pub AnsweredBy : List Track → List Entry → List Exchange → List Entry → Type 0
AnsweredBy channel log [] later = (more : List Entry) × (later ≡ log ++ more)
AnsweredBy channel log (x ∷ xs) later =
    (more : List Entry) × IsMoment channel (log ++ more) × FromOrigin (log ++ more) x.request x.answer × AnsweredBy channel (log ++ more) xs later

-- it begins with a whole reply
abbrev pub IsWhole : Answer → Type 0
IsWhole (answers.Bytes bytes) = (status at : ℕ) × (body : List ℕ) × IsWholeReply bytes status at body
IsWhole answers.Lost = ⊥
IsWhole answers.NoMemory = ⊥

-- it is no whole reply 500 or 503
abbrev pub IsUnrefused : Answer → Type 0
IsUnrefused (answers.Bytes bytes) = (status at : ℕ) (body : List ℕ) → IsWholeReply bytes status at body → (status ≢ 500) × (status ≢ 503)
IsUnrefused answers.Lost = Unit {0}
IsUnrefused answers.NoMemory = Unit {0}

-- among so many in a row one is a whole reply
abbrev pub OneIsWhole : ℕ → List Exchange → Type 0
OneIsWhole tries xs = (front row back : List Exchange) → xs ≡ front ++ (row ++ back) → length row ≡ tries → (x : Exchange) × Contains row x × IsWhole x.answer

-- a name of bytes that a track of the channel has
pub record IsStream (channel : List Track) (name : List ℕ) : Type 0 where
  pub bytes : All (λ b. b < 256) name
  pub track : list_any (λ t. is_same t.name name) channel ≡ true

-- a place as places are: a path of bytes, and a host and a port that a request may have
pub record IsPlace (place : Place) : Type 0 where
  pub path : IsPath place.path
  pub bytes : All (λ b. b < 256) place.path
  pub host : AllPass is_value_byte place.host
  pub few : length place.host ≤ 255
  pub port : place.port < 2 ^ 16

-- an origin whose channel has the streams of the plan answers these exchanges, with this log before them, and this one behind
pub record Serves (plan : Plan) (channel : List Track) (log later : List Entry) (xs : List Exchange) : Type 0 where
  pub place : IsPlace plan.place
  pub tracks : All IsNarrowTrack channel
  pub streams : AllByRecursion (IsStream channel) plan.streams
  pub answered : AnsweredBy channel log xs later

-- no answer is a 500 or 503, and often enough one comes whole
pub record IsPatient (plan : Plan) (xs : List Exchange) : Type 0 where
  pub unrefused : AllByRecursion (λ x. IsUnrefused x.answer) xs
  pub whole : OneIsWhole plan.tries xs

-- ---- how a play ends

-- with Done, or where its origin has no more or a hole; or by a fault of the tracks or want of memory
abbrev pub EndsWell : End → Type 0
EndsWell ends.Done = Unit {0}
EndsWell (ends.NoMore expected) = Unit {0}
EndsWell (ends.Hole expected next) = Unit {0}
EndsWell (ends.GaveUp time outcomes) = ⊥
EndsWell (ends.NoManifest outcomes) = ⊥
EndsWell (ends.NoStream index) = ⊥
EndsWell ends.WriteFault = Unit {0}
EndsWell ends.NoMemory = Unit {0}

-- ---- a run that is listed

-- so many of the times follow each other without a gap, the first at this start
abbrev pub ListsRun : ℕ → ℕ → List (ℕ × ℕ) → Type 0
ListsRun zero start times = Unit {0}
ListsRun (suc n) start times = (duration : ℕ) × (entry_at start times ≡ Some duration) × ListsRun n (start + duration) times

-- the first manifest that was read for each stream lists as many as are wanted, from the first expected start on
abbrev pub ListsRuns : Plan → List (List ℕ) → List Part → Type 0
ListsRuns plan [] parts = Unit {0}
ListsRuns plan (name ∷ names) [] = Unit {0}
ListsRuns plan (name ∷ names) (part ∷ rest) =
    ListsRun plan.count (first_start plan.from (first_times name part.made)) (first_times name part.made) × ListsRuns plan names rest

abbrev pub EndsDone : End → Type 0
EndsDone ends.Done = Unit {0}
EndsDone (ends.NoMore expected) = ⊥
EndsDone (ends.Hole expected next) = ⊥
EndsDone (ends.GaveUp time outcomes) = ⊥
EndsDone (ends.NoManifest outcomes) = ⊥
EndsDone (ends.NoStream index) = ⊥
EndsDone ends.WriteFault = Unit {0}
EndsDone ends.NoMemory = Unit {0}

-- ---- what is written

-- each fragment of these streams is an entry of the log
abbrev pub AreIn : List Entry → List Piece → Type 0
AreIn log ps = AllByRecursion (λ p. Contains log (Keep p.fragment)) ps

abbrev pub PartsIn : Plan → List Entry → List (List ℕ) → List Part → Type 0
PartsIn plan log [] parts = Unit {0}
PartsIn plan log (name ∷ names) [] = Unit {0}
PartsIn plan log (name ∷ names) (part ∷ rest) = AreIn log (written_of plan name part) × PartsIn plan log names rest

-- ---- a whole call

-- Where such an origin answered, all that is written is kept by it. Where it was patient too, the play ends well; and with Done where
-- its first manifests list all that is wanted.
pub record PlaysServed {P : Type 0} (m : Meaning P) (plan : Plan) (start : Turn P) (log log' : Option (List Exchange))
    (held held' : ℕ → Option (List ℕ)) (report : Report) : Type 0 where
  pub plays : PlaysFrom m plan start 0 plan.streams log log' held held' report
  pub kept : (channel : List Track) (first last : List Entry) (before xs : List Exchange)
      → log ≡ Some before → log' ≡ Some (before ++ xs) → Serves plan channel first last xs → PartsIn plan last plan.streams plays.parts
  pub well : (channel : List Track) (first last : List Entry) (before xs : List Exchange)
      → log ≡ Some before → log' ≡ Some (before ++ xs) → Serves plan channel first last xs → IsPatient plan xs → EndsWell report.end
  pub whole : (channel : List Track) (first last : List Entry) (before xs : List Exchange)
      → log ≡ Some before → log' ≡ Some (before ++ xs) → Serves plan channel first last xs → IsPatient plan xs
      → ListsRuns plan plan.streams plays.parts → EndsDone report.end

abbrev pub PlayedServed : {P : Type 0} → Meaning P → Plan → List P → Option (List Exchange) → Option (List Exchange)
    → (ℕ → Option (List ℕ)) → (ℕ → Option (List ℕ)) → Report → Type 0
PlayedServed m plan [] log log' held held' report = ⊥
PlayedServed m plan (p ∷ ps) log log' held held' report = PlaysServed m plan (settle m p [] ps) log log' held held' report
