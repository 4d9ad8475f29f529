-- What the parts of a play do.
use Rattle.std.specs.Prelude.{◌≡◌, ◌<◌, ◌≤◌, ◌+◌, ◌⊎◌, ◌&&◌, ℕ, true, List, [], ◌∷◌, ◌++◌, length, take, nat_le, Option, Some, None, IfSome}
use Rattle.std.specs.Io.KnownBytes.{Appends}
use Rattle.sm_model.specs.declared.entry.Entry.{Entry}
use Rattle.sm_model.specs.declared.run.RawFragment.{RawFragment}
use Rattle.sm_model.specs.Fragments.{IsValid}
use Rattle.sm_manin.specs.declared.listing.Listing.{Listing}
use Rattle.sm_manin.specs.declared.listing.StreamListing.{StreamListing}
use Rattle.sm_fetch.specs.declared.dial.Exchange.{Exchange}
use Rattle.sm_fetch.specs.declared.got.Got.{Got}
use Rattle.sm_fetch.specs.declared.got.Got.TheVariants as got
use Rattle.sm_fetch.specs.Exchanges.{with_one, with_all}
use Rattle.sm_fetch.specs.Requests.{manifest_request, manifest_limit, fragment_request, fragment_limit}
use Rattle.sm_fetch.specs.Spelt.{SpellsManifest, SpellsFragment, given}
use Rattle.sm_client.specs.declared.plan.Plan.{Plan}
use Rattle.sm_client.specs.declared.report.Miss.{Miss}
use Rattle.sm_client.specs.declared.report.End.{End}
use Rattle.sm_client.specs.declared.report.End.TheVariants as ends
use Rattle.sm_client.specs.declared.list.Listed.{Listed}
use Rattle.sm_client.specs.declared.list.Listed.TheVariants as listed_once
use Rattle.sm_client.specs.declared.list.Manifest.{Manifest}
use Rattle.sm_client.specs.declared.list.Manifest.TheVariants as manifest
use Rattle.sm_client.specs.declared.piece.Asked.{Asked}
use Rattle.sm_client.specs.declared.piece.Asked.TheVariants as asked
use Rattle.sm_client.specs.declared.standing.Standing as code
use Rattle.sm_client.specs.declared.seek.Begun.{Begun}
use Rattle.sm_client.specs.declared.seek.Begun.TheVariants as begun_as
use Rattle.sm_client.specs.declared.piece.Pieces.{Pieces}
use Rattle.sm_client.specs.declared.piece.Wanted.{Wanted}
use Rattle.sm_client.specs.declared.stream.Stream.{Stream}
use Rattle.sm_client.specs.declared.piece.Pieces.TheVariants as pieces
use Rattle.sm_client.specs.Turns.{Meaning, Turn, Continues, Behaves}
use Rattle.sm_client.specs.Starts.{has, starts, Falls, AreAfter}
use Rattle.sm_client.specs.Stands.{Item, list, piece, Piece, piece_of, Standing, Stand, unread, standing}
use Rattle.sm_client.specs.Stands.{State, listed, listed_starts, ladder_of, address_at, read_at, miss_of, state_after, written_at}
use Rattle.sm_client.specs.Asks.{MadeList, Asks, AsksLast, IsRead, heard_of, turn_after, exchanges}
use Rattle.sm_client.specs.Ends.{EndsAt, IsTail, texts}
use Rattle.sm_client.specs.Kept.{KeepsOn}

-- ---- where a stream stands

-- a stream that is listed has 1 to 64 qualities
abbrev pub HasLevels : Option StreamListing → Type 0
HasLevels listing = IfSome listing (λ s. (0 < length s.levels) × (length s.levels ≤ 64))

-- of all these starts, each of those that aren't before the expected one, once
pub record KnowsFrom (expected : ℕ) (all known : List ℕ) : Type 0 where
  pub once : Falls known
  pub are : (k : ℕ) → has k known ≡ (nat_le expected k && has k all)

pub record Holds (s : code.Standing) (p : Standing) : Type 0 where
  pub listing : s.listing ≡ p.listing
  pub expected : s.expected ≡ p.expected
  pub known : KnowsFrom p.expected p.known s.known
  pub written : s.written ≡ length p.written
  pub manifests : s.manifests ≡ p.manifests
  pub levels : HasLevels p.listing
  pub same : 0 < p.manifests → p.known ≡ listed_starts p.listing
  pub unlisted : p.listing ≡ None → p.known ≡ []

-- a fragment that ends at this start, and names these times ahead, was written
pub record Follows (p q : Standing) (expected : ℕ) (ahead : List (ℕ × ℕ)) : Type 0 where
  pub later : p.expected ≤ expected
  pub listed : p.listing ≡ q.listing
  pub is_listed : (s : StreamListing) × (q.listing ≡ Some s)
  pub expects : q.expected ≡ expected
  pub knows : q.known ≡ p.known ++ starts ahead
  pub more : length q.written ≡ length p.written + 1
  pub anew : q.manifests ≡ 0

abbrev pub at : Stand → List Miss → State
at stand missed = record { stand = stand; missed = missed }

-- ---- a manifest

-- it was asked for once
pub record ListMade (plan : Plan) (old new : Option (List Exchange)) (g : Got) : Type 0 where
  pub exchange : Exchange
  pub log : new ≡ with_one old exchange
  pub request : exchange.request ≡ manifest_request plan.place
  pub limit : exchange.limit ≡ manifest_limit
  pub spells : SpellsManifest exchange.answer g

pub record ListFound (plan : Plan) (name : List ℕ) (old new : Option (List Exchange)) (found : Option StreamListing) : Type 0 where
  pub listing : Listing
  pub made : ListMade plan old new (got.Manifest listing)
  pub is : found ≡ listed name listing.streams

pub record ListMissed (plan : Plan) (old new : Option (List Exchange)) (m : Miss) : Type 0 where
  pub came : Got
  pub made : ListMade plan old new came
  pub is : miss_of came ≡ Some m

abbrev pub ListedOnce : Plan → List ℕ → Option (List Exchange) → Option (List Exchange) → Listed → Type 0
ListedOnce plan name old new (listed_once.Found found) = ListFound plan name old new found × HasLevels found
ListedOnce plan name old new (listed_once.Missed m) = ListMissed plan old new m
ListedOnce plan name old new listed_once.NoMemory = (new ≡ old) ⊎ ListMade plan old new got.NoMemory

-- what a request for a manifest got, of the stream of this name
abbrev pub IsListedOf : Got → List ℕ → Listed → Type 0
IsListedOf g name (listed_once.Found found) = (l : Listing) × (g ≡ got.Manifest l) × (found ≡ listed name l.streams)
IsListedOf g name (listed_once.Missed m) = miss_of g ≡ Some m
IsListedOf g name listed_once.NoMemory = (g ≡ got.NoMemory) ⊎ ((raw : RawFragment) × (g ≡ got.Fragment raw))

-- Exchanges for manifests alone.
abbrev pub AsksLists : Plan → List ℕ → State → List Item → Type 0
AsksLists plan name s [] = Unit {0}
AsksLists plan name s (list x g ∷ more) = MadeList plan s x g × IsRead g × AsksLists plan name (state_after plan name s (list x g ∷ [])) more
AsksLists plan name s (piece x g level ∷ more) = ⊥

abbrev pub AsksListLast : Plan → State → List Item → Type 0
AsksListLast plan s [] = Unit {0}
AsksListLast plan s (list x g ∷ []) = MadeList plan s x g
AsksListLast plan s (list x g ∷ y ∷ more) = ⊥
AsksListLast plan s (piece x g level ∷ more) = ⊥

-- such exchanges lead from one state to another, where a last one may have wanted memory
pub record ListWent (plan : Plan) (name : List ℕ) (from to : State) (last : List Item) (old new : Option (List Exchange)) : Type 0 where
  pub made : List Item
  pub log : new ≡ with_all old (exchanges (made ++ last))
  pub asks : AsksLists plan name from made
  pub state : state_after plan name from made ≡ to
  pub asks_last : AsksListLast plan to last

-- want of memory, wherever it came
pub record ListStopped (plan : Plan) (name : List ℕ) (from : State) (old new : Option (List Exchange)) : Type 0 where
  pub to : State
  pub last : List Item
  pub went : ListWent plan name from to last old new
  pub written : written_at to.stand ≡ written_at from.stand

abbrev pub ListedBy : Plan → List ℕ → Stand → Option (List Exchange) → Option (List Exchange) → Manifest → Type 0
ListedBy plan name stand old new (manifest.Read found) =
    ListWent plan name (at stand []) (at (read_at plan stand found) []) [] old new × HasLevels found
ListedBy plan name stand old new (manifest.GaveUp outcomes) = ListWent plan name (at stand []) (at stand outcomes) [] old new × (length outcomes ≡ plan.tries)
ListedBy plan name stand old new manifest.NoMemory = ListStopped plan name (at stand []) old new

-- ---- ends

pub record ListEnded (plan : Plan) (name : List ℕ) (number : ℕ) (from : State) (end : End) (log log' : Option (List Exchange)) : Type 0 where
  pub to : State
  pub last : List Item
  pub went : ListWent plan name from to last log log'
  pub written : written_at to.stand ≡ written_at from.stand
  pub ends : EndsAt plan number end to
  pub tail : IsTail plan name end to last []

-- ---- one manifest more

pub record RelistedTo (plan : Plan) (name : List ℕ) (p : Standing) (new : code.Standing) (log log' : Option (List Exchange)) : Type 0 where
  pub to : Standing
  pub holds : Holds new to
  pub written : to.written ≡ p.written
  pub went : ListWent plan name (at (standing p) []) (at (standing to) []) [] log log'

-- want of memory, or none of the tries gave one
pub record RelistEnded (plan : Plan) (name : List ℕ) (p : Standing) (end : End) (log log' : Option (List Exchange)) : Type 0 where
  pub ended : (number : ℕ) → ListEnded plan name number (at (standing p) []) end log log'

abbrev pub Relisted : Plan → List ℕ → Standing → code.Standing → Option (List Exchange) → Option (List Exchange) → Option End → Type 0
Relisted plan name p new log log' None = RelistedTo plan name p new log log'
Relisted plan name p new log log' (Some end) = RelistEnded plan name p end log log'

-- ---- until the expected start is known

pub record SoughtFound (plan : Plan) (name : List ℕ) (p : Standing) (new : code.Standing) (log log' : Option (List Exchange)) : Type 0 where
  pub to : Standing
  pub holds : Holds new to
  pub known : has to.expected to.known ≡ true
  pub written : to.written ≡ p.written
  pub went : ListWent plan name (at (standing p) []) (at (standing to) []) [] log log'

abbrev pub Sought : Plan → List ℕ → ℕ → Standing → code.Standing → Option (List Exchange) → Option (List Exchange) → Option End → Type 0
Sought plan name number p new log log' None = SoughtFound plan name p new log log'
Sought plan name number p new log log' (Some end) = ListEnded plan name number (at (standing p) []) end log log'

-- ---- a fragment

-- it was asked for once, as the policy chose
pub record PieceMade {P : Type 0} (m : Meaning P) (plan : Plan) (name : List ℕ) (w : Wanted) (who : P) (old new : Option (List Exchange))
    (g : Got) (level : ℕ) : Type 0 where
  pub exchange : Exchange
  pub log : new ≡ with_one old exchange
  pub chosen : level ≡ m.pick who [] (ladder_of w.listing.now.levels) w.ahead
  pub within : level < length w.listing.now.levels
  pub request : exchange.request ≡ fragment_request plan.place w.listing.now.pattern (address_at name w.listing.now w.start level)
  pub limit : exchange.limit ≡ fragment_limit
  pub spells : SpellsFragment w.start exchange.answer g

-- and the policy has heard of it
pub record PieceHeard {P : Type 0} (m : Meaning P) (plan : Plan) (name : List ℕ) (w : Wanted) (who now : P)
    (old new : Option (List Exchange)) (g : Got) (level : ℕ) : Type 0 where
  pub made : PieceMade m plan name w who old new g level
  pub heard : Continues m who now (heard_of g made.exchange level)

pub record PieceMissed {P : Type 0} (m : Meaning P) (plan : Plan) (name : List ℕ) (w : Wanted) (who now : P)
    (old new : Option (List Exchange)) (miss : Miss) : Type 0 where
  pub came : Got
  pub level : ℕ
  pub heard : PieceHeard m plan name w who now old new came level
  pub is : miss_of came ≡ Some miss

pub record PieceLost {P : Type 0} (m : Meaning P) (plan : Plan) (name : List ℕ) (w : Wanted) (who now : P)
    (old new : Option (List Exchange)) : Type 0 where
  pub same : now ≡ who
  pub made : (new ≡ old) ⊎ ((level : ℕ) × PieceMade m plan name w who old new got.NoMemory level)

abbrev pub PieceOnce : {P : Type 0} → Meaning P → Stream → Wanted → P → P → Option (List Exchange) → Option (List Exchange) → Asked → Type 0
PieceOnce m s w who now old new (asked.Took raw level) = PieceHeard m s.plan.now s.name.now w who now old new (got.Fragment raw) level
PieceOnce m s w who now old new (asked.Missed outcome) = PieceMissed m s.plan.now s.name.now w who now old new outcome
PieceOnce m s w who now old new asked.NoMemory = PieceLost m s.plan.now s.name.now w who now old new

-- what a request for a fragment got, for the caller
abbrev pub IsAskedOf : Got → ℕ → Asked → Type 0
IsAskedOf g level (asked.Took raw place) = (g ≡ got.Fragment raw) × (place ≡ level)
IsAskedOf g level (asked.Missed outcome) = miss_of g ≡ Some outcome
IsAskedOf g level asked.NoMemory = (g ≡ got.NoMemory) ⊎ ((l : Listing) × (g ≡ got.Manifest l))

-- this fragment is to be asked for, and so many starts are known behind it
pub record MayPiece (plan : Plan) (p : Standing) (w : Wanted) : Type 0 where
  pub last : p.listing ≡ Some w.listing.now
  pub expects : w.start ≡ p.expected
  pub known : has p.expected p.known ≡ true
  pub more : length p.written < plan.count
  pub after : List ℕ
  pub behind : AreAfter p.known p.expected after
  pub counted : length after ≡ w.ahead

-- Exchanges lead from one turn and state to another, where a last one may have come to nothing.
pub record Went {P : Type 0} (m : Meaning P) (plan : Plan) (name : List ℕ) (start now : Turn P) (from to : State) (last : List Item) (old new : Option
    (List Exchange)) : Type 0 where
  pub made : List Item
  pub log : new ≡ with_all old (exchanges (made ++ last))
  pub asks : Asks m plan name start from made
  pub state : state_after plan name from made ≡ to
  pub asks_last : AsksLast m plan name (turn_after m start made) to last
  pub turn : Behaves m (turn_after m start (made ++ last)) now

-- all exchanges but the last one missed the start, and the last one gave it
pub record PieceTaken {P : Type 0} (m : Meaning P) (plan : Plan) (name : List ℕ) (p : Standing) (s : StreamListing) (start now : Turn P) (old new : Option
    (List Exchange)) (raw : RawFragment) (level : ℕ) : Type 0 where
  pub missed : List Miss
  pub exchange : Exchange
  pub went : Went m plan name start now (at (standing p) []) (at (standing p) missed) (piece exchange (got.Fragment raw) level ∷ []) old new
  pub within : level < length s.levels
  pub valid : IsValid (given name 0 raw)
  pub time : raw.time ≡ p.expected

pub record PieceStopped {P : Type 0} (m : Meaning P) (plan : Plan) (name : List ℕ) (p : Standing) (start now : Turn P) (old new : Option (List Exchange)) : Type 0 where
  pub missed : List Miss
  pub last : List Item
  pub went : Went m plan name start now (at (standing p) []) (at (standing p) missed) last old new

abbrev pub PiecesBy : {P : Type 0} → Meaning P → Stream → Standing → Wanted → Turn P → Turn P
    → Option (List Exchange) → Option (List Exchange) → Pieces → Type 0
PiecesBy m s p w start now old new (pieces.Took raw level) = PieceTaken m s.plan.now s.name.now p w.listing.now start now old new raw level
PiecesBy m s p w start now old new (pieces.GaveUp outcomes) =
    Went m s.plan.now s.name.now start now (at (standing p) []) (at (standing p) outcomes) [] old new × (length outcomes ≡ s.plan.now.tries)
PiecesBy m s p w start now old new pieces.NoMemory = PieceStopped m s.plan.now s.name.now p start now old new

-- a fragment that was taken is valid, of the time asked, and at a place of the ladder
abbrev pub TookValid : Wanted → Pieces → Type 0
TookValid w (pieces.Took raw level) = (level < length w.listing.now.levels) × IsValid (given [] 0 raw) × (raw.time ≡ w.start)
TookValid w (pieces.GaveUp outcomes) = Unit {0}
TookValid w pieces.NoMemory = Unit {0}

-- a fragment that was taken is kept
abbrev pub AskedKept : Stream → Wanted → (List Entry → Type 0) → (List Entry → Type 0) → Asked → Type 0
AskedKept s w store store' (asked.Took raw level) = KeepsOn s.plan.now store store' (piece_of s.name.now w.listing.now level raw ∷ [])
AskedKept s w store store' (asked.Missed outcome) = Unit {0}
AskedKept s w store store' asked.NoMemory = Unit {0}

abbrev pub PiecesKept : Stream → Wanted → (List Entry → Type 0) → (List Entry → Type 0) → Pieces → Type 0
PiecesKept s w store store' (pieces.Took raw level) = KeepsOn s.plan.now store store' (piece_of s.name.now w.listing.now level raw ∷ [])
PiecesKept s w store store' (pieces.GaveUp outcomes) = Unit {0}
PiecesKept s w store store' pieces.NoMemory = Unit {0}

-- ---- the first manifest of a stream

pub record BegunStanding (plan : Plan) (name : List ℕ) (new : code.Standing) (log log' : Option (List Exchange)) : Type 0 where
  pub to : Standing
  pub holds : Holds new to
  pub written : to.written ≡ []
  pub went : ListWent plan name (at unread []) (at (standing to) []) [] log log'

abbrev pub Began : Stream → Option (List Exchange) → Option (List Exchange) → Begun → Type 0
Began s log log' (begun_as.Stands new) = BegunStanding s.plan.now s.name.now new log log'
Began s log log' (begun_as.Ended end) = ListEnded s.plan.now s.name.now s.number (at unread []) end log log'

-- ---- a stream goes on

-- exchanges lead from one turn and state to another, and the track gets the texts of the fragments between them, and this behind;
-- the logs that are told at the end keep these fragments
pub record Streams {P : Type 0} (m : Meaning P) (plan : Plan) (name : List ℕ) (start now : Turn P) (from to : State) (last : List Item) (tail : List ℕ)
    (log log' : Option (List Exchange)) (store store' : List Entry → Type 0) (track track' : Option (List ℕ)) : Type 0 where
  pub went : Went m plan name start now from to last log log'
  pub added : List Piece
  pub written : written_at to.stand ≡ written_at from.stand ++ added
  pub text : Appends track track' (texts (length (written_at from.stand) + 1) added ++ tail)
  pub kept : KeepsOn plan store store' added

-- one fragment more
pub record StreamsOn {P : Type 0} (m : Meaning P) (plan : Plan) (name : List ℕ) (p : Standing) (start now : Turn P) (new : code.Standing)
    (log log' : Option (List Exchange)) (store store' : List Entry → Type 0) (track track' : Option (List ℕ)) : Type 0 where
  pub to : Standing
  pub holds : Holds new to
  pub more : length to.written ≡ length p.written + 1
  pub streams : Streams m plan name start now (at (standing p) []) (at (standing to) []) [] [] log log' store store' track track'

-- or an end, with so many fragments written
pub record StreamsEnd {P : Type 0} (m : Meaning P) (plan : Plan) (name : List ℕ) (number : ℕ) (from : State) (start now : Turn P) (count : ℕ) (end : End)
    (log log' : Option (List Exchange)) (store store' : List Entry → Type 0) (track track' : Option (List ℕ)) : Type 0 where
  pub to : State
  pub last : List Item
  pub tail : List ℕ
  pub streams : Streams m plan name start now from to last tail log log' store store' track track'
  pub ends : EndsAt plan number end to
  pub behind : IsTail plan name end to last tail
  pub counted : count ≡ length (written_at to.stand)

-- one or the other, as a dial and tracks tell it
abbrev pub StreamsBy : {P C T : Type 0} → Meaning P → Stream → Standing → Turn P → Turn P → code.Standing
    → (C → Option (List Exchange)) → (C → List Entry → Type 0) → C → C → (T → ℕ → Option (List ℕ)) → T → T → Option End → Type 0
StreamsBy m s p start now new log store dial dial' held tracks tracks' None =
    StreamsOn m s.plan.now s.name.now p start now new (log dial) (log dial') (store dial) (store dial') (held tracks s.number) (held tracks' s.number)
StreamsBy m s p start now new log store dial dial' held tracks tracks' (Some end) =
    StreamsEnd m s.plan.now s.name.now s.number (at (standing p) []) start now new.written end
    (log dial) (log dial') (store dial) (store dial') (held tracks s.number) (held tracks' s.number)

-- what writing a text may end with: the track got a front of it and failed, or memory ran out before
abbrev pub WritesFront : Option (List ℕ) → Option (List ℕ) → List ℕ → End → Type 0
WritesFront track track' text ends.WriteFault = (n : ℕ) × Appends track track' (take n text)
WritesFront track track' text ends.NoMemory = Appends track track' []
WritesFront track track' text ends.Done = ⊥
WritesFront track track' text (ends.NoMore expected) = ⊥
WritesFront track track' text (ends.Hole expected next) = ⊥
WritesFront track track' text (ends.GaveUp time outcomes) = ⊥
WritesFront track track' text (ends.NoManifest outcomes) = ⊥
WritesFront track track' text (ends.NoStream index) = ⊥

-- a text is written, or that is how it ends
abbrev pub Writes : Option (List ℕ) → Option (List ℕ) → List ℕ → Option End → Type 0
Writes track track' text None = Appends track track' text
Writes track track' text (Some end) = WritesFront track track' text end

-- the play of one stream, from its first exchange to its end
abbrev pub Streamed : {P C T : Type 0} → Meaning P → Stream → Turn P → Turn P → ℕ → End
    → (C → Option (List Exchange)) → (C → List Entry → Type 0) → C → C → (T → ℕ → Option (List ℕ)) → T → T → Type 0
Streamed m s start now count end log store dial dial' held tracks tracks' =
    StreamsEnd m s.plan.now s.name.now s.number (at unread []) start now count end
    (log dial) (log dial') (store dial) (store dial') (held tracks s.number) (held tracks' s.number)
