-- The clients of a rehearsal.
use Rattle.std.specs.Prelude.{◌≡◌, ◌≢◌, ◌==◌, ◌+◌, ◌-◌, ◌*◌, ◌/◌, ◌%◌, ◌^◌, ◌<◌, ◌≤◌, ℕ, List, [], ◌∷◌, ◌++◌, length, take, codes, Bool, true, false, None, Some}
use Rattle.sm_fetch.specs.declared.dial.Exchange.{Exchange}
use Rattle.sm_ends.specs.TracksHeld.{TracksState, held_at}
use Rattle.sm_model.specs.declared.entry.Entry.{Entry}
use Rattle.sm_client.specs.declared.plan.Plan.{Plan}
use Rattle.sm_client.specs.declared.report.End.TheVariants.{Done}
use Rattle.sm_client.specs.Turns.{Meaning, settle}
use Rattle.sm_client.specs.Asks.{exchanges}
use Rattle.sm_client.specs.Plays.{Part, IsPart, Gapless, written_of}
use Rattle.sm_client.specs.Served.{AreIn}
use Rattle.sm_fetch.specs.declared.dial.Answer.{Answer}
use Rattle.sm_fetch.specs.declared.dial.Answer.TheVariants as answers
use Rattle.sm_world.specs.Answering.{halved}
use Rattle.sm_site.specs.declared.memory.MemorySite.{MemorySite}
use Rattle.sm_site.specs.Meanings.{View}
use Rattle.sm_site.specs.Memory.{site_seen, site_view}
use Rattle.sm_world.specs.Deeds.{IsCrash, place}
use Rattle.sm_world.specs.Dialing.{Dialing}
use Rattle.sm_world.specs.Encoders.{entries_after, log_of}
use Rattle.sm_world.specs.Saying.{IsSaidBetween, TellsOn}
use Rattle.sm_world.specs.Stages.{HasEntries, StaysOn}
use Rattle.sm_world.specs.Went.{CameOf}
use Rattle.sm_world.specs.Worlds.{World, Stands}
use Rattle.sm_world.specs.declared.client.Client.{Client}
use Rattle.sm_world.specs.declared.clients.Clients.{Clients}
use Rattle.sm_world.specs.declared.acted.Acted.TheVariants as acted

-- so many fragments of a stream, from the first that is listed
abbrev pub plan_of : List ℕ → ℕ → Plan
plan_of name count = record { place = place; streams = name ∷ []; from = None; count = count; tries = 3; refresh = 2 }

-- ---- what is lost and cut

-- Of what an origin with this log replied these bytes went out on a connection of the request, and they came up to the limit, or the first half of
-- them, rounded down; and something came. What came in place of a reply had its cause on the way from one view of the site to another.
pub record Comes (old new : View) (log : List Entry) (cut : Bool) (x : Exchange) : Type 0 where
  pub went : List ℕ
  pub out : CameOf old new x.request (acted.Sent went)
  pub said : IsSaidBetween old new log x.request (acted.Sent went)
  pub answer : x.answer ≡ answers.Bytes (take x.limit (halved cut went))
  pub some : x.answer ≢ answers.Bytes []

abbrev pub DueBy : View → View → Bool → Bool → List Entry → Exchange → Type 0
DueBy old new true cut log x = x.answer ≡ answers.Lost
DueBy old new false cut log x = Comes old new log cut x

-- Of the exchanges of a client, numbered from 1, a multiple of five is lost, and another multiple of seven is cut. All others come.
abbrev pub IsDue : View → View → List Entry → ℕ → Exchange → Type 0
IsDue old new log number x = DueBy old new (number % 5 == 0) (number % 7 == 0) log x

abbrev pub AreDue : View → View → List Entry → ℕ → List Exchange → Type 0
AreDue old new log number [] = Unit {0}
AreDue old new log number (x ∷ xs) = IsDue old new log number x × AreDue old new log (number + 1) xs

-- an answer is lost, or some bytes came
abbrev pub CameBy : Bool → Answer → Type 0
CameBy true answer = answer ≡ answers.Lost
CameBy false (answers.Bytes bytes) = bytes ≢ []
CameBy false answers.Lost = ⊥
CameBy false answers.NoMemory = ⊥

-- from this number on the multiples of five are lost, and no others
abbrev pub HaveCome : ℕ → List Exchange → Type 0
HaveCome number [] = Unit {0}
HaveCome number (x ∷ xs) = CameBy (number % 5 == 0) x.answer × HaveCome (number + 1) xs

-- how many of them these are
abbrev pub lost_among : List Exchange → ℕ
lost_among xs = length xs / 5

abbrev pub cut_among : List Exchange → ℕ
cut_among xs = length xs / 7 - length xs / 35

-- ---- a client

-- These are the exchanges of a client that played a stream with one policy into the first of these tracks, of an origin that keeps what encoder
-- A pushed: so many fragments, each from where the one before it ended, the first at 0, and each of them kept by the store. Where none is wanted
-- it only asked for a manifest. What came in place of a reply had its cause between these views of the origin's site.
pub record IsClient {P : Type 0} (m : Meaning P) (p : P) (name : List ℕ) (count : ℕ) (old new : View) (xs : List Exchange) (tracks : TracksState)
    : Type 0 where
  pub part : Part
  pub plays : IsPart m (plan_of name count) name 0 (settle m p [] []) (Some []) (Some (held_at tracks.tracks 0)) part
  pub made : xs ≡ exchanges (part.made ++ part.last)
  pub due : AreDue old new (log_of count) 1 xs
  pub done : 0 < count → part.end ≡ Done
  pub whole : 0 < count → length (written_of (plan_of name count) name part) ≡ count
  pub gapless : 0 < count → Gapless 0 (written_of (plan_of name count) name part)
  pub kept : 0 < count → AreIn (log_of count) (written_of (plan_of name count) name part)

-- What playing a stream leaves of an origin in memory: further exchanges, which are those of a client where the store kept all that encoder
-- A pushed before, and as many entries behind.
pub record HasPlayed {P : Type 0} (m : Meaning P) (p : P) (name : List ℕ) (count : ℕ) (old new : MemorySite × Dialing) (c : Client) : Type 0 where
  pub more : List Exchange
  pub made : new.1.made ≡ old.1.made ++ more
  pub client : (w : World) → Stands site_seen w old.1.state old.0 → w.log ≡ log_of count
      → ((now : World) → Stands site_seen now new.1.state new.0 → length now.log ≡ entries_after count)
      → IsClient m p name count (site_view old.0) (site_view new.0) more c.tracks
  pub few : length more ≤ (count + 1) * 9
  pub lost : c.lost ≡ lost_among more
  pub cut : c.cut ≡ cut_among more
  pub played : c.played ≡ count
  pub crashes : new.1.crashes ≡ old.1.crashes
  pub tells : TellsOn (site_view old.0) (site_view new.0)
  pub stays_on : StaysOn old new

-- On the way from one to the other these exchanges had been told, and the site didn't crash.
pub record PassedThrough (old new : MemorySite × Dialing) (made : List Exchange) : Type 0 where
  pub dial : MemorySite × Dialing
  pub from : StaysOn old dial
  pub until : TellsOn (site_view old.0) (site_view dial.0)
  pub when : dial.1.made ≡ made
  pub since : TellsOn (site_view dial.0) (site_view new.0)
  pub on : StaysOn dial new

-- On the way from one to the other the site crashed once, with choice 0, where these exchanges had been told.
pub record CrashedBehind (old new : MemorySite × Dialing) (made : List Exchange) : Type 0 where
  pub before : MemorySite × Dialing
  pub behind : MemorySite × Dialing
  pub from : StaysOn old before
  pub until : TellsOn (site_view old.0) (site_view before.0)
  pub when : before.1.made ≡ made
  pub crash : IsCrash 0 before behind
  pub since : TellsOn (site_view behind.0) (site_view new.0)
  pub on : StaysOn behind new

-- The first client, behind which the site crashed: the store keeps all that encoder A pushed, if it had as many entries before.
pub record HasPlayedFirst {P : Type 0} (m : Meaning P) (p : P) (count : ℕ) (old new : MemorySite × Dialing) (c : Client) : Type 0 where
  pub more : List Exchange
  pub made : new.1.made ≡ old.1.made ++ more
  pub crash : CrashedBehind old new (old.1.made ++ more)
  pub client : (0 < count → HasEntries old (entries_after count)) → (w : World) → Stands site_seen w old.1.state old.0
      → IsClient m p (codes "video") count (site_view old.0) (site_view crash.before.0) more c.tracks
      × ((now : World) × Stands site_seen now new.1.state new.0
      × (now.first ≡ w.first) × (now.log ≡ log_of count))
  pub few : length more ≤ (count + 1) * 9
  pub lost : c.lost ≡ lost_among more
  pub cut : c.cut ≡ cut_among more
  pub played : c.played ≡ count
  pub crashes : old.1.crashes + 1 < 2 ^ 62 → new.1.crashes ≡ old.1.crashes + 1

-- The three clients, and one crash.
pub record HavePlayed {P : Type 0} (m : Meaning P) (p q r : P) (count : ℕ) (old new : MemorySite × Dialing) (c : Clients) : Type 0 where
  pub ones : List Exchange
  pub twos : List Exchange
  pub threes : List Exchange
  pub made : new.1.made ≡ ((old.1.made ++ ones) ++ twos) ++ threes
  pub crash : CrashedBehind old new (old.1.made ++ ones)
  pub middle : PassedThrough crash.behind new ((old.1.made ++ ones) ++ twos)
  pub client : (0 < count → HasEntries old (entries_after count)) → (w : World) → Stands site_seen w old.1.state old.0
      → IsClient m p (codes "video") count (site_view old.0) (site_view crash.before.0) ones c.first.tracks
      × IsClient m q (codes "video") count (site_view crash.behind.0) (site_view middle.dial.0) twos c.second.tracks
      × IsClient m r (codes "audio") count (site_view middle.dial.0) (site_view new.0) threes c.third.tracks
      × ((now : World) × Stands site_seen now new.1.state new.0 × (now.first ≡ w.first) × (now.log ≡ log_of count))
  pub few : length ones + length twos + length threes ≤ (count + 1) * 27
  pub lost : c.first.lost + c.second.lost + c.third.lost ≡ lost_among ones + lost_among twos + lost_among threes
  pub cut : c.first.cut + c.second.cut + c.third.cut ≡ cut_among ones + cut_among twos + cut_among threes
  pub played : c.first.played + c.second.played + c.third.played ≡ 3 * count
  pub crashes : old.1.crashes + 1 < 2 ^ 62 → new.1.crashes ≡ old.1.crashes + 1
