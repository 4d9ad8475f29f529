-- The store of an origin behind a dial, which only grows, and the replies that it may give.
use Rattle.std.specs.Prelude.{◌≡◌, ◌<◌, ◌≤◌, ◌^◌, ◌⊎◌, ℕ, Bool, List, [], ◌∷◌, ◌++◌, length, Option, None, Some, IsUtf8}
use Rattle.http.specs.StatusCode.{IsStatusCode}
use Rattle.httparse.specs.Grammar.{AllPass, is_uri_byte, is_value_byte}
use Rattle.sm_model.specs.declared.address.Address.{Address}
use Rattle.sm_model.specs.declared.entry.Entry.{Entry}
use Rattle.sm_model.specs.declared.fragment.Fragment.{Fragment}
use Rattle.sm_model.specs.declared.target.Target.TheVariants as target
use Rattle.sm_model.specs.declared.track.Track.{Track}
use Rattle.sm_model.specs.FragText.{frag_text}
use Rattle.sm_model.specs.Written.{IsWritten}
use Rattle.sm_log.specs.Adds.{id_in}
use Rattle.sm_log.specs.Logs.{channel_of, kept_at, listed_in, ahead_in}
use Rattle.sm_manout.specs.ManifestText.{manifest}
use Rattle.sm_addr.specs.Targets.{target_of}
use Rattle.sm_head.specs.declared.reply.Content.{Content}
use Rattle.sm_head.specs.Replies.{reply_text}
use Rattle.sm_fetch.specs.declared.dial.Answer.{Answer}
use Rattle.sm_fetch.specs.declared.dial.Answer.TheVariants as answers
use Rattle.sm_fetch.specs.declared.dial.Exchange.{Exchange}
use Rattle.sm_fetch.specs.Exchanges.{Peer, with_all}
use Rattle.sm_fetch.specs.Requests.{get_text}

-- ---- what an origin replies

-- The canonical text of the fragment that the log keeps at this address, with the listed times behind it. Its sequence number is the
-- fragment's place in the log, and its track_ID the place of the track in the channel, from 1.
pub record IsKeptText (log : List Entry) (a : Address) (text : List ℕ) : Type 0 where
  pub seq : ℕ
  pub id : ℕ
  pub fragment : Fragment
  pub text_is : text ≡ frag_text seq id fragment (ahead_in log a.stream a.time)
  pub written : IsWritten id fragment (ahead_in log a.stream a.time)
  pub placed : kept_at log a ≡ Some (seq, fragment)
  pub seq_fits : seq < 2 ^ 32
  pub id_is : (channel : List Track) → channel_of log ≡ Some channel → id ≡ id_in channel a

-- It fails, or there were too many connections; or the head of the request was too long.
abbrev pub IsUnwell : ℕ → List ℕ → Type 0
IsUnwell status named = (status ≡ 500) ⊎ ((status ≡ 503) ⊎ ((status ≡ 431) × (7000 < length named)))

-- the manifest of the channel, with the times that are listed; or none is declared
abbrev pub SaysManifest : List Entry → ℕ → List ℕ → Type 0
SaysManifest log status body =
    ((channel : List Track) × (channel_of log ≡ Some channel) × (status ≡ 200) × (body ≡ manifest channel (listed_in log)))
    ⊎ ((channel_of log ≡ None) × (status ≡ 404))

-- the fragment that is kept at the address; or none is
abbrev pub SaysFragment : List Entry → Address → ℕ → List ℕ → Type 0
SaysFragment log a status body = ((status ≡ 200) × IsKeptText log a body) ⊎ ((kept_at log a ≡ None) × (status ≡ 404))

-- What an origin with this log may reply to a GET of this target: a reply whose text is as replies are written, and which says what is
-- there, unless it isn't well.
pub record IsOriginReply (log : List Entry) (named reply : List ℕ) : Type 0 where
  pub status : ℕ
  pub kind : Content
  pub body : List ℕ
  pub close : Bool
  pub code : IsStatusCode status
  pub final : 200 ≤ status
  pub short : length body < 10 ^ 18
  pub text : reply ≡ reply_text status kind body close
  pub manifest : target_of named ≡ target.Manifest → SaysManifest log status body ⊎ IsUnwell status named
  pub fragment : (a : Address) → target_of named ≡ target.Fragment a → SaysFragment log a status body ⊎ IsUnwell status named

-- the bytes are a front, perhaps all, of such a reply
abbrev pub IsOfOrigin : List Entry → List ℕ → List ℕ → Type 0
IsOfOrigin log named bytes = (reply more : List ℕ) × IsOriginReply log named reply × (reply ≡ bytes ++ more)

-- A host, a port and a target that a request may have: the target is text of visible bytes, and the host has no control byte.
pub record MayBeAsked (host : List ℕ) (port : ℕ) (named : List ℕ) : Type 0 where
  pub printable : AllPass is_value_byte host
  pub few : length host ≤ 255
  pub narrow : port < 2 ^ 16
  pub some : 0 < length named
  pub visible : AllPass is_uri_byte named
  pub text : IsUtf8 named

-- an answer to the GET of a target of any place is the origin's
abbrev pub FromOrigin : List Entry → List ℕ → Answer → Type 0
FromOrigin log request (answers.Bytes bytes) =
    (host : List ℕ) (port : ℕ) (named : List ℕ) → MayBeAsked host port named → request ≡ get_text host port named → IsOfOrigin log named bytes
FromOrigin log request answers.Lost = Unit {0}
FromOrigin log request answers.NoMemory = Unit {0}

-- ---- the logs that a dial may be said to have behind it

-- a dial that tells none
abbrev pub Untold : List Entry → Type 0
Untold log = ⊥

-- it only grows: for each log that is told before, one is told now that goes on from it
abbrev pub Grows : (List Entry → Type 0) → (List Entry → Type 0) → Type 0
Grows old now = (log : List Entry) → old log → (more : List Entry) × now (log ++ more)

-- it only grows, and the answer was given at some moment of it
abbrev pub AnswersFrom : (List Entry → Type 0) → (List Entry → Type 0) → List ℕ → Answer → Type 0
AnswersFrom old now request answer =
    (log : List Entry) → old log → (until since : List Entry) × now ((log ++ until) ++ since) × FromOrigin (log ++ until) request answer

-- ---- exchanges that a dial was told to have made

-- each of these was answered at some moment of a log that only grows, from this one to that
abbrev pub AnsweredFrom : List Entry → List Exchange → List Entry → Type 0
AnsweredFrom log [] later = (more : List Entry) × (later ≡ log ++ more)
AnsweredFrom log (x ∷ xs) later =
    (more : List Entry) × FromOrigin (log ++ more) x.request x.answer × AnsweredFrom (log ++ more) xs later

-- The list of a dial got these exchanges. For each log that is told before, one is told now that goes on from it, and on the way they
-- were answered, in their order.
pub record Answered (told told' : Option (List Exchange)) (old now : List Entry → Type 0) : Type 0 where
  pub made : List Exchange
  pub told_is : told' ≡ with_all told made
  pub on : (log : List Entry) → old log → (more : List Entry) × now (log ++ more) × AnsweredFrom log made (log ++ more)

-- ---- what calls leave of a dial

-- It goes on: it is a later one, which has counted no fewer faults, and the logs that are told only grow.
pub record DialGoesOn {C : Type 0} (store : C → List Entry → Type 0) (later : C → C → Type 0) (faults : C → ℕ) (old new : C) : Type 0 where
  pub goes_on : later old new
  pub no_fewer : faults old ≤ faults new
  pub grows : Grows (store old) (store new)

-- A call made exchanges and nothing else: the dial goes on, is turned to the same host, and its logs answered them on the way.
pub record DialAlone {C : Type 0} (log : C → Option (List Exchange)) (store : C → List Entry → Type 0) (later : C → C → Type 0)
    (faults : C → ℕ) (chosen : C → Option Peer) (old new : C) : Type 0 where
  pub on : DialGoesOn store later faults old new
  pub turned : chosen new ≡ chosen old
  pub answered : Answered (log old) (log new) (store old) (store new)
