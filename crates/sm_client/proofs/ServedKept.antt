-- What a play writes over an origin that keeps a log is kept in that log.
use Rattle.std.proofs.Common.{◌≡◌, ◌≢◌, ◌+◌, ◌⊎◌, ℕ, List, [], ◌∷◌, ◌++◌, Option, Some, None, refl, ap, sym, ◌∙◌, subst, inl, inr, append_assoc}
use Rattle.std.specs.Prelude.{All, Contains}
use Rattle.std.specs.List.{AllByRecursion}
use Rattle.std.proofs.lemmas.List.Elements.{Contains-append_left}
use Rattle.sm_model.specs.declared.address.Address.{Address}
use Rattle.sm_model.specs.declared.entry.Entry.{Entry}
use Rattle.sm_model.specs.declared.entry.Entry.TheVariants.{Keep}
use Rattle.sm_model.specs.declared.fragment.Fragment.{Fragment}
use Rattle.sm_model.specs.declared.run.RawFragment.{RawFragment}
use Rattle.sm_model.specs.declared.track.Track.{Track}
use Rattle.sm_model.specs.Channels.{IsNarrowTrack}
use Rattle.sm_model.specs.Written.{raw_again}
use Rattle.sm_log.specs.Logs.{ahead_in}
use Rattle.sm_manin.specs.declared.listing.StreamListing.{StreamListing}
use Rattle.sm_fetch.specs.declared.dial.Exchange.{Exchange}
use Rattle.sm_fetch.specs.declared.got.Got.{Got}
use Rattle.sm_fetch.specs.declared.got.Got.TheVariants as got
use Rattle.sm_fetch.specs.Origins.{FromOrigin}
use Rattle.sm_fetch.specs.Spelt.{given}
use Rattle.sm_client.specs.declared.plan.Plan.{Plan}
use Rattle.sm_client.specs.declared.report.End.{End}
use Rattle.sm_client.specs.declared.report.End.TheVariants as ends
use Rattle.sm_client.specs.declared.report.Report.{Report}
use Rattle.sm_client.specs.Turns.{Meaning, Turn}
use Rattle.sm_client.specs.Stands.{Item, list, piece, Piece, Stand, unread, absent, standing, Standing, State, nothing_read}
use Rattle.sm_client.specs.Stands.{listed, address_at, piece_of, read_at, wrote_at, wrote_by, written_at, after_list, after_piece, state_by, state_after}
use Rattle.sm_client.specs.Asks.{Made, MadePiece, Asks, exchange_of, exchanges, turn_by, turn_after}
use Rattle.sm_client.specs.Plays.{Part, PlaysAll, PlaysFrom, all_exchanges, written_of}
use Rattle.sm_client.specs.Served.{AnsweredBy, IsMoment, IsPlace, IsStream, Serves, AreIn, PartsIn}
use Rattle.sm_client.proofs.Went.{exchanges-append}
use Rattle.sm_client.specs.Origins.{IsTheOrigins}
use Rattle.sm_log.proofs.ListedKept.{kept_address}
use Rattle.sm_log.proofs.AllLogs.{kept_there}
use Rattle.sm_client.proofs.EndingWell.{StandsBy, stands-on, Setting, step, piece-reads, told-same, answered-split, answered-grows}

in-more : (log more : List Entry) (ps : List Piece) → AreIn log ps → AreIn (log ++ more) ps
in-more log more [] a = tt
in-more log more (p ∷ ps) a = (Contains-append_left log more (Keep p.fragment) a.0, in-more log more ps a.1)

in-one : (log : List Entry) (ps : List Piece) (p : Piece) → AreIn log ps → Contains log (Keep p.fragment) → AreIn log (ps ++ p ∷ [])
in-one log [] p a k = (k, tt)
in-one log (q ∷ ps) p a k = (a.0, in-one log ps p a.1 k)

-- what is read at an address is the fragment that is kept there
read-kept : (log : List Entry) (a : Address) (raw : RawFragment) → IsTheOrigins log a raw → Contains log (Keep (given a.stream a.bitrate raw))
read-kept log a raw r =
    let same : r.fragment ≡ given a.stream a.bitrate raw =
    ap (λ (b : Address). given b.stream b.bitrate (raw_again r.id r.fragment (ahead_in log a.stream a.time))) (kept_address log a r.place r.fragment r.placed) ∙ ap (λ (q : RawFragment). given a.stream a.bitrate q) (sym r.is) in
    subst (λ (f : Fragment). Contains log (Keep f)) same (kept_there a 0 log (r.place, r.fragment) r.placed)

module _ {P : Type 0} (m : Meaning P) {plan : Plan} {channel : List Track} {name : List ℕ} (c : Setting plan channel name) where
  -- a manifest writes nothing
  read-in : (log : List Entry) (s : Stand) (o : Option StreamListing) → AreIn log (written_at s) → AreIn log (written_at (read_at plan s o))
  read-in log unread None a = tt
  read-in log unread (Some f) a = tt
  read-in log absent o a = tt
  read-in log (standing p) o a = a

  list-in : (log : List Entry) (s : State) (g : Got) → AreIn log (written_at s.stand) → AreIn log (written_at (after_list plan name s g).stand)
  list-in log s (got.Manifest l) a = read-in log s.stand (listed name l.streams) a
  list-in log s (got.Fragment raw) a = a
  list-in log s (got.Status status) a = a
  list-in log s got.Cut a = a
  list-in log s (got.Unreadable at) a = a
  list-in log s got.Lost a = a
  list-in log s got.NoMemory a = a

  wrote-in : (log : List Entry) (p : Standing) (raw : RawFragment) (level : ℕ) (o : Option StreamListing) → AreIn log p.written
      → ((s : StreamListing) → o ≡ Some s → Contains log (Keep (piece_of name s level raw).fragment)) → AreIn log (wrote_by name p o level raw).written
  wrote-in log p raw level None a k = a
  wrote-in log p raw level (Some s) a k = in-one log p.written (piece_of name s level raw) a (k s refl)

  same-some : (x y : StreamListing) → Some x ≡ Some y → x ≡ y
  same-some x y e = cc

  piece-in : (log : List Entry) (s : State) (t : Turn P) (x : Exchange) (g : Got) (level : ℕ) → MadePiece m plan name t s x g level → IsMoment channel log → FromOrigin log x.request x.answer
      → StandsBy channel name log s.stand → AreIn log (written_at s.stand) → AreIn log (written_at (after_piece name s g level).stand)
  piece-in log s t x (got.Manifest l) level k is from h a = a
  piece-in log s t x (got.Fragment raw) level k is from h a =
      let r = piece-reads m c log s t x raw level k is from h in
      let there : Contains log (Keep (piece_of name k.listing level raw).fragment) = read-kept log (address_at name k.listing k.at.expected level) raw r in
      subst (λ st. AreIn log (written_at (wrote_at name st level raw))) (sym k.stands)
      (wrote-in log k.at raw level k.at.listing (subst (λ st. AreIn log (written_at st)) k.stands a)
      (λ o e. subst (λ (l : StreamListing). Contains log (Keep (piece_of name l level raw).fragment)) (same-some k.listing o (sym k.last ∙ e)) there))
  piece-in log s t x (got.Status status) level k is from h a = a
  piece-in log s t x got.Cut level k is from h a = a
  piece-in log s t x (got.Unreadable at) level k is from h a = a
  piece-in log s t x got.Lost level k is from h a = a
  piece-in log s t x got.NoMemory level k is from h a = a

  item-in : (log : List Entry) (s : State) (t : Turn P) (i : Item) → Made m plan name t s i → IsMoment channel log → FromOrigin log (exchange_of i).request (exchange_of i).answer
      → StandsBy channel name log s.stand → AreIn log (written_at s.stand) → AreIn log (written_at (state_by plan name s i).stand)
  item-in log s t (list x g) k is from h a = list-in log s g a
  item-in log s t (piece x g level) k is from h a = piece-in log s t x g level k is from h a

  all-in : (xs : List Item) (log last : List Entry) (s : State) (t : Turn P) → Asks m plan name t s xs → AnsweredBy channel log (exchanges xs) last → StandsBy channel name log s.stand
      → AreIn log (written_at s.stand) → AreIn last (written_at (state_after plan name s xs).stand)
  all-in [] log last s t asks (more, is) h a = subst (λ l. AreIn l (written_at s.stand)) (sym is) (in-more log more (written_at s.stand) a)
  all-in (i ∷ xs) log last s t asks (more, is, from, rest) h a =
      let on = stands-on channel name log more s.stand h in
      all-in xs (log ++ more) last (state_by plan name s i) (turn_by m t i) asks.2 rest (step m c (log ++ more) s t i asks.0 asks.1 is from on)
      (item-in (log ++ more) s t i asks.0 is from on (in-more log more (written_at s.stand) a))

-- ---- streams

none-in : (plan : Plan) (last : List Entry) (names : List (List ℕ)) → PartsIn plan last names []
none-in plan last [] = tt
none-in plan last (name ∷ names) = tt

parts-in : {P : Type 0} (m : Meaning P) (plan : Plan) (channel : List Track) (names : List (List ℕ)) (parts : List Part) (log last : List Entry) (t : Turn P) (number : ℕ) (held held' : ℕ → Option (List ℕ)) (end : End)
    → IsPlace plan.place → All IsNarrowTrack channel → AllByRecursion (IsStream channel) names → PlaysAll m plan t number names held held' parts end
    → AnsweredBy channel log (all_exchanges parts) last → PartsIn plan last names parts
parts-in m plan channel [] parts log last t number held held' end place tracks streams p answered = tt
parts-in m plan channel (name ∷ names) [] log last t number held held' end place tracks streams p answered = tt
parts-in {P = P} m plan channel (name ∷ names) (part ∷ rest) log last t number held held' end place tracks streams p answered =
    let later = answered-split channel log last (exchanges (part.made ++ part.last)) (all_exchanges rest) answered in
    (first, by p.1 (λ d. parts-in m plan channel names rest later.0 last (turn_after m t part.made) (number + 1) held held' end place tracks streams.1 d later.2))
  where
    back : List Exchange
    back = exchanges part.last ++ all_exchanges rest

    split : exchanges (part.made ++ part.last) ++ all_exchanges rest ≡ exchanges part.made ++ back
    split = ap (λ l. l ++ all_exchanges rest) (exchanges-append part.made part.last) ∙ append_assoc (exchanges part.made) (exchanges part.last) (all_exchanges rest)

    here : (mid : List Entry) × AnsweredBy channel log (exchanges part.made) mid × AnsweredBy channel mid back last
    here = answered-split channel log last (exchanges part.made) back (subst (λ l. AnsweredBy channel log l last) split answered)

    grows : (more : List Entry) × (last ≡ here.0 ++ more)
    grows = answered-grows channel here.0 last back here.2

    first : AreIn last (written_of plan name part)
    first = subst (λ l. AreIn l (written_of plan name part)) (sym grows.1)
        (in-more here.0 grows.0 (written_of plan name part)
        (all-in m (record { place = place; tracks = tracks; stream = streams.0 }) part.made log here.0 nothing_read t p.0.asks here.1 tt tt))

    by : ((part.end ≡ ends.Done) × PlaysAll m plan (turn_after m t part.made) (number + 1) names held held' rest end) ⊎ ((part.end ≢ ends.Done) × (rest ≡ []) × (end ≡ part.end))
        → (PlaysAll m plan (turn_after m t part.made) (number + 1) names held held' rest end → PartsIn plan last names rest) → PartsIn plan last names rest
    by (inl d) behind = behind d.1
    by (inr e) behind = subst (PartsIn plan last names) (sym e.1) (none-in plan last names)

pub from-kept : {P : Type 0} {m : Meaning P} {plan : Plan} {start : Turn P} {log log' : Option (List Exchange)} {held held' : ℕ → Option (List ℕ)} {report : Report}
    → (p : PlaysFrom m plan start 0 plan.streams log log' held held' report)
    → (channel : List Track) (first last : List Entry) (before xs : List Exchange) → log ≡ Some before → log' ≡ Some (before ++ xs) → Serves plan channel first last xs → PartsIn plan last plan.streams p.parts
from-kept {m = m} {plan = plan} {start = start} {log = log} {log' = log'} {held = held} {held' = held'} {report = report} p channel first last before xs was is served =
    let same : all_exchanges p.parts ≡ xs = told-same log log' before xs (all_exchanges p.parts) was is p.made in
    parts-in m plan channel plan.streams p.parts first last start 0 held held' report.end served.place served.tracks served.streams p.plays
    (subst (λ l. AnsweredBy channel first l last) (sym same) served.answered)
