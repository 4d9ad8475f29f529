-- Where the first manifest lists all that is wanted, it is played.
use Rattle.std.proofs.Common.{◌≡◌, ◌≢◌, ◌<◌, ◌+◌, ◌⊎◌, ◌||◌, ℕ, zero, suc, true, false, cond, eqb, List, [], ◌∷◌, ◌++◌, length, Option, Some, refl, ap, sym, ◌∙◌, subst, arith, inl, inr, append_assoc, length-append}
use Rattle.std.specs.Prelude.{All}
use Rattle.std.specs.List.{AllByRecursion}
use Rattle.sm_model.specs.declared.entry.Entry.{Entry}
use Rattle.sm_model.specs.declared.run.RawFragment.{RawFragment}
use Rattle.sm_model.specs.declared.track.Track.{Track}
use Rattle.sm_model.specs.Channels.{IsNarrowTrack}
use Rattle.sm_log.specs.Logs.{listed_in}
use Rattle.sm_log.specs.Times.{entry_at}
use Rattle.sm_log.proofs.AllLogs.{listed_in_stays}
use Rattle.sm_manin.specs.declared.listing.StreamListing.{StreamListing}
use Rattle.sm_fetch.specs.declared.dial.Exchange.{Exchange}
use Rattle.sm_fetch.specs.declared.got.Got.TheVariants as got
use Rattle.sm_fetch.specs.Origins.{FromOrigin}
use Rattle.sm_client.specs.declared.plan.Plan.{Plan}
use Rattle.sm_client.specs.declared.report.Miss.{Miss}
use Rattle.sm_client.specs.declared.report.End.{End}
use Rattle.sm_client.specs.declared.report.End.TheVariants as ends
use Rattle.sm_client.specs.declared.report.Report.{Report}
use Rattle.sm_client.specs.Turns.{Meaning, Turn}
use Rattle.sm_client.specs.Starts.{has, starts}
use Rattle.sm_client.specs.Stands.{Item, list, piece, unread, standing, Standing, State, nothing_read, listed, times_of, first_start, begun, wrote, wrote_by, piece_of, address_at, state_after}
use Rattle.sm_client.specs.Asks.{MadePiece, Asks, exchanges, turn_after}
use Rattle.sm_client.specs.Ends.{EndsAt}
use Rattle.sm_client.specs.Plays.{Part, PlaysAll, PlaysFrom, all_exchanges, first_times}
use Rattle.sm_client.specs.Calls.{at}
use Rattle.sm_client.specs.Served.{AnsweredBy, IsMoment, IsPlace, IsUnrefused, OneIsWhole, IsStream, IsPatient, Serves, EndsWell, ListsRun, ListsRuns, EndsDone}
use Rattle.sm_client.proofs.Went.{exchanges-append, spelled-no_fragment}
use Rattle.sm_client.proofs.Pieces.{spelled-fragment, spelled-no_manifest}
use Rattle.sm_client.proofs.Rows.{by_bool}
use Rattle.sm_client.proofs.Durations.{listed-duration}
use Rattle.sm_log.proofs.AllLogs.{kept_there}
use Rattle.sm_log.proofs.ListedKept.{kept_address}
use Rattle.sm_client.specs.Origins.{IsListedStream, IsTheOrigins}
use Rattle.sm_client.proofs.Serving.{listed-found}
use Rattle.sm_client.proofs.EndingWell.{Knows, StandsBy, stands-on, Setting, list-read, list-step, piece-step, piece-reads, part-well, told-same, answered-split, one-behind, all-behind}

entry-has : (k d : ℕ) (ts : List (ℕ × ℕ)) → entry_at k ts ≡ Some d → has k (starts ts) ≡ true
entry-has k d [] e = absurd (cc)
entry-has k d (x ∷ xs) e =
    by_bool (eqb x.0 k) (λ b. cond b (Some x.1) (entry_at k xs) ≡ Some d → (b || has k (starts xs)) ≡ true) (λ t h. refl) (λ f h. entry-has k d xs h) e

-- what is left of the wanted run: its times are known, and the expected start is the first of those left
record OnRun (plan : Plan) (times : List (ℕ × ℕ)) (p : Standing) : Type 0 where
  left : ℕ
  count : length p.written + left ≡ plan.count
  run : ListsRun left p.expected times
  known : (k : ℕ) → has k (starts times) ≡ true → has k p.known ≡ true

-- the next of the run
record Next (times : List (ℕ × ℕ)) (start left : ℕ) : Type 0 where
  rest : ℕ
  is : left ≡ suc rest
  duration : ℕ
  there : entry_at start times ≡ Some duration
  run : ListsRun rest (start + duration) times

next-of : (times : List (ℕ × ℕ)) (start left : ℕ) → 0 < left → ListsRun left start times → Next times start left
next-of times start zero some run = absurd (omega (arith, some))
next-of times start (suc n) some run = record { rest = n; is = refl; duration = run.0; there = run.1; run = run.2 }

on-next : {plan : Plan} {times : List (ℕ × ℕ)} {p : Standing} → (r : OnRun plan times p) → length p.written < plan.count → Next times p.expected r.left
on-next {times = times} {p = p} r more = next-of times p.expected r.left (omega (arith, r.count, more)) r.run

on-known : {plan : Plan} {times : List (ℕ × ℕ)} {p : Standing} → OnRun plan times p → length p.written < plan.count → has p.expected p.known ≡ true
on-known {times = times} {p = p} r more = let n = on-next r more in r.known p.expected (entry-has p.expected n.duration times n.there)

-- it is known
on-not : {plan : Plan} {times : List (ℕ × ℕ)} (p : Standing) (start : ℕ) → OnRun plan times p → length p.written < plan.count → start ≡ p.expected → has start p.known ≡ false → ⊥
on-not p start r more same unknown = let yes : has start p.known ≡ true = rw same (on-known r more) in cc

has-more : (k : ℕ) (xs ys : List ℕ) → has k xs ≡ true → has k (xs ++ ys) ≡ true
has-more k [] ys e = absurd (cc)
has-more k (x ∷ xs) ys e =
    by_bool (eqb x k) (λ b. (b || has k xs) ≡ true → (b || has k (xs ++ ys)) ≡ true) (λ t h. refl) (λ f h. has-more k xs ys h) e

-- a fragment of it was written
on-wrote : {plan : Plan} {times : List (ℕ × ℕ)} (name : List ℕ) (p : Standing) (s : StreamListing) (level : ℕ) (raw : RawFragment) → (r : OnRun plan times p) → length p.written < plan.count → raw.time ≡ p.expected
    → ((d : ℕ) → entry_at p.expected times ≡ Some d → raw.duration ≡ d) → OnRun plan times (wrote name p s level raw)
on-wrote {times = times} name p s level raw r more time lasts =
    let n = on-next r more in
    let len : length (p.written ++ piece_of name s level raw ∷ []) ≡ length p.written + 1 = length-append p.written (piece_of name s level raw ∷ []) in
    let ends : p.expected + n.duration ≡ raw.time + raw.duration = omega (arith, time, lasts n.duration n.there) in
    record {
      left = n.rest;
      count = omega (arith, r.count, n.is, len);
      run = subst (λ e. ListsRun n.rest e times) ends n.run;
      known = λ k h. has-more k p.known (starts raw.ahead) (r.known k h);
    }

-- how a stream stands on its run, or that no manifest was read
record StandsOn (plan : Plan) (q : State) : Type 0 where
  times : List (ℕ × ℕ)
  p : Standing
  stands : q.stand ≡ standing p
  on : OnRun plan times p

abbrev RunEnd : Plan → State → Type 0
RunEnd plan q = (q.stand ≡ unread) ⊎ StandsOn plan q

module _ {P : Type 0} (m : Meaning P) {plan : Plan} {channel : List Track} {name : List ℕ} (c : Setting plan channel name) where
  same-standing : (p q : Standing) → standing p ≡ standing q → p ≡ q
  same-standing p q e = cc

  abbrev Listed : List Entry → List (ℕ × ℕ) → Type 0
  Listed log times = (k d : ℕ) → entry_at k times ≡ Some d → entry_at k (listed_in log name) ≡ Some d

  wrote-on : (log : List Entry) (times : List (ℕ × ℕ)) (t : Turn P) (p : Standing) (missed : List Miss) (x : Exchange) (raw : RawFragment) (level : ℕ)
      → MadePiece m plan name t (at (standing p) missed) x (got.Fragment raw) level → IsMoment channel log → FromOrigin log x.request x.answer → Knows channel name log p → Listed log times → OnRun plan times p
      → OnRun plan times (wrote_by name p p.listing level raw)
  wrote-on log times t p missed x raw level k is from knows lists r =
      let same : k.at ≡ p = same-standing k.at p (sym k.stands) in
      let reads : IsTheOrigins log (address_at name k.listing k.at.expected level) raw = piece-reads m c log (at (standing p) missed) t x raw level k is from knows in
      let more : length p.written < plan.count = subst (λ (q : Standing). length q.written < plan.count) same k.more in
      let start : k.at.expected ≡ p.expected = ap (λ (q : Standing). q.expected) same in
      let time : raw.time ≡ p.expected = (spelled k) ∙ start in
      let lasts : (d : ℕ) → entry_at p.expected times ≡ Some d → raw.duration ≡ d =
      λ d e. ap (λ (q : RawFragment). q.duration) reads.is
      ∙ listed-duration log channel (address_at name k.listing k.at.expected level) reads.fragment d is.sound is.channel_is
      (kept_there (address_at name k.listing k.at.expected level) 0 log (reads.place, reads.fragment) reads.placed) (kept_address log (address_at name k.listing k.at.expected level) reads.place reads.fragment reads.placed)
      (ap (λ n. entry_at n (listed_in log name)) start ∙ lists p.expected d e) in
      subst (λ o. OnRun plan times (wrote_by name p o level raw)) (sym knows.last) (on-wrote name p knows.listing level raw r more time lasts)
    where
      spelled : (k : MadePiece m plan name t (at (standing p) missed) x (got.Fragment raw) level) → raw.time ≡ k.at.expected
      spelled k = (spelled-fragment k.at.expected x.answer raw k.spells).1

  standing-run : (xs : List Item) (log last : List Entry) (times : List (ℕ × ℕ)) (t : Turn P) (p : Standing) (missed : List Miss) → Asks m plan name t (at (standing p) missed) xs
      → AnsweredBy channel log (exchanges xs) last
      → Knows channel name log p → Listed log times → OnRun plan times p → RunEnd plan (state_after plan name (at (standing p) missed) xs)
  standing-run [] log last times t p missed a b k l r = inr (record { times = times; p = p; stands = refl; on = r })
  standing-run (list x g ∷ xs) log last times t p missed a b k l r = absurd (on-not p p.expected r a.0.may.more refl a.0.may.unknown)
  standing-run (piece x (got.Manifest listing) level ∷ xs) log last times t p missed a b k l r = absurd (spelled-no_manifest listing _ x.answer a.0.spells)
  standing-run (piece x (got.Fragment raw) level ∷ xs) log last times t p missed a (more, is, from, rest) k l r =
      let k' : Knows channel name (log ++ more) p = stands-on channel name log more (standing p) k in
      let l' : Listed (log ++ more) times = λ n d e. listed_in_stays log more name n d (l n d e) in
      standing-run xs (log ++ more) last times _ (wrote_by name p p.listing level raw) [] a.2 rest
      (piece-step m c (log ++ more) (at (standing p) missed) t x (got.Fragment raw) level a.0 is from k') l' (wrote-on (log ++ more) times t p missed x raw level a.0 is from k' l' r)
  standing-run (piece x (got.Status status) level ∷ xs) log last times t p missed a (more, is, from, rest) k l r =
      standing-run xs (log ++ more) last times _ p _ a.2 rest (stands-on channel name log more (standing p) k) (λ n d e. listed_in_stays log more name n d (l n d e)) r
  standing-run (piece x got.Cut level ∷ xs) log last times t p missed a (more, is, from, rest) k l r =
      standing-run xs (log ++ more) last times _ p _ a.2 rest (stands-on channel name log more (standing p) k) (λ n d e. listed_in_stays log more name n d (l n d e)) r
  standing-run (piece x (got.Unreadable at) level ∷ xs) log last times t p missed a (more, is, from, rest) k l r =
      standing-run xs (log ++ more) last times _ p _ a.2 rest (stands-on channel name log more (standing p) k) (λ n d e. listed_in_stays log more name n d (l n d e)) r
  standing-run (piece x got.Lost level ∷ xs) log last times t p missed a (more, is, from, rest) k l r =
      standing-run xs (log ++ more) last times _ p _ a.2 rest (stands-on channel name log more (standing p) k) (λ n d e. listed_in_stays log more name n d (l n d e)) r
  standing-run (piece x got.NoMemory level ∷ xs) log last times t p missed a b k l r = absurd a.1

  -- the first manifest was read
  begun-run : (xs : List Item) (log last : List Entry) (t : Turn P) (o : Option StreamListing) (f : StreamListing) → o ≡ Some f → IsListedStream channel name f → f.times ≡ listed_in log name
      → Knows channel name log (record { listing = Some f; expected = first_start plan.from f.times; known = starts f.times; written = []; manifests = 1 })
      → ListsRun plan.count (first_start plan.from (times_of o)) (times_of o) → Asks m plan name t (at (begun plan o) []) xs → AnsweredBy channel log (exchanges xs) last
      → RunEnd plan (state_after plan name (at (begun plan o) []) xs)
  begun-run xs log last t o f is own times k run a b =
      subst (λ o. ListsRun plan.count (first_start plan.from (times_of o)) (times_of o) → Asks m plan name t (at (begun plan o) []) xs → RunEnd plan (state_after plan name (at (begun plan o) []) xs)) (sym is)
      (λ run a. standing-run xs log last f.times t (record { listing = Some f; expected = first_start plan.from f.times; known = starts f.times; written = []; manifests = 1 }) [] a b k
      (λ n d e. subst (λ ts. entry_at n ts ≡ Some d) times e) (record { left = plan.count; count = omega arith; run = run; known = λ n h. h })) run a

  unread-run : (xs : List Item) (log last : List Entry) (t : Turn P) (missed : List Miss) → Asks m plan name t (at unread missed) xs → AnsweredBy channel log (exchanges xs) last
      → ListsRun plan.count (first_start plan.from (first_times name xs)) (first_times name xs) → RunEnd plan (state_after plan name (at unread missed) xs)
  unread-run [] log last t missed a b run = inl refl
  unread-run (list x (got.Manifest l) ∷ xs) log last t missed a (more, is, from, rest) run =
      let same = list-read m c (log ++ more) (at unread missed) x l a.0 is from in
      let f = listed-found channel (listed_in (log ++ more)) name c.stream.track in
      let found : listed name l.streams ≡ Some f.0 = ap (λ y. listed name y.streams) same ∙ f.1 in
      let knows : StandsBy channel name (log ++ more) (begun plan (listed name l.streams)) = list-step m c (log ++ more) (at unread missed) x (got.Manifest l) a.0 tt is from tt in
      begun-run xs (log ++ more) last t (listed name l.streams) f.0 found f.2 f.3 (subst (λ o. StandsBy channel name (log ++ more) (begun plan o)) found knows) run a.2 rest
  unread-run (list x (got.Fragment raw) ∷ xs) log last t missed a (more, is, from, rest) run = absurd (spelled-no_fragment raw x.answer a.0.spells)
  unread-run (list x (got.Status status) ∷ xs) log last t missed a (more, is, from, rest) run = unread-run xs (log ++ more) last t _ a.2 rest run
  unread-run (list x got.Cut ∷ xs) log last t missed a (more, is, from, rest) run = unread-run xs (log ++ more) last t _ a.2 rest run
  unread-run (list x (got.Unreadable at) ∷ xs) log last t missed a (more, is, from, rest) run = unread-run xs (log ++ more) last t _ a.2 rest run
  unread-run (list x got.Lost ∷ xs) log last t missed a (more, is, from, rest) run = unread-run xs (log ++ more) last t _ a.2 rest run
  unread-run (list x got.NoMemory ∷ xs) log last t missed a b run = absurd a.1
  unread-run (piece x g level ∷ xs) log last t missed a b run = absurd (let e : unread ≡ standing a.0.at = a.0.stands in cc)

  -- a stream that has more to play, and stands where the run goes on, knows its start
  run-more : (q : State) (p : Standing) (start : ℕ) → RunEnd plan q → q.stand ≡ standing p → length p.written < plan.count → start ≡ p.expected → has start p.known ≡ false → ⊥
  run-more q p start (inl none) is more same unknown = let e : unread ≡ standing p = sym none ∙ is in absurd (cc)
  run-more q p start (inr s) is more same unknown =
      let one : s.p ≡ p = same-standing s.p p (sym s.stands ∙ is) in
      on-not p start (subst (OnRun plan s.times) one s.on) more same unknown

  done-at : (end : End) (number : ℕ) (q : State) → RunEnd plan q → EndsAt plan number end q → EndsWell end → EndsDone end
  done-at ends.Done number q r e w = tt
  done-at (ends.NoMore expected) number q r e w = run-more q e.at expected r e.stands e.more e.start e.unknown
  done-at (ends.Hole expected next) number q r e w = run-more q e.at expected r e.stands e.more e.start e.unknown
  done-at (ends.GaveUp time outcomes) number q r e w = w
  done-at (ends.NoManifest outcomes) number q r e w = w
  done-at (ends.NoStream index) number q r e w = w
  done-at ends.WriteFault number q r e w = tt
  done-at ends.NoMemory number q r e w = tt

-- ---- streams

plays-whole : {P : Type 0} (m : Meaning P) (plan : Plan) (channel : List Track) (names : List (List ℕ)) (parts : List Part) (log last : List Entry) (t : Turn P) (number : ℕ) (held held' : ℕ → Option (List ℕ)) (end : End)
    → IsPlace plan.place → All IsNarrowTrack channel → AllByRecursion (IsStream channel) names → PlaysAll m plan t number names held held' parts end
    → AnsweredBy channel log (all_exchanges parts) last → AllByRecursion (λ (x : Exchange). IsUnrefused x.answer) (all_exchanges parts) → OneIsWhole plan.tries (all_exchanges parts) → ListsRuns plan names parts → EndsDone end
plays-whole m plan channel names [] log last t number held held' end place tracks streams p answered free one runs = subst EndsDone (sym p.1) tt
plays-whole m plan channel [] (part ∷ rest) log last t number held held' end place tracks streams p answered free one runs = absurd p
plays-whole {P = P} m plan channel (name ∷ names) (part ∷ rest) log last t number held held' end place tracks streams p answered free one runs =
    let later = answered-split channel log last (exchanges (part.made ++ part.last)) (all_exchanges rest) answered in
    by p.1
    (λ d. plays-whole m plan channel names rest later.0 last (turn_after m t part.made) (number + 1) held held' end place tracks streams.1 d later.2
    (all-behind _ (exchanges (part.made ++ part.last)) (all_exchanges rest) free) (one-behind plan.tries (exchanges (part.made ++ part.last)) (all_exchanges rest) one) runs.1)
  where
    back : List Exchange
    back = exchanges part.last ++ all_exchanges rest

    split : exchanges (part.made ++ part.last) ++ all_exchanges rest ≡ exchanges part.made ++ back
    split = ap (λ l. l ++ all_exchanges rest) (exchanges-append part.made part.last) ∙ append_assoc (exchanges part.made) (exchanges part.last) (all_exchanges rest)

    setting : Setting plan channel name
    setting = record { place = place; tracks = tracks; stream = streams.0 }

    here : (mid : List Entry) × AnsweredBy channel log (exchanges part.made) mid × AnsweredBy channel mid back last
    here = answered-split channel log last (exchanges part.made) back (subst (λ l. AnsweredBy channel log l last) split answered)

    first : EndsDone part.end
    first = done-at m setting part.end number (state_after plan name nothing_read part.made)
        (unread-run m setting part.made log here.0 t [] p.0.asks here.1 runs.0) p.0.ends
        (part-well part log here.0 back setting p.0 here.1 (subst (AllByRecursion (λ (x : Exchange). IsUnrefused x.answer)) split free) (subst (OneIsWhole plan.tries) split one))

    by : ((part.end ≡ ends.Done) × PlaysAll m plan (turn_after m t part.made) (number + 1) names held held' rest end) ⊎ ((part.end ≢ ends.Done) × (rest ≡ []) × (end ≡ part.end))
        → (PlaysAll m plan (turn_after m t part.made) (number + 1) names held held' rest end → EndsDone end) → EndsDone end
    by (inr e) behind = subst EndsDone (sym e.2) first
    by (inl d) behind = behind d.1

pub from-whole : {P : Type 0} {m : Meaning P} {plan : Plan} {start : Turn P} {log log' : Option (List Exchange)} {held held' : ℕ → Option (List ℕ)} {report : Report}
    → (p : PlaysFrom m plan start 0 plan.streams log log' held held' report)
    → (channel : List Track) (first last : List Entry) (before xs : List Exchange) → log ≡ Some before → log' ≡ Some (before ++ xs) → Serves plan channel first last xs → IsPatient plan xs
    → ListsRuns plan plan.streams p.parts → EndsDone report.end
from-whole {m = m} {plan = plan} {start = start} {log = log} {log' = log'} {held = held} {held' = held'} {report = report} p channel first last before xs was is served patient runs =
    let same : all_exchanges p.parts ≡ xs = told-same log log' before xs (all_exchanges p.parts) was is p.made in
    plays-whole m plan channel plan.streams p.parts first last start 0 held held' report.end served.place served.tracks served.streams p.plays
    (subst (λ l. AnsweredBy channel first l last) (sym same) served.answered) (subst (AllByRecursion (λ (x : Exchange). IsUnrefused x.answer)) (sym same) patient.unrefused)
    (subst (OneIsWhole plan.tries) (sym same) patient.whole) runs
