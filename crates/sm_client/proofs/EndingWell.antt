-- A play over an origin that keeps a log ends well: step by step.
use Rattle.std.proofs.Common.{◌≡◌, ◌≢◌, ◌+◌, ◌⊎◌, ℕ, zero, suc, true, List, [], ◌∷◌, ◌++◌, length, Option, Some, None, refl, ap, sym, ◌∙◌, subst, arith, inl, inr, append_assoc, append-nil, length-append}
use Rattle.std.specs.Prelude.{is_some, Contains, All}
use Rattle.std.specs.List.{AllByRecursion}
use Rattle.sm_model.specs.declared.entry.Entry.{Entry}
use Rattle.sm_model.specs.declared.run.RawFragment.{RawFragment}
use Rattle.sm_model.specs.declared.track.Track.{Track}
use Rattle.sm_model.specs.Channels.{IsNarrowTrack}
use Rattle.sm_log.specs.Logs.{ahead_in, listed_in}
use Rattle.sm_log.specs.Times.{entry_at}
use Rattle.sm_manin.specs.declared.listing.Listing.{Listing}
use Rattle.sm_manin.specs.declared.listing.StreamListing.{StreamListing}
use Rattle.sm_fetch.specs.declared.dial.Exchange.{Exchange}
use Rattle.sm_fetch.specs.declared.got.Got.{Got}
use Rattle.sm_fetch.specs.declared.got.Got.TheVariants as got
use Rattle.sm_fetch.specs.Exchanges.{with_all}
use Rattle.sm_fetch.specs.Origins.{FromOrigin}
use Rattle.sm_client.specs.declared.plan.Plan.{Plan}
use Rattle.sm_client.specs.declared.report.Miss.{Miss}
use Rattle.sm_client.specs.declared.report.Miss.TheVariants as miss
use Rattle.sm_client.specs.declared.report.End.{End}
use Rattle.sm_client.specs.declared.report.End.TheVariants as ends
use Rattle.sm_client.specs.declared.report.Report.{Report}
use Rattle.sm_client.specs.Turns.{Meaning, Turn}
use Rattle.sm_client.specs.Starts.{has, starts}
use Rattle.sm_client.specs.Stands.{Item, list, piece, Stand, unread, absent, standing, Standing, State, nothing_read, listed, address_at, miss_of, read_at, wrote_by, wrote_at, after_list, after_piece, state_by, state_after}
use Rattle.sm_client.specs.Asks.{Made, MadeList, MadePiece, Asks, IsRead, got_of, exchange_of, exchanges, turn_by, turn_after}
use Rattle.sm_client.specs.Ends.{EndsAt}
use Rattle.sm_client.specs.Plays.{Part, IsPart, PlaysAll, PlaysFrom, all_exchanges}
use Rattle.sm_client.specs.Served.{AnsweredBy, IsMoment, IsPlace, IsWhole, IsUnrefused, OneIsWhole, IsStream, IsPatient, Serves, EndsWell}
use Rattle.sm_client.proofs.Went.{exchanges-append, spelled-no_fragment}
use Rattle.sm_client.proofs.Pieces.{spelled-no_manifest}
use Rattle.sm_client.specs.Origins.{IsListedStream, IsListedAt, IsTheOrigins, again}
use Rattle.sm_client.proofs.Serving.{level-at, listed-found, has-entry, has-either, entry-stays, entry-ahead, manifest-read, manifest-given, fragment-read, fragment-given}

-- ---- where a stream stands

-- what a standing knows is the log's: the stream's qualities and Url, and starts that are listed
pub record Knows (channel : List Track) (name : List ℕ) (log : List Entry) (p : Standing) : Type 0 where
  pub listing : StreamListing
  pub last : p.listing ≡ Some listing
  pub ours : IsListedStream channel name listing
  pub known : (k : ℕ) → has k p.known ≡ true → is_some (entry_at k (listed_in log name)) ≡ true

abbrev pub StandsBy : List Track → List ℕ → List Entry → Stand → Type 0
StandsBy channel name log unread = Unit {0}
StandsBy channel name log absent = ⊥
StandsBy channel name log (standing p) = Knows channel name log p

pub stands-on : (channel : List Track) (name : List ℕ) (log more : List Entry) (s : Stand) → StandsBy channel name log s → StandsBy channel name (log ++ more) s
stands-on channel name log more unread k = tt
stands-on channel name log more absent k = absurd k
stands-on channel name log more (standing p) k = record { listing = k.listing; last = k.last; ours = k.ours; known = λ n h. entry-stays log more name n (k.known n h) }

-- what holds of the plan and its origin, whatever is asked
pub record Setting (plan : Plan) (channel : List Track) (name : List ℕ) : Type 0 where
  pub place : IsPlace plan.place
  pub tracks : All IsNarrowTrack channel
  pub stream : IsStream channel name

-- ---- one exchange

module _ {P : Type 0} (m : Meaning P) {plan : Plan} {channel : List Track} {name : List ℕ} (c : Setting plan channel name) where
  found-knows : (log : List Entry) (s : Stand) (l : Listing) → l ≡ again channel log → StandsBy channel name log s → StandsBy channel name log (read_at plan s (listed name l.streams))
  found-knows log s l is k = subst (λ o. StandsBy channel name log (read_at plan s o)) (sym found) (by s k)
    where
      f : (t : StreamListing) × (listed name (again channel log).streams ≡ Some t) × IsListedStream channel name t × (t.times ≡ listed_in log name)
      f = listed-found channel (listed_in log) name c.stream.track

      found : listed name l.streams ≡ Some f.0
      found = ap (λ (x : Listing). listed name x.streams) is ∙ f.1

      knows : (k : ℕ) → has k (starts f.0.times) ≡ true → is_some (entry_at k (listed_in log name)) ≡ true
      knows k h = subst (λ ts. is_some (entry_at k ts) ≡ true) f.3 (has-entry k f.0.times h)

      by : (s : Stand) → StandsBy channel name log s → StandsBy channel name log (read_at plan s (Some f.0))
      by unread k = record { listing = f.0; last = refl; ours = f.2; known = knows }
      by absent k = absurd k
      by (standing p) k = record { listing = f.0; last = refl; ours = f.2; known = knows }

  pub list-read : (log : List Entry) (s : State) (x : Exchange) (l : Listing) → MadeList plan s x (got.Manifest l) → IsMoment channel log → FromOrigin log x.request x.answer → l ≡ again channel log
  list-read log s x l k is from =
      manifest-read plan.place channel log l x.answer c.place c.tracks is (subst (λ r. FromOrigin log r x.answer) k.request from) k.spells

  pub list-step : (log : List Entry) (s : State) (x : Exchange) (g : Got) → MadeList plan s x g → IsRead g → IsMoment channel log → FromOrigin log x.request x.answer → StandsBy channel name log s.stand
      → StandsBy channel name log (after_list plan name s g).stand
  list-step log s x (got.Manifest l) k read is from h = found-knows log s.stand l (list-read log s x l k is from) h
  list-step log s x (got.Fragment raw) k read is from h = h
  list-step log s x (got.Status status) k read is from h = h
  list-step log s x got.Cut k read is from h = h
  list-step log s x (got.Unreadable at) k read is from h = h
  list-step log s x got.Lost k read is from h = h
  list-step log s x got.NoMemory k read is from h = h

  list-given : (log : List Entry) (s : State) (x : Exchange) (g : Got) → MadeList plan s x g → IsMoment channel log → FromOrigin log x.request x.answer → IsUnrefused x.answer → IsWhole x.answer
      → miss_of g ≡ None
  list-given log s x g k is from free whole =
      manifest-given plan.place channel log g x.answer c.place c.tracks is (subst (λ r. FromOrigin log r x.answer) k.request from) free k.spells whole

  same-standing : (p q : Standing) → standing p ≡ standing q → p ≡ q
  same-standing p q e = cc

  same-some : {X : Type 0} (x y : X) → Some x ≡ Some y → x ≡ y
  same-some x y e = cc

  knows-at : (log : List Entry) (s : State) (t : Turn P) (x : Exchange) (g : Got) (level : ℕ) → (k : MadePiece m plan name t s x g level) → StandsBy channel name log s.stand → Knows channel name log k.at
  knows-at log s t x g level k h = subst (StandsBy channel name log) k.stands h

  listed-at : (log : List Entry) (s : State) (t : Turn P) (x : Exchange) (g : Got) (level : ℕ) → (k : MadePiece m plan name t s x g level) → StandsBy channel name log s.stand
      → IsListedAt plan.place channel log k.listing.pattern (address_at name k.listing k.at.expected level)
  listed-at log s t x g level k h =
      let n = knows-at log s t x g level k h in
      let same : n.listing ≡ k.listing = same-some n.listing k.listing (sym n.last ∙ k.last) in
      let own : IsListedStream channel name k.listing = subst (IsListedStream channel name) same n.ours in
      record {
        place_is = c.place;
        tracks = c.tracks;
        stream = c.stream;
        pattern_is = own.pattern;
        declared = level-at channel name k.listing.levels level own.levels k.within;
        listed = n.known k.at.expected k.known;
      }

  piece-given : (log : List Entry) (s : State) (t : Turn P) (x : Exchange) (g : Got) (level : ℕ) → MadePiece m plan name t s x g level → IsMoment channel log → FromOrigin log x.request x.answer
      → IsUnrefused x.answer → StandsBy channel name log s.stand → IsWhole x.answer → miss_of g ≡ None
  piece-given log s t x g level k is from free h whole =
      fragment-given plan.place channel log k.listing.pattern (address_at name k.listing k.at.expected level) g x.answer is (listed-at log s t x g level k h)
      (subst (λ r. FromOrigin log r x.answer) k.request from) free k.spells whole

  pub piece-reads : (log : List Entry) (s : State) (t : Turn P) (x : Exchange) (raw : RawFragment) (level : ℕ) → (k : MadePiece m plan name t s x (got.Fragment raw) level) → IsMoment channel log
      → FromOrigin log x.request x.answer → StandsBy channel name log s.stand → IsTheOrigins log (address_at name k.listing k.at.expected level) raw
  piece-reads log s t x raw level k is from h =
      fragment-read plan.place channel log k.listing.pattern (address_at name k.listing k.at.expected level) raw x.answer is (listed-at log s t x (got.Fragment raw) level k h)
      (subst (λ r. FromOrigin log r x.answer) k.request from) k.spells

  wrote-knows : (log : List Entry) (p : Standing) (raw : RawFragment) (level start : ℕ) (o : Option StreamListing) → o ≡ p.listing → raw.ahead ≡ ahead_in log name start → Knows channel name log p
      → Knows channel name log (wrote_by name p o level raw)
  wrote-knows log p raw level start None is ahead k = k
  wrote-knows log p raw level start (Some listing) is ahead k = record { listing = k.listing; last = k.last; ours = k.ours; known = λ n h. by n (has-either n p.known (starts raw.ahead) h) }
    where
      by : (n : ℕ) → (has n p.known ≡ true) ⊎ (has n (starts raw.ahead) ≡ true) → is_some (entry_at n (listed_in log name)) ≡ true
      by n (inl h) = k.known n h
      by n (inr h) = entry-ahead log name start n (subst (λ ts. has n (starts ts) ≡ true) ahead h)

  pub piece-step : (log : List Entry) (s : State) (t : Turn P) (x : Exchange) (g : Got) (level : ℕ) → MadePiece m plan name t s x g level → IsMoment channel log → FromOrigin log x.request x.answer
      → StandsBy channel name log s.stand → StandsBy channel name log (after_piece name s g level).stand
  piece-step log s t x (got.Manifest l) level k is from h = h
  piece-step log s t x (got.Fragment raw) level k is from h =
      let r = piece-reads log s t x raw level k is from h in
      subst (λ st. StandsBy channel name log (wrote_at name st level raw)) (sym k.stands)
      (wrote-knows log k.at raw level k.at.expected k.at.listing refl (ap (λ (q : RawFragment). q.ahead) r.is) (knows-at log s t x (got.Fragment raw) level k h))
  piece-step log s t x (got.Status status) level k is from h = h
  piece-step log s t x got.Cut level k is from h = h
  piece-step log s t x (got.Unreadable at) level k is from h = h
  piece-step log s t x got.Lost level k is from h = h
  piece-step log s t x got.NoMemory level k is from h = h

  -- ---- exchanges in a row

  pub step : (log : List Entry) (s : State) (t : Turn P) (i : Item) → Made m plan name t s i → IsRead (got_of i) → IsMoment channel log → FromOrigin log (exchange_of i).request (exchange_of i).answer
      → StandsBy channel name log s.stand → StandsBy channel name log (state_by plan name s i).stand
  step log s t (list x g) k read is from h = list-step log s x g k read is from h
  step log s t (piece x g level) k read is from h = piece-step log s t x g level k is from h

  given-by : (log : List Entry) (s : State) (t : Turn P) (i : Item) → Made m plan name t s i → IsMoment channel log → FromOrigin log (exchange_of i).request (exchange_of i).answer
      → IsUnrefused (exchange_of i).answer → StandsBy channel name log s.stand → IsWhole (exchange_of i).answer → miss_of (got_of i) ≡ None
  given-by log s t (list x g) k is from free h whole = list-given log s x g k is from free whole
  given-by log s t (piece x g level) k is from free h whole = piece-given log s t x g level k is from free h whole

  abbrev GivesWhole : Item → Type 0
  GivesWhole i = IsWhole (exchange_of i).answer → miss_of (got_of i) ≡ None

  pub served : (xs : List Item) (log last : List Entry) (s : State) (t : Turn P) → Asks m plan name t s xs → AnsweredBy channel log (exchanges xs) last
      → AllByRecursion (λ (x : Exchange). IsUnrefused x.answer) (exchanges xs) → StandsBy channel name log s.stand
      → ((later : List Entry) × StandsBy channel name later (state_after plan name s xs).stand) × AllByRecursion GivesWhole xs
  served [] log last s t a b free h = ((log, h), tt)
  served (i ∷ xs) log last s t a (more, is, from, rest) free h =
      let on = stands-on channel name log more s.stand h in
      let r = served xs (log ++ more) last (state_by plan name s i) (turn_by m t i) a.2 rest free.1 (step (log ++ more) s t i a.0 a.1 is from on) in
      (r.0, (given-by (log ++ more) s t i a.0 is from free.0 on, r.1))

-- ---- misses in a row

abbrev Missed : Item → Type 0
Missed i = (n : Miss) × (miss_of (got_of i) ≡ Some n)

-- the last ones missed, as many as are told
record LastMissed (xs : List Item) (count : ℕ) : Type 0 where
  before : List Item
  row : List Item
  is : xs ≡ before ++ row
  len : length row ≡ count
  missed : AllByRecursion Missed row

abbrev Stepped : Item → List Miss → List Miss → Type 0
Stepped i then now = ((n : Miss) × (miss_of (got_of i) ≡ Some n) × (now ≡ then ++ n ∷ [])) ⊎ (now ≡ [])

module _ {P : Type 0} (m : Meaning P) (plan : Plan) (name : List ℕ) where
  stepped : (t : Turn P) (s : State) (i : Item) → Made m plan name t s i → IsRead (got_of i) → Stepped i s.missed (state_by plan name s i).missed
  stepped t s (list x (got.Manifest l)) k read = inr refl
  stepped t s (list x (got.Fragment raw)) k read = absurd (spelled-no_fragment raw x.answer k.spells)
  stepped t s (list x (got.Status status)) k read = inl (miss.Status status, refl, refl)
  stepped t s (list x got.Cut) k read = inl (miss.Cut, refl, refl)
  stepped t s (list x (got.Unreadable at)) k read = inl (miss.Unreadable at, refl, refl)
  stepped t s (list x got.Lost) k read = inl (miss.Lost, refl, refl)
  stepped t s (list x got.NoMemory) k read = absurd read
  stepped t s (piece x (got.Manifest l) level) k read = absurd (spelled-no_manifest l _ x.answer k.spells)
  stepped t s (piece x (got.Fragment raw) level) k read = inr refl
  stepped t s (piece x (got.Status status) level) k read = inl (miss.Status status, refl, refl)
  stepped t s (piece x got.Cut level) k read = inl (miss.Cut, refl, refl)
  stepped t s (piece x (got.Unreadable at) level) k read = inl (miss.Unreadable at, refl, refl)
  stepped t s (piece x got.Lost level) k read = inl (miss.Lost, refl, refl)
  stepped t s (piece x got.NoMemory level) k read = absurd read

  abbrev Ran : List Item → List Miss → List Miss → Type 0
  Ran xs then now = ((length now ≡ length then + length xs) × AllByRecursion Missed xs) ⊎ LastMissed xs (length now)

  ran : (xs : List Item) (t : Turn P) (s : State) → Asks m plan name t s xs → Ran xs s.missed (state_after plan name s xs).missed
  ran [] t s a = inl (omega arith, tt)
  ran (i ∷ xs) t s a = by (stepped t s i a.0 a.1) (ran xs (turn_by m t i) (state_by plan name s i) a.2)
    where
      now : List Miss
      now = (state_after plan name (state_by plan name s i) xs).missed

      longer : LastMissed xs (length now) → Ran (i ∷ xs) s.missed now
      longer r = inr (record { before = i ∷ r.before; row = r.row; is = ap (λ l. i ∷ l) r.is; len = r.len; missed = r.missed })

      by : Stepped i s.missed (state_by plan name s i).missed → Ran xs (state_by plan name s i).missed now → Ran (i ∷ xs) s.missed now
      by k (inr r) = longer r
      by (inl (n, missed, is)) (inl (len, all)) = inl (omega (arith, len, ap length is, length-append s.missed (n ∷ [])), ((n, missed), all))
      by (inr is) (inl (len, all)) = inr (record { before = i ∷ []; row = xs; is = refl; len = omega (arith, len, ap length is); missed = all })

  last-missed : (xs : List Item) (t : Turn P) → Asks m plan name t nothing_read xs → LastMissed xs (length (state_after plan name nothing_read xs).missed)
  last-missed xs t a = by (ran xs t nothing_read a)
    where
      by : Ran xs [] (state_after plan name nothing_read xs).missed → LastMissed xs (length (state_after plan name nothing_read xs).missed)
      by (inl (len, all)) = record { before = []; row = xs; is = refl; len = omega (arith, len); missed = all }
      by (inr r) = r

-- ---- one of them is whole

pub all-behind : {X : Type 0} (P : X → Type 0) (xs ys : List X) → AllByRecursion P (xs ++ ys) → AllByRecursion P ys
all-behind P [] ys a = a
all-behind P (x ∷ xs) ys a = all-behind P xs ys a.1

pub all-front : {X : Type 0} (P : X → Type 0) (xs ys : List X) → AllByRecursion P (xs ++ ys) → AllByRecursion P xs
all-front P [] ys a = tt
all-front P (x ∷ xs) ys a = (a.0, all-front P xs ys a.1)

none-whole : (row : List Item) (x : Exchange) → AllByRecursion Missed row → AllByRecursion (λ i. IsWhole (exchange_of i).answer → miss_of (got_of i) ≡ None) row → Contains (exchanges row) x → IsWhole x.answer → ⊥
none-whole [] x a b h w = omega (arith, h.1)
none-whole (i ∷ row) x a b (zero, fits, is) w =
    let none : miss_of (got_of i) ≡ None = b.0 (subst (λ (y : Exchange). IsWhole y.answer) (sym is) w) in
    let some : miss_of (got_of i) ≡ Some a.0.0 = a.0.1 in cc
none-whole (i ∷ row) x a b (suc k, fits, is) w = none-whole row x a.1 b.1 (k, omega (arith, fits), is) w

length-exchanges : (xs : List Item) → length (exchanges xs) ≡ length xs
length-exchanges [] = refl
length-exchanges (x ∷ xs) = omega (arith, length-exchanges xs)

no-row : (tries : ℕ) (xs : List Item) (back : List Exchange) → OneIsWhole tries (exchanges xs ++ back) → LastMissed xs tries → AllByRecursion (λ i. IsWhole (exchange_of i).answer → miss_of (got_of i) ≡ None) xs → ⊥
no-row tries xs back one r gives =
    let split : exchanges xs ++ back ≡ exchanges r.before ++ (exchanges r.row ++ back) =
    ap (λ l. exchanges l ++ back) r.is ∙ (ap (λ l. l ++ back) (exchanges-append r.before r.row) ∙ append_assoc (exchanges r.before) (exchanges r.row) back) in
    let w = one (exchanges r.before) (exchanges r.row) back split (length-exchanges r.row ∙ r.len) in
    none-whole r.row w.0 r.missed (all-behind _ r.before r.row (subst (AllByRecursion (λ i. IsWhole (exchange_of i).answer → miss_of (got_of i) ≡ None)) r.is gives)) w.1 w.2

pub one-behind : (tries : ℕ) (xs ys : List Exchange) → OneIsWhole tries (xs ++ ys) → OneIsWhole tries ys
one-behind tries xs ys one front row back is len = one (xs ++ front) row back (ap (λ l. xs ++ l) is ∙ sym (append_assoc xs front (row ++ back))) len

pub answered-split : (channel : List Track) (log last : List Entry) (xs ys : List Exchange) → AnsweredBy channel log (xs ++ ys) last
    → (mid : List Entry) × AnsweredBy channel log xs mid × AnsweredBy channel mid ys last
answered-split channel log last [] ys a = (log, ([], sym (append-nil log)), a)
answered-split channel log last (x ∷ xs) ys (more, is, from, rest) = let r = answered-split channel (log ++ more) last xs ys rest in (r.0, (more, is, from, r.1), r.2)

pub answered-grows : (channel : List Track) (log last : List Entry) (xs : List Exchange) → AnsweredBy channel log xs last → (more : List Entry) × (last ≡ log ++ more)
answered-grows channel log last [] a = a
answered-grows channel log last (x ∷ xs) (more, is, from, rest) = let r = answered-grows channel (log ++ more) last xs rest in (more ++ r.0, r.1 ∙ append_assoc log more r.0)

-- ---- streams

-- the answers to one part of a call, and those behind it
pub part-well : {P : Type 0} {m : Meaning P} {plan : Plan} {channel : List Track} {name : List ℕ} {number : ℕ} {start : Turn P} {track track' : Option (List ℕ)} (part : Part) (log mid : List Entry) (back : List Exchange)
    → Setting plan channel name → IsPart m plan name number start track track' part → AnsweredBy channel log (exchanges part.made) mid
    → AllByRecursion (λ (x : Exchange). IsUnrefused x.answer) (exchanges part.made ++ back) → OneIsWhole plan.tries (exchanges part.made ++ back) → EndsWell part.end
part-well {m = m} {plan = plan} {channel = channel} {name = name} {number = number} {start = start} part log mid back c p answered free one = by part.end p.ends
  where
    s : ((later : List Entry) × StandsBy channel name later (state_after plan name nothing_read part.made).stand) × AllByRecursion (λ i. IsWhole (exchange_of i).answer → miss_of (got_of i) ≡ None) part.made
    s = served m c part.made log mid nothing_read start p.asks answered (all-front _ (exchanges part.made) back free) tt

    missed : (outcomes : List Miss) → outcomes ≡ (state_after plan name nothing_read part.made).missed → length outcomes ≡ plan.tries → ⊥
    missed outcomes is all =
        no-row plan.tries part.made back one (subst (LastMissed part.made) (sym (ap length is) ∙ all) (last-missed m plan name part.made start p.asks)) s.1

    by : (end : End) → EndsAt plan number end (state_after plan name nothing_read part.made) → EndsWell end
    by ends.Done e = tt
    by (ends.NoMore expected) e = tt
    by (ends.Hole expected next) e = tt
    by (ends.GaveUp time outcomes) e = missed outcomes e.missed e.all
    by (ends.NoManifest outcomes) e = missed outcomes e.missed e.all
    by (ends.NoStream index) e = subst (StandsBy channel name s.0.0) e.stands s.0.1
    by ends.WriteFault e = tt
    by ends.NoMemory e = tt

plays-well : {P : Type 0} (m : Meaning P) (plan : Plan) (channel : List Track) (names : List (List ℕ)) (parts : List Part) (log last : List Entry) (t : Turn P) (number : ℕ) (held held' : ℕ → Option (List ℕ)) (end : End)
    → IsPlace plan.place → All IsNarrowTrack channel → AllByRecursion (IsStream channel) names → PlaysAll m plan t number names held held' parts end
    → AnsweredBy channel log (all_exchanges parts) last → AllByRecursion (λ (x : Exchange). IsUnrefused x.answer) (all_exchanges parts) → OneIsWhole plan.tries (all_exchanges parts) → EndsWell end
plays-well m plan channel names [] log last t number held held' end place tracks streams p answered free one = subst EndsWell (sym p.1) tt
plays-well m plan channel [] (part ∷ rest) log last t number held held' end place tracks streams p answered free one = absurd p
plays-well {P = P} m plan channel (name ∷ names) (part ∷ rest) log last t number held held' end place tracks streams p answered free one =
    let later = answered-split channel log last (exchanges (part.made ++ part.last)) (all_exchanges rest) answered in
    by p.1
    (λ d. plays-well m plan channel names rest later.0 last (turn_after m t part.made) (number + 1) held held' end place tracks streams.1 d later.2
    (all-behind _ (exchanges (part.made ++ part.last)) (all_exchanges rest) free) (one-behind plan.tries (exchanges (part.made ++ part.last)) (all_exchanges rest) one))
  where
    back : List Exchange
    back = exchanges part.last ++ all_exchanges rest

    split : exchanges (part.made ++ part.last) ++ all_exchanges rest ≡ exchanges part.made ++ back
    split = ap (λ l. l ++ all_exchanges rest) (exchanges-append part.made part.last) ∙ append_assoc (exchanges part.made) (exchanges part.last) (all_exchanges rest)

    here : (mid : List Entry) × AnsweredBy channel log (exchanges part.made) mid × AnsweredBy channel mid back last
    here = answered-split channel log last (exchanges part.made) back (subst (λ l. AnsweredBy channel log l last) split answered)

    first : EndsWell part.end
    first = part-well part log here.0 back (record { place = place; tracks = tracks; stream = streams.0 }) p.0 here.1
        (subst (AllByRecursion (λ (x : Exchange). IsUnrefused x.answer)) split free) (subst (OneIsWhole plan.tries) split one)

    by : ((part.end ≡ ends.Done) × PlaysAll m plan (turn_after m t part.made) (number + 1) names held held' rest end) ⊎ ((part.end ≢ ends.Done) × (rest ≡ []) × (end ≡ part.end))
        → (PlaysAll m plan (turn_after m t part.made) (number + 1) names held held' rest end → EndsWell end) → EndsWell end
    by (inr e) behind = subst EndsWell (sym e.2) first
    by (inl d) behind = behind d.1

-- ---- the whole call

same-behind : {X : Type 0} (before xs ys : List X) → before ++ xs ≡ before ++ ys → xs ≡ ys
same-behind [] xs ys e = e
same-behind (b ∷ before) xs ys e = same-behind before xs ys (let t : before ++ xs ≡ before ++ ys = cc in t)

pub told-same : (log log' : Option (List Exchange)) (before xs ys : List Exchange) → log ≡ Some before → log' ≡ Some (before ++ xs) → log' ≡ with_all log ys → ys ≡ xs
told-same log log' before xs ys a b c =
    let e : Some (before ++ ys) ≡ Some (before ++ xs) = sym (ap (λ o. with_all o ys) a) ∙ (sym c ∙ b) in
    same-behind before ys xs (let t : before ++ ys ≡ before ++ xs = cc in t)

pub from-well : {P : Type 0} {m : Meaning P} {plan : Plan} {start : Turn P} {log log' : Option (List Exchange)} {held held' : ℕ → Option (List ℕ)} {report : Report}
    → PlaysFrom m plan start 0 plan.streams log log' held held' report
    → (channel : List Track) (first last : List Entry) (before xs : List Exchange) → log ≡ Some before → log' ≡ Some (before ++ xs) → Serves plan channel first last xs → IsPatient plan xs → EndsWell report.end
from-well {m = m} {plan = plan} {start = start} {log = log} {log' = log'} {held = held} {held' = held'} {report = report} p channel first last before xs was is served patient =
    let same : all_exchanges p.parts ≡ xs = told-same log log' before xs (all_exchanges p.parts) was is p.made in
    plays-well m plan channel plan.streams p.parts first last start 0 held held' report.end served.place served.tracks served.streams p.plays
    (subst (λ l. AnsweredBy channel first l last) (sym same) served.answered) (subst (AllByRecursion (λ (x : Exchange). IsUnrefused x.answer)) (sym same) patient.unrefused)
    (subst (OneIsWhole plan.tries) (sym same) patient.whole)
