-- What a standby kept was read of its primary, where it stands there.
use Rattle.std.proofs.Common.{◌≡◌, ◌⊎◌, inl, inr, ℕ, ◌+◌, List, [], ◌∷◌, ◌++◌, length, length-append, Option, Some, refl, sym, ap, subst, ◌∙◌, append-nil, append_assoc, arith}
use Rattle.std.proofs.lemmas.List.Elements.{Contains-append_left, Contains-append_right}
use Rattle.std.specs.Prelude.{Contains}
use Rattle.sm_model.specs.declared.address.Address.{Address}
use Rattle.sm_model.specs.declared.entry.Entry.{Entry}
use Rattle.sm_model.specs.declared.entry.Entry.TheVariants.{Keep}
use Rattle.sm_model.specs.declared.fragment.Fragment.{Fragment}
use Rattle.sm_model.specs.declared.run.RawFragment.{RawFragment}
use Rattle.sm_model.specs.declared.track.Track.{Track}
use Rattle.sm_model.specs.Entries.{address_of}
use Rattle.sm_site.specs.Meanings.{Seen}
use Rattle.sm_archive.specs.declared.archive.Archive.{Archive}
use Rattle.sm_archive.specs.Store.{IsStore}
use Rattle.sm_manin.specs.declared.listing.Listing.{Listing}
use Rattle.sm_fetch.specs.declared.dial.Answer.{Answer}
use Rattle.sm_fetch.specs.declared.dial.Answer.TheVariants as answers
use Rattle.sm_fetch.specs.declared.dial.Exchange.{Exchange}
use Rattle.sm_fetch.specs.declared.place.Place.{Place}
use Rattle.sm_fetch.specs.declared.placed.Placed.TheVariants as placed
use Rattle.sm_fetch.specs.Exchanges.{with_all}
use Rattle.sm_fetch.specs.Placing.{SpellsPlaced}
use Rattle.sm_fetch.specs.Spelt.{given}
use Rattle.sm_pull.specs.declared.plan.PullPlan.{PullPlan}
use Rattle.sm_pull.specs.declared.stop.Stop.{Stop}
use Rattle.sm_pull.specs.Adds.{keeps_of}
use Rattle.sm_pull.specs.Asks.{Gives}
use Rattle.sm_standby.specs.declared.held.Later.{Later}
use Rattle.sm_standby.specs.declared.report.FollowEnd.{FollowEnd}
use Rattle.sm_standby.specs.declared.report.FollowEnd.TheVariants as ends
use Rattle.sm_standby.specs.declared.report.FollowReport.{FollowReport}
use Rattle.sm_standby.specs.Asked.{IsTried, StopsAt}
use Rattle.sm_standby.specs.Followed.{EndsTurns, tried_turn}
use Rattle.sm_standby.specs.Rounds.{AreRounds, EndsCall, Part, Round, StopsRound, TurnsEnd, kept_by as kept_in_rounds, made_by as made_in_rounds, made_of}
use Rattle.sm_standby.specs.Turns.{AsksPlaced, missed, url_of, Whose, candidate, again, Came, absent, kept, later, dropped, FitsPlace, Turn, passed, asked as asked_for, Standing, address_for, kept_by, after, Turns, made_in, kept_in}
use Rattle.sm_edge.specs.Following.{HasFollowed}
use Rattle.sm_client.specs.Turns.{Meaning}
use Rattle.sm_tool.specs.declared.answer.Answer.{Answer as ToolAnswer}
use Rattle.sm_tool.specs.Edges.{Dialing, StandbyMeans, at_edge, plan_of}
use Rattle.sm_tool.specs.Ran.{Around, IsRun, Means, MeansBy}
use Rattle.sm_run.specs.Runs.{RunsBy, shown_by}
use Rattle.sm_words.specs.Words.{Pulling, Serving, Standby, Wanted, asked}
use Rattle.sm_usage.specs.Wrong.{wrong_words}
use Rattle.sm_ends.specs.Ended.{End}
use Rattle.sm_promises.specs.Promises.{ProgramRan, AllReadAt, IsFollowed, WasReadAt, all_followed}
use Rattle.sm_promises.proofs.Pulling.{one_log}

-- ---- lists

last_there : {X : Type 0} (xs : List X) (x : X) → Contains (xs ++ x ∷ []) x
last_there xs x = Contains-append_right xs (x ∷ []) x (0, omega arith, refl)

more_at : (place : Place) (xs ys : List Exchange) (n : ℕ) (fs : List Fragment) → ((x : Exchange) → Contains xs x → Contains ys x) → AllReadAt place xs n fs → AllReadAt place ys n fs
more_at place xs ys n [] more all = tt
more_at place xs ys n (f ∷ fs) more all = (
  record { url = all.0.url; exchange = all.0.exchange; there = more all.0.exchange all.0.there; raw = all.0.raw; asked = all.0.asked; is = all.0.is },
  more_at place xs ys (n + 1) fs more all.1,
)

from_here : (place : Place) (made : List Exchange) (n k : ℕ) (fs : List Fragment) → n ≡ k → AllReadAt place made n fs → AllReadAt place made k fs
from_here place made n k fs same all = subst (λ i. AllReadAt place made i fs) same all

both_at : (place : Place) (made : List Exchange) (n : ℕ) (xs ys : List Fragment) → AllReadAt place made n xs → AllReadAt place made (n + length xs) ys
    → AllReadAt place made n (xs ++ ys)
both_at place made n [] ys a b = from_here place made (n + 0) n ys (omega arith) b
both_at place made n (x ∷ xs) ys a b =
    (a.0, both_at place made (n + 1) xs ys a.1 (from_here place made (n + length (x ∷ xs)) (n + 1 + length xs) ys (omega arith) b))

front_at : (place : Place) (made : List Exchange) (n : ℕ) (front back : List Fragment) → AllReadAt place made n (front ++ back) → AllReadAt place made n front
front_at place made n [] back all = tt
front_at place made n (f ∷ front) back all = (all.0, front_at place made (n + 1) front back all.1)

-- ---- one fragment

fits_next : (who : Whose) (next n : ℕ) (raw : RawFragment) → FitsPlace who next (kept n raw) → n ≡ next
fits_next (candidate a) next n raw h = h
fits_next (again l) next n raw h = h

read_time : (time n : ℕ) (raw : RawFragment) (answer : Answer) → SpellsPlaced time answer (placed.Fragment n raw) → raw.time ≡ time
read_time time n raw (answers.Bytes bytes) (start, body, whole, f) = f.0.time_is
read_time time n raw answers.Lost s = absurd (cc)
read_time time n raw answers.NoMemory s = absurd (cc)

one_at : (plan : PullPlan) (url : List ℕ) (a : Address) (made : List Exchange) (n next : ℕ) (raw : RawFragment) → n ≡ next
    → Gives (AsksPlaced plan.place url a) missed plan.tries made (placed.Fragment n raw) → WasReadAt plan.place made next (given a.stream a.bitrate raw)
one_at plan url a made n next raw here g =
    let f = given a.stream a.bitrate raw in
    let named : address_of f ≡ a = ap (λ (t : ℕ). record { stream = a.stream; bitrate = a.bitrate; time = t }) (read_time a.time n raw g.last.answer g.gave.spelled) in
    let asked_it = subst (λ (i : ℕ). AsksPlaced plan.place url a g.last (placed.Fragment i raw)) here g.gave in
    record {
      url = url;
      exchange = g.last;
      there = subst (λ (xs : List Exchange). Contains xs g.last) (sym g.made_is) (last_there g.missed g.last);
      raw = raw;
      asked = subst (λ (b : Address). AsksPlaced plan.place url b g.last (placed.Fragment next raw)) (sym named) asked_it;
      is = refl;
    }

-- ---- turns

after_log : (s : Standing) (who : Whose) (made : List Exchange) (c : Came) → (after s (asked_for who made c)).log ≡ s.log ++ keeps_of (kept_by (address_for who) c)
after_log s (candidate a) made c = refl
after_log s (again l) made c = refl

none_longer : (s : Standing) (who : Whose) (made : List Exchange) (c : Came) → kept_by (address_for who) c ≡ [] → length (after s (asked_for who made c)).log ≡ length s.log
none_longer s who made c none =
    ap (λ (l : List Entry). length l) (after_log s who made c ∙ ap (λ (fs : List Fragment). s.log ++ keeps_of fs) none ∙ append-nil s.log)

one_longer : (s : Standing) (who : Whose) (made : List Exchange) (n : ℕ) (raw : RawFragment) → length (after s (asked_for who made (kept n raw))).log ≡ length s.log + 1
one_longer s who made n raw =
    ap (λ (l : List Entry). length l) (after_log s who made (kept n raw))
    ∙ length-append s.log (Keep (given (address_for who).stream (address_for who).bitrate raw) ∷ [])

-- the log is longer by what they kept
turns_long : (plan : PullPlan) (channel : List Track) (listing : Listing) (s e : Standing) (ts : List Turn) → Turns plan channel listing s ts e
    → length e.log ≡ length s.log + length (kept_in ts)
turns_long plan channel listing s e [] legal = let same = ap (λ (x : Standing). length x.log) legal in omega (arith, same)
turns_long plan channel listing s e (passed a ∷ ts) legal = turns_long plan channel listing (after s (passed a)) e ts legal.1
turns_long plan channel listing s e (asked_for who made absent ∷ ts) legal =
    let more = turns_long plan channel listing (after s (asked_for who made absent)) e ts legal.1 in
    let same = none_longer s who made absent refl in
    omega (arith, more, same)
turns_long plan channel listing s e (asked_for who made (later n raw) ∷ ts) legal =
    let more = turns_long plan channel listing (after s (asked_for who made (later n raw))) e ts legal.1 in
    let same = none_longer s who made (later n raw) refl in
    omega (arith, more, same)
turns_long plan channel listing s e (asked_for who made (dropped n raw) ∷ ts) legal =
    let more = turns_long plan channel listing (after s (asked_for who made (dropped n raw))) e ts legal.1 in
    let same = none_longer s who made (dropped n raw) refl in
    omega (arith, more, same)
turns_long plan channel listing s e (asked_for who made (kept n raw) ∷ ts) legal =
    let more = turns_long plan channel listing (after s (asked_for who made (kept n raw))) e ts legal.1 in
    let one = one_longer s who made n raw in
    omega (arith, more, one)

turns_read : (plan : PullPlan) (channel : List Track) (listing : Listing) (s e : Standing) (ts : List Turn) → Turns plan channel listing s ts e
    → AllReadAt plan.place (made_in ts) (length s.log) (kept_in ts)
turns_read plan channel listing s e [] legal = tt
turns_read plan channel listing s e (passed a ∷ ts) legal = turns_read plan channel listing (after s (passed a)) e ts legal.1
turns_read plan channel listing s e (asked_for who made absent ∷ ts) legal =
    more_at plan.place (made_in ts) (made ++ made_in ts) (length s.log) (kept_in ts) (λ x there. Contains-append_right made (made_in ts) x there)
    (from_here plan.place (made_in ts) _ (length s.log) (kept_in ts) (none_longer s who made absent refl) (turns_read plan channel listing (after s (asked_for who made absent)) e ts legal.1))
turns_read plan channel listing s e (asked_for who made (later n raw) ∷ ts) legal =
    more_at plan.place (made_in ts) (made ++ made_in ts) (length s.log) (kept_in ts) (λ x there. Contains-append_right made (made_in ts) x there)
    (from_here plan.place (made_in ts) _ (length s.log) (kept_in ts) (none_longer s who made (later n raw) refl)
    (turns_read plan channel listing (after s (asked_for who made (later n raw))) e ts legal.1))
turns_read plan channel listing s e (asked_for who made (dropped n raw) ∷ ts) legal =
    more_at plan.place (made_in ts) (made ++ made_in ts) (length s.log) (kept_in ts) (λ x there. Contains-append_right made (made_in ts) x there)
    (from_here plan.place (made_in ts) _ (length s.log) (kept_in ts) (none_longer s who made (dropped n raw) refl)
    (turns_read plan channel listing (after s (asked_for who made (dropped n raw))) e ts legal.1))
turns_read plan channel listing s e (asked_for who made (kept n raw) ∷ ts) legal =
    let a = address_for who in
    let f = given a.stream a.bitrate raw in
    let one : AllReadAt plan.place made (length s.log) (f ∷ []) =
    (one_at plan (url_of listing a) a made n (length s.log) raw (fits_next who (length s.log) n raw legal.0.fits) legal.0.gives, tt) in
    let here = more_at plan.place made (made ++ made_in ts) (length s.log) (f ∷ []) (λ x there. Contains-append_left made (made_in ts) x there) one in
    let rest = more_at plan.place (made_in ts) (made ++ made_in ts) (length s.log + 1) (kept_in ts) (λ x there. Contains-append_right made (made_in ts) x there)
    (from_here plan.place (made_in ts) _ (length s.log + 1) (kept_in ts) (one_longer s who made n raw) (turns_read plan channel listing (after s (asked_for who made (kept n raw))) e ts legal.1)) in
    (here.0, rest)

-- ---- rounds

rounds_long : (plan : PullPlan) (channel : List Track) (log : List Entry) (held : List Later) (rs : List Round) (log' : List Entry) (held' : List Later)
    → AreRounds plan channel log held rs log' held' → length log' ≡ length log + length (kept_in_rounds rs)
rounds_long plan channel log held [] log' held' are = let same = ap (λ (l : List Entry). length l) are.0 in omega (arith, same)
rounds_long plan channel log held (r ∷ rs) log' held' (mid, wait, is, rest) =
    let first = turns_long plan channel r.listing _ _ r.turns is.turns in
    let more = rounds_long plan channel mid wait rs log' held' rest in
    let sum = length-append (kept_in r.turns) (kept_in_rounds rs) in
    omega (arith, first, more, sum)

rounds_read : (plan : PullPlan) (channel : List Track) (log : List Entry) (held : List Later) (rs : List Round) (log' : List Entry) (held' : List Later)
    → AreRounds plan channel log held rs log' held' → AllReadAt plan.place (made_in_rounds rs) (length log) (kept_in_rounds rs)
rounds_read plan channel log held [] log' held' are = tt
rounds_read plan channel log held (r ∷ rs) log' held' (mid, wait, is, rest) =
    let all = (r.reads ++ made_in r.turns) ++ made_in_rounds rs in
    let long = turns_long plan channel r.listing _ _ r.turns is.turns in
    both_at plan.place all (length log) (kept_in r.turns) (kept_in_rounds rs)
    (more_at plan.place (made_in r.turns) all (length log) (kept_in r.turns)
    (λ x there. Contains-append_left (r.reads ++ made_in r.turns) (made_in_rounds rs) x (Contains-append_right r.reads (made_in r.turns) x there))
    (turns_read plan channel r.listing _ _ r.turns is.turns))
    (more_at plan.place (made_in_rounds rs) all _ (kept_in_rounds rs) (λ x there. Contains-append_right (r.reads ++ made_in r.turns) (made_in_rounds rs) x there)
    (from_here plan.place (made_in_rounds rs) (length mid) _ (kept_in_rounds rs) long (rounds_read plan channel mid wait rs log' held' rest)))

-- ---- the round that ended the call

module _ (plan : PullPlan) (channel : List Track) (log : List Entry) (held : List Later) (new : Archive) (p : Part) (to : Standing) where
  abbrev PartRead : Type 0
  PartRead = AllReadAt plan.place (made_of p) (length log) (kept_in p.turns ++ kept_in p.tried)

  none_read : p.turns ≡ [] → p.tried ≡ [] → PartRead
  none_read turns tried =
      subst (λ (ts : List Turn). AllReadAt plan.place (made_of p) (length log) (kept_in ts ++ kept_in p.tried)) (sym turns)
      (subst (λ (ts : List Turn). AllReadAt plan.place (made_of p) (length log) (kept_in ts)) (sym tried) tt)

  nothing_tried : p.tried ≡ [] → AllReadAt plan.place p.last (length to.log) (kept_in p.tried)
  nothing_tried none = subst (λ (ts : List Turn). AllReadAt plan.place p.last (length to.log) (kept_in ts)) (sym none) tt

  none_came : (who : Whose) (cs : List Came) → p.tried ≡ tried_turn who p.last cs → cs ≡ [] → p.tried ≡ []
  none_came who cs is none = is ∙ ap (λ (x : List Came). tried_turn who p.last x) none

  one_tried : (who : Whose) (cs : List Came) (why : Stop) → p.tried ≡ tried_turn who p.last cs
      → IsTried plan channel (url_of p.listing (address_for who)) (address_for who) new to.log p.last cs why → AllReadAt plan.place p.last (length to.log) (kept_in p.tried)
  one_tried who cs why is t =
      let a = address_for who in
      subst (λ (ts : List Turn). AllReadAt plan.place p.last (length to.log) (kept_in ts)) (sym (is ∙ ap (λ (x : List Came). tried_turn who p.last x) t.tried_is))
      (one_at plan (url_of p.listing a) a p.last t.number (length to.log) t.raw t.next t.gives, tt)

  tried_read : (who : Whose) (cs : List Came) (end : FollowEnd) → p.tried ≡ tried_turn who p.last cs
      → StopsAt plan channel (url_of p.listing (address_for who)) (address_for who) new to.log p.last cs end → AllReadAt plan.place p.last (length to.log) (kept_in p.tried)
  tried_read who cs (ends.GaveUp b outcomes) is h = nothing_tried (none_came who cs is h.2)
  tried_read who cs (ends.OtherId b id) is h = nothing_tried (none_came who cs is h.2)
  tried_read who cs (ends.Refused b cause) is h = one_tried who cs _ is h
  tried_read who cs ends.Full is h = one_tried who cs _ is h
  tried_read who cs ends.DiskFault is h = one_tried who cs _ is h
  tried_read who cs ends.NoMemory is (inl h) = nothing_tried (none_came who cs is h.1)
  tried_read who cs ends.NoMemory is (inr h) = one_tried who cs _ is h
  tried_read who cs ends.Done is h = absurd h
  tried_read who cs (ends.Gap place next) is h = absurd h
  tried_read who cs (ends.NoManifest outcomes) is h = absurd h
  tried_read who cs (ends.NoTrack index) is h = absurd h

  last_read : (end : FollowEnd) → EndsTurns plan channel p.listing to new p.last p.tried end → AllReadAt plan.place p.last (length to.log) (kept_in p.tried)
  last_read end (inl h) = nothing_tried h.2
  last_read end (inr (who, cs, turn, is, stops)) = tried_read who cs end is stops

  turns_end : (end : FollowEnd) → TurnsEnd plan channel log held new p to end → PartRead
  turns_end end t =
      let long = turns_long plan channel p.listing _ to p.turns t.turns in
      let all = made_of p in
      both_at plan.place all (length log) (kept_in p.turns) (kept_in p.tried)
      (more_at plan.place (made_in p.turns) all (length log) (kept_in p.turns)
      (λ x there. Contains-append_right p.reads (made_in p.turns ++ p.last) x (Contains-append_left (made_in p.turns) p.last x there)) (turns_read plan channel p.listing _ to p.turns t.turns))
      (more_at plan.place p.last all _ (kept_in p.tried)
      (λ x there. Contains-append_right p.reads (made_in p.turns ++ p.last) x (Contains-append_right (made_in p.turns) p.last x there))
      (from_here plan.place p.last (length to.log) _ (kept_in p.tried) long (last_read end t.ended)))

  stops_read : (end : FollowEnd) → StopsRound plan channel log held new p to end → PartRead
  stops_read end (inl (none, bare)) = none_read bare.turns bare.tried
  stops_read end (inr (gives, inl (lacks, bare))) = none_read bare.turns bare.tried
  stops_read end (inr (gives, inr t)) = turns_end end t

  part_read : (rounds : List Round) (end : FollowEnd) → EndsCall plan channel rounds log held new p to end → PartRead
  part_read rounds ends.Done h = none_read (ap (λ (q : Part). q.turns) h.2) (ap (λ (q : Part). q.tried) h.2)
  part_read rounds (ends.Gap place next) h = none_read (ap (λ (q : Part). q.turns) h.3) (ap (λ (q : Part). q.tried) h.3)
  part_read rounds (ends.NoManifest outcomes) h = stops_read _ h.1
  part_read rounds (ends.NoTrack index) h = stops_read _ h.1
  part_read rounds (ends.GaveUp a outcomes) h = stops_read _ h.1
  part_read rounds (ends.OtherId a id) h = stops_read _ h.1
  part_read rounds (ends.Refused a cause) h = stops_read _ h.1
  part_read rounds ends.Full h = stops_read _ h.1
  part_read rounds ends.DiskFault h = stops_read _ h.1
  part_read rounds ends.NoMemory h = stops_read _ h.1

-- ---- a run

module _ {D C P : Type 0} (site : Seen D) (t : Dialing C) (m : Meaning P) where
  followed : (e : Pulling) (in_ in' : End) (before after : D) (c c' : C) (b made : List Exchange) (channel : List Track) (report : FollowReport) → t.log c ≡ Some b → t.log c' ≡ Some (b ++ made)
      → HasFollowed site t.log t.store t.later t.faults t.chosen in_ in' (at_edge e) e.place.host (plan_of e) before after c c' channel report
      → IsFollowed site t e in_ in' before after c c' made
  followed e in_ in' before after c c' b made channel report was told h =
      let k = h.followed.called in
      let plan = plan_of e in
      let log = h.edge.store.log in
      let xs = made_in_rounds k.rounds ++ made_of k.part in
      let here : t.log c' ≡ with_all (Some b) xs = k.asks.told_is ∙ ap (λ (o : Option (List Exchange)). with_all o xs) (h.quiet ∙ was) in
      let same : xs ≡ made = one_log (t.log c') b made xs here told in
      let long = rounds_long plan channel log [] k.rounds k.log k.held k.legal in
      let first = more_at plan.place (made_in_rounds k.rounds) xs (length log) (kept_in_rounds k.rounds) (λ x there. Contains-append_left (made_in_rounds k.rounds) (made_of k.part) x there)
      (rounds_read plan channel log [] k.rounds k.log k.held k.legal) in
      let last = more_at plan.place (made_of k.part) xs _ (kept_in k.part.turns ++ kept_in k.part.tried) (λ x there. Contains-append_right (made_in_rounds k.rounds) (made_of k.part) x there)
      (from_here plan.place (made_of k.part) (length k.log) _ (kept_in k.part.turns ++ kept_in k.part.tried) long (part_read plan channel k.log k.held h.after k.part k.to k.rounds report.end k.ended)) in
      let all = subst (λ (fs : List Fragment). AllReadAt plan.place xs (length log) fs) (sym (append_assoc (kept_in_rounds k.rounds) (kept_in k.part.turns) (kept_in k.part.tried)))
      (both_at plan.place xs (length log) (kept_in_rounds k.rounds) (kept_in k.part.turns ++ kept_in k.part.tried) first last) in
      let read = subst (λ (ys : List Exchange). AllReadAt plan.place ys (length log) (all_followed k.rounds k.part)) same all in
      record {
        channel = channel;
        report = report;
        ran = h;
        was_read = read;
        left = λ some u image since is.
            let at_moment = (k.adds.moments some).each u image since is in
            let front = at_moment.2 in (
              front.front,
              subst (λ (l : List Entry). IsStore l image) front.after_is at_moment.1,
              front_at plan.place made (length log) front.front front.back (subst (λ (fs : List Fragment). AllReadAt plan.place made (length log) fs) front.whole read),
            );
      }

  abbrev Comes : Pulling → End → End → D → D → C → C → List Exchange → Type 0
  Comes e in_ in' before after c c' made = IsFollowed site t e in_ in' before after c c' made ⊎ (t.log c' ≡ t.log c)

  by_means : (e : Pulling) (in_ in' : End) (before after : D) (c c' : C) (b made : List Exchange) (answer : ToolAnswer) → t.log c ≡ Some b → t.log c' ≡ Some (b ++ made)
      → StandbyMeans site t e in_ in' before after c c' answer → Comes e in_ in' before after c c' made
  by_means e in_ in' before after c c' b made answer was told (inl (channel, report, h, tells)) = inl (followed e in_ in' before after c c' b made channel report was told h)
  by_means e in_ in' before after c c' b made answer was told (inr u) = inr u.2

  in_run : (policies : List P) (words : List (List ℕ)) (e : Pulling) (old new : Around) (out out' : End) (before after : D) (c c' : C) (status : ℕ) (b made : List Exchange)
      → asked words ≡ Some (Standby e) → t.log c ≡ Some b → t.log c' ≡ Some (b ++ made) → IsRun site t m policies words old new out out' before after c c' status
      → Comes e old.input new.input before after c c' made
  in_run policies words e old new out out' before after c c' status b made is was told r = go r.means
    where
      go : Means site t m policies words old new out r.written before after c c' r.answer → Comes e old.input new.input before after c c' made
      go (inl h) =
          let of_words = subst (λ (x : Option Wanted). MeansBy site t m policies (wrong_words words) x old new out r.written before after c c' r.answer) is h in
          by_means e old.input new.input before after c c' b made r.answer was told of_words.0
      go (inr h) = inr (ap t.log h.2.dial_is)

  pub follows : (before after : D) (r : ProgramRan site t m before after) (e : Pulling) → asked r.words ≡ Some (Standby e) → (b made : List Exchange) → t.log r.dial ≡ Some b
      → t.log r.dial' ≡ Some (b ++ made) → Comes e r.around.input r.around'.input before after r.dial r.dial' made
  follows before after r e is b made was told =
      let runs = subst (λ (o : Option (Serving × ℕ)). RunsBy site t m r.policies r.words o r.around r.around' r.output r.output' before after r.dial r.dial' r.staff r.staff' r.status) (ap shown_by is) r.runs in
      in_run r.policies r.words e r.around r.around' r.output r.output' before after r.dial r.dial' r.status b made is was told runs.0
