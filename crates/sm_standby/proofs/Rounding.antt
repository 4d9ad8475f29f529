-- Rounds, one after another.
use Rattle.std.proofs.Common.{◌≡◌, ◌⊎◌, ◌<◌, ◌≤◌, ◌+◌, ◌^◌, ℕ, List, [], ◌∷◌, ◌++◌, length, length-append, Option, Some, None, refl, ap, sym, ◌∙◌, subst, append_assoc, append-nil, arith, inl, inr}
use Rattle.std.specs.List.{AllByRecursion}
use Rattle.sm_model.specs.declared.entry.Entry.{Entry}
use Rattle.sm_model.specs.declared.fragment.Fragment.{Fragment}
use Rattle.sm_model.specs.declared.track.Track.{Track}
use Rattle.sm_site.specs.Image.{Image}
use Rattle.sm_site.specs.Meanings.{Seen}
use Rattle.sm_archive.specs.declared.archive.Archive.{Archive}
use Rattle.sm_archive.specs.Stands.{Stands}
use Rattle.sm_manin.specs.declared.listing.Listing.{Listing}
use Rattle.sm_fetch.specs.declared.dial.Exchange.{Exchange}
use Rattle.sm_fetch.specs.declared.got.Got.TheVariants as got
use Rattle.sm_fetch.specs.declared.place.Place.{Place}
use Rattle.sm_fetch.specs.Exchanges.{Peer}
use Rattle.sm_fetch.specs.Origins.{Grows}
use Rattle.sm_client.specs.Stands.{miss_of}
use Rattle.sm_pull.specs.declared.plan.PullPlan.{PullPlan}
use Rattle.sm_pull.specs.Adds.{Adds, keeps_of}
use Rattle.sm_pull.specs.Asks.{Asks, AsksManifest, Gives}
use Rattle.sm_pull.specs.Tracks.{HasTracks, IsFirstMissing}
use Rattle.sm_pull.proofs.Dials.{asks_same, asks_then}
use Rattle.sm_pull.proofs.Disks.{adds_none, adds_then, log_both, rose_since}
use Rattle.sm_standby.specs.declared.held.Later.{Later}
use Rattle.sm_standby.specs.declared.report.FollowEnd.{FollowEnd}
use Rattle.sm_standby.specs.declared.report.FollowEnd.TheVariants as ends
use Rattle.sm_standby.specs.Waiting.{due, AreOpen}
use Rattle.sm_standby.specs.Turns.{url_of, address_for, Turn, Standing, made_in, kept_in, IsUpstream, OnUpstream}
use Rattle.sm_standby.specs.Asked.{StopsAt}
use Rattle.sm_standby.specs.Followed.{at, Follows, EndsTurns, Ends}
use Rattle.sm_standby.specs.Rounds.{addresses_of, Round, AreRounds, made_by, kept_by, RoundsUpstream, Part, nothing_listed, no_part, IsBare, StopsRound, Rounds, RoundEnds, EndsCall, Called}
use Rattle.sm_standby.proofs.Taking.{both_all, all_grown}

-- ---- lists of rounds

rounds_both : (plan : PullPlan) (channel : List Track) (log mid end : List Entry) (held wait last : List Later) (rs ss : List Round) → AreRounds plan channel log held rs mid wait
    → AreRounds plan channel mid wait ss end last → AreRounds plan channel log held (rs ++ ss) end last
rounds_both plan channel log mid end held wait last [] ss first second =
    subst (λ (l : List Entry). AreRounds plan channel l held ss end last) (sym first.0) (subst (λ (h : List Later). AreRounds plan channel mid h ss end last) (sym first.1) second)
rounds_both plan channel log mid end held wait last (r ∷ rs) ss first second =
    (first.0, first.1, first.2, rounds_both plan channel first.0 mid end first.1 wait last rs ss first.3 second)

made_more : (rs ss : List Round) → made_by (rs ++ ss) ≡ made_by rs ++ made_by ss
made_more [] ss = refl
made_more (r ∷ rs) ss = ap (λ (xs : List Exchange). (r.reads ++ made_in r.turns) ++ xs) (made_more rs ss) ∙ sym (append_assoc (r.reads ++ made_in r.turns) (made_by rs) (made_by ss))

kept_more : (rs ss : List Round) → kept_by (rs ++ ss) ≡ kept_by rs ++ kept_by ss
kept_more [] ss = refl
kept_more (r ∷ rs) ss = ap (λ (xs : List Fragment). kept_in r.turns ++ xs) (kept_more rs ss) ∙ sym (append_assoc (kept_in r.turns) (kept_by rs) (kept_by ss))

rounds_grown : (place : Place) (up more : List Entry) (rs : List Round) → RoundsUpstream place rs up → RoundsUpstream place rs (up ++ more)
rounds_grown place up more [] all = tt
rounds_grown place up more (r ∷ rs) all = (all_grown place r.listing up more r.turns all.0, rounds_grown place up more rs all.1)

-- ---- logs that are told

pub on_none : (s t : List Entry → Type 0) → Grows s t → OnUpstream s t (λ up. Unit {0})
on_none s t grows = λ up told. let g = grows up told in (g.0, g.1, tt)

-- what held of a log holds where it goes on
on_then : (s t u : List Entry → Type 0) (P Q : List Entry → Type 0) → ((up more : List Entry) → P up → P (up ++ more)) → OnUpstream s t P → OnUpstream t u Q → OnUpstream s u (λ up. P up × Q up)
on_then s t u P Q stays first second = λ up told.
    let a = first up told in
    let b = second (up ++ a.0) a.1 in
    let joined : (up ++ a.0) ++ b.0 ≡ up ++ (a.0 ++ b.0) = append_assoc up a.0 b.0 in (
      a.0 ++ b.0,
      subst u joined b.1,
      subst (λ (l : List Entry). P l × Q l) joined (stays (up ++ a.0) b.0 a.2, b.2),
    )

on_weak : (s t : List Entry → Type 0) (P Q : List Entry → Type 0) → ((up : List Entry) → P up → Q up) → OnUpstream s t P → OnUpstream s t Q
on_weak s t P Q so on = λ up told. let a = on up told in (a.0, a.1, so (up ++ a.0) a.2)

pub one_channel : (a b : List Track) → Some a ≡ Some b → a ≡ b
one_channel a b e = cc

-- ---- a track that is missing

pub missing_few : (listing : Listing) (channel : List Track) (index : ℕ) → IsFirstMissing listing channel index → length channel ≤ 64 → index < 2 ^ 32
missing_few listing channel index m few =
    let all = ap length m.channel_is in
    let both = length-append m.front (m.track ∷ m.back) in
    let is = m.index_is in
    omega (arith, all, both, is, few)

-- ---- calls

pub bare : (reads : List Exchange) (listing : Listing) → IsBare (record { reads = reads; listing = listing; turns = []; last = []; tried = [] })
bare reads listing = record { turns = refl; last = refl; tried = refl }

-- nothing but the number of rounds ends a call with Done or a gap
turns_go : (plan : PullPlan) (channel : List Track) (listing : Listing) (s : Standing) (new : Archive) (last : List Exchange) (tried : List Turn) (end : FollowEnd) → EndsTurns plan channel listing s new last tried end
    → (end ≡ ends.Done) ⊎ ((place : ℕ) × (next : ℕ) × (end ≡ ends.Gap place next)) → ⊥
turns_go plan channel listing s new last tried end (inl (is, none, nothing)) (inl done) = absurd (let e : ends.NoMemory ≡ ends.Done = sym is ∙ done in cc)
turns_go plan channel listing s new last tried end (inl (is, none, nothing)) (inr (place, next, gap)) = absurd (let e : ends.NoMemory ≡ ends.Gap place next = sym is ∙ gap in cc)
turns_go plan channel listing s new last tried end (inr (who, cs, turn, is, stops)) (inl done) =
    subst (λ (e : FollowEnd). StopsAt plan channel (url_of listing (address_for who)) (address_for who) new s.log last cs e) done stops
turns_go plan channel listing s new last tried end (inr (who, cs, turn, is, stops)) (inr (place, next, gap)) =
    subst (λ (e : FollowEnd). StopsAt plan channel (url_of listing (address_for who)) (address_for who) new s.log last cs e) gap stops

never_done : (plan : PullPlan) (channel : List Track) (log : List Entry) (held : List Later) (new : Archive) (p : Part) (to : Standing) → StopsRound plan channel log held new p to ends.Done → ⊥
never_done plan channel log held new p to (inl (none, bare)) = none
never_done plan channel log held new p to (inr (gives, inl (lacks, bare))) = lacks
never_done plan channel log held new p to (inr (gives, inr t)) = turns_go plan channel p.listing to new p.last p.tried ends.Done t.ended (inl refl)

never_gap : (plan : PullPlan) (channel : List Track) (log : List Entry) (held : List Later) (new : Archive) (p : Part) (to : Standing) (place next : ℕ) → StopsRound plan channel log held new p to (ends.Gap place next) → ⊥
never_gap plan channel log held new p to place next (inl (none, bare)) = none
never_gap plan channel log held new p to place next (inr (gives, inl (lacks, bare))) = lacks
never_gap plan channel log held new p to place next (inr (gives, inr t)) = turns_go plan channel p.listing to new p.last p.tried (ends.Gap place next) t.ended (inr (place, next, refl))

-- how a round ends the call that isn't the last one's end
ends_early : (plan : PullPlan) (channel : List Track) (rounds : List Round) (log : List Entry) (held : List Later) (new : Archive) (p : Part) (to : Standing) (end : FollowEnd) → length rounds < plan.rounds
    → StopsRound plan channel log held new p to end → EndsCall plan channel rounds log held new p to end
ends_early plan channel rounds log held new p to ends.Done few stops = absurd (never_done plan channel log held new p to stops)
ends_early plan channel rounds log held new p to (ends.Gap place next) few stops = absurd (never_gap plan channel log held new p to place next stops)
ends_early plan channel rounds log held new p to (ends.NoManifest outcomes) few stops = (few, stops)
ends_early plan channel rounds log held new p to (ends.NoTrack index) few stops = (few, stops)
ends_early plan channel rounds log held new p to (ends.GaveUp a outcomes) few stops = (few, stops)
ends_early plan channel rounds log held new p to (ends.OtherId a id) few stops = (few, stops)
ends_early plan channel rounds log held new p to (ends.Refused a cause) few stops = (few, stops)
ends_early plan channel rounds log held new p to ends.Full few stops = (few, stops)
ends_early plan channel rounds log held new p to ends.DiskFault few stops = (few, stops)
ends_early plan channel rounds log held new p to ends.NoMemory few stops = (few, stops)

module _ {D C : Type 0} {site : Seen D} {told : C → Option (List Exchange)} {store : C → List Entry → Type 0}
    {goes_on : C → C → Type 0} {faults : C → ℕ} {chosen : C → Option Peer} {plan : PullPlan} {channel : List Track} where
  pub rounds_stand : {d e : D} {x y : C} {a b : Archive} {log : List Entry} {held held' : List Later} {n : ℕ} → (r : Rounds site told store goes_on faults chosen d e x y plan channel a b log held held' n)
      → Stands b r.log None (site.may_leave e)
  rounds_stand {e = e} {b = b} r = subst (λ (l : List Entry). Stands b l None (site.may_leave e)) (sym r.log_is) r.adds.stands

  -- no round yet
  pub rounds_none : ((d : D) (t : ℕ) (c : Image) → site.left_at d t c → t ≤ (site.view d).moment) → ((x : C) → goes_on x x) → (d : D) (x : C) (a : Archive) (log : List Entry) (held : List Later)
      → Stands a log None (site.may_leave d) → AreOpen log held → Rounds site told store goes_on faults chosen d d x x plan channel a a log held held 0
  rounds_none no_later same d x a log held stands waiting = record {
    log = log;
    rounds = [];
    legal = (refl, refl);
    count_is = refl;
    log_is = sym (append-nil log);
    asks = asks_same same x;
    up = on_none (store x) (store x) (λ up is. ([], subst (store x) (sym (append-nil up)) is));
    adds = adds_none no_later d a log stands;
    waiting = waiting;
  }

  pub rounds_at : {d e : D} {x y : C} {a b : Archive} {log : List Entry} {held held' : List Later} (n m : ℕ) → n ≡ m → Rounds site told store goes_on faults chosen d e x y plan channel a b log held held' n
      → Rounds site told store goes_on faults chosen d e x y plan channel a b log held held' m
  rounds_at {d = d} {e = e} {x = x} {y = y} {a = a} {b = b} {log = log} {held = held} {held' = held'} n m is r =
      subst (λ (k : ℕ). Rounds site told store goes_on faults chosen d e x y plan channel a b log held held' k) is r

  -- a manifest was read, and all of its addresses had their turns
  pub rounds_one : {d e : D} {x y z : C} {a b : Archive} {log : List Entry} {held held' : List Later} (listing : Listing) (reads : List Exchange) → ((x y z : C) → goes_on x y → goes_on y z → goes_on x z)
      → Asks told store goes_on faults chosen x y reads → Gives (AsksManifest plan.place) miss_of plan.tries reads (got.Manifest listing) → HasTracks listing channel
      → (f : Follows site told store goes_on faults chosen d e y z plan channel listing a b (at log held (addresses_of channel listing)) held' []) → due (length f.log) held' ≡ None
      → Rounds site told store goes_on faults chosen d e x z plan channel a b log held held' 1
  rounds_one {d = d} {e = e} {x = x} {y = y} {z = z} {a = a} {b = b} {log = log} {held = held} {held' = held'} listing reads on asked gives tracks f nothing = record {
    log = f.log;
    rounds = (record { reads = reads; listing = listing; turns = f.turns }) ∷ [];
    legal = (f.log, held', record { reads = gives; tracks = tracks; turns = f.legal; nothing = nothing }, (refl, refl));
    count_is = refl;
    log_is = f.log_is ∙ ap (λ (fs : List Fragment). log ++ keeps_of fs) (sym (append-nil (kept_in f.turns)));
    asks = subst (λ (xs : List Exchange). Asks told store goes_on faults chosen x z xs) (sym (append-nil (reads ++ made_in f.turns))) (asks_then on asked f.asks);
    up = λ up is.
        let g = asked.alone.on.grows up is in
        let u = f.up (up ++ g.0) g.1 in
        let joined : (up ++ g.0) ++ u.0 ≡ up ++ (g.0 ++ u.0) = append_assoc up g.0 u.0 in
        (g.0 ++ u.0, subst (store z) joined u.1, (subst (λ (l : List Entry). AllByRecursion (IsUpstream plan.place listing l) f.turns) joined u.2, tt));
    adds = subst (λ (fs : List Fragment). Adds site d e a b log fs []) (sym (append-nil (kept_in f.turns))) f.adds;
    waiting = f.waiting;
  }

  -- some rounds, and then others
  pub rounds_then : {d e f : D} {x y z : C} {a b c : Archive} {log : List Entry} {held wait held' : List Later} {n m : ℕ} (k : ℕ) → ((x y z : C) → goes_on x y → goes_on y z → goes_on x z)
      → (first : Rounds site told store goes_on faults chosen d e x y plan channel a b log held wait n)
      → Rounds site told store goes_on faults chosen e f y z plan channel b c first.log wait held' m → k ≡ n + m
      → Rounds site told store goes_on faults chosen d f x z plan channel a c log held held' k
  rounds_then {d = d} {e = e} {f = f} {x = x} {y = y} {z = z} {a = a} {b = b} {c = c} {log = log} {held = held} {wait = wait} {held' = held'} k on first second count = record {
    log = second.log;
    rounds = first.rounds ++ second.rounds;
    legal = rounds_both plan channel log first.log second.log held wait held' first.rounds second.rounds first.legal second.legal;
    count_is = let both = length-append first.rounds second.rounds in let one = first.count_is in let two = second.count_is in omega (arith, both, one, two, count);
    log_is = second.log_is ∙ (ap (λ (l : List Entry). l ++ keeps_of (kept_by second.rounds)) first.log_is
        ∙ (log_both log (kept_by first.rounds) (kept_by second.rounds) ∙ ap (λ (fs : List Fragment). log ++ keeps_of fs) (sym (kept_more first.rounds second.rounds))));
    asks = subst (λ (xs : List Exchange). Asks told store goes_on faults chosen x z xs) (sym (made_more first.rounds second.rounds)) (asks_then on first.asks second.asks);
    up = on_weak (store x) (store z) (λ up. RoundsUpstream plan.place first.rounds up × RoundsUpstream plan.place second.rounds up) (RoundsUpstream plan.place (first.rounds ++ second.rounds))
        (λ up both. both_all (λ (r : Round). AllByRecursion (IsUpstream plan.place r.listing up) r.turns) first.rounds second.rounds both.0 both.1)
        (on_then (store x) (store y) (store z) (RoundsUpstream plan.place first.rounds) (RoundsUpstream plan.place second.rounds) (λ up more all. rounds_grown plan.place up more first.rounds all) first.up second.up);
    adds = subst (λ (fs : List Fragment). Adds site d f a c log fs []) (sym (kept_more first.rounds second.rounds))
        (adds_then first.adds (subst (λ (l : List Entry). Adds site e f b c l (kept_by second.rounds) []) first.log_is second.adds));
    waiting = second.waiting;
  }

  -- a pause, and then rounds
  pub rounds_paused : {d e : D} {x y z : C} {a b : Archive} {log : List Entry} {held held' : List Later} {n : ℕ} → ((x y z : C) → goes_on x y → goes_on y z → goes_on x z)
      → Asks told store goes_on faults chosen x y [] → Rounds site told store goes_on faults chosen d e y z plan channel a b log held held' n
      → Rounds site told store goes_on faults chosen d e x z plan channel a b log held held' n
  rounds_paused {x = x} {y = y} {z = z} on paused r = record {
    log = r.log;
    rounds = r.rounds;
    legal = r.legal;
    count_is = r.count_is;
    log_is = r.log_is;
    asks = asks_then on paused r.asks;
    up = on_weak (store x) (store z) (λ up. Unit {0} × RoundsUpstream plan.place r.rounds up) (RoundsUpstream plan.place r.rounds) (λ up both. both.1)
        (on_then (store x) (store y) (store z) (λ up. Unit {0}) (RoundsUpstream plan.place r.rounds) (λ up more u. tt) (on_none (store x) (store y) paused.alone.on.grows) r.up);
    adds = r.adds;
    waiting = r.waiting;
  }

  -- ---- ends

  -- no manifest was read, or it lacks a track
  pub ends_bare : {x y : C} → ((d : D) (t : ℕ) (c : Image) → site.left_at d t c → t ≤ (site.view d).moment)
      → (d : D) (a : Archive) (log : List Entry) (held : List Later) (reads : List Exchange) (listing : Listing) (end : FollowEnd)
      → Stands a log None (site.may_leave d) → Asks told store goes_on faults chosen x y reads
      → StopsRound plan channel log held a (record { reads = reads; listing = listing; turns = []; last = []; tried = [] }) (at log held []) end → (end ≡ ends.DiskFault → ⊥)
      → RoundEnds site told store goes_on faults chosen d d x y plan channel a a log held end
  ends_bare {x = x} {y = y} no_later d a log held reads listing end stands asked stops never = record {
    part = record { reads = reads; listing = listing; turns = []; last = []; tried = [] };
    to = at log held [];
    stops = stops;
    log_is = sym (append-nil log);
    asks = subst (λ (xs : List Exchange). Asks told store goes_on faults chosen x y xs) (sym (append-nil reads)) asked;
    up = on_none (store x) (store y) asked.alone.on.grows;
    adds = adds_none no_later d a log stands;
    fault = λ is. absurd (never is);
  }

  -- a manifest was read, and a turn ended the call
  pub ends_turns : {d e : D} {x y z : C} {a b : Archive} {log : List Entry} {held : List Later} (listing : Listing) (reads : List Exchange) (end : FollowEnd) → ((x y z : C) → goes_on x y → goes_on y z → goes_on x z)
      → Asks told store goes_on faults chosen x y reads → Gives (AsksManifest plan.place) miss_of plan.tries reads (got.Manifest listing) → HasTracks listing channel
      → Ends site told store goes_on faults chosen d e y z plan channel listing a b (at log held (addresses_of channel listing)) end
      → RoundEnds site told store goes_on faults chosen d e x z plan channel a b log held end
  ends_turns {x = x} {y = y} {z = z} listing reads end on asked gives tracks f = record {
    part = record { reads = reads; listing = listing; turns = f.turns; last = f.last; tried = f.tried };
    to = f.to;
    stops = inr (gives, inr (record { tracks = tracks; turns = f.legal; ended = f.stops }));
    log_is = f.log_is;
    asks = asks_then on asked f.asks;
    up = on_weak (store x) (store z) (λ up. Unit {0} × AllByRecursion (IsUpstream plan.place listing up) (f.turns ++ f.tried)) (λ up. AllByRecursion (IsUpstream plan.place listing up) (f.turns ++ f.tried)) (λ up both. both.1)
        (on_then (store x) (store y) (store z) (λ up. Unit {0}) (λ up. AllByRecursion (IsUpstream plan.place listing up) (f.turns ++ f.tried)) (λ up more u. tt) (on_none (store x) (store y) asked.alone.on.grows) f.up);
    adds = f.adds;
    fault = f.fault;
  }

  pub ends_paused : {d e : D} {x y z : C} {a b : Archive} {log : List Entry} {held : List Later} (end : FollowEnd) → ((x y z : C) → goes_on x y → goes_on y z → goes_on x z)
      → Asks told store goes_on faults chosen x y [] → RoundEnds site told store goes_on faults chosen d e y z plan channel a b log held end
      → RoundEnds site told store goes_on faults chosen d e x z plan channel a b log held end
  ends_paused {x = x} {y = y} {z = z} end on paused r = record {
    part = r.part;
    to = r.to;
    stops = r.stops;
    log_is = r.log_is;
    asks = asks_then on paused r.asks;
    up = on_weak (store x) (store z) (λ up. Unit {0} × AllByRecursion (IsUpstream plan.place r.part.listing up) (r.part.turns ++ r.part.tried))
        (λ up. AllByRecursion (IsUpstream plan.place r.part.listing up) (r.part.turns ++ r.part.tried)) (λ up both. both.1)
        (on_then (store x) (store y) (store z) (λ up. Unit {0}) (λ up. AllByRecursion (IsUpstream plan.place r.part.listing up) (r.part.turns ++ r.part.tried)) (λ up more u. tt)
        (on_none (store x) (store y) paused.alone.on.grows) r.up);
    adds = r.adds;
    fault = r.fault;
  }

  -- ---- whole calls

  pub called_early : {d e f : D} {x y z : C} {a b c : Archive} {log : List Entry} {wait : List Later} {n : ℕ} (end : FollowEnd) → ((x y z : C) → goes_on x y → goes_on y z → goes_on x z)
      → (first : Rounds site told store goes_on faults chosen d e x y plan channel a b log [] wait n) → n < plan.rounds
      → RoundEnds site told store goes_on faults chosen e f y z plan channel b c first.log wait end
      → Called site told store goes_on faults chosen d f x z plan channel a c log end
  called_early {d = d} {e = e} {f = f} {x = x} {y = y} {z = z} {a = a} {b = b} {c = c} {log = log} {wait = wait} end on first few r = record {
    rounds = first.rounds;
    log = first.log;
    held = wait;
    part = r.part;
    to = r.to;
    legal = first.legal;
    ended = ends_early plan channel first.rounds first.log wait c r.part r.to end (let is = first.count_is in omega (arith, is, few)) r.stops;
    asks = asks_then on first.asks r.asks;
    up = on_then (store x) (store y) (store z) (RoundsUpstream plan.place first.rounds) (λ up. AllByRecursion (IsUpstream plan.place r.part.listing up) (r.part.turns ++ r.part.tried))
        (λ up more all. rounds_grown plan.place up more first.rounds all) first.up r.up;
    adds = adds_then first.adds (subst (λ (l : List Entry). Adds site e f b c l (kept_in r.part.turns) (kept_in r.part.tried)) first.log_is r.adds);
    fault = λ is. rose_since (site.view d).disk_faults (site.view e).disk_faults (site.view f).disk_faults first.adds.disk_alone.no_fewer (r.fault is);
  }

  -- all rounds ended
  pub called_whole : {d e : D} {x y : C} {a b : Archive} {log : List Entry} {wait : List Later} {n : ℕ} (end : FollowEnd)
      → (first : Rounds site told store goes_on faults chosen d e x y plan channel a b log [] wait n)
      → EndsCall plan channel first.rounds first.log wait b no_part (at first.log wait []) end → (end ≡ ends.DiskFault → ⊥)
      → Called site told store goes_on faults chosen d e x y plan channel a b log end
  called_whole {d = d} {e = e} {x = x} {y = y} {a = a} {b = b} {log = log} {wait = wait} end first stops never = record {
    rounds = first.rounds;
    log = first.log;
    held = wait;
    part = no_part;
    to = at first.log wait [];
    legal = first.legal;
    ended = stops;
    asks = subst (λ (xs : List Exchange). Asks told store goes_on faults chosen x y xs) (sym (append-nil (made_by first.rounds))) first.asks;
    up = on_weak (store x) (store y) (RoundsUpstream plan.place first.rounds) (λ up. RoundsUpstream plan.place first.rounds up × Unit {0}) (λ up all. (all, tt)) first.up;
    adds = subst (λ (fs : List Fragment). Adds site d e a b log fs []) (sym (append-nil (kept_by first.rounds))) first.adds;
    fault = λ is. absurd (never is);
  }

  -- memory was wanted before anything was asked
  pub called_none : ((d : D) (t : ℕ) (c : Image) → site.left_at d t c → t ≤ (site.view d).moment) → ((x : C) → goes_on x x)
      → ((x y z : C) → goes_on x y → goes_on y z → goes_on x z) → (d : D) (x : C) (a : Archive) (log : List Entry)
      → 0 < plan.rounds → Stands a log None (site.may_leave d) → Called site told store goes_on faults chosen d d x x plan channel a a log ends.NoMemory
  called_none no_later same on d x a log some stands =
      let r : Rounds site told store goes_on faults chosen d d x x plan channel a a log [] [] 0 = rounds_none no_later same d x a log [] stands tt in
      called_early ends.NoMemory on r some
      (ends_bare no_later d a r.log [] [] nothing_listed ends.NoMemory (rounds_stand r) (asks_same same x) (inl (record { each = tt; few = omega arith }, bare [] nothing_listed)) (λ is. cc))
