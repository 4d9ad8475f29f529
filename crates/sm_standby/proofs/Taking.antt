-- Turns, one after another.
use Rattle.std.proofs.Common.{◌≡◌, ◌<◌, ◌≤◌, ◌||◌, ℕ, true, false, List, [], ◌∷◌, ◌++◌, length, Option, Some, None, refl, ap, sym, ◌∙◌, subst, append_assoc, append-nil, arith, inl, inr}
use Rattle.std.specs.Prelude.{is_some}
use Rattle.std.specs.List.{AllByRecursion}
use Rattle.sm_model.specs.declared.address.Address.{Address}
use Rattle.sm_model.specs.declared.entry.Entry.{Entry}
use Rattle.sm_model.specs.declared.fragment.Fragment.{Fragment}
use Rattle.sm_model.specs.declared.run.RawFragment.{RawFragment}
use Rattle.sm_model.specs.declared.track.Track.{Track}
use Rattle.sm_model.specs.Entries.{address_of}
use Rattle.sm_log.specs.Logs.{kept_at}
use Rattle.sm_log.proofs.AllLogs.{kept_stays}
use Rattle.sm_site.specs.Image.{Image}
use Rattle.sm_site.specs.Meanings.{Seen}
use Rattle.sm_site.specs.Clauses.{Rose}
use Rattle.sm_archive.specs.declared.archive.Archive.{Archive}
use Rattle.sm_archive.specs.Stands.{Stands}
use Rattle.sm_manin.specs.declared.listing.Listing.{Listing}
use Rattle.sm_fetch.specs.declared.dial.Answer.{Answer}
use Rattle.sm_fetch.specs.declared.dial.Answer.TheVariants as answers
use Rattle.sm_fetch.specs.declared.dial.Exchange.{Exchange}
use Rattle.sm_fetch.specs.declared.place.Place.{Place}
use Rattle.sm_fetch.specs.declared.placed.Placed.TheVariants as placed
use Rattle.sm_fetch.specs.Exchanges.{Peer}
use Rattle.sm_fetch.specs.Origins.{Grows}
use Rattle.sm_fetch.specs.Placing.{SpellsPlaced, IsPlacedAt}
use Rattle.sm_fetch.specs.Spelt.{given}
use Rattle.sm_pull.specs.declared.plan.PullPlan.{PullPlan}
use Rattle.sm_pull.specs.Adds.{Adds, keeps_of}
use Rattle.sm_pull.specs.Asks.{Asks, Gives}
use Rattle.sm_pull.proofs.Dials.{asks_same, asks_then}
use Rattle.sm_pull.proofs.Disks.{adds_none, adds_then, log_both, rose_since}
use Rattle.sm_standby.specs.declared.held.Later.{Later}
use Rattle.sm_standby.specs.declared.placing.Step.{Step}
use Rattle.sm_standby.specs.declared.placing.Step.TheVariants as step
use Rattle.sm_standby.specs.declared.report.FollowEnd.{FollowEnd}
use Rattle.sm_standby.specs.declared.report.FollowEnd.TheVariants as ends
use Rattle.sm_standby.specs.Waiting.{due, without, waits, AreOpen}
use Rattle.sm_standby.specs.Turns.{AsksPlaced, missed, url_of, Whose, candidate, again, Came, absent, kept, later, dropped, Turn, passed, asked, Standing, address_for, placed_of, IsTurnOf, FitsPlace, HasId}
use Rattle.sm_standby.specs.Turns.{kept_by, waits_by, after, Turns, made_by, made_in, kept_of, kept_in, IsUpstream, AreUpstream}
use Rattle.sm_standby.specs.Asked.{IsStep, CameUpstream, Went, tried_by, TriedUpstream, Stopped}
use Rattle.sm_standby.specs.Followed.{at, Follows, tried_turn, Ends}
use Rattle.sm_standby.proofs.Putting.{tries_of}
use Rattle.sm_standby.proofs.Opens.{or_left, or_right, due_open, due_add, open_add, open_without, open_kept}

-- ---- lists of turns

turns_then : (plan : PullPlan) (channel : List Track) (listing : Listing) (s m e : Standing) (ts us : List Turn) → Turns plan channel listing s ts m → Turns plan channel listing m us e
    → Turns plan channel listing s (ts ++ us) e
turns_then plan channel listing s m e [] us first second = subst (λ (x : Standing). Turns plan channel listing x us e) (sym first) second
turns_then plan channel listing s m e (t ∷ ts) us first second = (first.0, turns_then plan channel listing (after s t) m e ts us first.1 second)

pub made_both : (ts us : List Turn) → made_in (ts ++ us) ≡ made_in ts ++ made_in us
made_both [] us = refl
made_both (t ∷ ts) us = ap (λ (xs : List Exchange). made_by t ++ xs) (made_both ts us) ∙ sym (append_assoc (made_by t) (made_in ts) (made_in us))

pub kept_both : (ts us : List Turn) → kept_in (ts ++ us) ≡ kept_in ts ++ kept_in us
kept_both [] us = refl
kept_both (t ∷ ts) us = ap (λ (xs : List Fragment). kept_of t ++ xs) (kept_both ts us) ∙ sym (append_assoc (kept_of t) (kept_in ts) (kept_in us))

pub both_all : {A : Type 0} (P : A → Type 0) (xs ys : List A) → AllByRecursion P xs → AllByRecursion P ys → AllByRecursion P (xs ++ ys)
both_all P [] ys all more = more
both_all P (x ∷ xs) ys all more = (all.0, both_all P xs ys all.1 more)

placed_grown : (place : Place) (url : List ℕ) (a : Address) (n : ℕ) (raw : RawFragment) (up more : List Entry) → IsPlacedAt place url a up (placed.Fragment n raw) → IsPlacedAt place url a (up ++ more) (placed.Fragment n raw)
placed_grown place url a n raw up more at = λ may b names. kept_stays b 0 up more (n, given b.stream b.bitrate raw) (at may b names)

upstream_grown : (place : Place) (listing : Listing) (up more : List Entry) (t : Turn) → IsUpstream place listing up t → IsUpstream place listing (up ++ more) t
upstream_grown place listing up more (passed a) u = tt
upstream_grown place listing up more (asked who made absent) u = tt
upstream_grown place listing up more (asked who made (kept n raw)) u = placed_grown place (url_of listing (address_for who)) (address_for who) n raw up more u
upstream_grown place listing up more (asked who made (later n raw)) u = tt
upstream_grown place listing up more (asked who made (dropped n raw)) u = tt

pub all_grown : (place : Place) (listing : Listing) (up more : List Entry) (ts : List Turn) → AllByRecursion (IsUpstream place listing up) ts → AllByRecursion (IsUpstream place listing (up ++ more)) ts
all_grown place listing up more [] all = tt
all_grown place listing up more (t ∷ ts) all = (upstream_grown place listing up more t all.0, all_grown place listing up more ts all.1)

up_same : (place : Place) (listing : Listing) (s t : List Entry → Type 0) → Grows s t → AreUpstream place listing s t []
up_same place listing s t grows = λ up told. let g = grows up told in (g.0, g.1, tt)

up_then : (place : Place) (listing : Listing) (s t u : List Entry → Type 0) (ts us : List Turn) → AreUpstream place listing s t ts → AreUpstream place listing t u us → AreUpstream place listing s u (ts ++ us)
up_then place listing s t u ts us first second = λ up told.
    let a = first up told in
    let b = second (up ++ a.0) a.1 in
    let joined : (up ++ a.0) ++ b.0 ≡ up ++ (a.0 ++ b.0) = append_assoc up a.0 b.0 in (
      a.0 ++ b.0,
      subst u joined b.1,
      subst (λ (l : List Entry). AllByRecursion (IsUpstream place listing l) (ts ++ us)) joined
          (both_all (IsUpstream place listing ((up ++ a.0) ++ b.0)) ts us (all_grown place listing (up ++ a.0) b.0 ts a.2) b.2),
    )

-- ---- one address

-- what waited before doesn't wait again
again_of : Came → Came
again_of absent = absent
again_of (kept n raw) = kept n raw
again_of (later n raw) = dropped n raw
again_of (dropped n raw) = dropped n raw

step_fits : (next : ℕ) (a : Address) (c : Came) (s : Step) → IsStep next a c s → FitsPlace (candidate a) next c
step_fits next a absent step.Kept h = absurd h
step_fits next a absent (step.Later m b) h = absurd h
step_fits next a absent step.Passed h = tt
step_fits next a (kept n raw) step.Kept h = h
step_fits next a (kept n raw) (step.Later m b) h = absurd h
step_fits next a (kept n raw) step.Passed h = absurd h
step_fits next a (later n raw) step.Kept h = absurd h
step_fits next a (later n raw) (step.Later m b) h = h.0
step_fits next a (later n raw) step.Passed h = absurd h
step_fits next a (dropped n raw) step.Kept h = absurd h
step_fits next a (dropped n raw) (step.Later m b) h = absurd h
step_fits next a (dropped n raw) step.Passed h = h

again_fits : (next : ℕ) (a : Address) (l : Later) (c : Came) (s : Step) → IsStep next a c s → FitsPlace (again l) next (again_of c)
unfolding again_of
again_fits next a l absent s h = tt
again_fits next a l (kept n raw) s h = step_fits next a (kept n raw) s h
again_fits next a l (later n raw) s h = λ e. let lt = step_fits next a (later n raw) s h in absurd (omega (arith, lt, e))
again_fits next a l (dropped n raw) s h = λ e. let lt = step_fits next a (dropped n raw) s h in absurd (omega (arith, lt, e))

again_placed : (c : Came) → placed_of (again_of c) ≡ placed_of c
unfolding again_of
again_placed absent = refl
again_placed (kept n raw) = refl
again_placed (later n raw) = refl
again_placed (dropped n raw) = refl

again_id : (channel : List Track) (a : Address) (c : Came) → HasId channel a c → HasId channel a (again_of c)
unfolding again_of
again_id channel a absent h = h
again_id channel a (kept n raw) h = h
again_id channel a (later n raw) h = h
again_id channel a (dropped n raw) h = h

again_kept : (a : Address) (c : Came) → kept_by a (again_of c) ≡ kept_by a c
unfolding again_of
again_kept a absent = refl
again_kept a (kept n raw) = refl
again_kept a (later n raw) = refl
again_kept a (dropped n raw) = refl

again_up : (place : Place) (url : List ℕ) (a : Address) (c : Came) (up : List Entry) → CameUpstream place url a c up → CameUpstream place url a (again_of c) up
unfolding again_of
again_up place url a absent up h = h
again_up place url a (kept n raw) up h = h
again_up place url a (later n raw) up h = h
again_up place url a (dropped n raw) up h = h

came_up : (place : Place) (listing : Listing) (who : Whose) (made : List Exchange) (c : Came) (up : List Entry) → CameUpstream place (url_of listing (address_for who)) (address_for who) c up
    → IsUpstream place listing up (asked who made c)
came_up place listing who made absent up h = h
came_up place listing who made (kept n raw) up h = h
came_up place listing who made (later n raw) up h = h
came_up place listing who made (dropped n raw) up h = h

-- a fragment that was read has the time that was asked
pub read_time : (time n : ℕ) (raw : RawFragment) (answer : Answer) → SpellsPlaced time answer (placed.Fragment n raw) → raw.time ≡ time
read_time time n raw (answers.Bytes bytes) (start, body, whole, f) = f.0.time_is
read_time time n raw answers.Lost s = absurd (cc)
read_time time n raw answers.NoMemory s = absurd (cc)

pub came_address : (a : Address) (n : ℕ) (raw : RawFragment) → raw.time ≡ a.time → address_of (given a.stream a.bitrate raw) ≡ a
came_address a n raw is = ap (λ (t : ℕ). record { stream = a.stream; bitrate = a.bitrate; time = t }) is

-- what waits stays waiting behind what was kept at another address
open_behind : (log : List Entry) (held : List Later) (place : Place) (url : List ℕ) (a : Address) (tries : ℕ) (made : List Exchange) (c : Came) → AreOpen log held → waits a held ≡ false
    → Gives (AsksPlaced place url a) missed tries made (placed_of c) → AreOpen (log ++ keeps_of (kept_by a c)) held
open_behind log held place url a tries made absent o w g = subst (λ (l : List Entry). AreOpen l held) (sym (append-nil log)) o
open_behind log held place url a tries made (kept n raw) o w g =
    let named : address_of (given a.stream a.bitrate raw) ≡ a = came_address a n raw (read_time a.time n raw g.last.answer g.gave.spelled) in
    open_kept log held (given a.stream a.bitrate raw) o (ap (λ (b : Address). waits b held) named ∙ w)
open_behind log held place url a tries made (later n raw) o w g = subst (λ (l : List Entry). AreOpen l held) (sym (append-nil log)) o
open_behind log held place url a tries made (dropped n raw) o w g = subst (λ (l : List Entry). AreOpen l held) (sym (append-nil log)) o

-- nothing waits where it was kept or has passed
pub step_waits : (next : ℕ) (a : Address) (c : Came) (s : Step) → IsStep next a c s → ((m : ℕ) (b : Address) → s ≡ step.Later m b → ⊥) → waits_by a c ≡ []
step_waits next a absent s h never = refl
step_waits next a (kept n raw) s h never = refl
step_waits next a (later n raw) step.Kept h never = absurd h
step_waits next a (later n raw) (step.Later m b) h never = absurd (never m b refl)
step_waits next a (later n raw) step.Passed h never = absurd h
step_waits next a (dropped n raw) s h never = refl

-- what a step for a later place says
pub record IsLater (next : ℕ) (a : Address) (c : Came) (m : ℕ) (b : Address) : Type 0 where
  pub waits : waits_by a c ≡ (record { place = m; address = a }) ∷ []
  pub kept : kept_by a c ≡ []
  pub address : b ≡ a
  pub lt : next < m

step_later : (next : ℕ) (a : Address) (c : Came) (m : ℕ) (b : Address) → IsStep next a c (step.Later m b) → IsLater next a c m b
step_later next a absent m b h = absurd h
step_later next a (kept n raw) m b h = absurd h
step_later next a (later n raw) m b h = record {
  waits = ap (λ (k : ℕ). (record { place = k; address = a }) ∷ []) (sym h.1);
  kept = refl;
  address = h.2;
  lt = let lt = h.0 in let is = h.1 in omega (arith, lt, is);
}
step_later next a (dropped n raw) m b h = absurd h

-- nothing is kept of what has passed
pub step_passed : (next : ℕ) (a : Address) (c : Came) → IsStep next a c step.Passed → kept_by a c ≡ []
step_passed next a absent h = refl
step_passed next a (kept n raw) h = absurd h
step_passed next a (later n raw) h = absurd h
step_passed next a (dropped n raw) h = refl

pub no_some : {X : Type 0} (o : Option X) → is_some o ≡ false → o ≡ None
no_some None e = refl
no_some (Some x) e = absurd (cc)

pub open_turn : (log : List Entry) (held : List Later) (c : Address) (more : List Address) → due (length log) held ≡ None → (is_some (kept_at log c) || waits c held) ≡ false → IsTurnOf (at log held (c ∷ more)) (candidate c)
open_turn log held c more nothing open' = (nothing, (more, refl), no_some (kept_at log c) (or_left (is_some (kept_at log c)) (waits c held) open'), or_right (is_some (kept_at log c)) (waits c held) open')

-- ---- calls

module _ {D C : Type 0} {site : Seen D} {told : C → Option (List Exchange)} {store : C → List Entry → Type 0}
    {goes_on : C → C → Type 0} {faults : C → ℕ} {chosen : C → Option Peer} {plan : PullPlan} {channel : List Track} where
  -- of the same address
  pub went_at : {d e : D} {x y : C} {a b : Archive} {log : List Entry} {s t : Step} (listing : Listing) (url : List ℕ) (c n : Address) → c ≡ n → url ≡ url_of listing n → s ≡ t
      → Went site told store goes_on faults chosen d e x y plan channel url c a b log s → Went site told store goes_on faults chosen d e x y plan channel (url_of listing n) n a b log t
  went_at {d = d} {e = e} {x = x} {y = y} {a = a} {b = b} {log = log} {s = s} {t = t} listing url c n same named is w =
      subst (λ (p : Step). Went site told store goes_on faults chosen d e x y plan channel (url_of listing n) n a b log p) is (
      subst (λ (u : List ℕ). Went site told store goes_on faults chosen d e x y plan channel u n a b log s) named
      (subst (λ (z : Address). Went site told store goes_on faults chosen d e x y plan channel url z a b log s) same w))

  pub stopped_at : {d e : D} {x y : C} {a b : Archive} {log : List Entry} {end : FollowEnd} (listing : Listing) (url : List ℕ) (c n : Address) → c ≡ n → url ≡ url_of listing n
      → Stopped site told store goes_on faults chosen d e x y plan channel url c a b log end → Stopped site told store goes_on faults chosen d e x y plan channel (url_of listing n) n a b log end
  stopped_at {d = d} {e = e} {x = x} {y = y} {a = a} {b = b} {log = log} {end = end} listing url c n same named w =
      subst (λ (u : List ℕ). Stopped site told store goes_on faults chosen d e x y plan channel u n a b log end) named
      (subst (λ (z : Address). Stopped site told store goes_on faults chosen d e x y plan channel url z a b log end) same w)

  pub later_kept : {d e : D} {x y : C} {a b : Archive} {log : List Entry} {url : List ℕ} {c : Address} {m : ℕ} {n : Address}
      → (w : Went site told store goes_on faults chosen d e x y plan channel url c a b log (step.Later m n)) → kept_by c w.came ≡ []
  later_kept {log = log} {c = c} {m = m} {n = n} w = (step_later (length log) c w.came m n w.step).kept

module _ {D C : Type 0} {site : Seen D} {told : C → Option (List Exchange)} {store : C → List Entry → Type 0}
    {goes_on : C → C → Type 0} {faults : C → ℕ} {chosen : C → Option Peer} {plan : PullPlan} {channel : List Track} {listing : Listing} where
  -- the log that the archive stands for once these turns were taken
  pub follows_stands : {d e : D} {x y : C} {a b : Archive} {s : Standing} {held : List Later} {rest : List Address}
      → (f : Follows site told store goes_on faults chosen d e x y plan channel listing a b s held rest) → Stands b f.log None (site.may_leave e)
  follows_stands {e = e} {b = b} f = subst (λ (l : List Entry). Stands b l None (site.may_leave e)) (sym f.log_is) f.adds.stands

  -- nothing was done
  pub follows_none : ((d : D) (t : ℕ) (c : Image) → site.left_at d t c → t ≤ (site.view d).moment) → ((x : C) → goes_on x x) → (d : D) (x : C) (a : Archive) (log : List Entry) (held : List Later) (rest : List Address)
      → Stands a log None (site.may_leave d) → AreOpen log held → Follows site told store goes_on faults chosen d d x x plan channel listing a a (at log held rest) held rest
  follows_none no_later same d x a log held rest stands waiting = record {
    log = log;
    turns = [];
    legal = refl;
    log_is = sym (append-nil log);
    asks = asks_same same x;
    up = up_same plan.place listing (store x) (store x) (λ up told. ([], subst (store x) (sym (append-nil up)) told));
    adds = adds_none no_later d a log stands;
    waiting = waiting;
  }

  -- a candidate that is there was passed over
  pub follows_passed : ((d : D) (t : ℕ) (c : Image) → site.left_at d t c → t ≤ (site.view d).moment) → ((x : C) → goes_on x x)
      → (d : D) (x : C) (a : Archive) (log : List Entry) (held : List Later) (b : Address) (more : List Address)
      → Stands a log None (site.may_leave d) → AreOpen log held → due (length log) held ≡ None → (is_some (kept_at log b) || waits b held) ≡ true
      → (f : Follows site told store goes_on faults chosen d d x x plan channel listing a a (at log held (b ∷ more)) held more) × (due (length f.log) held ≡ None)
  follows_passed no_later same d x a log held b more stands waiting nothing there = (
    record {
      log = log;
      turns = passed b ∷ [];
      legal = (record { nothing = nothing; first = (more, refl); there = there }, refl);
      log_is = sym (append-nil log);
      asks = asks_same same x;
      up = λ up told. ([], subst (store x) (sym (append-nil up)) told, (tt, tt));
      adds = adds_none no_later d a log stands;
      waiting = waiting;
    },
    nothing,
  )

  -- some turns, and then others
  pub follows_then_is : {d e f : D} {x y z : C} {a b c : Archive} {s : Standing} {held held' : List Later} {rest rest' : List Address} → ((x y z : C) → goes_on x y → goes_on y z → goes_on x z)
      → (first : Follows site told store goes_on faults chosen d e x y plan channel listing a b s held rest)
      → (second : Follows site told store goes_on faults chosen e f y z plan channel listing b c (at first.log held rest) held' rest')
      → (r : Follows site told store goes_on faults chosen d f x z plan channel listing a c s held' rest') × (r.log ≡ second.log)
  follows_then_is {d = d} {e = e} {f = f} {x = x} {y = y} {z = z} {a = a} {b = b} {c = c} {s = s} {held = held} {held' = held'} {rest = rest} {rest' = rest'} on first second = (
    record {
      log = second.log;
      turns = first.turns ++ second.turns;
      legal = turns_then plan channel listing s (at first.log held rest) (at second.log held' rest') first.turns second.turns first.legal second.legal;
      log_is = second.log_is ∙ (ap (λ (l : List Entry). l ++ keeps_of (kept_in second.turns)) first.log_is
          ∙ (log_both s.log (kept_in first.turns) (kept_in second.turns) ∙ ap (λ (fs : List Fragment). s.log ++ keeps_of fs) (sym (kept_both first.turns second.turns))));
      asks = subst (λ (xs : List Exchange). Asks told store goes_on faults chosen x z xs) (sym (made_both first.turns second.turns)) (asks_then on first.asks second.asks);
      up = up_then plan.place listing (store x) (store y) (store z) first.turns second.turns first.up second.up;
      adds = subst (λ (fs : List Fragment). Adds site d f a c s.log fs []) (sym (kept_both first.turns second.turns))
          (adds_then first.adds (subst (λ (l : List Entry). Adds site e f b c l (kept_in second.turns) []) first.log_is second.adds));
      waiting = second.waiting;
    },
    refl,
  )

  pub follows_then : {d e f : D} {x y z : C} {a b c : Archive} {s : Standing} {held held' : List Later} {rest rest' : List Address} → ((x y z : C) → goes_on x y → goes_on y z → goes_on x z)
      → (first : Follows site told store goes_on faults chosen d e x y plan channel listing a b s held rest)
      → Follows site told store goes_on faults chosen e f y z plan channel listing b c (at first.log held rest) held' rest'
      → Follows site told store goes_on faults chosen d f x z plan channel listing a c s held' rest'
  follows_then on first second = (follows_then_is on first second).0

  -- and nothing waits for the next place behind the others
  pub follows_on : {d e f : D} {x y z : C} {a b c : Archive} {s : Standing} {held held' : List Later} {rest rest' : List Address} → ((x y z : C) → goes_on x y → goes_on y z → goes_on x z)
      → (first : Follows site told store goes_on faults chosen d e x y plan channel listing a b s held rest)
      → ((second : Follows site told store goes_on faults chosen e f y z plan channel listing b c (at first.log held rest) held' rest') × (due (length second.log) held' ≡ None))
      → (r : Follows site told store goes_on faults chosen d f x z plan channel listing a c s held' rest') × (due (length r.log) held' ≡ None)
  follows_on {held' = held'} on first second =
      let r = follows_then_is on first second.0 in
      (r.0, subst (λ (l : List Entry). due (length l) held' ≡ None) (sym r.1) second.1)

  -- some turns, and then the end
  pub ends_then : {d e f : D} {x y z : C} {a b c : Archive} {s : Standing} {held : List Later} {rest : List Address} (end : FollowEnd) → ((x y z : C) → goes_on x y → goes_on y z → goes_on x z)
      → (first : Follows site told store goes_on faults chosen d e x y plan channel listing a b s held rest)
      → Ends site told store goes_on faults chosen e f y z plan channel listing b c (at first.log held rest) end
      → Ends site told store goes_on faults chosen d f x z plan channel listing a c s end
  ends_then {d = d} {e = e} {f = f} {x = x} {y = y} {z = z} {a = a} {b = b} {c = c} {s = s} {held = held} {rest = rest} end on first second =
      let made : made_in first.turns ++ (made_in second.turns ++ second.last) ≡ made_in (first.turns ++ second.turns) ++ second.last =
      sym (append_assoc (made_in first.turns) (made_in second.turns) second.last) ∙ ap (λ (xs : List Exchange). xs ++ second.last) (sym (made_both first.turns second.turns)) in
      record {
        to = second.to;
        turns = first.turns ++ second.turns;
        last = second.last;
        tried = second.tried;
        legal = turns_then plan channel listing s (at first.log held rest) second.to first.turns second.turns first.legal second.legal;
        log_is = second.log_is ∙ (ap (λ (l : List Entry). l ++ keeps_of (kept_in second.turns)) first.log_is
            ∙ (log_both s.log (kept_in first.turns) (kept_in second.turns) ∙ ap (λ (fs : List Fragment). s.log ++ keeps_of fs) (sym (kept_both first.turns second.turns))));
        stops = second.stops;
        asks = subst (λ (xs : List Exchange). Asks told store goes_on faults chosen x z xs) made (asks_then on first.asks second.asks);
        up = subst (AreUpstream plan.place listing (store x) (store z)) (sym (append_assoc first.turns second.turns second.tried))
            (up_then plan.place listing (store x) (store y) (store z) first.turns (second.turns ++ second.tried) first.up second.up);
        adds = subst (λ (fs : List Fragment). Adds site d f a c s.log fs (kept_in second.tried)) (sym (kept_both first.turns second.turns))
            (adds_then first.adds (subst (λ (l : List Entry). Adds site e f b c l (kept_in second.turns) (kept_in second.tried)) first.log_is second.adds));
        fault = λ is. rose_since (site.view d).disk_faults (site.view e).disk_faults (site.view f).disk_faults first.adds.disk_alone.no_fewer (second.fault is);
      }

  -- a candidate was asked for
  pub follows_candidate : {d e : D} {x y : C} {a b : Archive} (log : List Entry) (held held' : List Later) (c : Address) (more : List Address) (s : Step)
      → (w : Went site told store goes_on faults chosen d e x y plan channel (url_of listing c) c a b log s) → IsTurnOf (at log held (c ∷ more)) (candidate c) → AreOpen log held
      → held' ≡ held ++ waits_by c w.came → AreOpen (log ++ keeps_of (kept_by c w.came)) held'
      → (f : Follows site told store goes_on faults chosen d e x y plan channel listing a b (at log held (c ∷ more)) held' more) × (f.log ≡ log ++ keeps_of (kept_by c w.came))
  follows_candidate {d = d} {e = e} {x = x} {y = y} {a = a} {b = b} log held held' c more s w turn waiting is waiting' = (
    record {
      log = log ++ keeps_of (kept_by c w.came);
      turns = asked (candidate c) w.made w.came ∷ [];
      legal = (record { turn = turn; gives = w.gives; id = w.id; fits = step_fits (length log) c w.came s w.step }, ap (λ (h : List Later). at (log ++ keeps_of (kept_by c w.came)) h more) (sym is));
      log_is = ap (λ (fs : List Fragment). log ++ keeps_of fs) (sym (append-nil (kept_by c w.came)));
      asks = subst (λ (xs : List Exchange). Asks told store goes_on faults chosen x y xs) (sym (append-nil w.made)) w.asks;
      up = λ up told. let u = w.up up told in (u.0, u.1, (came_up plan.place listing (candidate c) w.made w.came (up ++ u.0) u.2, tt));
      adds = subst (λ (fs : List Fragment). Adds site d e a b log fs []) (sym (append-nil (kept_by c w.came))) w.adds;
      waiting = waiting';
    },
    refl,
  )

  -- it was kept, or passed over
  pub follows_settled : {d e : D} {x y : C} {a b : Archive} (log : List Entry) (held : List Later) (c : Address) (more : List Address) (s : Step)
      → (w : Went site told store goes_on faults chosen d e x y plan channel (url_of listing c) c a b log s) → IsTurnOf (at log held (c ∷ more)) (candidate c) → AreOpen log held
      → ((m : ℕ) (n : Address) → s ≡ step.Later m n → ⊥)
      → (f : Follows site told store goes_on faults chosen d e x y plan channel listing a b (at log held (c ∷ more)) held more)
      × (f.log ≡ log ++ keeps_of (kept_by c w.came))
  follows_settled log held c more s w turn waiting never =
      follows_candidate log held held c more s w turn waiting (sym (ap (λ (ls : List Later). held ++ ls) (step_waits (length log) c w.came s w.step never) ∙ append-nil held))
      (open_behind log held plan.place (url_of listing c) c plan.tries w.made w.came waiting turn.3 w.gives)

  pub follows_dropped : {d e : D} {x y : C} {a b : Archive} (log : List Entry) (held : List Later) (c : Address) (more : List Address)
      → Went site told store goes_on faults chosen d e x y plan channel (url_of listing c) c a b log step.Passed → IsTurnOf (at log held (c ∷ more)) (candidate c) → AreOpen log held
      → (f : Follows site told store goes_on faults chosen d e x y plan channel listing a b (at log held (c ∷ more)) held more) × (due (length f.log) held ≡ None)
  follows_dropped log held c more w turn waiting =
      let f = follows_settled log held c more step.Passed w turn waiting (λ m n e. cc) in
      let same : f.0.log ≡ log = f.1 ∙ (ap (λ (fs : List Fragment). log ++ keeps_of fs) (step_passed (length log) c w.came w.step) ∙ append-nil log) in
      (f.0, subst (λ (l : List Entry). due (length l) held ≡ None) (sym same) turn.0)

  -- its place comes later
  pub follows_later : {d e : D} {x y : C} {a b : Archive} (log : List Entry) (held held' : List Later) (c : Address) (more : List Address) (m : ℕ) (n : Address)
      → (w : Went site told store goes_on faults chosen d e x y plan channel (url_of listing c) c a b log (step.Later m n)) → IsTurnOf (at log held (c ∷ more)) (candidate c) → AreOpen log held
      → held' ≡ held ++ (record { place = m; address = n }) ∷ []
      → (f : Follows site told store goes_on faults chosen d e x y plan channel listing a b (at log held (c ∷ more)) held' more) × (due (length f.log) held' ≡ None)
  follows_later {d = d} {e = e} {x = x} {y = y} {a = a} {b = b} log held held' c more m n w turn waiting is =
      let l = step_later (length log) c w.came m n w.step in
      let same : log ++ keeps_of (kept_by c w.came) ≡ log = ap (λ (fs : List Fragment). log ++ keeps_of fs) l.kept ∙ append-nil log in
      let added : held' ≡ held ++ (record { place = m; address = c }) ∷ [] = is ∙ ap (λ (z : Address). held ++ (record { place = m; address = z }) ∷ []) l.address in
      let held-is : held' ≡ held ++ waits_by c w.came = added ∙ sym (ap (λ (ls : List Later). held ++ ls) l.waits) in
      let there : AreOpen (log ++ keeps_of (kept_by c w.came)) held' =
      subst (λ (k : List Entry). AreOpen k held') (sym same) (subst (AreOpen log) (sym added) (open_add log held m c waiting turn.2 turn.3)) in
      let nothing : due (length log) held' ≡ None = subst (λ (h : List Later). due (length log) h ≡ None) (sym added) (due_add (length log) m c held turn.0 l.lt) in
      let f = follows_candidate log held held' c more (step.Later m n) w turn waiting held-is there in
      (f.0, subst (λ (k : List Entry). due (length k) held' ≡ None) (sym (f.1 ∙ same)) nothing)

  -- what waited was asked for again
  pub follows_again : {d e : D} {x y : C} {a b : Archive} (log : List Entry) (held : List Later) (l : Later) (rest : List Address) (s : Step)
      → Went site told store goes_on faults chosen d e x y plan channel (url_of listing l.address) l.address a b log s → due (length log) held ≡ Some l → AreOpen log held
      → Follows site told store goes_on faults chosen d e x y plan channel listing a b (at log held rest) (without (length log) held) rest
  follows_again {d = d} {e = e} {x = x} {y = y} {a = a} {b = b} log held l rest s w turn waiting =
      let same : kept_by l.address (again_of w.came) ≡ kept_by l.address w.came = again_kept l.address w.came in
      let all : kept_by l.address (again_of w.came) ++ [] ≡ kept_by l.address w.came = append-nil (kept_by l.address (again_of w.came)) ∙ same in
      let asks_same' : Gives (AsksPlaced plan.place (url_of listing l.address) l.address) missed plan.tries w.made (placed_of (again_of w.came)) =
      subst (Gives (AsksPlaced plan.place (url_of listing l.address) l.address) missed plan.tries w.made) (sym (again_placed w.came)) w.gives in
      let d' = due_open log (length log) held l waiting turn in
      record {
        log = log ++ keeps_of (kept_by l.address (again_of w.came));
        turns = asked (again l) w.made (again_of w.came) ∷ [];
        legal = (record { turn = turn; gives = asks_same'; id = again_id channel l.address w.came w.id; fits = again_fits (length log) l.address l w.came s w.step }, refl);
        log_is = ap (λ (fs : List Fragment). log ++ keeps_of fs) (sym (append-nil (kept_by l.address (again_of w.came))));
        asks = subst (λ (xs : List Exchange). Asks told store goes_on faults chosen x y xs) (sym (append-nil w.made)) w.asks;
        up = λ up told. let u = w.up up told in (u.0, u.1, (came_up plan.place listing (again l) w.made (again_of w.came) (up ++ u.0) (again_up plan.place (url_of listing l.address) l.address w.came (up ++ u.0) u.2), tt));
        adds = subst (λ (fs : List Fragment). Adds site d e a b log fs []) (sym all) w.adds;
        waiting = open_behind log (without (length log) held) plan.place (url_of listing l.address) l.address plan.tries w.made (again_of w.came) (open_without log (length log) held waiting) d'.gone asks_same';
      }

  -- memory was wanted before anything was asked
  pub ends_none : ((d : D) (t : ℕ) (c : Image) → site.left_at d t c → t ≤ (site.view d).moment) → ((x : C) → goes_on x x) → (d : D) (x : C) (a : Archive) (log : List Entry) (held : List Later) (rest : List Address)
      → Stands a log None (site.may_leave d) → Ends site told store goes_on faults chosen d d x x plan channel listing a a (at log held rest) ends.NoMemory
  ends_none no_later same d x a log held rest stands = record {
    to = at log held rest;
    turns = [];
    last = [];
    tried = [];
    legal = refl;
    log_is = sym (append-nil log);
    stops = inl (refl, refl, refl);
    asks = asks_same same x;
    up = up_same plan.place listing (store x) (store x) (λ up told. ([], subst (store x) (sym (append-nil up)) told));
    adds = adds_none no_later d a log stands;
    fault = λ is. absurd (cc);
  }

  -- an address was asked for whose turn it was, and the call ended
  pub ends_one : {d e : D} {x y : C} {a b : Archive} (log : List Entry) (held : List Later) (rest : List Address) (who : Whose) (end : FollowEnd)
      → Stopped site told store goes_on faults chosen d e x y plan channel (url_of listing (address_for who)) (address_for who) a b log end → IsTurnOf (at log held rest) who
      → (end ≡ ends.DiskFault → Rose (site.view d).disk_faults (site.view e).disk_faults)
      → Ends site told store goes_on faults chosen d e x y plan channel listing a b (at log held rest) end
  ends_one {d = d} {e = e} {x = x} {y = y} {a = a} {b = b} log held rest who end w turn fault = record {
    to = at log held rest;
    turns = [];
    last = w.made;
    tried = tried_turn who w.made w.tried;
    legal = refl;
    log_is = sym (append-nil log);
    stops = inr (who, w.tried, turn, refl, w.stops);
    asks = w.asks;
    up = λ up told. let u = w.up up told in (u.0, u.1, tried_up w.tried (up ++ u.0) u.2);
    adds = subst (λ (fs : List Fragment). Adds site d e a b log [] fs) (tried_kept w.tried) w.adds;
    fault = fault;
  }
    where
      tried_up : (cs : List Came) (up : List Entry) → TriedUpstream plan.place (url_of listing (address_for who)) (address_for who) cs up → AllByRecursion (IsUpstream plan.place listing up) (tried_turn who w.made cs)
      tried_up [] up u = tt
      tried_up (c ∷ cs) up u = (came_up plan.place listing who w.made c up u, tt)

      tried_kept : (cs : List Came) → tried_by (address_for who) cs ≡ kept_in (tried_turn who w.made cs)
      tried_kept [] = refl
      tried_kept (c ∷ cs) = sym (append-nil (kept_by (address_for who) c))

  -- memory was wanted once a candidate had come
  pub ends_wanting : {d e : D} {x y : C} {a b : Archive} (log : List Entry) (held : List Later) (c : Address) (rest : List Address) (s : Step)
      → (w : Went site told store goes_on faults chosen d e x y plan channel (url_of listing c) c a b log s) → IsTurnOf (at log held rest) (candidate c) → kept_by c w.came ≡ []
      → Ends site told store goes_on faults chosen d e x y plan channel listing a b (at log held rest) ends.NoMemory
  ends_wanting {d = d} {e = e} {x = x} {y = y} {a = a} {b = b} log held c rest s w turn none =
      ends_one log held rest (candidate c) ends.NoMemory
      (record {
        made = w.made;
        tried = [];
        stops = inl (tries_of plan.place (url_of listing c) c plan.tries w.made (placed_of w.came) w.gives, refl);
        asks = w.asks;
        up = λ up told. let u = w.up up told in (u.0, u.1, tt);
        adds = subst (λ (fs : List Fragment). Adds site d e a b log fs []) none w.adds;
      })
      turn (λ is. absurd (cc))

  -- nothing was done, and nothing waits for the next place
  pub follows_start : ((d : D) (t : ℕ) (c : Image) → site.left_at d t c → t ≤ (site.view d).moment) → ((x : C) → goes_on x x) → (d : D) (x : C) (a : Archive) (log : List Entry) (held : List Later) (rest : List Address)
      → Stands a log None (site.may_leave d) → AreOpen log held → due (length log) held ≡ None
      → (f : Follows site told store goes_on faults chosen d d x x plan channel listing a a (at log held rest) held rest) × (due (length f.log) held ≡ None)
  follows_start no_later same d x a log held rest stands waiting nothing = (
    record {
      log = log;
      turns = [];
      legal = refl;
      log_is = sym (append-nil log);
      asks = asks_same same x;
      up = up_same plan.place listing (store x) (store x) (λ up told. ([], subst (store x) (sym (append-nil up)) told));
      adds = adds_none no_later d a log stands;
      waiting = waiting;
    },
    nothing,
  )

  pub follows_end : {d e : D} {x y : C} {a b : Archive} {s : Standing} {held : List Later} (rest rest' : List Address) → rest ≡ rest'
      → (f : Follows site told store goes_on faults chosen d e x y plan channel listing a b s held rest) × (due (length f.log) held ≡ None)
      → (f : Follows site told store goes_on faults chosen d e x y plan channel listing a b s held rest') × (due (length f.log) held ≡ None)
  follows_end {d = d} {e = e} {x = x} {y = y} {a = a} {b = b} {s = s} {held = held} rest rest' is before =
      subst (λ (r : List Address). (f : Follows site told store goes_on faults chosen d e x y plan channel listing a b s held r) × (due (length f.log) held ≡ None)) is before

  -- what was done, and then what comes next
  pub follows_next : {d e f : D} {x y z : C} {a b c : Archive} {s : Standing} {held held' : List Later} (rest mid rest' : List Address) → ((x y z : C) → goes_on x y → goes_on y z → goes_on x z)
      → (r : Follows site told store goes_on faults chosen d e x y plan channel listing a b s held rest) × (due (length r.log) held ≡ None) → rest ≡ mid
      → ((log : List Entry) → Stands b log None (site.may_leave e) → AreOpen log held → due (length log) held ≡ None
      → (r : Follows site told store goes_on faults chosen e f y z plan channel listing b c (at log held mid) held' rest') × (due (length r.log) held' ≡ None))
      → (r : Follows site told store goes_on faults chosen d f x z plan channel listing a c s held' rest') × (due (length r.log) held' ≡ None)
  follows_next rest mid rest' on before is next =
      let b = follows_end rest mid is before in
      follows_on on b.0 (next b.0.log (follows_stands b.0) b.0.waiting b.1)

  pub ends_next : {d e f : D} {x y z : C} {a b c : Archive} {s : Standing} {held : List Later} (rest mid : List Address) (end : FollowEnd) → ((x y z : C) → goes_on x y → goes_on y z → goes_on x z)
      → (r : Follows site told store goes_on faults chosen d e x y plan channel listing a b s held rest) × (due (length r.log) held ≡ None) → rest ≡ mid
      → ((log : List Entry) → Stands b log None (site.may_leave e) → AreOpen log held → due (length log) held ≡ None → Ends site told store goes_on faults chosen e f y z plan channel listing b c (at log held mid) end)
      → Ends site told store goes_on faults chosen d f x z plan channel listing a c s end
  ends_next rest mid end on before is next =
      let b = follows_end rest mid is before in
      ends_then end on b.0 (next b.0.log (follows_stands b.0) b.0.waiting b.1)
