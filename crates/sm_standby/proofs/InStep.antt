-- A standby over a primary that answers: what it keeps, and what waits, stands in the primary's log at its place.
use Rattle.std.proofs.Common.{◌≡◌, ◌<◌, ℕ, cond, eqb, List, [], ◌∷◌, ◌++◌, length, slice_get, Some, None, ap, sym, ◌∙◌, subst, append_assoc, append-nil}
use Rattle.std.specs.Prelude.{All}
use Rattle.std.specs.List.{AllByRecursion}
use Rattle.sm_model.specs.declared.address.Address.{Address}
use Rattle.sm_model.specs.declared.entry.Entry.{Entry}
use Rattle.sm_model.specs.declared.entry.Entry.TheVariants.{Keep}
use Rattle.sm_model.specs.declared.fragment.Fragment.{Fragment}
use Rattle.sm_model.specs.declared.track.Track.{Track}
use Rattle.sm_model.specs.Channels.{IsNarrowTrack}
use Rattle.sm_log.specs.Logs.{kept_at}
use Rattle.sm_log.proofs.AllLogs.{kept_stays}
use Rattle.sm_manin.specs.declared.listing.Listing.{Listing}
use Rattle.sm_manout.specs.ManifestText.{url}
use Rattle.sm_fetch.specs.declared.dial.Answer.{Answer}
use Rattle.sm_fetch.specs.declared.dial.Exchange.{Exchange}
use Rattle.sm_fetch.specs.declared.got.Got.TheVariants as got
use Rattle.sm_fetch.specs.Origins.{FromOrigin}
use Rattle.sm_fetch.specs.Placing.{SpellsPlaced}
use Rattle.sm_fetch.specs.Requests.{fragment_request}
use Rattle.sm_fetch.specs.Spelt.{given}
use Rattle.sm_client.specs.Origins.{again}
use Rattle.sm_client.specs.Served.{IsMoment, AnsweredBy, IsPlace}
use Rattle.sm_client.specs.Stands.{miss_of}
use Rattle.sm_client.proofs.Serving.{manifest-read}
use Rattle.sm_pull.specs.declared.plan.PullPlan.{PullPlan}
use Rattle.sm_pull.specs.Adds.{keeps_of}
use Rattle.sm_pull.specs.Asks.{AsksManifest, Gives}
use Rattle.sm_pull.specs.Below.{Places}
use Rattle.sm_pull.specs.Tracks.{HasTracks}
use Rattle.sm_pull.proofs.Tried.{both_all}
use Rattle.sm_standby.specs.declared.held.Later.{Later}
use Rattle.sm_standby.specs.Followed.{at}
use Rattle.sm_standby.specs.Rounds as rounds
use Rattle.sm_standby.specs.Rounds.{addresses_of, Round, AreRounds}
use Rattle.sm_standby.specs.Turns as turns
use Rattle.sm_standby.specs.Turns.{AsksPlaced, missed, url_of, Whose, candidate, again as anew, Came, absent, kept, later, dropped, Turn, passed, asked, Standing, address_for, placed_of, IsTurnOf, FitsPlace}
use Rattle.sm_standby.specs.Turns.{MayTurn, kept_by, waits_by, behind, after, Turns, made_in}
use Rattle.sm_standby.specs.Waiting.{due, without}
use Rattle.sm_standby.proofs.Askable.{all_to, leads_to_askable, url_there}
use Rattle.sm_standby.proofs.Logs.{get_more, places_push, kept_there, fits_next}
use Rattle.sm_standby.proofs.Opens.{by_bool}
use Rattle.sm_standby.proofs.Primary.{IsAskable, placed_read, placed_absent}
use Rattle.sm_pull.proofs.Moments.{answered_split, answered_grows, last_at}

-- ---- what waits

-- the primary's log has a fragment at the address and the place
pub record HeldIs (up : List Track) (log : List Entry) (l : Later) : Type 0 where
  pub fragment : Fragment
  pub kept : kept_at log l.address ≡ Some (l.place, fragment)
  pub ask : IsAskable up l.address

pub record InStep (up : List Track) (log : List Entry) (s : Standing) : Type 0 where
  pub places : Places s.log log
  pub held : AllByRecursion (HeldIs up log) s.held
  pub rest : AllByRecursion (IsAskable up) s.rest

pub places_on : (log up more : List Entry) → Places log up → Places log (up ++ more)
places_on log up more all = λ p f e. get_more up more p (Keep f) (all p f e)

held_on : (up : List Track) (log more : List Entry) (l : Later) → HeldIs up log l → HeldIs up (log ++ more) l
held_on up log more l h = record { fragment = h.fragment; kept = kept_stays l.address 0 log more (l.place, h.fragment) h.kept; ask = h.ask }

pub in_step_on : (up : List Track) (log more last : List Entry) (s : Standing) → last ≡ log ++ more → InStep up log s → InStep up last s
in_step_on up log more last s is i = subst (λ (l : List Entry). InStep up l s) (sym is) (record {
  places = places_on s.log log more i.places;
  held = all_to (HeldIs up log) (HeldIs up (log ++ more)) s.held (λ l h. held_on up log more l h) i.held;
  rest = i.rest;
})

all_without : (P : Later → Type 0) (n : ℕ) (held : List Later) → AllByRecursion P held → AllByRecursion P (without n held)
all_without P n [] all = tt
all_without P n (l ∷ more) all = by_bool (eqb l.place n) (λ b. AllByRecursion P (cond b more (l ∷ without n more))) (λ is. all.1) (λ is. (all.0, all_without P n more all.1))

pub due_has : (P : Later → Type 0) (n : ℕ) (held : List Later) (l : Later) → AllByRecursion P held → due n held ≡ Some l → P l
due_has P n [] l all d = absurd (cc)
due_has P n (k ∷ more) l all d =
    by_bool (eqb k.place n) (λ b. cond b (Some k) (due n more) ≡ Some l → P l) (λ is h. subst P (some_same k l h) all.0) (λ is h. due_has P n more l all.1 h) d
  where
    some_same : (x y : Later) → Some x ≡ Some y → x ≡ y
    some_same x y e = cc

all_behind : (P : Address → Type 0) (rest : List Address) → AllByRecursion P rest → AllByRecursion P (behind rest)
all_behind P [] all = tt
all_behind P (a ∷ more) all = all.1

-- ---- what came

-- what the log has there
abbrev pub CameIs : List Entry → Address → Came → Type 0
CameIs log a absent = kept_at log a ≡ None
CameIs log a (kept n raw) = kept_at log a ≡ Some (n, given a.stream a.bitrate raw)
CameIs log a (later n raw) = kept_at log a ≡ Some (n, given a.stream a.bitrate raw)
CameIs log a (dropped n raw) = kept_at log a ≡ Some (n, given a.stream a.bitrate raw)

-- what came is what the log had at the moment of the last answer
pub record CameAt (up : List Track) (log last : List Entry) (a : Address) (c : Came) : Type 0 where
  pub moment : List Entry
  pub is : IsMoment up moment
  pub since : List Entry
  pub moment_is : moment ≡ log ++ since
  pub until : List Entry
  pub later_is : last ≡ moment ++ until
  pub came : CameIs moment a c

-- a manifest is that of the log at the moment of its answer
pub record ReadAt (up : List Track) (log last : List Entry) (listing : Listing) : Type 0 where
  pub moment : List Entry
  pub is : IsMoment up moment
  pub since : List Entry
  pub moment_is : moment ≡ log ++ since
  pub until : List Entry
  pub later_is : last ≡ moment ++ until
  pub listing_is : listing ≡ again up moment

module _ (plan : PullPlan) (up : List Track) (place_is : IsPlace plan.place) (narrow : All IsNarrowTrack up) where
  came_is : (log : List Entry) (pattern : List ℕ) (a : Address) (c : Came) (answer : Answer) → IsAskable up a → pattern ≡ url a.stream
      → FromOrigin log (fragment_request plan.place pattern a) answer → SpellsPlaced a.time answer (placed_of c) → CameIs log a c
  came_is log pattern a absent answer k is from s = placed_absent plan.place up place_is narrow log pattern a answer k is from s
  came_is log pattern a (kept n raw) answer k is from s = (placed_read plan.place up place_is narrow log pattern a n raw answer k is from s).0
  came_is log pattern a (later n raw) answer k is from s = (placed_read plan.place up place_is narrow log pattern a n raw answer k is from s).0
  came_is log pattern a (dropped n raw) answer k is from s = (placed_read plan.place up place_is narrow log pattern a n raw answer k is from s).0

  pub came_at : (log last : List Entry) (pattern : List ℕ) (a : Address) (made : List Exchange) (c : Came) → IsAskable up a → pattern ≡ url a.stream
      → Gives (AsksPlaced plan.place pattern a) missed plan.tries made (placed_of c) → AnsweredBy up log made last → CameAt up log last a c
  came_at log last pattern a made c k is gives answered =
      let here = last_at up log last gives.missed gives.last (subst (λ (xs : List Exchange). AnsweredBy up log xs last) gives.made_is answered) in
      record {
        moment = here.moment;
        is = here.is;
        since = here.since;
        moment_is = here.moment_is;
        until = here.until;
        later_is = here.later_is;
        came = came_is here.moment pattern a c gives.last.answer k is (subst (λ (r : List ℕ). FromOrigin here.moment r gives.last.answer) gives.gave.request_is here.from) gives.gave.spelled;
      }

  pub read_at : (log last : List Entry) (made : List Exchange) (listing : Listing) → Gives (AsksManifest plan.place) miss_of plan.tries made (got.Manifest listing) → AnsweredBy up log made last
      → ReadAt up log last listing
  read_at log last made listing gives answered =
      let here = last_at up log last gives.missed gives.last (subst (λ (xs : List Exchange). AnsweredBy up log xs last) gives.made_is answered) in
      record {
        moment = here.moment;
        is = here.is;
        since = here.since;
        moment_is = here.moment_is;
        until = here.until;
        later_is = here.later_is;
        listing_is = manifest-read plan.place up here.moment listing gives.last.answer place_is narrow here.is
            (subst (λ (r : List ℕ). FromOrigin here.moment r gives.last.answer) gives.gave.request_is here.from) gives.gave.spelled;
      }

  -- ---- one turn

  -- what was kept has its place
  pub came_places : (log moment until last : List Entry) (who : Whose) (a : Address) (c : Came) → last ≡ moment ++ until → FitsPlace who (length log) c → CameIs moment a c → Places log last
      → Places (log ++ keeps_of (kept_by a c)) last
  came_places log moment until last who a absent is fits came all = subst (λ (l : List Entry). Places l last) (sym (append-nil log)) all
  came_places log moment until last who a (kept n raw) is fits came all =
      let f = given a.stream a.bitrate raw in
      let here : kept_at last a ≡ Some (n, f) = subst (λ (l : List Entry). kept_at l a ≡ Some (n, f)) (sym is) (kept_stays a 0 moment until (n, f) came) in
      places_push log last f all (subst (λ (i : ℕ). slice_get last i ≡ Some (Keep f)) (fits_next who (length log) n raw fits) (kept_there last a n f here))
  came_places log moment until last who a (later n raw) is fits came all = subst (λ (l : List Entry). Places l last) (sym (append-nil log)) all
  came_places log moment until last who a (dropped n raw) is fits came all = subst (λ (l : List Entry). Places l last) (sym (append-nil log)) all

  -- what waits now has its place
  waits_held : (moment until last : List Entry) (a : Address) (c : Came) (held : List Later) → last ≡ moment ++ until → IsAskable up a → CameIs moment a c → AllByRecursion (HeldIs up last) held
      → AllByRecursion (HeldIs up last) (held ++ waits_by a c)
  waits_held moment until last a absent held is k came all = both_all (HeldIs up last) held [] all tt
  waits_held moment until last a (kept n raw) held is k came all = both_all (HeldIs up last) held [] all tt
  waits_held moment until last a (later n raw) held is k came all =
      let f = given a.stream a.bitrate raw in
      let here : kept_at last a ≡ Some (n, f) = subst (λ (l : List Entry). kept_at l a ≡ Some (n, f)) (sym is) (kept_stays a 0 moment until (n, f) came) in
      both_all (HeldIs up last) held ((record { place = n; address = a }) ∷ []) all (record { fragment = f; kept = here; ask = k }, tt)
  waits_held moment until last a (dropped n raw) held is k came all = both_all (HeldIs up last) held [] all tt

  -- whose turn it is may be asked for
  pub turn_askable : (log : List Entry) (s : Standing) (who : Whose) → InStep up log s → IsTurnOf s who → IsAskable up (address_for who)
  turn_askable log s (candidate a) i turn = let all = subst (AllByRecursion (IsAskable up)) turn.1.1 i.rest in all.0
  turn_askable log s (anew l) i turn = (due_has (HeldIs up log) (length s.log) s.held l i.held turn).ask

  module _ (names : AllByRecursion (λ (t : Track). All (λ b. b < 256) t.name) up) (channel : List Track) (listing : Listing) (moment : List Entry) (listing_is : listing ≡ again up moment) where
    -- what came of an address whose turn it was
    pub turn_came : (log last : List Entry) (s : Standing) (who : Whose) (made : List Exchange) (c : Came) → InStep up log s → IsTurnOf s who
        → Gives (AsksPlaced plan.place (url_of listing (address_for who)) (address_for who)) missed plan.tries made (placed_of c) → AnsweredBy up log made last → CameAt up log last (address_for who) c
    turn_came log last s who made c i turn gives answered =
        let k = turn_askable log s who i turn in
        came_at log last (url_of listing (address_for who)) (address_for who) made c k (url_there up names moment listing (address_for who) listing_is k) gives answered

    pub turn_in : (log last : List Entry) (s : Standing) (t : Turn) → InStep up log s → MayTurn plan channel listing s t → AnsweredBy up log (turns.made_by t) last → InStep up last (after s t)
    turn_in log last s (passed a) i may answered =
        let j = in_step_on up log answered.0 last s answered.1 i in record { places = j.places; held = j.held; rest = all_behind (IsAskable up) s.rest j.rest }
    turn_in log last s (asked (candidate a) made c) i may answered =
        let g = answered_grows up log last made answered in
        let j = in_step_on up log g.0 last s g.1 i in
        let came = turn_came log last s (candidate a) made c i may.turn may.gives answered in
        record {
          places = came_places s.log came.moment came.until last (candidate a) a c came.later_is may.fits came.came j.places;
          held = waits_held came.moment came.until last a c s.held came.later_is (turn_askable log s (candidate a) i may.turn) came.came j.held;
          rest = all_behind (IsAskable up) s.rest j.rest;
        }
    turn_in log last s (asked (anew l) made c) i may answered =
        let g = answered_grows up log last made answered in
        let j = in_step_on up log g.0 last s g.1 i in
        let came = turn_came log last s (anew l) made c i may.turn may.gives answered in
        record {
          places = came_places s.log came.moment came.until last (anew l) l.address c came.later_is may.fits came.came j.places;
          held = all_without (HeldIs up last) (length s.log) s.held j.held;
          rest = j.rest;
        }

    pub turns_in : (log last : List Entry) (s e : Standing) (ts : List Turn) → InStep up log s → Turns plan channel listing s ts e → AnsweredBy up log (made_in ts) last → InStep up last e
    turns_in log last s e [] i legal answered = subst (InStep up last) legal (in_step_on up log answered.0 last s answered.1 i)
    turns_in log last s e (t ∷ ts) i legal answered =
        let r = answered_split up log last (turns.made_by t) (made_in ts) answered in
        turns_in r.0 last (after s t) e ts (turn_in log r.0 s t i legal.0 r.1) legal.1 r.2

  -- ---- rounds

  module _ (names : AllByRecursion (λ (t : Track). All (λ b. b < 256) t.name) up) (channel : List Track) where
    -- a round begins in step
    pub begins_in : (log last : List Entry) (own : List Entry) (held : List Later) (listing : Listing) (read : ReadAt up log last listing) → HasTracks listing channel → Places own log
        → AllByRecursion (HeldIs up log) held → InStep up last (at own held (addresses_of channel listing))
    begins_in log last own held listing read tracks places waiting =
        let is : last ≡ log ++ (read.since ++ read.until) = read.later_is ∙ (ap (λ (l : List Entry). l ++ read.until) read.moment_is ∙ append_assoc log read.since read.until) in
        in_step_on up log (read.since ++ read.until) last (at own held (addresses_of channel listing)) is
        (record { places = places; held = waiting; rest = leads_to_askable up names read.moment channel listing read.is.sound read.listing_is tracks })

    pub rounds_in : (log last : List Entry) (own own' : List Entry) (held held' : List Later) (rs : List Round) → Places own log → AllByRecursion (HeldIs up log) held
        → AreRounds plan channel own held rs own' held' → AnsweredBy up log (rounds.made_by rs) last → Places own' last × AllByRecursion (HeldIs up last) held'
    rounds_in log last own own' held held' [] places waiting legal answered =
        let i = in_step_on up log answered.0 last (at own held []) answered.1 (record { places = places; held = waiting; rest = tt }) in
        (subst (λ (l : List Entry). Places l last) legal.0 i.places, subst (AllByRecursion (HeldIs up last)) legal.1 i.held)
    rounds_in log last own own' held held' (r ∷ rs) places waiting (mid, wait, is, more) answered =
        let s = answered_split up log last (r.reads ++ made_in r.turns) (rounds.made_by rs) answered in
        let t = answered_split up log s.0 r.reads (made_in r.turns) s.1 in
        let read = read_at log t.0 r.reads r.listing is.reads t.1 in
        let begun = begins_in log t.0 own held r.listing read is.tracks places waiting in
        let ended = turns_in names channel r.listing read.moment read.listing_is t.0 s.0 (at own held (addresses_of channel r.listing)) (at mid wait []) r.turns begun is.turns t.2 in
        rounds_in s.0 last mid own' wait held' rs ended.places ended.held more s.2
