-- No answer of a primary that answers each request ends a standby of it; and what a call keeps, and was to keep last, has its place.
use Rattle.std.proofs.Common.{◌≡◌, ◌<◌, ℕ, true, false, List, [], ◌∷◌, ◌++◌, length, Option, Some, None, refl, ap, sym, ◌∙◌, subst, append_assoc, append-nil, arith, inl, inr}
use Rattle.std.specs.Prelude.{All, Contains}
use Rattle.std.specs.List.{AllByRecursion}
use Rattle.std.proofs.lemmas.List.Elements.{Contains-append_right}
use Rattle.sm_model.specs.declared.address.Address.{Address}
use Rattle.sm_model.specs.declared.cause.Cause.{Cause}
use Rattle.sm_model.specs.declared.entry.Entry.{Entry}
use Rattle.sm_model.specs.declared.fragment.Fragment.{Fragment}
use Rattle.sm_model.specs.declared.track.Track.{Track}
use Rattle.sm_model.specs.Channels.{IsNarrowTrack}
use Rattle.sm_log.specs.declared.verdict.Judged.{Judged}
use Rattle.sm_log.specs.declared.verdict.Judged.TheVariants as judged
use Rattle.sm_log.specs.Logs.{listed_in, verdict_on}
use Rattle.sm_log.proofs.ListedKept.{channel_sound}
use Rattle.sm_manin.specs.declared.listing.Listing.{Listing}
use Rattle.sm_archive.specs.declared.archive.Archive.{Archive}
use Rattle.sm_archive.specs.Keeping.{refusal_of}
use Rattle.sm_fetch.specs.declared.dial.Exchange.{Exchange}
use Rattle.sm_fetch.specs.declared.got.Got.TheVariants as got
use Rattle.sm_manout.specs.ManifestText.{url}
use Rattle.sm_fetch.specs.Origins.{FromOrigin}
use Rattle.sm_fetch.specs.Spelt.{given}
use Rattle.sm_client.specs.declared.report.Miss.{Miss}
use Rattle.sm_client.specs.Origins.{again}
use Rattle.sm_client.specs.Served.{AnsweredBy, IsPlace}
use Rattle.sm_client.specs.Stands.{miss_of}
use Rattle.sm_client.proofs.Serving.{manifest-given}
use Rattle.sm_pull.specs.declared.plan.PullPlan.{PullPlan}
use Rattle.sm_pull.specs.declared.stop.Stop.{Stop}
use Rattle.sm_pull.specs.declared.stop.Stop.TheVariants as stop
use Rattle.sm_pull.specs.Adds.{keeps_of}
use Rattle.sm_pull.specs.Asks.{AsksManifest, Gives, GivesNone}
use Rattle.sm_pull.specs.Below.{Places}
use Rattle.sm_pull.specs.Tracks.{has_track, IsFirstMissing}
use Rattle.sm_pull.proofs.Offered.{offered}
use Rattle.sm_standby.specs.declared.held.Later.{Later}
use Rattle.sm_standby.specs.declared.report.FollowEnd.{FollowEnd}
use Rattle.sm_standby.specs.declared.report.FollowEnd.TheVariants as ends
use Rattle.sm_standby.specs.Asked.{IsOther, IsTried}
use Rattle.sm_standby.specs.Followed.{at, tried_turn, EndsTurns}
use Rattle.sm_standby.specs.Rounds.{addresses_of, Part, made_of, ReadsNone, LacksTrack, TurnsEnd, StopsRound}
use Rattle.sm_standby.specs.Served.{EndsWell}
use Rattle.sm_pull.specs.Patience.{IsPatient}
use Rattle.sm_standby.specs.Turns.{AsksPlaced, missed, url_of, Whose, Came, kept, Turn, Standing, address_for, IsTurnOf, kept_by, kept_in, made_in}
use Rattle.sm_standby.proofs.Askable.{url_there}
use Rattle.sm_standby.proofs.Fronts.{IsLogOf, is_front, log_more, new_behind}
use Rattle.sm_standby.proofs.InStep.{HeldIs, InStep, in_step_on, ReadAt, CameAt, read_at, begins_in, turns_in, turn_askable, turn_came, came_places, places_on}
use Rattle.sm_standby.proofs.Logs.{TriedIs, tried_is, kept_fits, none_kept, kept_there, turns_log}
use Rattle.sm_standby.proofs.Primary.{IsAskable, placed_read, placed_given}
use Rattle.sm_pull.proofs.Moments.{answered_split, answered_grows, last_at}

-- ---- a miss

some_none : (m : Miss) → Some m ≡ None → ⊥
some_none m e = cc

pub record FirstMiss {G : Type 0} (asks : Exchange → G → Type 0) (miss : G → Option Miss) (made : List Exchange) : Type 0 where
  pub x : Exchange
  pub xs : List Exchange
  pub made_is : made ≡ x ∷ xs
  pub g : G
  pub asked : asks x g
  pub m : Miss
  pub is : miss g ≡ Some m

first_miss : {G : Type 0} (asks : Exchange → G → Type 0) (miss : G → Option Miss) (tries : ℕ) (made : List Exchange) (outcomes : List Miss) → 0 < tries → GivesNone asks miss tries made outcomes
    → FirstMiss asks miss made
first_miss asks miss tries [] outcomes some n = absurd (let all = n.all in omega (arith, all, some))
first_miss asks miss tries (x ∷ xs) [] some n = absurd n.misses
first_miss asks miss tries (x ∷ xs) (m ∷ ms) some n = record { x = x; xs = xs; made_is = refl; g = n.misses.0.0; asked = n.misses.0.1; m = m; is = n.misses.0.2 }

patient_behind : (xs ys : List Exchange) → IsPatient (xs ++ ys) → IsPatient ys
patient_behind [] ys all = all
patient_behind (x ∷ xs) ys all = patient_behind xs ys all.1

patient_front : (xs ys : List Exchange) → IsPatient (xs ++ ys) → IsPatient xs
patient_front [] ys all = tt
patient_front (x ∷ xs) ys all = (all.0, patient_front xs ys all.1)

member : {A : Type 0} (P : A → Type 0) (xs : List A) (x : A) (ys : List A) → AllByRecursion P (xs ++ x ∷ ys) → P x
member P [] x ys all = all.0
member P (z ∷ xs) x ys all = member P xs x ys all.1

no_refusal : (f : Fragment) (v : Judged) (cause : Cause) → v ≡ judged.New → refusal_of f v ≡ Some cause → ⊥
no_refusal f v cause is e = let none : None ≡ Some cause = sym (ap (refusal_of f) is) ∙ e in cc

-- in the part of a round that took turns: where it stood when the last exchanges began
pub record Broke (plan : PullPlan) (up channel : List Track) (p : Part) (log last : List Entry) (to : Standing) : Type 0 where
  pub read : List Entry
  pub listing_is : p.listing ≡ again up read
  pub mid : List Entry
  pub front : List Exchange
  pub made_is : made_of p ≡ front ++ p.last
  pub since : List Entry
  pub mid_is : mid ≡ log ++ since
  pub step : InStep up mid to
  pub answered : AnsweredBy up mid p.last last

module _ (plan : PullPlan) (up : List Track) (place_is : IsPlace plan.place) (narrow : All IsNarrowTrack up) (names : AllByRecursion (λ (t : Track). All (λ b. b < 256) t.name) up) where
  pub broke : (channel : List Track) (log last own : List Entry) (held : List Later) (new : Archive) (p : Part) (to : Standing) (end : FollowEnd) → Places own log → AllByRecursion (HeldIs up log) held
      → Gives (AsksManifest plan.place) miss_of plan.tries p.reads (got.Manifest p.listing) → TurnsEnd plan channel own held new p to end → AnsweredBy up log (made_of p) last → Broke plan up channel p log last to
  broke channel log last own held new p to end places waiting gives t answered =
      let r = answered_split up log last p.reads (made_in p.turns ++ p.last) answered in
      let s = answered_split up r.0 last (made_in p.turns) p.last r.2 in
      let read = read_at plan up place_is narrow log r.0 p.reads p.listing gives r.1 in
      let begun = begins_in plan up place_is narrow names channel log r.0 own held p.listing read t.tracks places waiting in
      let before = answered_grows up log r.0 p.reads r.1 in
      let between = answered_grows up r.0 s.0 (made_in p.turns) s.1 in
      record {
        read = read.moment;
        listing_is = read.listing_is;
        mid = s.0;
        front = p.reads ++ made_in p.turns;
        made_is = sym (append_assoc p.reads (made_in p.turns) p.last);
        since = before.0 ++ between.0;
        mid_is = between.1 ∙ (ap (λ (l : List Entry). l ++ between.0) before.1 ∙ append_assoc log before.0 between.0);
        step = turns_in plan up place_is narrow names channel p.listing read.moment read.listing_is r.0 s.0 (at own held (addresses_of channel p.listing)) to p.turns begun t.turns s.1;
        answered = s.2;
      }

  -- what came last, where it was to be kept
  tried_came : (channel : List Track) (listing : Listing) (read mid last : List Entry) (to : Standing) (who : Whose) (new : Archive) (made : List Exchange) (cs : List Came) (why : Stop)
      → listing ≡ again up read → InStep up mid to → IsTurnOf to who → AnsweredBy up mid made last
      → (t : IsTried plan channel (url_of listing (address_for who)) (address_for who) new to.log made cs why) → CameAt up mid last (address_for who) (kept t.number t.raw)
  tried_came channel listing read mid last to who new made cs why is step turn answered t =
      turn_came plan up place_is narrow names channel listing read is mid last to who made (kept t.number t.raw) step turn t.gives answered

  -- ---- places

  end_places : (channel : List Track) (listing : Listing) (read mid last : List Entry) (to : Standing) (new : Archive) (made : List Exchange) (tried : List Turn) (end : FollowEnd)
      → listing ≡ again up read → InStep up mid to → AnsweredBy up mid made last → EndsTurns plan channel listing to new made tried end → Places (to.log ++ keeps_of (kept_in tried)) last
  end_places channel listing read mid last to new made tried end is step answered (inl (nomem, none, nothing)) =
      let g = answered_grows up mid last made answered in
      subst (λ (ts : List Turn). Places (to.log ++ keeps_of (kept_in ts)) last) (sym nothing)
      (subst (λ (l : List Entry). Places l last) (sym (append-nil to.log)) (in_step_on up mid g.0 last to g.1 step).places)
  end_places channel listing read mid last to new made tried end is step answered (inr (who, cs, turn, tried_are, stops)) =
      subst (λ (ts : List Turn). Places (to.log ++ keeps_of (kept_in ts)) last) (sym tried_are)
      (by_tried cs (tried_is plan channel (url_of listing (address_for who)) (address_for who) new to.log made cs end stops))
    where
      there : Places to.log last
      there = let g = answered_grows up mid last made answered in (in_step_on up mid g.0 last to g.1 step).places

      head-is : (x y : Came) (xs : List Came) → x ∷ xs ≡ y ∷ [] → x ≡ y
      head-is x y xs e = cc

      by_tried : (cs : List Came) → TriedIs plan channel (url_of listing (address_for who)) (address_for who) new to.log made cs → Places (to.log ++ keeps_of (kept_in (tried_turn who made cs))) last
      by_tried [] t = subst (λ (l : List Entry). Places l last) (sym (append-nil to.log)) there
      by_tried (c ∷ more) (inl none) = absurd (cc)
      by_tried (c ∷ more) (inr (why, t)) =
          let same : c ≡ kept t.number t.raw = head-is c (kept t.number t.raw) more t.tried_is in
          let came = tried_came channel listing read mid last to who new made (c ∷ more) why is step turn answered t in
          subst (λ (fs : List Fragment). Places (to.log ++ keeps_of fs) last) (sym (append-nil (kept_by (address_for who) c)))
          (subst (λ (x : Came). Places (to.log ++ keeps_of (kept_by (address_for who) x)) last) (sym same)
          (came_places plan up place_is narrow to.log came.moment came.until last who (address_for who) (kept t.number t.raw) came.later_is (kept_fits who (length to.log) t.number t.raw t.next) came.came there))

  pub bare_places : (log last own : List Entry) (turns tried : List Turn) (made : List Exchange) → Places own log → AnsweredBy up log made last → turns ≡ [] → tried ≡ []
      → Places ((own ++ keeps_of (kept_in turns)) ++ keeps_of (kept_in tried)) last
  bare_places log last own turns tried made places answered none nothing =
      let g = answered_grows up log last made answered in
      none_kept own last turns tried none nothing (subst (λ (l : List Entry). Places own l) (sym g.1) (places_on own log g.0 places))

  -- all that a round that ended the call kept, and was to keep last, has its place
  pub stops_placed : (channel : List Track) (log last own : List Entry) (held : List Later) (new : Archive) (p : Part) (to : Standing) (end : FollowEnd) → Places own log → AllByRecursion (HeldIs up log) held
      → StopsRound plan channel own held new p to end → AnsweredBy up log (made_of p) last → Places ((own ++ keeps_of (kept_in p.turns)) ++ keeps_of (kept_in p.tried)) last
  stops_placed channel log last own held new p to end places waiting (inl (reads, bare)) answered = bare_places log last own p.turns p.tried (made_of p) places answered bare.turns bare.tried
  stops_placed channel log last own held new p to end places waiting (inr (gives, inl (lacks, bare))) answered =
      bare_places log last own p.turns p.tried (made_of p) places answered bare.turns bare.tried
  stops_placed channel log last own held new p to end places waiting (inr (gives, inr t)) answered =
      let b = broke channel log last own held new p to end places waiting gives t answered in
      subst (λ (l : List Entry). Places (l ++ keeps_of (kept_in p.tried)) last) (turns_log plan channel p.listing (at own held (addresses_of channel p.listing)) to p.turns t.turns)
      (end_places channel p.listing b.read b.mid last to new p.last p.tried end b.listing_is b.step b.answered t.ended)

  -- ---- ends

  no_manifest : (log last : List Entry) (made more : List Exchange) (outcomes : List Miss) → 0 < plan.tries → GivesNone (AsksManifest plan.place) miss_of plan.tries made outcomes
      → AnsweredBy up log (made ++ more) last → IsPatient (made ++ more) → ⊥
  no_manifest log last made more outcomes some none answered patient =
      let f = first_miss (AsksManifest plan.place) miss_of plan.tries made outcomes some none in
      let a = subst (λ (xs : List Exchange). AnsweredBy up log (xs ++ more) last) f.made_is answered in
      let p = subst (λ (xs : List Exchange). IsPatient (xs ++ more)) f.made_is patient in
      some_none f.m (sym f.is ∙ manifest-given plan.place up (log ++ a.0) f.g f.x.answer place_is narrow a.1
      (subst (λ (r : List ℕ). FromOrigin (log ++ a.0) r f.x.answer) f.asked.request_is a.2) p.0.1 f.asked.spelled p.0.0)

  gave_up : (pattern : List ℕ) (a : Address) (log last : List Entry) (made : List Exchange) (outcomes : List Miss) → 0 < plan.tries → IsAskable up a → pattern ≡ url a.stream
      → GivesNone (AsksPlaced plan.place pattern a) missed plan.tries made outcomes → AnsweredBy up log made last → IsPatient made → ⊥
  gave_up pattern a log last made outcomes some k is none answered patient =
      let f = first_miss (AsksPlaced plan.place pattern a) missed plan.tries made outcomes some none in
      let b = subst (λ (xs : List Exchange). AnsweredBy up log xs last) f.made_is answered in
      let p = subst IsPatient f.made_is patient in
      some_none f.m (sym f.is ∙ placed_given plan.place up place_is narrow (log ++ b.0) pattern a f.g f.x.answer k is
      (subst (λ (r : List ℕ). FromOrigin (log ++ b.0) r f.x.answer) f.asked.request_is b.2) p.0.1 f.asked.spelled p.0.0)

  no_track : (log last : List Entry) (listing : Listing) (index : ℕ) → ReadAt up log last listing → IsFirstMissing listing up index → ⊥
  no_track log last listing index read lacks =
      let own : Contains up lacks.track = subst (λ (ts : List Track). Contains ts lacks.track) (sym lacks.channel_is) (Contains-append_right lacks.front (lacks.track ∷ lacks.back) lacks.track (0, omega arith, refl)) in
      let has = offered up (listed_in read.moment) lacks.track lacks.track (channel_sound read.moment up read.is.sound read.is.channel_is) own refl refl refl in
      let lacks' : has_track (again up read.moment) lacks.track ≡ false = ap (λ (l : Listing). has_track l lacks.track) (sym read.listing_is) ∙ lacks.lacks in
      absurd (let both : true ≡ false = sym has ∙ lacks' in cc)

  other_id : (pattern : List ℕ) (a : Address) (log last : List Entry) (made : List Exchange) (id : ℕ) → IsAskable up a → pattern ≡ url a.stream → IsOther plan up pattern a made id → AnsweredBy up log made last → ⊥
  other_id pattern a log last made id k is o answered =
      let here = last_at up log last o.gives.missed o.gives.last (subst (λ (xs : List Exchange). AnsweredBy up log xs last) o.gives.made_is answered) in
      let r = placed_read plan.place up place_is narrow here.moment pattern a o.number o.raw o.gives.last.answer k is
      (subst (λ (q : List ℕ). FromOrigin here.moment q o.gives.last.answer) o.gives.gave.request_is here.from) o.gives.gave.spelled in
      o.other (sym o.id_is ∙ r.1 up here.is.channel_is)

  -- what has the next place in the primary's log is new
  refused : (listing : Listing) (read mid last : List Entry) (to : Standing) (who : Whose) (new : Archive) (made : List Exchange) (cs : List Came) (b : Address) (cause : Cause) → listing ≡ again up read
      → IsLogOf up to.log → InStep up mid to → IsTurnOf to who → AnsweredBy up mid made last
      → IsTried plan up (url_of listing (address_for who)) (address_for who) new to.log made cs (stop.Refused b cause) → ⊥
  refused listing read mid last to who new made cs b cause is own step turn answered t =
      let a = address_for who in
      let f = given a.stream a.bitrate t.raw in
      let came = tried_came up listing read mid last to who new made cs (stop.Refused b cause) is step turn answered t in
      let places = subst (λ (l : List Entry). Places to.log l) (sym came.moment_is) (places_on to.log mid came.since step.places) in
      let front = is_front up to.log came.moment own came.is.channel_is places in
      no_refusal f (verdict_on to.log f) cause (new_behind to.log came.moment t.number f came.is.sound front t.next (kept_there came.moment a t.number f came.came)) t.not.1

  ends_well : (listing : Listing) (read mid last : List Entry) (to : Standing) (new : Archive) (made : List Exchange) (tried : List Turn) (end : FollowEnd) → 0 < plan.tries → listing ≡ again up read
      → IsLogOf up to.log → InStep up mid to → AnsweredBy up mid made last → IsPatient made → EndsTurns plan up listing to new made tried end → EndsWell end
  ends_well listing read mid last to new made tried ends.Done some is own step answered patient e = tt
  ends_well listing read mid last to new made tried (ends.Gap place next) some is own step answered patient e = tt
  ends_well listing read mid last to new made tried ends.Full some is own step answered patient e = tt
  ends_well listing read mid last to new made tried ends.DiskFault some is own step answered patient e = tt
  ends_well listing read mid last to new made tried ends.NoMemory some is own step answered patient e = tt
  ends_well listing read mid last to new made tried (ends.NoManifest outcomes) some is own step answered patient (inl e) = absurd (let same = e.0 in cc)
  ends_well listing read mid last to new made tried (ends.NoManifest outcomes) some is own step answered patient (inr (who, cs, turn, are, stops)) = absurd stops
  ends_well listing read mid last to new made tried (ends.NoTrack index) some is own step answered patient (inl e) = absurd (let same = e.0 in cc)
  ends_well listing read mid last to new made tried (ends.NoTrack index) some is own step answered patient (inr (who, cs, turn, are, stops)) = absurd stops
  ends_well listing read mid last to new made tried (ends.GaveUp b outcomes) some is own step answered patient (inl e) = absurd (let same = e.0 in cc)
  ends_well listing read mid last to new made tried (ends.GaveUp b outcomes) some is own step answered patient (inr (who, cs, turn, are, stops)) =
      let k = turn_askable plan up place_is narrow mid to who step turn in
      absurd (gave_up (url_of listing (address_for who)) (address_for who) mid last made outcomes some k (url_there up names read listing (address_for who) is k) stops.1 answered patient)
  ends_well listing read mid last to new made tried (ends.OtherId b id) some is own step answered patient (inl e) = absurd (let same = e.0 in cc)
  ends_well listing read mid last to new made tried (ends.OtherId b id) some is own step answered patient (inr (who, cs, turn, are, stops)) =
      let k = turn_askable plan up place_is narrow mid to who step turn in
      absurd (other_id (url_of listing (address_for who)) (address_for who) mid last made id k (url_there up names read listing (address_for who) is k) stops.1 answered)
  ends_well listing read mid last to new made tried (ends.Refused b cause) some is own step answered patient (inl e) = absurd (let same = e.0 in cc)
  ends_well listing read mid last to new made tried (ends.Refused b cause) some is own step answered patient (inr (who, cs, turn, are, stops)) =
      absurd (refused listing read mid last to who new made cs b cause is own step turn answered stops)

  none_read : (log last : List Entry) (p : Part) (end : FollowEnd) → 0 < plan.tries → ReadsNone plan p.reads end → AnsweredBy up log (made_of p) last → IsPatient (made_of p) → EndsWell end
  none_read log last p ends.Done some r answered patient = tt
  none_read log last p (ends.Gap place next) some r answered patient = tt
  none_read log last p ends.Full some r answered patient = tt
  none_read log last p ends.DiskFault some r answered patient = tt
  none_read log last p ends.NoMemory some r answered patient = tt
  none_read log last p (ends.NoManifest outcomes) some r answered patient = absurd (no_manifest log last p.reads (made_in p.turns ++ p.last) outcomes some r answered patient)
  none_read log last p (ends.NoTrack index) some r answered patient = absurd r
  none_read log last p (ends.GaveUp b outcomes) some r answered patient = absurd r
  none_read log last p (ends.OtherId b id) some r answered patient = absurd r
  none_read log last p (ends.Refused b cause) some r answered patient = absurd r

  lacks_none : (log last : List Entry) (listing : Listing) (end : FollowEnd) → ReadAt up log last listing → LacksTrack listing up end → EndsWell end
  lacks_none log last listing ends.Done read l = tt
  lacks_none log last listing (ends.Gap place next) read l = tt
  lacks_none log last listing ends.Full read l = tt
  lacks_none log last listing ends.DiskFault read l = tt
  lacks_none log last listing ends.NoMemory read l = tt
  lacks_none log last listing (ends.NoManifest outcomes) read l = absurd l
  lacks_none log last listing (ends.NoTrack index) read l = absurd (no_track log last listing index read l)
  lacks_none log last listing (ends.GaveUp b outcomes) read l = absurd l
  lacks_none log last listing (ends.OtherId b id) read l = absurd l
  lacks_none log last listing (ends.Refused b cause) read l = absurd l

  -- a round over a primary with the store's channel doesn't end the call for what was answered
  pub stops_well : (log last own : List Entry) (held : List Later) (new : Archive) (p : Part) (to : Standing) (end : FollowEnd) → 0 < plan.tries → IsLogOf up own → Places own log
      → AllByRecursion (HeldIs up log) held → StopsRound plan up own held new p to end → AnsweredBy up log (made_of p) last → IsPatient (made_of p) → EndsWell end
  stops_well log last own held new p to end some is places waiting (inl (reads, bare)) answered patient = none_read log last p end some reads answered patient
  stops_well log last own held new p to end some is places waiting (inr (gives, inl (lacks, bare))) answered patient =
      let r = answered_split up log last p.reads (made_in p.turns ++ p.last) answered in
      lacks_none log r.0 p.listing end (read_at plan up place_is narrow log r.0 p.reads p.listing gives r.1) lacks
  stops_well log last own held new p to end some is places waiting (inr (gives, inr t)) answered patient =
      let b = broke up log last own held new p to end places waiting gives t answered in
      let own_to = subst (IsLogOf up) (sym (turns_log plan up p.listing (at own held (addresses_of up p.listing)) to p.turns t.turns)) (log_more up own (kept_in p.turns) is) in
      ends_well p.listing b.read b.mid last to new p.last p.tried end some b.listing_is own_to b.step b.answered (patient_behind b.front p.last (subst IsPatient b.made_is patient)) t.ended
