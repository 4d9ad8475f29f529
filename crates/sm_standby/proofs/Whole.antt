-- A whole call over a primary that keeps a log.
use Rattle.std.proofs.Common.{◌≡◌, ◌⊎◌, ◌<◌, ◌≤◌, ℕ, List, [], ◌∷◌, ◌++◌, length, length-append, slice_get, Option, Some, None, IsSome, refl, ap, sym, ◌∙◌, subst, append_assoc, append-nil, arith, inl, inr, ⊎_elim}
use Rattle.std.specs.Prelude.{All, Contains}
use Rattle.std.specs.List.{AllByRecursion}
use Rattle.std.proofs.lemmas.Option.{slice_get_within, get_or_from_slice_get}
use Rattle.sm_model.specs.declared.entry.Entry.{Entry}
use Rattle.sm_model.specs.declared.entry.Entry.TheVariants.{Keep}
use Rattle.sm_model.specs.declared.fragment.Fragment.{Fragment}
use Rattle.sm_model.specs.declared.track.Track.{Track}
use Rattle.sm_model.specs.Channels.{IsNarrowTrack}
use Rattle.sm_model.specs.Entries.{address_of}
use Rattle.sm_log.specs.Logs.{channel_of, IsSound}
use Rattle.sm_site.specs.Image.{Image}
use Rattle.sm_site.specs.Meanings.{Seen}
use Rattle.sm_site.specs.Clauses.{Throughout}
use Rattle.sm_site.proofs.Moments.{weakened}
use Rattle.sm_archive.specs.declared.archive.Archive.{Archive}
use Rattle.sm_archive.specs.Stands.{Stands}
use Rattle.sm_manin.specs.declared.listing.Listing.{Listing}
use Rattle.sm_fetch.specs.declared.dial.Exchange.{Exchange}
use Rattle.sm_fetch.specs.declared.got.Got.TheVariants as got
use Rattle.sm_fetch.specs.Exchanges.{Peer, with_all}
use Rattle.sm_fetch.specs.Origins.{FromOrigin}
use Rattle.sm_client.specs.declared.report.Miss.{Miss}
use Rattle.sm_client.specs.Origins.{again}
use Rattle.sm_client.specs.Served.{IsMoment, AnsweredBy, IsPlace, IsWhole, IsUnrefused}
use Rattle.sm_client.specs.Stands.{miss_of}
use Rattle.sm_client.proofs.Serving.{manifest-read, manifest-given}
use Rattle.sm_pull.specs.declared.plan.PullPlan.{PullPlan}
use Rattle.sm_pull.specs.Adds.{keeps_of, LeavesFront, StandsWith}
use Rattle.sm_pull.specs.Asks.{AsksManifest, Misses, Gives}
use Rattle.sm_pull.specs.Below.{Places}
use Rattle.sm_pull.proofs.Disks.{log_both}
use Rattle.sm_standby.specs.declared.held.Later.{Later}
use Rattle.sm_standby.specs.declared.report.FollowEnd.{FollowEnd}
use Rattle.sm_standby.specs.declared.report.FollowEnd.TheVariants as ends
use Rattle.sm_standby.specs.Followed.{at}
use Rattle.sm_standby.specs.Placed.{LeavesPlaces}
use Rattle.sm_standby.specs.Rounds.{addresses_of, Round, AreRounds, made_by, kept_by, Part, no_part, made_of, StopsRound, EndsCall, Called}
use Rattle.sm_standby.specs.Served.{IsServed, moment_of, LeadsToAll, IsFront, LeavesStart, Reaches, EndsRounds, EndsWell}
use Rattle.sm_pull.specs.Patience.{IsPatient}
use Rattle.sm_standby.specs.Turns.{Standing, kept_in, made_in}
use Rattle.sm_standby.proofs.Askable.{leads_to_askable}
use Rattle.sm_standby.proofs.EndingWell.{bare_places, stops_placed, stops_well}
use Rattle.sm_standby.proofs.Fronts.{IsLogOf, log_of, log_more, log_some, is_front, channel_on}
use Rattle.sm_standby.proofs.InStep.{HeldIs, InStep, places_on, rounds_in}
use Rattle.sm_standby.proofs.Logs.{front_places, places_front, rounds_log, turns_log}
use Rattle.sm_pull.proofs.Moments.{answered_split, answered_grows}
use Rattle.sm_standby.proofs.Reached.{in_of, IsLeft, turns_left, nothing_left}

-- ---- the exchanges that were told

cancel : {A : Type 0} (xs ys zs : List A) → xs ++ ys ≡ xs ++ zs → ys ≡ zs
cancel [] ys zs e = e
cancel (x ∷ xs) ys zs e = let rest : xs ++ ys ≡ xs ++ zs = cc in cancel xs ys zs rest

some_same : {A : Type 0} (x y : A) → Some x ≡ Some y → x ≡ y
some_same x y e = cc

made_same : (old new : Option (List Exchange)) (before made all : List Exchange) → old ≡ Some before → new ≡ Some (before ++ made) → new ≡ with_all old all → made ≡ all
made_same old new before made all was is told =
    cancel before made all (some_same (before ++ made) (before ++ all) (sym is ∙ told ∙ ap (λ (o : Option (List Exchange)). with_all o all) was))

patient_behind : (xs ys : List Exchange) → IsPatient (xs ++ ys) → IsPatient ys
patient_behind [] ys all = all
patient_behind (x ∷ xs) ys all = patient_behind xs ys all.1

-- ---- ends

ended_part : (plan : PullPlan) (channel : List Track) (rs : List Round) (log : List Entry) (held : List Later) (new : Archive) (p : Part) (to : Standing) (end : FollowEnd)
    → EndsCall plan channel rs log held new p to end → (p ≡ no_part) ⊎ StopsRound plan channel log held new p to end
ended_part plan channel rs log held new p to ends.Done e = inl e.2
ended_part plan channel rs log held new p to (ends.Gap place next) e = inl e.3
ended_part plan channel rs log held new p to (ends.NoManifest outcomes) e = inr e.1
ended_part plan channel rs log held new p to (ends.NoTrack index) e = inr e.1
ended_part plan channel rs log held new p to (ends.GaveUp a outcomes) e = inr e.1
ended_part plan channel rs log held new p to (ends.OtherId a id) e = inr e.1
ended_part plan channel rs log held new p to (ends.Refused a cause) e = inr e.1
ended_part plan channel rs log held new p to ends.Full e = inr e.1
ended_part plan channel rs log held new p to ends.DiskFault e = inr e.1
ended_part plan channel rs log held new p to ends.NoMemory e = inr e.1

ended_rounds : (plan : PullPlan) (channel : List Track) (rs : List Round) (log : List Entry) (held : List Later) (new : Archive) (p : Part) (to : Standing) (end : FollowEnd)
    → EndsCall plan channel rs log held new p to end → EndsRounds end → (length rs ≡ plan.rounds) × (p ≡ no_part)
ended_rounds plan channel rs log held new p to ends.Done e all = (e.0, e.2)
ended_rounds plan channel rs log held new p to (ends.Gap place next) e all = (e.0, e.3)
ended_rounds plan channel rs log held new p to (ends.NoManifest outcomes) e all = absurd all
ended_rounds plan channel rs log held new p to (ends.NoTrack index) e all = absurd all
ended_rounds plan channel rs log held new p to (ends.GaveUp a outcomes) e all = absurd all
ended_rounds plan channel rs log held new p to (ends.OtherId a id) e all = absurd all
ended_rounds plan channel rs log held new p to (ends.Refused a cause) e all = absurd all
ended_rounds plan channel rs log held new p to ends.Full e all = absurd all
ended_rounds plan channel rs log held new p to ends.DiskFault e all = absurd all
ended_rounds plan channel rs log held new p to ends.NoMemory e all = absurd all

well_by : (plan : PullPlan) (channel : List Track) (rs : List Round) (log : List Entry) (held : List Later) (new : Archive) (p : Part) (to : Standing) (end : FollowEnd)
    → EndsCall plan channel rs log held new p to end → (StopsRound plan channel log held new p to end → EndsWell end) → EndsWell end
well_by plan channel rs log held new p to ends.Done e so = tt
well_by plan channel rs log held new p to (ends.Gap place next) e so = tt
well_by plan channel rs log held new p to (ends.NoManifest outcomes) e so = so e.1
well_by plan channel rs log held new p to (ends.NoTrack index) e so = so e.1
well_by plan channel rs log held new p to (ends.GaveUp a outcomes) e so = so e.1
well_by plan channel rs log held new p to (ends.OtherId a id) e so = so e.1
well_by plan channel rs log held new p to (ends.Refused a cause) e so = so e.1
well_by plan channel rs log held new p to ends.Full e so = so e.1
well_by plan channel rs log held new p to ends.DiskFault e so = so e.1
well_by plan channel rs log held new p to ends.NoMemory e so = so e.1

-- ---- what a crash leaves

start_left : (channel : List Track) (before up : List Entry) (fs : List Fragment) (t : ℕ) (c : Image) → IsLogOf channel before → channel_of up ≡ Some channel → Places (before ++ keeps_of fs) up
    → LeavesFront before fs t c → LeavesStart up t c
start_left channel before up fs t c own is all (after, store, front) =
    let there : Places (before ++ keeps_of front.front) up =
    places_front (before ++ keeps_of front.front) (keeps_of front.back) up
    (subst (λ (l : List Entry). Places l up) (ap (λ (gs : List Fragment). before ++ keeps_of gs) front.whole ∙ sym (log_both before front.front front.back)) all) in (
      after,
      store,
      subst (λ (l : List Entry). IsFront l up) (sym front.after_is) (is_front channel (before ++ keeps_of front.front) up (log_more channel before front.front own) is there),
    )

-- ---- the first manifest

module _ (plan : PullPlan) (up : List Track) (place_is : IsPlace plan.place) (narrow : All IsNarrowTrack up) (listing : Listing) (x : Exchange) (made rest : List Exchange) (moment : List Entry)
    (is : IsMoment up moment) (from : FromOrigin moment x.request x.answer) (whole : IsWhole x.answer) (free : IsUnrefused x.answer) where
  read_by : (missed : List Exchange) (outcomes : List Miss) (last : Exchange) → Misses (AsksManifest plan.place) miss_of missed outcomes → AsksManifest plan.place last (got.Manifest listing)
      → x ∷ made ≡ (missed ++ last ∷ []) ++ rest → (listing ≡ again up moment) × (made ≡ rest)
  read_by [] [] last m asks e =
      let same : last ≡ x = cc in
      let there : made ≡ rest = cc in
      let own = subst (λ (y : Exchange). AsksManifest plan.place y (got.Manifest listing)) same asks in
      (manifest-read plan.place up moment listing x.answer place_is narrow is (subst (λ (r : List ℕ). FromOrigin moment r x.answer) own.request_is from) own.spelled, there)
  read_by [] (m ∷ ms) last none asks e = absurd none
  read_by (y ∷ ys) [] last none asks e = absurd none
  read_by (y ∷ ys) (m ∷ ms) last misses asks e =
      let same : y ≡ x = cc in
      let g = misses.0.0 in
      let own = subst (λ (z : Exchange). AsksManifest plan.place z g) same misses.0.1 in
      let given = manifest-given plan.place up moment g x.answer place_is narrow is (subst (λ (r : List ℕ). FromOrigin moment r x.answer) own.request_is from) free own.spelled whole in
      absurd (some_none m (sym misses.0.2 ∙ given))
    where
      some_none : (n : Miss) → Some n ≡ None → ⊥
      some_none n h = cc

  first_read : (reads : List Exchange) → Gives (AsksManifest plan.place) miss_of plan.tries reads (got.Manifest listing) → x ∷ made ≡ reads ++ rest → (listing ≡ again up moment) × (made ≡ rest)
  first_read reads g e = read_by g.missed g.outcomes g.last g.misses g.gave (e ∙ ap (λ (xs : List Exchange). xs ++ rest) g.made_is)

there_of : (log : List Entry) (p : ℕ) (e : Entry) → slice_get log p ≡ Some e → Contains log e
there_of log p e at' = (p, slice_get_within log p e at', get_or_from_slice_get log p e e at')

-- the first round reaches all that its manifest leads to
reached : (plan : PullPlan) (up : List Track) (place_is : IsPlace plan.place) (narrow : All IsNarrowTrack up) (names : AllByRecursion (λ (t : Track). All (λ b. b < 256) t.name) up)
    (x : Exchange) (made rest : List Exchange) (moment last before log : List Entry) (held : List Later) (rs : List Round) → IsMoment up moment → FromOrigin moment x.request x.answer
    → IsWhole x.answer → IsUnrefused x.answer → AnsweredBy up moment made last → IsLogOf up before → Places before moment → LeadsToAll up moment → AreRounds plan up before [] rs log held → 0 < length rs
    → x ∷ made ≡ made_by rs ++ rest → length moment ≤ length log
reached plan up place_is narrow names x made rest moment last before log held [] is from whole free answered own places leads legal some e = absurd (omega (arith, some))
reached plan up place_is narrow names x made rest moment last before log held (r ∷ rs) is from whole free answered own places leads (mid, wait, round, more) some e =
    let behind : List Exchange = made_in r.turns ++ (made_by rs ++ rest) in
    let joined : x ∷ made ≡ r.reads ++ behind =
    e ∙ (append_assoc (r.reads ++ made_in r.turns) (made_by rs) rest ∙ append_assoc r.reads (made_in r.turns) (made_by rs ++ rest)) in
    let read = first_read plan up place_is narrow r.listing x made behind moment is from whole free r.reads round.reads joined in
    let a = answered_split up moment last (made_in r.turns) (made_by rs ++ rest) (subst (λ (xs : List Exchange). AnsweredBy up moment xs last) read.1 answered) in
    let begin : Standing = at before [] (addresses_of up r.listing) in
    let step : InStep up moment begin = record { places = places; held = tt; rest = leads_to_askable up names moment up r.listing is.sound read.0 round.tracks } in
    let left : IsLeft moment begin = λ p f there low.
    inl (in_of (addresses_of up r.listing) (address_of f) (subst (λ (l : Listing). Contains (addresses_of up l) (address_of f)) (sym read.0) (leads f (there_of moment p (Keep f) there)))) in
    let still = turns_left plan up place_is narrow names up r.listing moment read.0 is.sound moment a.0 [] begin (at mid wait []) r.turns step (sym (append-nil moment)) round.turns a.1 left in
    let mid_is : mid ≡ before ++ keeps_of (kept_in r.turns) = turns_log plan up r.listing begin (at mid wait []) r.turns round.turns in
    let mid_some : 0 < length mid = log_some up mid (subst (IsLogOf up) (sym mid_is) (log_more up before (kept_in r.turns) own)) in
    let long = nothing_left plan up place_is narrow names up r.listing moment read.0 is.sound (at mid wait []) refl round.nothing mid_some still in
    let grown = ap length (rounds_log plan up mid log wait held rs more) ∙ length-append mid (keeps_of (kept_by rs)) in
    omega (arith, long, grown)

-- ---- a whole call

module _ {D C : Type 0} {site : Seen D}
    {told : C → Option (List Exchange)} {store : C → List Entry → Type 0} {goes_on : C → C → Type 0} {faults : C → ℕ} {chosen : C → Option Peer}
    {d e : D} {x y : C} {plan : PullPlan} {channel : List Track} {a b : Archive} (before : List Entry) (end : FollowEnd) (c : Called site told store goes_on faults chosen d e x y plan channel a b before end) where
  told_made : (up : List Track) (first last : List Entry) (made : List Exchange) → IsServed told x y plan.place up first last made → made ≡ made_by c.rounds ++ made_of c.part
  told_made up first last made s = made_same (told x) (told y) s.before made (made_by c.rounds ++ made_of c.part) s.told_before s.told_after c.asks.told_is

  -- the rounds, and what was answered behind them
  ran : (up : List Track) (first last : List Entry) (made : List Exchange) → IsServed told x y plan.place up first last made → Places before first
      → (mid : List Entry) × Places c.log mid × AllByRecursion (HeldIs up mid) c.held × AnsweredBy up mid (made_of c.part) last
  ran up first last made s places =
      let all = subst (λ (xs : List Exchange). AnsweredBy up first xs last) (told_made up first last made s) s.answered in
      let r = answered_split up first last (made_by c.rounds) (made_of c.part) all in
      let i = rounds_in plan up s.place_is s.tracks s.names channel first r.0 before c.log [] c.held c.rounds places tt c.legal r.1 in
      (r.0, i.0, i.1, r.2)

  all_placed : (up : List Track) (first last : List Entry) (made : List Exchange) → IsServed told x y plan.place up first last made → Places before first
      → Places (before ++ keeps_of ((kept_by c.rounds ++ kept_in c.part.turns) ++ kept_in c.part.tried)) last
  all_placed up first last made s places =
      let r = ran up first last made s places in
      subst (λ (l : List Entry). Places l last)
      (ap (λ (l : List Entry). (l ++ keeps_of (kept_in c.part.turns)) ++ keeps_of (kept_in c.part.tried)) (rounds_log plan channel before c.log [] c.held c.rounds c.legal)
      ∙ (ap (λ (l : List Entry). l ++ keeps_of (kept_in c.part.tried)) (log_both before (kept_by c.rounds) (kept_in c.part.turns)) ∙ log_both before (kept_by c.rounds ++ kept_in c.part.turns) (kept_in c.part.tried)))
      (⊎_elim
      (λ none. bare_places plan up s.place_is s.tracks s.names r.0 last c.log c.part.turns c.part.tried (made_of c.part) r.1 r.3 (ap (λ (p : Part). p.turns) none) (ap (λ (p : Part). p.tried) none))
      (λ stops. stops_placed plan up s.place_is s.tracks s.names channel r.0 last c.log c.held b c.part c.to end r.1 r.2 stops r.3)
      (ended_part plan channel c.rounds c.log c.held b c.part c.to end c.ended))

  pub stays : (up : List Track) (first last : List Entry) (made : List Exchange) → IsServed told x y plan.place up first last made → Places before first → IsSome (site.view d).contents
      → Throughout site d e (LeavesPlaces last)
  stays up first last made s places some =
      weakened site d e _ (LeavesPlaces last) (c.adds.moments some)
      (λ t i left. front_places before last ((kept_by c.rounds ++ kept_in c.part.turns) ++ kept_in c.part.tried) t i (all_placed up first last made s places) left)

  pub starts : (first last : List Entry) (made : List Exchange) → IsSound before → channel_of before ≡ Some channel → IsServed told x y plan.place channel first last made → channel_of first ≡ Some channel
      → Places before first → IsSome (site.view d).contents → Throughout site d e (LeavesStart last)
  starts first last made sound is s up_is places some =
      let g = answered_grows channel first last made s.answered in
      weakened site d e _ (LeavesStart last) (c.adds.moments some)
      (λ t i left. start_left channel before last ((kept_by c.rounds ++ kept_in c.part.turns) ++ kept_in c.part.tried) t i (log_of before channel sound is) (channel_on first g.0 last channel g.1 up_is)
      (all_placed channel first last made s places) left)

  own_log : IsSound before → channel_of before ≡ Some channel → IsLogOf channel c.log
  own_log sound is =
      subst (IsLogOf channel) (sym (rounds_log plan channel before c.log [] c.held c.rounds c.legal)) (log_more channel before (kept_by c.rounds) (log_of before channel sound is))

  pub well : (first last : List Entry) (made : List Exchange) → IsSound before → channel_of before ≡ Some channel → IsServed told x y plan.place channel first last made → Places before first → 0 < plan.tries
      → IsPatient made → EndsWell end
  well first last made sound is s places some patient =
      let r = ran channel first last made s places in
      let behind = patient_behind (made_by c.rounds) (made_of c.part) (subst IsPatient (told_made channel first last made s) patient) in
      well_by plan channel c.rounds c.log c.held b c.part c.to end c.ended
      (λ stops. stops_well plan channel s.place_is s.tracks s.names r.0 last c.log c.held b c.part c.to end some (own_log sound is) r.1 r.2 stops r.3 behind)

  pub reaches : (first last : List Entry) (z : Exchange) (made : List Exchange) → IsSound before → channel_of before ≡ Some channel → 0 < plan.rounds
      → (s : IsServed told x y plan.place channel first last (z ∷ made)) → Places before first → IsPatient (z ∷ made) → LeadsToAll channel (moment_of s) → EndsRounds end
      → Reaches (site.may_leave e) b last (length (moment_of s))
  reaches first last z made sound is rounds s places patient leads all =
      let ended = ended_rounds plan channel c.rounds c.log c.held b c.part c.to end c.ended all in
      let own = log_of before channel sound is in
      let m = s.answered in
      let r = ran channel first last (z ∷ made) s places in
      let g = answered_grows channel r.0 last (made_of c.part) r.3 in
      let h = answered_grows channel (first ++ m.0) last made m.3 in
      let count = ended.0 in
      let long = reached plan channel s.place_is s.tracks s.names z made (made_of c.part) (first ++ m.0) last before c.log c.held c.rounds m.1 m.2 patient.0.0 patient.0.1 m.3 own
      (places_on before first m.0 places) leads c.legal (omega (arith, rounds, count)) (told_made channel first last (z ∷ made) s) in
      let log_is = rounds_log plan channel before c.log [] c.held c.rounds c.legal in
      let none : kept_in c.part.turns ≡ [] = ap (λ (p : Part). kept_in p.turns) ended.1 in
      let nothing : kept_in c.part.tried ≡ [] = ap (λ (p : Part). kept_in p.tried) ended.1 in
      let stands : Stands b (before ++ keeps_of (kept_by c.rounds ++ kept_in c.part.turns)) None (site.may_leave e) =
      subst (λ (fs : List Fragment). StandsWith b (before ++ keeps_of (kept_by c.rounds ++ kept_in c.part.turns)) fs (site.may_leave e)) nothing c.adds.stands in
      let same : before ++ keeps_of (kept_by c.rounds ++ kept_in c.part.turns) ≡ c.log =
      ap (λ (fs : List Fragment). before ++ keeps_of fs) (ap (λ (fs : List Fragment). kept_by c.rounds ++ fs) none ∙ append-nil (kept_by c.rounds)) ∙ sym log_is in
      record {
        log = c.log;
        stands = subst (λ (l : List Entry). Stands b l None (site.may_leave e)) same stands;
        front = is_front channel c.log last (own_log sound is) (channel_on (first ++ m.0) h.0 last channel h.1 m.1.channel_is)
            (subst (λ (l : List Entry). Places c.log l) (sym g.1) (places_on c.log r.0 g.0 r.1));
        long = long;
      }
