-- A relay of an origin that answers each request ends well.
use Rattle.std.proofs.Common.{◌≡◌, ◌<◌, ◌++◌, ℕ, true, false, List, [], ◌∷◌, Option, Some, None, refl, ap, sym, ◌∙◌, subst, append_assoc, append-nil, arith}
use Rattle.std.specs.List.{AllByRecursion}
use Rattle.sm_model.specs.declared.address.Address.{Address}
use Rattle.sm_model.specs.declared.cause.Cause.{Cause}
use Rattle.sm_model.specs.declared.entry.Entry.{Entry}
use Rattle.sm_model.specs.declared.entry.Entry.TheVariants.{Declare, Keep}
use Rattle.sm_model.specs.declared.fragment.Fragment.{Fragment}
use Rattle.sm_model.specs.declared.track.Track.{Track}
use Rattle.sm_model.specs.Entries.{address_of}
use Rattle.sm_log.specs.declared.verdict.Judged.{Judged}
use Rattle.sm_log.specs.declared.verdict.Judged.TheVariants as judged
use Rattle.sm_log.specs.Adds.{is_declared}
use Rattle.sm_log.specs.Logs.{channel_of, kept_at, listed_in, verdict_on}
use Rattle.sm_log.proofs.ListedKept.{channel_sound}
use Rattle.sm_manin.specs.declared.listing.Listing.{Listing}
use Rattle.sm_archive.specs.declared.archive.Archive.{Archive}
use Rattle.sm_archive.specs.Keeping.{refusal_of}
use Rattle.sm_fetch.specs.declared.dial.Exchange.{Exchange}
use Rattle.sm_fetch.specs.Origins.{FromOrigin}
use Rattle.sm_client.specs.declared.report.Miss.{Miss}
use Rattle.sm_client.specs.Stands.{miss_of}
use Rattle.sm_client.specs.Origins.{IsListedAt, again}
use Rattle.sm_client.specs.Served.{AnsweredBy, IsWhole, IsUnrefused}
use Rattle.sm_client.proofs.Pieces.{spelled-fragment}
use Rattle.sm_client.proofs.Serving.{manifest-given, fragment-given}
use Rattle.sm_pull.specs.declared.plan.PullPlan.{PullPlan}
use Rattle.sm_pull.specs.declared.stop.Stop.{Stop}
use Rattle.sm_pull.specs.declared.stop.Stop.TheVariants as stop
use Rattle.sm_pull.specs.Asks.{AsksManifest, AsksFragment, GivesNone}
use Rattle.sm_pull.specs.Adds.{keeps_of}
use Rattle.sm_pull.specs.Below.{IsKeptIn, Below}
use Rattle.sm_pull.specs.Tracks.{has_track}
use Rattle.sm_pull.proofs.BelowStays.{below_front, below_grows}
use Rattle.sm_pull.proofs.Offered.{offered}
use Rattle.sm_relay.specs.Wants.{Want}
use Rattle.sm_relay.specs.Pulls.{Fails}
use Rattle.sm_relay.specs.Rounds.{IsNoTrack, IsBroken, RoundStops}
use Rattle.sm_relay.specs.Ends.{end_of}
use Rattle.sm_relay.specs.Served.{Serves, IsOffered, EndsWell}
use Rattle.sm_pull.specs.Patience.{IsPatient}
use Rattle.sm_relay.proofs.Upstream.{Lasts, new_upstream}
use Rattle.sm_relay.proofs.Origin.{Broke, broke, read_at, reads_had, later_listed}

-- ---- a miss

some_none : (m : Miss) → Some m ≡ None → ⊥
some_none m e = cc

pub record FirstMiss {G : Type 0} (asks : Exchange → G → Type 0) (miss : G → Option Miss) (made : List Exchange) : Type 0 where
  pub x : Exchange
  pub xs : List Exchange
  pub made_is : made ≡ x ∷ xs
  pub g : G
  pub asked : asks x g
  pub m : Miss
  pub is : miss g ≡ Some m

first_miss : {G : Type 0} (asks : Exchange → G → Type 0) (miss : G → Option Miss) (tries : ℕ) (made : List Exchange) (outcomes : List Miss) → 0 < tries → GivesNone asks miss tries made outcomes → FirstMiss asks miss made
first_miss asks miss tries [] outcomes some n = absurd (let all = n.all in omega (arith, all, some))
first_miss asks miss tries (x ∷ xs) [] some n = absurd n.misses
first_miss asks miss tries (x ∷ xs) (m ∷ ms) some n = record { x = x; xs = xs; made_is = refl; g = n.misses.0.0; asked = n.misses.0.1; m = m; is = n.misses.0.2 }

no_manifest_well : (plan : PullPlan) (up : List Track) (first last start later : List Entry) (all made : List Exchange) (outcomes : List Miss) → 0 < plan.tries → Serves plan.place up first last all
    → GivesNone (AsksManifest plan.place) miss_of plan.tries made outcomes → AnsweredBy up start made later → IsPatient made → ⊥
no_manifest_well plan up first last start later all made outcomes some serves none answered patient =
    let f = first_miss (AsksManifest plan.place) miss_of plan.tries made outcomes some none in
    let a = subst (λ (xs : List Exchange). AnsweredBy up start xs later) f.made_is answered in
    let p = subst IsPatient f.made_is patient in
    some_none f.m (sym f.is ∙ manifest-given plan.place up (start ++ a.0) f.g f.x.answer serves.place_is serves.tracks a.1
    (subst (λ (r : List ℕ). FromOrigin (start ++ a.0) r f.x.answer) f.asked.request_is a.2) p.0.1 f.asked.spelled p.0.0)

gave_up_well : (plan : PullPlan) (up : List Track) (moment more start later : List Entry) (w : Want) (made : List Exchange) (outcomes : List Miss) → 0 < plan.tries
    → IsListedAt plan.place up moment w.url w.address → start ≡ moment ++ more
    → GivesNone (AsksFragment plan.place w.url w.address) miss_of plan.tries made outcomes → AnsweredBy up start made later → IsPatient made → ⊥
gave_up_well plan up moment more start later w made outcomes some listed_at on none answered patient =
    let f = first_miss (AsksFragment plan.place w.url w.address) miss_of plan.tries made outcomes some none in
    let a = subst (λ (xs : List Exchange). AnsweredBy up start xs later) f.made_is answered in
    let p = subst IsPatient f.made_is patient in
    let joined : start ++ a.0 ≡ moment ++ (more ++ a.0) = ap (λ (l : List Entry). l ++ a.0) on ∙ append_assoc moment more a.0 in
    let here : IsListedAt plan.place up (start ++ a.0) w.url w.address = subst (λ (l : List Entry). IsListedAt plan.place up l w.url w.address) (sym joined) (later_listed plan.place up moment (more ++ a.0) w.url w.address listed_at) in
    some_none f.m (sym f.is ∙ fragment-given plan.place up (start ++ a.0) w.url w.address f.g f.x.answer a.1 here
    (subst (λ (r : List ℕ). FromOrigin (start ++ a.0) r f.x.answer) f.asked.request_is a.2) p.0.1 f.asked.spelled p.0.0)

-- ---- a track

member : {A : Type 0} (P : A → Type 0) (xs : List A) (x : A) (ys : List A) → AllByRecursion P (xs ++ x ∷ ys) → P x
member P [] x ys all = all.0
member P (z ∷ xs) x ys all = member P xs x ys all.1

no_track_well : (plan : PullPlan) (up channel : List Track) (first last start later : List Entry) (all made : List Exchange) (added tried : List Fragment) (index : ℕ) → Serves plan.place up first last all
    → AllByRecursion (IsOffered up) channel → IsNoTrack plan channel made added tried index → AnsweredBy up start made later → ⊥
no_track_well plan up channel first last start later all made added tried index serves offers n answered =
    let m = read_at plan.place up first last start later all made n.listing plan.tries serves n.read answered in
    let o = member (IsOffered up) n.lacks.front n.lacks.track n.lacks.back (subst (AllByRecursion (IsOffered up)) n.lacks.channel_is offers) in
    let has = offered up (listed_in m.moment) n.lacks.track o.track (channel_sound m.moment up m.is.sound m.is.channel_is) o.there o.name o.bitrate o.timescale in
    let lacks : has_track (again up m.moment) n.lacks.track ≡ false = ap (λ (l : Listing). has_track l n.lacks.track) (sym m.listing_is) ∙ n.lacks.lacks in
    absurd (let both : true ≡ false = sym has ∙ lacks in cc)

-- ---- a refusal

pub channel_stays : (log more : List Entry) (channel : List Track) → channel_of log ≡ Some channel → channel_of (log ++ more) ≡ Some channel
channel_stays [] more channel e = absurd cc
channel_stays (Declare tracks ∷ log) more channel e = e
channel_stays (Keep f ∷ log) more channel e = absurd cc

no_refusal : (f : Fragment) (v : Judged) (cause : Cause) → v ≡ judged.New → refusal_of f v ≡ Some cause → ⊥
no_refusal f v cause is e = let none : None ≡ Some cause = sym (ap (refusal_of f) is) ∙ e in cc

lasts_of : (log up : List Entry) → Below log up → Lasts log up
lasts_of log up below g there = let k = below g there in (k.place, k.there, k.kept, k.duration)

refused_well : (plan : PullPlan) (up channel : List Track) (moment more start later log : List Entry) (new : Archive) (w : Want) (made : List Exchange) (tried : List Fragment) (address : Address) (cause : Cause)
    → IsListedAt plan.place up moment w.url w.address → start ≡ moment ++ more → is_declared channel w.address ≡ true → channel_of log ≡ Some channel → Below log start
    → Fails plan new log w made tried (stop.Refused address cause) → AnsweredBy up start made later → ⊥
refused_well plan up channel moment more start later log new w made tried address cause listed_at on declared channel_is below f answered =
    let h = reads_had plan up moment more start later log w made f.fragment listed_at on f.reads answered in
    let v = spelled-fragment w.address.time f.reads.gave.last.answer f.reads.raw f.reads.gave.gave.spelled in
    let named : address_of f.fragment ≡ w.address = ap address_of f.reads.is ∙ ap (λ (t : ℕ). record { stream = w.address.stream; bitrate = w.address.bitrate; time = t }) v.1 in
    let lasts = lasts_of log h.moment (subst (Below log) (sym h.moment_is) (below_grows log start h.since below)) in
    let is_new = new_upstream channel log h.moment f.fragment h.kept.there h.kept.place lasts h.is.sound channel_is
    (subst (λ (a : Address). is_declared channel a ≡ true) (sym named) declared) (subst (λ (a : Address). kept_at log a ≡ None) (sym named) f.reads.absent) h.kept.kept h.kept.duration in
    no_refusal f.fragment (verdict_on log f.fragment) cause is_new f.not_kept.1

-- ---- the ends

pub below_added : (log up : List Entry) (fs : List Fragment) → AllByRecursion (IsKeptIn up) fs → Below log up → Below (log ++ keeps_of fs) up
below_added log up fs all below = below_front log up (log ++ keeps_of fs) fs all below (record { front = fs; back = []; whole = sym (append-nil fs); after_is = refl })

pub back_all : {A : Type 0} (P : A → Type 0) (xs ys : List A) → AllByRecursion P (xs ++ ys) → AllByRecursion P ys
back_all P [] ys all = all
back_all P (x ∷ xs) ys all = back_all P xs ys all.1

module _ (plan : PullPlan) (up channel : List Track) (first last : List Entry) (all : List Exchange) (some : 0 < plan.tries) (serves : Serves plan.place up first last all)
    (offers : AllByRecursion (IsOffered up) channel) where
  below_broke : (start later log : List Entry) (new : Archive) (made : List Exchange) (added tried : List Fragment) (why : Stop) → Below log start → (k : Broke plan channel new log made added tried why up start later)
      → Below (log ++ keeps_of added) k.mid
  below_broke start later log new made added tried why below k = below_added log k.mid added k.kept (subst (Below log) (sym k.start_to) (below_grows log start k.before below))

  broken_refused : (start later log : List Entry) (new : Archive) (made : List Exchange) (added tried : List Fragment) (address : Address) (cause : Cause) → channel_of log ≡ Some channel → Below log start
      → IsBroken plan channel new log made added tried (stop.Refused address cause) → AnsweredBy up start made later → ⊥
  broken_refused start later log new made added tried address cause channel_is below b answered =
      let k = broke plan up channel first last start later log new all made added tried (stop.Refused address cause) serves b answered in
      refused_well plan up channel k.moment k.more k.mid later (log ++ keeps_of added) new k.want k.last tried address cause k.listed_at k.mid_is k.declared (channel_stays log (keeps_of added) channel channel_is)
      (below_broke start later log new made added tried (stop.Refused address cause) below k) k.stops k.answered

  broken_gave_up : (start later log : List Entry) (new : Archive) (made : List Exchange) (added tried : List Fragment) (address : Address) (outcomes : List Miss)
      → IsBroken plan channel new log made added tried (stop.GaveUp address outcomes) → AnsweredBy up start made later → IsPatient made → ⊥
  broken_gave_up start later log new made added tried address outcomes b answered patient =
      let k = broke plan up channel first last start later log new all made added tried (stop.GaveUp address outcomes) serves b answered in
      gave_up_well plan up k.moment k.more k.mid later k.want k.last outcomes some k.listed_at k.mid_is k.stops.missed k.answered
      (back_all (λ (x : Exchange). IsWhole x.answer × IsUnrefused x.answer) k.front k.last (subst IsPatient k.made_is patient))

  pub stops_well : (start later log : List Entry) (new : Archive) (made : List Exchange) (added tried : List Fragment) (why : Stop) → channel_of log ≡ Some channel → Below log start
      → RoundStops plan channel new log made added tried why → AnsweredBy up start made later → IsPatient made → EndsWell (end_of why)
  stops_well start later log new made added tried (stop.NoManifest outcomes) channel_is below s answered patient = no_manifest_well plan up first last start later all made outcomes some serves s.missed answered patient
  stops_well start later log new made added tried (stop.NoTrack index) channel_is below s answered patient = no_track_well plan up channel first last start later all made added tried index serves offers s answered
  stops_well start later log new made added tried (stop.GaveUp address outcomes) channel_is below s answered patient = broken_gave_up start later log new made added tried address outcomes s answered patient
  stops_well start later log new made added tried (stop.Refused address cause) channel_is below s answered patient = broken_refused start later log new made added tried address cause channel_is below s answered
  stops_well start later log new made added tried stop.Full channel_is below s answered patient = tt
  stops_well start later log new made added tried stop.DiskFault channel_is below s answered patient = tt
  stops_well start later log new made added tried stop.NoMemory channel_is below s answered patient = tt
