-- What is pulled of an origin that keeps a log is kept by it.
use Rattle.std.proofs.Common.{◌≡◌, ◌<◌, ℕ, Bool, true, false, cond, eqb, List, [], ◌∷◌, ◌++◌, Option, Some, None, refl, ap, sym, ◌∙◌, subst, append_assoc, inl, inr}
use Rattle.std.specs.Prelude.{All, is_some, map, filter}
use Rattle.std.specs.List.{AllByRecursion, list_any, flat_map}
use Rattle.std.proofs.lemmas.Bool.{eqb-true, eq-eqb, and_parts}
use Rattle.std.proofs.lemmas.Slice.Eq.{bytes_eq-Decides}
use Rattle.sm_model.specs.declared.address.Address.{Address}
use Rattle.sm_model.specs.declared.entry.Entry.{Entry}
use Rattle.sm_model.specs.declared.fragment.Fragment.{Fragment}
use Rattle.sm_model.specs.declared.run.RawFragment.{RawFragment}
use Rattle.sm_model.specs.declared.track.Track.{Track}
use Rattle.sm_model.specs.Channels.{IsNarrowTrack}
use Rattle.sm_model.specs.Entries.{address_of}
use Rattle.sm_model.specs.Same.{is_same}
use Rattle.sm_log.specs.Adds.{names_of, tracks_of, track_at, is_declared}
use Rattle.sm_log.specs.Logs.{kept_at, listed_in}
use Rattle.sm_log.specs.Times.{entry_at}
use Rattle.sm_manin.specs.declared.listing.Level.{Level}
use Rattle.sm_manin.specs.declared.listing.Listing.{Listing}
use Rattle.sm_manin.specs.declared.listing.StreamListing.{StreamListing}
use Rattle.sm_manout.specs.ManifestText.{url}
use Rattle.sm_manout.specs.ReadAgain.{stream_again, streams_again}
use Rattle.sm_manout.proofs.ShownDeclared.{Declares, all_declared}
use Rattle.sm_archive.specs.declared.archive.Archive.{Archive}
use Rattle.sm_fetch.specs.declared.dial.Exchange.{Exchange}
use Rattle.sm_fetch.specs.declared.got.Got.TheVariants as got
use Rattle.sm_fetch.specs.declared.place.Place.{Place}
use Rattle.sm_fetch.specs.Origins.{FromOrigin}
use Rattle.sm_fetch.specs.Spelt.{given}
use Rattle.sm_client.specs.Stands.{listed, miss_of}
use Rattle.sm_client.specs.Origins.{IsQuality, IsListedAt, IsTheOrigins, again}
use Rattle.sm_client.specs.Served.{IsMoment, AnsweredBy, IsPlace}
use Rattle.sm_client.proofs.Pieces.{spelled-fragment}
use Rattle.sm_client.proofs.Serving.{manifest-read, fragment-read, listed-found, entry-stays}
use Rattle.sm_pull.specs.declared.plan.PullPlan.{PullPlan}
use Rattle.sm_pull.specs.declared.stop.Stop.{Stop}
use Rattle.sm_pull.specs.declared.stop.Stop.TheVariants as stop
use Rattle.sm_pull.specs.Asks.{AsksManifest, Gives}
use Rattle.sm_pull.specs.Adds.{keeps_of}
use Rattle.sm_pull.specs.Tracks.{address_at, has_quality, has_track, HasTracks}
use Rattle.sm_pull.specs.Below.{IsKeptIn}
use Rattle.sm_pull.proofs.Tried.{both_all}
use Rattle.sm_pull.proofs.BelowStays.{kept_on}
use Rattle.sm_pull.proofs.Moments.{answered_split, answered_grows, last_at}
use Rattle.sm_relay.specs.Wants.{Want, wants_at, stream_wants, wants_of}
use Rattle.sm_relay.specs.Pulls.{Reads, IsStep, Fails, StopsAt, Walks}
use Rattle.sm_relay.specs.Rounds.{Round, IsRound, AreRounds, made_in, kept_in, IsBroken, RoundStops}
use Rattle.sm_relay.specs.Served.{Serves}

by_bool : (b : Bool) (P : Bool → Type 0) → (b ≡ true → P true) → (b ≡ false → P false) → P b
by_bool true P so other = so refl
by_bool false P so other = other refl

same_is : (a b : List ℕ) → is_same a b ≡ true → a ≡ b
same_is a b e = (bytes_eq-Decides a b).0 e

is_the_same : (a b : List ℕ) → a ≡ b → is_same a b ≡ true
is_the_same a b e = (bytes_eq-Decides a b).1 e

-- ---- a manifest

pub record ReadAt (place : Place) (up : List Track) (log later : List Entry) (listing : Listing) : Type 0 where
  pub moment : List Entry
  pub is : IsMoment up moment
  pub since : List Entry
  pub moment_is : moment ≡ log ++ since
  pub until : List Entry
  pub later_is : later ≡ moment ++ until
  pub listing_is : listing ≡ again up moment

pub read_at : (place : Place) (up : List Track) (first last log later : List Entry) (all made : List Exchange) (listing : Listing) (tries : ℕ) → Serves place up first last all
    → Gives (AsksManifest place) miss_of tries made (got.Manifest listing) → AnsweredBy up log made later → ReadAt place up log later listing
read_at place up first last log later all made listing tries serves gives answered =
    let at = last_at up log later gives.missed gives.last (subst (λ (xs : List Exchange). AnsweredBy up log xs later) gives.made_is answered) in
    record {
      moment = at.moment;
      is = at.is;
      since = at.since;
      moment_is = at.moment_is;
      until = at.until;
      later_is = at.later_is;
      listing_is = manifest-read place up at.moment listing gives.last.answer serves.place_is serves.tracks at.is
          (subst (λ (r : List ℕ). FromOrigin at.moment r gives.last.answer) gives.gave.request_is at.from) gives.gave.spelled;
    }

-- ---- what is wanted is listed

all_map : {A B : Type 0} (P : B → Type 0) (f : A → B) (xs : List A) → AllByRecursion (λ x. P (f x)) xs → AllByRecursion P (map f xs)
all_map P f [] all = tt
all_map P f (x ∷ xs) all = (all.0, all_map P f xs all.1)

all_flat : {A B : Type 0} (P : B → Type 0) (f : A → List B) (xs : List A) → AllByRecursion (λ x. AllByRecursion P (f x)) xs → AllByRecursion P (flat_map f xs)
all_flat P f [] all = tt
all_flat P f (x ∷ xs) all = both_all P (f x) (flat_map f xs) all.0 (all_flat P f xs all.1)

each : {A : Type 0} (P : A → Type 0) (xs : List A) → ((x : A) → P x) → AllByRecursion P xs
each P [] so = tt
each P (x ∷ xs) so = (so x, each P xs so)

pub all_with : {A : Type 0} (P Q : A → Type 0) (xs : List A) → ((x : A) → P x → Q x) → AllByRecursion P xs → AllByRecursion Q xs
all_with P Q [] so all = tt
all_with P Q (x ∷ xs) so all = (so x all.0, all_with P Q xs so all.1)

all_filtered : {A : Type 0} (P : A → Type 0) (p : A → Bool) (xs : List A) → AllByRecursion P xs → AllByRecursion (λ x. P x × (p x ≡ true)) (filter p xs)
all_filtered P p [] all = tt
all_filtered P p (x ∷ xs) all =
    by_bool (p x) (λ b. p x ≡ b → AllByRecursion (λ y. P y × (p y ≡ true)) (cond b (x ∷ filter p xs) (filter p xs)))
    (λ t is. ((all.0, is), all_filtered P p xs all.1)) (λ f is. all_filtered P p xs all.1) refl

-- a stream that is listed is one of the channel
listed_none : (up : List Track) (times : List ℕ → List (ℕ × ℕ)) (name : List ℕ) (earlier ts : List Track) → list_any (λ t. is_same t.name name) ts ≡ false
    → listed name (streams_again up times earlier ts) ≡ None
listed_none up times name earlier [] none = refl
listed_none up times name earlier (t ∷ ts) none =
    by_bool (is_same t.name name) (λ b. is_same t.name name ≡ b → listed name (streams_again up times earlier (t ∷ ts)) ≡ None)
    (λ yes is. absurd (let e : true ≡ false = sym (or_true is) ∙ none in cc))
    (λ other is.
    by_bool (list_any (λ u. is_same u.name t.name) earlier)
    (λ c. listed name ((cond c [] (stream_again up (times t.name) t ∷ [])) ++ streams_again up times (earlier ++ t ∷ []) ts) ≡ None)
    (λ first. listed_none up times name (earlier ++ t ∷ []) ts (or_false is))
    (λ first. ap (λ b. cond b (Some (stream_again up (times t.name) t)) (listed name (streams_again up times (earlier ++ t ∷ []) ts))) is ∙ listed_none up times name (earlier ++ t ∷ []) ts (or_false is)))
    refl
  where
    or_true : is_same t.name name ≡ true → list_any (λ u. is_same u.name name) (t ∷ ts) ≡ true
    or_true is = rw is refl

    or_false : is_same t.name name ≡ false → list_any (λ u. is_same u.name name) ts ≡ false
    or_false is = rw is at none

level_there : (up : List Track) (name : List ℕ) (b : ℕ) (ls : List Level) → AllByRecursion (IsQuality up name) ls → list_any (λ l. eqb l.bitrate b) ls ≡ true → is_some (track_at name b up) ≡ true
level_there up name b [] all some = absurd (cc)
level_there up name b (l ∷ ls) all some =
    by_bool (eqb l.bitrate b) (λ c. eqb l.bitrate b ≡ c → is_some (track_at name b up) ≡ true)
    (λ yes is. subst (λ (n : ℕ). is_some (track_at name n up) ≡ true) (eqb-true l.bitrate b is) all.0) (λ off is. level_there up name b ls all.1 (rw is at some)) refl

found_name : (name : List ℕ) (streams : List StreamListing) (s : StreamListing) → listed name streams ≡ Some s → s.name ≡ name
found_name name [] s e = absurd (cc)
found_name name (x ∷ xs) s e =
    by_bool (is_same x.name name) (λ b. is_same x.name name ≡ b → cond b (Some x) (listed name xs) ≡ Some s → s.name ≡ name)
    (λ yes is h. let same : x ≡ s = cc in ap (λ (y : StreamListing). y.name) (sym same) ∙ same_is x.name name is) (λ off is h. found_name name xs s h) refl e

entry_here : (ts : List (ℕ × ℕ)) → AllByRecursion (λ x. is_some (entry_at x.0 ts) ≡ true) ts
entry_here [] = tt
entry_here (y ∷ ys) = (
  rw (eq-eqb y.0 y.0 refl) refl,
  all_with (λ x. is_some (entry_at x.0 ys) ≡ true) (λ x. is_some (entry_at x.0 (y ∷ ys)) ≡ true) ys
      (λ x there. by_bool (eqb y.0 x.0) (λ b. is_some (cond b (Some y.1) (entry_at x.0 ys)) ≡ true) (λ yes. refl) (λ off. there)) (entry_here ys),
)

module _ (place : Place) (up : List Track) (moment : List Entry) (place_is : IsPlace place) (narrow : All IsNarrowTrack up) (names : AllByRecursion (λ (t : Track). All (λ b. b < 256) t.name) up) where
  name_bytes : (name : List ℕ) (ts : List Track) → AllByRecursion (λ (t : Track). All (λ b. b < 256) t.name) ts → list_any (λ t. is_same t.name name) ts ≡ true → All (λ b. b < 256) name
  name_bytes name [] all some = absurd (cc)
  name_bytes name (t ∷ ts) all some =
      by_bool (is_same t.name name) (λ c. is_same t.name name ≡ c → All (λ b. b < 256) name)
      (λ yes is. subst (All (λ b. b < 256)) (same_is t.name name is) all.0) (λ off is. name_bytes name ts all.1 (rw is at some)) refl

  quality_listed : (t : Track) (s : StreamListing) (time : ℕ) → listed t.name (again up moment).streams ≡ Some s → has_quality t (Some s) ≡ true → is_some (entry_at time s.times) ≡ true
      → IsListedAt place up moment s.pattern (address_at t time)
  quality_listed t s time found quality there =
      by_bool (list_any (λ u. is_same u.name t.name) up) (λ b. list_any (λ u. is_same u.name t.name) up ≡ b → IsListedAt place up moment s.pattern (address_at t time))
      (λ yes some.
      let l = listed-found up (listed_in moment) t.name some in
      let same : l.0 ≡ s = some_same (sym l.1 ∙ found) in
      record {
        place_is = place_is;
        tracks = narrow;
        stream = record { bytes = name_bytes t.name up names some; track = some };
        pattern_is = ap (λ (x : StreamListing). x.pattern) (sym same) ∙ l.2.pattern;
        declared = level_there up t.name t.bitrate l.0.levels l.2.levels
            (subst (λ (x : StreamListing). list_any (λ k. eqb k.bitrate t.bitrate) x.levels ≡ true) (sym same) (and_parts (eqb s.timescale t.timescale) (list_any (λ k. eqb k.bitrate t.bitrate) s.levels) quality).1);
        listed = subst (λ (ts : List (ℕ × ℕ)). is_some (entry_at time ts) ≡ true) (ap (λ (x : StreamListing). x.times) (sym same) ∙ l.3) there;
      })
      (λ off none. absurd (none_found (sym (listed_none up (listed_in moment) t.name [] up none) ∙ found))) refl
    where
      some_same : {x y : StreamListing} → Some x ≡ Some y → x ≡ y
      some_same e = cc

      none_found : None ≡ Some s → ⊥
      none_found e = cc

  -- each is listed, and of a track of the relay's channel
  abbrev pub IsWanted : List Track → Want → Type 0
  IsWanted channel w = IsListedAt place up moment w.url w.address × (is_declared channel w.address ≡ true)

  stream_wanted : (channel : List Track) (listing : Listing) (name : List ℕ) (o : Option StreamListing) → listing ≡ again up moment → HasTracks listing channel → listed name listing.streams ≡ o
      → AllByRecursion (IsWanted channel) (stream_wants channel o)
  stream_wanted channel listing name None is tracks found = tt
  stream_wanted channel listing name (Some s) is tracks found =
      all_flat (IsWanted channel) (λ x. wants_at s.pattern x.0 (tracks_of s.name channel)) s.times
      (all_with (λ (x : ℕ × ℕ). is_some (entry_at x.0 s.times) ≡ true) (λ (x : ℕ × ℕ). AllByRecursion (IsWanted channel) (wants_at s.pattern x.0 (tracks_of s.name channel))) s.times
      (λ x there.
      all_map (IsWanted channel) (λ t. record { url = s.pattern; address = address_at t x.0 }) (tracks_of s.name channel)
      (all_with (λ (t : Track). ((has_track listing t ≡ true) × Declares channel t.name t.bitrate) × (is_same t.name s.name ≡ true)) (λ (t : Track). IsWanted channel (record { url = s.pattern; address = address_at t x.0 }))
      (tracks_of s.name channel)
      (λ t h.
      let same : t.name ≡ name = same_is t.name s.name h.1 ∙ found_name name listing.streams s found in
      let here : listed t.name listing.streams ≡ Some s = ap (λ (n : List ℕ). listed n listing.streams) same ∙ found in
      let there_up : listed t.name (again up moment).streams ≡ Some s = ap (λ (l : Listing). listed t.name l.streams) (sym is) ∙ here in
      (quality_listed t s x.0 there_up (ap (has_quality t) (sym here) ∙ h.0.0) there, h.0.1))
      (all_filtered (λ (t : Track). (has_track listing t ≡ true) × Declares channel t.name t.bitrate) (λ t. is_same t.name s.name) channel (both_hold (λ (t : Track). has_track listing t ≡ true) (λ (t
      : Track). Declares channel t.name t.bitrate) channel tracks (all_declared channel)))))
      (entry_here s.times))
    where
      both_hold : (P Q : Track → Type 0) (ts : List Track) → AllByRecursion P ts → AllByRecursion Q ts → AllByRecursion (λ t. P t × Q t) ts
      both_hold P Q [] p q = tt
      both_hold P Q (t ∷ ts) p q = ((p.0, q.0), both_hold P Q ts p.1 q.1)

  pub wanted : (channel : List Track) (listing : Listing) → listing ≡ again up moment → HasTracks listing channel → AllByRecursion (IsWanted channel) (wants_of channel listing)
  wanted channel listing is tracks =
      all_flat (IsWanted channel) (λ name. stream_wants channel (listed name listing.streams)) (names_of channel)
      (each (λ (name : List ℕ). AllByRecursion (IsWanted channel) (stream_wants channel (listed name listing.streams))) (names_of channel)
      (λ name. stream_wanted channel listing name (listed name listing.streams) is tracks refl))

-- ---- what is read of an address

pub later_listed : (place : Place) (up : List Track) (moment more : List Entry) (url : List ℕ) (a : Address) → IsListedAt place up moment url a → IsListedAt place up (moment ++ more) url a
later_listed place up moment more url a l = record {
  place_is = l.place_is;
  tracks = l.tracks;
  stream = l.stream;
  pattern_is = l.pattern_is;
  declared = l.declared;
  listed = entry-stays moment more a.stream a.time l.listed;
}

origins_kept : (log : List Entry) (a : Address) (raw : RawFragment) (f : Fragment) → IsTheOrigins log a raw → raw.time ≡ a.time → f ≡ given a.stream a.bitrate raw → IsKeptIn log f
origins_kept log a raw f o time is =
    let named : address_of f ≡ a = ap address_of is ∙ ap (λ (t : ℕ). record { stream = a.stream; bitrate = a.bitrate; time = t }) time in
    record {
      place = o.place;
      there = o.fragment;
      kept = subst (λ (b : Address). kept_at log b ≡ Some (o.place, o.fragment)) (sym named) o.placed;
      duration = sym (ap (λ (g : Fragment). g.duration) is ∙ ap (λ (r : RawFragment). r.duration) o.is);
      signed = sym (ap (λ (g : Fragment). g.signed) is ∙ ap (λ (r : RawFragment). r.signed) o.is);
      samples = sym (ap (λ (g : Fragment). g.samples) is ∙ ap (λ (r : RawFragment). r.samples) o.is);
    }

-- the origin had it at the moment of the answer
pub record HadIt (up : List Track) (start later : List Entry) (f : Fragment) : Type 0 where
  pub moment : List Entry
  pub is : IsMoment up moment
  pub since : List Entry
  pub moment_is : moment ≡ start ++ since
  pub until : List Entry
  pub later_is : later ≡ moment ++ until
  pub kept : IsKeptIn moment f

pub reads_had : (plan : PullPlan) (up : List Track) (moment more start later log : List Entry) (w : Want) (made : List Exchange) (f : Fragment) → IsListedAt plan.place up moment w.url w.address
    → start ≡ moment ++ more → Reads plan log w made f → AnsweredBy up start made later → HadIt up start later f
reads_had plan up moment more start later log w made f listed_at on r answered =
    let at = last_at up start later r.gave.missed r.gave.last (subst (λ (xs : List Exchange). AnsweredBy up start xs later) r.gave.made_is answered) in
    let joined : at.moment ≡ moment ++ (more ++ at.since) = at.moment_is ∙ ap (λ (l : List Entry). l ++ at.since) on ∙ append_assoc moment more at.since in
    let here : IsListedAt plan.place up at.moment w.url w.address = subst (λ (l : List Entry). IsListedAt plan.place up l w.url w.address) (sym joined) (later_listed plan.place up moment (more ++ at.since) w.url w.address listed_at) in
    let o = fragment-read plan.place up at.moment w.url w.address r.raw r.gave.last.answer at.is here (subst (λ (q : List ℕ). FromOrigin at.moment q r.gave.last.answer) r.gave.gave.request_is at.from) r.gave.gave.spelled in
    let v = spelled-fragment w.address.time r.gave.last.answer r.raw r.gave.gave.spelled in
    record {
      moment = at.moment;
      is = at.is;
      since = at.since;
      moment_is = at.moment_is;
      until = at.until;
      later_is = at.later_is;
      kept = origins_kept at.moment w.address r.raw f o v.1 r.is;
    }

had_kept : (up : List Track) (start later : List Entry) (f : Fragment) → HadIt up start later f → IsKeptIn later f
had_kept up start later f h = subst (λ (l : List Entry). IsKeptIn l f) (sym h.later_is) (kept_on h.moment h.until f h.kept)

-- ---- walks

pub all_on : (mid later more : List Entry) (fs : List Fragment) → later ≡ mid ++ more → AllByRecursion (IsKeptIn mid) fs → AllByRecursion (IsKeptIn later) fs
all_on mid later more fs is all = all_with (IsKeptIn mid) (IsKeptIn later) fs (λ f k. subst (λ (l : List Entry). IsKeptIn l f) (sym is) (kept_on mid more f k)) all

step_kept : (plan : PullPlan) (up channel : List Track) (moment more start later log : List Entry) (w : Want) (made : List Exchange) (added : List Fragment)
    → IsListedAt plan.place up moment w.url w.address → start ≡ moment ++ more → IsStep plan log w made added → AnsweredBy up start made later → AllByRecursion (IsKeptIn later) added
step_kept plan up channel moment more start later log w made added listed_at on (inl s) answered = subst (AllByRecursion (IsKeptIn later)) (sym s.added_is) tt
step_kept plan up channel moment more start later log w made added listed_at on (inr t) answered =
    subst (AllByRecursion (IsKeptIn later)) (sym t.added_is) (had_kept up start later t.fragment (reads_had plan up moment more start later log w made t.fragment listed_at on t.reads answered), tt)

pub walks_kept : (plan : PullPlan) (up channel : List Track) (moment more start later log : List Entry) (ws : List Want) (made : List Exchange) (added : List Fragment)
    → AllByRecursion (λ (w : Want). IsListedAt plan.place up moment w.url w.address) ws → start ≡ moment ++ more → Walks plan log ws made added → AnsweredBy up start made later
    → AllByRecursion (IsKeptIn later) added
walks_kept plan up channel moment more start later log [] made added all on walks answered = subst (AllByRecursion (IsKeptIn later)) (sym walks.1) tt
walks_kept plan up channel moment more start later log (w ∷ ws) made added all on (one, next, kept, rest, step, walks, made_is, added_is) answered =
    let s = answered_split up start later one next (subst (λ (xs : List Exchange). AnsweredBy up start xs later) made_is answered) in
    let g = answered_grows up start s.0 one s.1 in
    let h = answered_grows up s.0 later next s.2 in
    let here = step_kept plan up channel moment more start s.0 log w one kept all.0 on step s.1 in
    let behind = walks_kept plan up channel moment (more ++ g.0) s.0 later (log ++ keeps_of kept) ws next rest all.1 (g.1 ∙ ap (λ (l : List Entry). l ++ g.0) on ∙ append_assoc moment more g.0) walks s.2 in
    subst (AllByRecursion (IsKeptIn later)) (sym added_is) (both_all (IsKeptIn later) kept rest (all_on s.0 later h.0 kept h.1 here) behind)

-- ---- rounds

listed_only : (place : Place) (up : List Track) (moment : List Entry) (place_is : IsPlace place) (narrow : All IsNarrowTrack up)
    (names : AllByRecursion (λ (t : Track). All (λ b. b < 256) t.name) up) (channel : List Track) (ws : List Want)
    → AllByRecursion (IsWanted place up moment place_is narrow names channel) ws → AllByRecursion (λ (w : Want). IsListedAt place up moment w.url w.address) ws
listed_only place up moment place_is narrow names channel ws all =
    all_with (IsWanted place up moment place_is narrow names channel) (λ (w : Want). IsListedAt place up moment w.url w.address) ws (λ w h. h.0) all

pub round_kept : (plan : PullPlan) (up channel : List Track) (first last start later log : List Entry) (all : List Exchange) (r : Round) → Serves plan.place up first last all → IsRound plan channel log r
    → AnsweredBy up start (r.asked ++ r.pulled) later → AllByRecursion (IsKeptIn later) r.kept
round_kept plan up channel first last start later log all r serves is answered =
    let s = answered_split up start later r.asked r.pulled answered in
    let m = read_at plan.place up first last start s.0 all r.asked r.listing plan.tries serves is.read s.1 in
    walks_kept plan up channel m.moment m.until s.0 later log (wants_of channel r.listing) r.pulled r.kept
    (listed_only plan.place up m.moment serves.place_is serves.tracks serves.names channel (wants_of channel r.listing) (wanted plan.place up m.moment serves.place_is serves.tracks serves.names channel r.listing m.listing_is is.tracks))
    m.later_is is.walks s.2

pub rounds_kept : (plan : PullPlan) (up channel : List Track) (first last start later log : List Entry) (all : List Exchange) (rs : List Round) → Serves plan.place up first last all → AreRounds plan channel log rs
    → AnsweredBy up start (made_in rs) later → AllByRecursion (IsKeptIn later) (kept_in rs)
rounds_kept plan up channel first last start later log all [] serves are answered = tt
rounds_kept plan up channel first last start later log all (r ∷ rs) serves are answered =
    let s = answered_split up start later (r.asked ++ r.pulled) (made_in rs) answered in
    let h = answered_grows up s.0 later (made_in rs) s.2 in
    both_all (IsKeptIn later) r.kept (kept_in rs) (all_on s.0 later h.0 r.kept h.1 (round_kept plan up channel first last start s.0 log all r serves are.0 s.1))
    (rounds_kept plan up channel first last s.0 later (log ++ keeps_of r.kept) all rs serves are.1 s.2)

-- ---- a round that broke off

-- what was read last was the origin's, or nothing was
pub tried_kept : (plan : PullPlan) (up : List Track) (moment more start later log : List Entry) (new : Archive) (w : Want) (made : List Exchange) (tried : List Fragment) (why : Stop)
    → IsListedAt plan.place up moment w.url w.address → start ≡ moment ++ more → Fails plan new log w made tried why → AnsweredBy up start made later → AllByRecursion (IsKeptIn later) tried
tried_kept plan up moment more start later log new w made tried why listed_at on f answered =
    subst (AllByRecursion (IsKeptIn later)) (sym f.tried_is) (had_kept up start later f.fragment (reads_had plan up moment more start later log w made f.fragment listed_at on f.reads answered), tt)

none_tried : (later : List Entry) (tried : List Fragment) → tried ≡ [] → AllByRecursion (IsKeptIn later) tried
none_tried later tried is = subst (AllByRecursion (IsKeptIn later)) (sym is) tt

stop_kept : (plan : PullPlan) (up : List Track) (moment more start later log : List Entry) (new : Archive) (w : Want) (made : List Exchange) (tried : List Fragment) (why : Stop)
    → IsListedAt plan.place up moment w.url w.address → start ≡ moment ++ more → StopsAt plan new log w made tried why → AnsweredBy up start made later → AllByRecursion (IsKeptIn later) tried
stop_kept plan up moment more start later log new w made tried (stop.NoManifest outcomes) listed_at on s answered = absurd s
stop_kept plan up moment more start later log new w made tried (stop.NoTrack index) listed_at on s answered = absurd s
stop_kept plan up moment more start later log new w made tried (stop.GaveUp address outcomes) listed_at on s answered = none_tried later tried s.tried_is
stop_kept plan up moment more start later log new w made tried (stop.Refused address cause) listed_at on s answered = tried_kept plan up moment more start later log new w made tried (stop.Refused address cause) listed_at on s answered
stop_kept plan up moment more start later log new w made tried stop.Full listed_at on s answered = tried_kept plan up moment more start later log new w made tried stop.Full listed_at on s answered
stop_kept plan up moment more start later log new w made tried stop.DiskFault listed_at on s answered = tried_kept plan up moment more start later log new w made tried stop.DiskFault listed_at on s answered
stop_kept plan up moment more start later log new w made tried stop.NoMemory listed_at on (inl r) answered = none_tried later tried r.tried_is
stop_kept plan up moment more start later log new w made tried stop.NoMemory listed_at on (inr f) answered = tried_kept plan up moment more start later log new w made tried stop.NoMemory listed_at on f answered

-- where a round broke off, with what the origin had before and behind
pub record Broke (plan : PullPlan) (channel : List Track) (new : Archive) (log : List Entry) (made : List Exchange) (added tried : List Fragment) (why : Stop) (up : List Track) (start later : List Entry) : Type 0 where
  pub moment : List Entry
  pub is : IsMoment up moment
  pub mid : List Entry
  pub more : List Entry
  pub mid_is : mid ≡ moment ++ more
  pub before : List Entry
  pub start_to : mid ≡ start ++ before
  pub want : Want
  pub listed_at : IsListedAt plan.place up moment want.url want.address
  pub declared : is_declared channel want.address ≡ true
  pub kept : AllByRecursion (IsKeptIn mid) added
  pub last : List Exchange
  pub stops : StopsAt plan new (log ++ keeps_of added) want last tried why
  pub answered : AnsweredBy up mid last later
  pub front : List Exchange
  pub made_is : made ≡ front ++ last

front_of : {A : Type 0} (P : A → Type 0) (xs : List A) (x : A) (ys : List A) → AllByRecursion P (xs ++ x ∷ ys) → AllByRecursion P xs × P x
front_of P [] x ys all = (tt, all.0)
front_of P (z ∷ xs) x ys all = let r = front_of P xs x ys all.1 in ((all.0, r.0), r.1)

pub broke : (plan : PullPlan) (up channel : List Track) (first last start later log : List Entry) (new : Archive) (all made : List Exchange) (added tried : List Fragment) (why : Stop) → Serves plan.place up first last all
    → (b : IsBroken plan channel new log made added tried why) → AnsweredBy up start made later → Broke plan channel new log made added tried why up start later
broke plan up channel first last start later log new all made added tried why serves b answered =
    let s = answered_split up start later b.asked b.pulled (subst (λ (xs : List Exchange). AnsweredBy up start xs later) b.made_is answered) in
    let m = read_at plan.place up first last start s.0 all b.asked b.listing plan.tries serves b.read s.1 in
    let t = answered_split up s.0 later b.breaks.walked b.breaks.last (subst (λ (xs : List Exchange). AnsweredBy up s.0 xs later) b.breaks.made_is s.2) in
    let g = answered_grows up s.0 t.0 b.breaks.walked t.1 in
    let h = answered_grows up start s.0 b.asked s.1 in
    let ws = wanted plan.place up m.moment serves.place_is serves.tracks serves.names channel b.listing m.listing_is b.tracks in
    let P = IsWanted plan.place up m.moment serves.place_is serves.tracks serves.names channel in
    let parts = front_of P b.breaks.front b.breaks.want b.breaks.back (subst (AllByRecursion P) b.breaks.wants_are ws) in
    record {
      moment = m.moment;
      is = m.is;
      mid = t.0;
      more = m.until ++ g.0;
      mid_is = g.1 ∙ ap (λ (l : List Entry). l ++ g.0) m.later_is ∙ append_assoc m.moment m.until g.0;
      before = h.0 ++ g.0;
      start_to = g.1 ∙ ap (λ (l : List Entry). l ++ g.0) h.1 ∙ append_assoc start h.0 g.0;
      want = b.breaks.want;
      listed_at = parts.1.0;
      declared = parts.1.1;
      kept = walks_kept plan up channel m.moment m.until s.0 t.0 log b.breaks.front b.breaks.walked added
          (listed_only plan.place up m.moment serves.place_is serves.tracks serves.names channel b.breaks.front parts.0) m.later_is b.breaks.walks t.1;
      last = b.breaks.last;
      stops = b.breaks.stops;
      answered = t.2;
      front = b.asked ++ b.breaks.walked;
      made_is = b.made_is ∙ ap (λ (xs : List Exchange). b.asked ++ xs) b.breaks.made_is ∙ sym (append_assoc b.asked b.breaks.walked b.breaks.last);
    }

broken_kept : (plan : PullPlan) (up channel : List Track) (first last start later log : List Entry) (new : Archive) (all made : List Exchange) (added tried : List Fragment) (why : Stop) → Serves plan.place up first last all
    → IsBroken plan channel new log made added tried why → AnsweredBy up start made later → AllByRecursion (IsKeptIn later) (added ++ tried)
broken_kept plan up channel first last start later log new all made added tried why serves b answered =
    let k = broke plan up channel first last start later log new all made added tried why serves b answered in
    let h = answered_grows up k.mid later k.last k.answered in
    both_all (IsKeptIn later) added tried (all_on k.mid later h.0 added h.1 k.kept)
    (stop_kept plan up k.moment k.more k.mid later (log ++ keeps_of added) new k.want k.last tried why k.listed_at k.mid_is k.stops k.answered)

nothing_kept : (later : List Entry) (added tried : List Fragment) → added ≡ [] → tried ≡ [] → AllByRecursion (IsKeptIn later) (added ++ tried)
nothing_kept later added tried a t = both_all (IsKeptIn later) added tried (none_tried later added a) (none_tried later tried t)

pub stops_kept : (plan : PullPlan) (up channel : List Track) (first last start later log : List Entry) (new : Archive) (all made : List Exchange) (added tried : List Fragment) (why : Stop) → Serves plan.place up first last all
    → RoundStops plan channel new log made added tried why → AnsweredBy up start made later → AllByRecursion (IsKeptIn later) (added ++ tried)
stops_kept plan up channel first last start later log new all made added tried (stop.NoManifest outcomes) serves s answered = nothing_kept later added tried s.added_is s.tried_is
stops_kept plan up channel first last start later log new all made added tried (stop.NoTrack index) serves s answered = nothing_kept later added tried s.added_is s.tried_is
stops_kept plan up channel first last start later log new all made added tried (stop.GaveUp address outcomes) serves s answered = broken_kept plan up channel first last start later log new all made
    added tried (stop.GaveUp address outcomes) serves s answered
stops_kept plan up channel first last start later log new all made added tried (stop.Refused address cause) serves s answered = broken_kept plan up channel first last start later log new all made
    added tried (stop.Refused address cause) serves s answered
stops_kept plan up channel first last start later log new all made added tried stop.Full serves s answered = broken_kept plan up channel first last start later log new all made added tried stop.Full serves s answered
stops_kept plan up channel first last start later log new all made added tried stop.DiskFault serves s answered = broken_kept plan up channel first last start later log new all made added tried stop.DiskFault serves s answered
stops_kept plan up channel first last start later log new all made added tried stop.NoMemory serves (inl u) answered = nothing_kept later added tried u.added_is u.tried_is
stops_kept plan up channel first last start later log new all made added tried stop.NoMemory serves (inr b) answered = broken_kept plan up channel first last start later log new all made added tried stop.NoMemory serves b answered
