-- What was read at an address, put in its place.
use Rattle.std.proofs.Common.{◌≡◌, ◌≢◌, ◌<◌, ◌≤◌, ℕ, List, [], ◌∷◌, ◌++◌, length, Option, Some, None, refl, ap, sym, ◌∙◌, subst, length-append, arith, inl, inr}
use Rattle.std.specs.List.{AllByRecursion}
use Rattle.std.specs.Option.{option_map}
use Rattle.sm_model.specs.declared.address.Address.{Address}
use Rattle.sm_model.specs.declared.entry.Entry.{Entry}
use Rattle.sm_model.specs.declared.fragment.Fragment.{Fragment}
use Rattle.sm_model.specs.declared.run.RawFragment.{RawFragment}
use Rattle.sm_model.specs.declared.track.Track.{Track}
use Rattle.sm_log.specs.Adds.{id_in, place_of}
use Rattle.sm_log.specs.Logs.{adds_of, kept_at}
use Rattle.sm_log.proofs.AllLogs.{kept_place}
use Rattle.sm_site.specs.Image.{Image}
use Rattle.sm_site.specs.Meanings.{Seen}
use Rattle.sm_archive.specs.declared.archive.Archive.{Archive}
use Rattle.sm_archive.specs.declared.index.Index.{Index}
use Rattle.sm_archive.specs.Stands.{Stands, IsIndex, IndexIs}
use Rattle.sm_fetch.specs.declared.dial.Exchange.{Exchange}
use Rattle.sm_fetch.specs.declared.place.Place.{Place}
use Rattle.sm_fetch.specs.declared.placed.Placed.{Placed}
use Rattle.sm_fetch.specs.declared.placed.Placed.TheVariants as placed
use Rattle.sm_fetch.specs.Exchanges.{Peer}
use Rattle.sm_fetch.specs.Placing.{IsPlacedAt}
use Rattle.sm_fetch.specs.Spelt.{given}
use Rattle.sm_pull.specs.declared.plan.PullPlan.{PullPlan}
use Rattle.sm_pull.specs.declared.stop.Stop.{Stop}
use Rattle.sm_pull.specs.declared.stop.Stop.TheVariants as stop
use Rattle.sm_pull.specs.Adds.{Adds, NotKept}
use Rattle.sm_pull.specs.Asks.{Asks, Gives, Tries}
use Rattle.sm_pull.proofs.Disks.{adds_none}
use Rattle.sm_pull.proofs.Tried.{both_all, misses_tried}
use Rattle.sm_standby.specs.declared.placing.Step.{Step}
use Rattle.sm_standby.specs.declared.placing.Step.TheVariants as step
use Rattle.sm_standby.specs.declared.report.FollowEnd.{FollowEnd}
use Rattle.sm_standby.specs.declared.report.FollowEnd.TheVariants as ends
use Rattle.sm_standby.specs.Ends.{end_of}
use Rattle.sm_standby.specs.Turns.{AsksPlaced, missed, Came, absent, kept, later, dropped, placed_of}
use Rattle.sm_standby.specs.Asked.{IsRead, IsPut, CameUpstream, Went, IsUnkept, UnputBy, IsUnput, IsTried, TriedUpstream, StopsAt, Stopped}

-- ---- tries

-- what gave something was tried
pub tries_of : (place : Place) (url : List ℕ) (a : Address) (tries : ℕ) (made : List Exchange) (p : Placed) → Gives (AsksPlaced place url a) missed tries made p → Tries (AsksPlaced place url a) tries made
tries_of place url a tries made p g = record {
  each = subst (AllByRecursion (λ (x : Exchange). (q : Placed) × AsksPlaced place url a x q)) (sym g.made_is)
      (both_all (λ (x : Exchange). (q : Placed) × AsksPlaced place url a x q) g.missed (g.last ∷ []) (misses_tried (AsksPlaced place url a) missed g.missed g.outcomes g.misses) ((p, g.gave), tt));
  few = let all = length-append g.missed (g.last ∷ []) in let is = ap length g.made_is in let fits = g.few in omega (arith, all, is, fits);
}

-- ---- what one archive stands for

index_adds : (i : Option Index) (log mid : List Entry) → IndexIs i log → IndexIs i mid → adds_of log ≡ adds_of mid
index_adds None log mid a b = ap adds_of (a ∙ sym b)
index_adds (Some i) log mid a b = of_index i log a ∙ sym (of_index i mid b)
  where
    of_index : (j : Index) (l : List Entry) → IsIndex j l → adds_of l ≡ j.catalog.adds
    of_index j l x = ap adds_of x.log_is ∙ sym x.adds

none_mapped : (o : Option (ℕ × Fragment)) → option_map (λ (k : ℕ × Fragment). k.0) o ≡ None → o ≡ None
none_mapped None e = refl
none_mapped (Some k) e = absurd (cc)

-- what isn't kept by one log that it stands for isn't kept by another
pub kept_same : (x : Archive) (log mid : List Entry) (a : Address) → IndexIs x.index log → IndexIs x.index mid → kept_at log a ≡ None → kept_at mid a ≡ None
kept_same x log mid a one two none =
    none_mapped (kept_at mid a)
    (sym (kept_place a 0 mid) ∙ (ap (place_of a) (sym (index_adds x.index log mid one two)) ∙ (kept_place a 0 log ∙ ap (λ (o : Option (ℕ × Fragment)). option_map (λ (k : ℕ × Fragment). k.0) o) none)))

-- ---- put

-- why what was to be kept wasn't
unput_by : (channel : List Track) (a : Address) (new : Archive) (log : List Entry) (n : ℕ) (raw : RawFragment) (why : Stop) → n ≡ length log → raw.id ≡ id_in channel a
    → NotKept new log (given a.stream a.bitrate raw) a why → UnputBy channel a new log n raw (kept n raw ∷ []) (end_of why)
unput_by channel a new log n raw (stop.NoManifest outcomes) next id not = absurd not
unput_by channel a new log n raw (stop.NoTrack index) next id not = absurd not
unput_by channel a new log n raw (stop.GaveUp b outcomes) next id not = absurd not
unput_by channel a new log n raw (stop.Refused b cause) next id not = record { tried_is = refl; next = next; id = id; not = not }
unput_by channel a new log n raw stop.Full next id not = record { tried_is = refl; next = next; id = id; not = not }
unput_by channel a new log n raw stop.DiskFault next id not = record { tried_is = refl; next = next; id = id; not = not }
unput_by channel a new log n raw stop.NoMemory next id not = inr (record { tried_is = refl; next = next; id = id; not = not })

module _ {D : Type 0} {site : Seen D} where
  pub put_later : ((d : D) (t : ℕ) (c : Image) → site.left_at d t c → t ≤ (site.view d).moment)
      → (d : D) (x : Archive) (log : List Entry) (channel : List Track) (a : Address) (n next : ℕ) (raw : RawFragment) → Stands x log None (site.may_leave d)
      → raw.id ≡ id_in channel a → next ≡ length log → next < n → IsPut site d d channel a x x log n raw (step.Later n a)
  put_later no_later d x log channel a n next raw stands id is lt =
      record { came = later n raw; came_is = refl; id = id; step = (omega (arith, is, lt), refl, refl); adds = adds_none no_later d x log stands }

  pub put_dropped : ((d : D) (t : ℕ) (c : Image) → site.left_at d t c → t ≤ (site.view d).moment)
      → (d : D) (x : Archive) (log : List Entry) (channel : List Track) (a : Address) (n next : ℕ) (raw : RawFragment) → Stands x log None (site.may_leave d)
      → raw.id ≡ id_in channel a → next ≡ length log → n < next → IsPut site d d channel a x x log n raw step.Passed
  put_dropped no_later d x log channel a n next raw stands id is lt =
      record { came = dropped n raw; came_is = refl; id = id; step = omega (arith, is, lt); adds = adds_none no_later d x log stands }

  pub put_kept : {d e : D} (x y : Archive) (log : List Entry) (channel : List Track) (a : Address) (n next : ℕ) (raw : RawFragment) (f : Fragment) → f ≡ given a.stream a.bitrate raw
      → Adds site d e x y log (f ∷ []) [] → raw.id ≡ id_in channel a → next ≡ length log → n ≤ next → next ≤ n → IsPut site d e channel a x y log n raw step.Kept
  put_kept {d = d} {e = e} x y log channel a n next raw f made adds id is low high =
      record { came = kept n raw; came_is = refl; id = id; step = omega (arith, is, low, high); adds = subst (λ (g : Fragment). Adds site d e x y log (g ∷ []) []) made adds }

  pub unput_wanting : ((d : D) (t : ℕ) (c : Image) → site.left_at d t c → t ≤ (site.view d).moment)
      → (d : D) (x : Archive) (log : List Entry) (channel : List Track) (a : Address) (n : ℕ) (raw : RawFragment) → Stands x log None (site.may_leave d)
      → IsUnput site d d channel a x x log n raw ends.NoMemory
  unput_wanting no_later d x log channel a n raw stands = record { tried = []; by = inl refl; adds = adds_none no_later d x log stands }

  pub unput_other : ((d : D) (t : ℕ) (c : Image) → site.left_at d t c → t ≤ (site.view d).moment)
      → (d : D) (x : Archive) (log : List Entry) (channel : List Track) (a : Address) (n : ℕ) (raw : RawFragment) → Stands x log None (site.may_leave d)
      → raw.id ≢ id_in channel a → IsUnput site d d channel a x x log n raw (ends.OtherId a raw.id)
  unput_other no_later d x log channel a n raw stands other = record { tried = []; by = (refl, refl, other, refl); adds = adds_none no_later d x log stands }

  pub unput_kept : {d e : D} (x y : Archive) (log : List Entry) (channel : List Track) (a : Address) (n next : ℕ) (raw : RawFragment) (f : Fragment) (why : Stop) → f ≡ given a.stream a.bitrate raw
      → NotKept y log f a why → Adds site d e x y log [] (f ∷ []) → raw.id ≡ id_in channel a → next ≡ length log → n ≤ next → next ≤ n
      → IsUnput site d e channel a x y log n raw (end_of why)
  unput_kept {d = d} {e = e} x y log channel a n next raw f why made not adds id is low high = record {
    tried = kept n raw ∷ [];
    by = unput_by channel a y log n raw why (omega (arith, is, low, high)) id (subst (λ (g : Fragment). NotKept y log g a why) made not);
    adds = subst (λ (g : Fragment). Adds site d e x y log [] (g ∷ [])) made adds;
  }

-- ---- asked for, and put

came_upstream : (place : Place) (url : List ℕ) (a : Address) (c : Came) (n : ℕ) (raw : RawFragment) (up : List Entry) → placed_of c ≡ placed.Fragment n raw
    → IsPlacedAt place url a up (placed.Fragment n raw) → CameUpstream place url a c up
came_upstream place url a absent n raw up is at = tt
came_upstream place url a (kept m q) n raw up is at = subst (IsPlacedAt place url a up) (sym is) at
came_upstream place url a (later m q) n raw up is at = tt
came_upstream place url a (dropped m q) n raw up is at = tt

tried_stops : (plan : PullPlan) (channel : List Track) (url : List ℕ) (a : Address) (new : Archive) (log : List Entry) (made : List Exchange) (n : ℕ) (raw : RawFragment) (tried : List Came) (why : Stop)
    → Gives (AsksPlaced plan.place url a) missed plan.tries made (placed.Fragment n raw) → IsUnkept channel a new log n raw tried why → IsTried plan channel url a new log made tried why
tried_stops plan channel url a new log made n raw tried why gives u = record { number = n; raw = raw; tried_is = u.tried_is; next = u.next; gives = gives; id = u.id; not = u.not }

gives_tries : (place : Place) (url : List ℕ) (a : Address) (tries : ℕ) (made : List Exchange) (n : ℕ) (raw : RawFragment)
    → Gives (AsksPlaced place url a) missed tries made (placed.Fragment n raw) → Tries (AsksPlaced place url a) tries made
gives_tries place url a tries made n raw g = tries_of place url a tries made (placed.Fragment n raw) g

unput_stops : (plan : PullPlan) (channel : List Track) (url : List ℕ) (a : Address) (new : Archive) (log : List Entry) (made : List Exchange) (n : ℕ) (raw : RawFragment) (tried : List Came) (end : FollowEnd)
    → Gives (AsksPlaced plan.place url a) missed plan.tries made (placed.Fragment n raw) → UnputBy channel a new log n raw tried end → StopsAt plan channel url a new log made tried end
unput_stops plan channel url a new log made n raw tried (ends.OtherId b id) gives u = (u.0, record { number = n; raw = raw; gives = gives; id_is = u.1; other = u.2 }, u.3)
unput_stops plan channel url a new log made n raw tried (ends.Refused b cause) gives u = tried_stops plan channel url a new log made n raw tried (stop.Refused b cause) gives u
unput_stops plan channel url a new log made n raw tried ends.Full gives u = tried_stops plan channel url a new log made n raw tried stop.Full gives u
unput_stops plan channel url a new log made n raw tried ends.DiskFault gives u = tried_stops plan channel url a new log made n raw tried stop.DiskFault gives u
unput_stops plan channel url a new log made n raw tried ends.NoMemory gives (inl none) = inl (gives_tries plan.place url a plan.tries made n raw gives, none)
unput_stops plan channel url a new log made n raw tried ends.NoMemory gives (inr u) = inr (tried_stops plan channel url a new log made n raw tried stop.NoMemory gives u)
unput_stops plan channel url a new log made n raw tried (ends.GaveUp b outcomes) gives u = absurd u
unput_stops plan channel url a new log made n raw tried ends.Done gives u = absurd u
unput_stops plan channel url a new log made n raw tried (ends.Gap place next) gives u = absurd u
unput_stops plan channel url a new log made n raw tried (ends.NoManifest outcomes) gives u = absurd u
unput_stops plan channel url a new log made n raw tried (ends.NoTrack index) gives u = absurd u

none_up : (place : Place) (url : List ℕ) (a : Address) (tried : List Came) (up : List Entry) → tried ≡ [] → TriedUpstream place url a tried up
none_up place url a tried up none = subst (λ (cs : List Came). TriedUpstream place url a cs up) (sym none) tt

one_up : (place : Place) (url : List ℕ) (a : Address) (n : ℕ) (raw : RawFragment) (tried : List Came) (up : List Entry) → tried ≡ kept n raw ∷ []
    → IsPlacedAt place url a up (placed.Fragment n raw) → TriedUpstream place url a tried up
one_up place url a n raw tried up is at = subst (λ (cs : List Came). TriedUpstream place url a cs up) (sym is) at

unput_up : (place : Place) (url : List ℕ) (channel : List Track) (a : Address) (new : Archive) (log : List Entry) (n : ℕ) (raw : RawFragment) (tried : List Came) (end : FollowEnd) (up : List Entry) →
    UnputBy channel a new log n raw tried end
    → IsPlacedAt place url a up (placed.Fragment n raw) → TriedUpstream place url a tried up
unput_up place url channel a new log n raw tried (ends.OtherId b id) up u at = none_up place url a tried up u.3
unput_up place url channel a new log n raw tried (ends.Refused b cause) up u at = one_up place url a n raw tried up u.tried_is at
unput_up place url channel a new log n raw tried ends.Full up u at = one_up place url a n raw tried up u.tried_is at
unput_up place url channel a new log n raw tried ends.DiskFault up u at = one_up place url a n raw tried up u.tried_is at
unput_up place url channel a new log n raw tried ends.NoMemory up (inl none) at = none_up place url a tried up none
unput_up place url channel a new log n raw tried ends.NoMemory up (inr u) at = one_up place url a n raw tried up u.tried_is at
unput_up place url channel a new log n raw tried (ends.GaveUp b outcomes) up u at = absurd u
unput_up place url channel a new log n raw tried ends.Done up u at = absurd u
unput_up place url channel a new log n raw tried (ends.Gap p next) up u at = absurd u
unput_up place url channel a new log n raw tried (ends.NoManifest outcomes) up u at = absurd u
unput_up place url channel a new log n raw tried (ends.NoTrack index) up u at = absurd u

module _ {D C : Type 0} {site : Seen D} {told : C → Option (List Exchange)} {store : C → List Entry → Type 0}
    {goes_on : C → C → Type 0} {faults : C → ℕ} {chosen : C → Option Peer} {plan : PullPlan} {channel : List Track} where
  pub went_absent : ((d : D) (t : ℕ) (c : Image) → site.left_at d t c → t ≤ (site.view d).moment)
      → (d : D) {x y : C} (url : List ℕ) (a : Address) (z : Archive) (log : List Entry) (made : List Exchange) → Stands z log None (site.may_leave d)
      → Asks told store goes_on faults chosen x y made → Gives (AsksPlaced plan.place url a) missed plan.tries made (placed.Status 404)
      → Went site told store goes_on faults chosen d d x y plan channel url a z z log step.Passed
  went_absent no_later d url a z log made stands asks gives = record {
    made = made;
    came = absent;
    gives = gives;
    id = tt;
    step = tt;
    asks = asks;
    up = λ up told. let g = asks.alone.on.grows up told in (g.0, g.1, tt);
    adds = adds_none no_later d z log stands;
  }

  pub went_put : {d e : D} {x y : C} (url : List ℕ) (a : Address) (z w : Archive) (log : List Entry) (made : List Exchange) (n m : ℕ) (raw : RawFragment) (s : Step) → m ≡ n
      → Asks told store goes_on faults chosen x y made → IsRead plan.place plan.tries url a made (store x) (store y) n raw → IsPut site d e channel a z w log m raw s
      → Went site told store goes_on faults chosen d e x y plan channel url a z w log s
  went_put url a z w log made n m raw s same asks r p =
      let is : placed_of p.came ≡ placed.Fragment n raw = p.came_is ∙ ap (λ (k : ℕ). placed.Fragment k raw) same in
      record {
        made = made;
        came = p.came;
        gives = subst (Gives (AsksPlaced plan.place url a) missed plan.tries made) (sym is) r.gives;
        id = p.id;
        step = p.step;
        asks = asks;
        up = λ up told. let u = r.up up told in (u.0, u.1, came_upstream plan.place url a p.came n raw (up ++ u.0) is u.2);
        adds = p.adds;
      }

  pub stopped_bare : ((d : D) (t : ℕ) (c : Image) → site.left_at d t c → t ≤ (site.view d).moment) → (d : D) {x y : C} (url : List ℕ) (a : Address) (z : Archive) (log : List Entry) (made : List Exchange) (end
      : FollowEnd) → Stands z log None (site.may_leave d)
      → Asks told store goes_on faults chosen x y made → StopsAt plan channel url a z log made [] end
      → Stopped site told store goes_on faults chosen d d x y plan channel url a z z log end
  stopped_bare no_later d url a z log made end stands asks stops = record {
    made = made;
    tried = [];
    stops = stops;
    asks = asks;
    up = λ up told. let g = asks.alone.on.grows up told in (g.0, g.1, tt);
    adds = adds_none no_later d z log stands;
  }

  pub stopped_unput : {d e : D} {x y : C} (url : List ℕ) (a : Address) (z w : Archive) (log : List Entry) (made : List Exchange) (n m : ℕ) (raw : RawFragment) (end : FollowEnd) → m ≡ n
      → Asks told store goes_on faults chosen x y made → IsRead plan.place plan.tries url a made (store x) (store y) n raw → IsUnput site d e channel a z w log m raw end
      → Stopped site told store goes_on faults chosen d e x y plan channel url a z w log end
  stopped_unput {d = d} {e = e} url a z w log made n m raw end same asks r p =
      let by : UnputBy channel a w log n raw p.tried end = subst (λ (k : ℕ). UnputBy channel a w log k raw p.tried end) same p.by in
      record {
        made = made;
        tried = p.tried;
        stops = unput_stops plan channel url a w log made n raw p.tried end r.gives by;
        asks = asks;
        up = λ up told. let u = r.up up told in (u.0, u.1, unput_up plan.place url channel a w log n raw p.tried end (up ++ u.0) by u.2);
        adds = p.adds;
      }
