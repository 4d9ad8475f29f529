-- A whole relay: how it ends, and what it keeps.
use Rattle.std.proofs.Common.{◌≡◌, ◌⊎◌, ◌<◌, ◌≤◌, ℕ, suc, Bool, true, false, cond, List, [], ◌∷◌, ◌++◌, length, Option, Some, None, IsSome, refl, ap, sym, ◌∙◌, subst, append_assoc, append-nil, inl, inr, ⊎_elim, arith}
use Rattle.std.specs.Prelude.{is_some}
use Rattle.std.specs.List.{AllByRecursion}
use Rattle.std.proofs.lemmas.Bool.{eq-eqb, and_from}
use Rattle.std.proofs.lemmas.Slice.Eq.{bytes_eq-Decides}
use Rattle.sm_model.specs.declared.address.Address.{Address}
use Rattle.sm_model.specs.declared.entry.Entry.{Entry}
use Rattle.sm_model.specs.declared.entry.Entry.TheVariants.{Declare, Keep}
use Rattle.sm_model.specs.declared.fragment.Fragment.{Fragment}
use Rattle.sm_model.specs.declared.track.Track.{Track}
use Rattle.sm_model.specs.Entries.{address_of}
use Rattle.sm_model.specs.Same.{is_same}
use Rattle.sm_log.specs.Logs.{channel_of, is_kept_at, kept_from, kept_at}
use Rattle.sm_log.proofs.AllLogs.{kept_stays}
use Rattle.sm_site.specs.Image.{Image}
use Rattle.sm_site.specs.Meanings.{Seen}
use Rattle.sm_site.specs.Clauses.{Throughout}
use Rattle.sm_site.proofs.Moments.{weakened}
use Rattle.sm_archive.specs.declared.archive.Archive.{Archive}
use Rattle.sm_archive.specs.Stands.{Stands}
use Rattle.sm_fetch.specs.declared.dial.Exchange.{Exchange}
use Rattle.sm_fetch.specs.Exchanges.{Peer, with_all}
use Rattle.sm_client.specs.Served.{AnsweredBy, IsWhole, IsUnrefused}
use Rattle.sm_client.proofs.Pieces.{spelled-fragment}
use Rattle.sm_pull.specs.declared.plan.PullPlan.{PullPlan}
use Rattle.sm_pull.specs.declared.stop.Stop.{Stop}
use Rattle.sm_pull.specs.declared.stop.Stop.TheVariants as stop
use Rattle.sm_pull.specs.Asks.{Asks}
use Rattle.sm_pull.specs.Adds.{keeps_of, LeavesFront, StandsWith, Adds}
use Rattle.sm_pull.specs.Below.{IsKeptIn, Below}
use Rattle.sm_pull.proofs.Dials.{asks_same}
use Rattle.sm_pull.proofs.Disks.{log_both, adds_none}
use Rattle.sm_pull.proofs.BelowStays.{below_front, below_grows}
use Rattle.sm_pull.proofs.Tried.{both_all}
use Rattle.sm_relay.specs.declared.report.RelayEnd.{RelayEnd}
use Rattle.sm_relay.specs.declared.report.RelayEnd.TheVariants as ends
use Rattle.sm_relay.specs.Wants.{Want, wants_of}
use Rattle.sm_relay.specs.Pulls.{Reads, IsStep, Walks}
use Rattle.sm_relay.specs.Rounds.{Round, AreRounds, made_in, kept_in, RoundStops}
use Rattle.sm_relay.specs.Ends.{end_of, Ran, RanOut, IsDone, IsStopped, EndsWith, Relayed, KeepsListed}
use Rattle.sm_relay.specs.Served.{Serves, IsOffered, LeavesBelow, EndsWell}
use Rattle.sm_pull.specs.Patience.{IsPatient}
use Rattle.sm_relay.proofs.Origin.{all_on, rounds_kept, stops_kept, all_with}
use Rattle.sm_pull.proofs.Moments.{answered_split, answered_grows}
use Rattle.sm_relay.proofs.EndingWell.{below_added, back_all, channel_stays, stops_well}

-- ---- ends

stopped : (plan : PullPlan) (channel : List Track) (new : Archive) (log : List Entry) (count : ℕ) (made : List Exchange) (added tried : List Fragment) (why : Stop) → count < plan.rounds
    → RoundStops plan channel new log made added tried why → EndsWith plan channel new log count made added tried (end_of why)
stopped plan channel new log count made added tried (stop.NoManifest outcomes) few stops = record { few = few; why = stop.NoManifest outcomes; end_is = refl; stops = stops }
stopped plan channel new log count made added tried (stop.NoTrack index) few stops = record { few = few; why = stop.NoTrack index; end_is = refl; stops = stops }
stopped plan channel new log count made added tried (stop.GaveUp address outcomes) few stops = record { few = few; why = stop.GaveUp address outcomes; end_is = refl; stops = stops }
stopped plan channel new log count made added tried (stop.Refused address cause) few stops = record { few = few; why = stop.Refused address cause; end_is = refl; stops = stops }
stopped plan channel new log count made added tried stop.Full few stops = record { few = few; why = stop.Full; end_is = refl; stops = stops }
stopped plan channel new log count made added tried stop.DiskFault few stops = record { few = few; why = stop.DiskFault; end_is = refl; stops = stops }
stopped plan channel new log count made added tried stop.NoMemory few stops = record { few = few; why = stop.NoMemory; end_is = refl; stops = stops }

pub ends_either : (plan : PullPlan) (channel : List Track) (new : Archive) (log : List Entry) (count : ℕ) (made : List Exchange) (added tried : List Fragment) (end : RelayEnd)
    → EndsWith plan channel new log count made added tried end → (IsDone plan count made added tried × (end ≡ ends.Done)) ⊎ IsStopped plan channel new log count made added tried end
ends_either plan channel new log count made added tried ends.Done e = inl (e, refl)
ends_either plan channel new log count made added tried (ends.NoManifest outcomes) e = inr e
ends_either plan channel new log count made added tried (ends.NoTrack index) e = inr e
ends_either plan channel new log count made added tried (ends.GaveUp address outcomes) e = inr e
ends_either plan channel new log count made added tried (ends.Refused address cause) e = inr e
ends_either plan channel new log count made added tried ends.Full e = inr e
ends_either plan channel new log count made added tried ends.DiskFault e = inr e
ends_either plan channel new log count made added tried ends.NoMemory e = inr e

-- ---- what is kept at an address

at_itself : (f : Fragment) → is_kept_at (address_of f) f ≡ true
at_itself f = and_from (is_same f.stream f.stream) _ ((bytes_eq-Decides f.stream f.stream).1 refl) (and_from _ _ (eq-eqb f.bitrate f.bitrate refl) (eq-eqb f.time f.time refl))

kept_last : (place : ℕ) (log : List Entry) (f : Fragment) → IsSome (kept_from (address_of f) place (log ++ Keep f ∷ []))
kept_last place [] f = rw (at_itself f) refl
kept_last place (Declare tracks ∷ log) f = kept_last (suc place) log f
kept_last place (Keep g ∷ log) f = by_test (is_kept_at (address_of f) g) (kept_last (suc place) log f)
  where
    by_test : (b : Bool) → IsSome (kept_from (address_of f) (suc place) (log ++ Keep f ∷ [])) → IsSome (cond b (Some (place, g)) (kept_from (address_of f) (suc place) (log ++ Keep f ∷ [])))
    by_test true rest = refl
    by_test false rest = rest

some_is : {A : Type 0} (o : Option A) → IsSome o → (x : A) × (o ≡ Some x)
some_is None e = absurd (cc)
some_is (Some x) e = (x, refl)

some_stays : (log more : List Entry) (a : Address) → IsSome (kept_at log a) → IsSome (kept_at (log ++ more) a)
some_stays log more a is = let k = some_is (kept_at log a) is in ap is_some (kept_stays a 0 log more k.0 k.1)

pub read_address : (plan : PullPlan) (log : List Entry) (w : Want) (made : List Exchange) (f : Fragment) → Reads plan log w made f → address_of f ≡ w.address
read_address plan log w made f r =
    let v = spelled-fragment w.address.time r.gave.last.answer r.raw r.gave.gave.spelled in
    ap address_of r.is ∙ ap (λ (t : ℕ). record { stream = w.address.stream; bitrate = w.address.bitrate; time = t }) v.1

step_keeps : (plan : PullPlan) (log : List Entry) (w : Want) (made : List Exchange) (added : List Fragment) → IsStep plan log w made added → IsSome (kept_at (log ++ keeps_of added) w.address)
step_keeps plan log w made added (inl s) = some_stays log (keeps_of added) w.address s.kept
step_keeps plan log w made added (inr t) =
    subst (λ (fs : List Fragment). IsSome (kept_at (log ++ keeps_of fs) w.address)) (sym t.added_is)
    (subst (λ (a : Address). IsSome (kept_at (log ++ Keep t.fragment ∷ []) a)) (read_address plan log w made t.fragment t.reads) (kept_last 0 log t.fragment))

walks_keep : (plan : PullPlan) (log : List Entry) (ws : List Want) (made : List Exchange) (added : List Fragment) → Walks plan log ws made added
    → AllByRecursion (λ (w : Want). IsSome (kept_at (log ++ keeps_of added) w.address)) ws
walks_keep plan log [] made added walks = tt
walks_keep plan log (w ∷ ws) made added (one, more, kept, rest, step, walks, made_is, added_is) =
    let on : log ++ keeps_of added ≡ (log ++ keeps_of kept) ++ keeps_of rest = ap (λ (fs : List Fragment). log ++ keeps_of fs) added_is ∙ sym (log_both log kept rest) in (
      subst (λ (l : List Entry). IsSome (kept_at l w.address)) (sym on) (some_stays (log ++ keeps_of kept) (keeps_of rest) w.address (step_keeps plan log w one kept step)),
      subst (λ (l : List Entry). AllByRecursion (λ (v : Want). IsSome (kept_at l v.address)) ws) (sym on) (walks_keep plan (log ++ keeps_of kept) ws more rest walks),
    )

pub rounds_keep : (plan : PullPlan) (channel : List Track) (log : List Entry) (rs : List Round) (more : List Fragment) → AreRounds plan channel log rs
    → AllByRecursion (KeepsListed channel (log ++ keeps_of (kept_in rs ++ more))) rs
rounds_keep plan channel log [] more are = tt
rounds_keep plan channel log (r ∷ rs) more are =
    let on : log ++ keeps_of ((r.kept ++ kept_in rs) ++ more) ≡ (log ++ keeps_of r.kept) ++ keeps_of (kept_in rs ++ more) =
    ap (λ (fs : List Fragment). log ++ keeps_of fs) (append_assoc r.kept (kept_in rs) more) ∙ sym (log_both log r.kept (kept_in rs ++ more)) in (
      subst (λ (l : List Entry). KeepsListed channel l r) (sym on)
          (all_with (λ (w : Want). IsSome (kept_at (log ++ keeps_of r.kept) w.address)) (λ (w : Want). IsSome (kept_at ((log ++ keeps_of r.kept) ++ keeps_of (kept_in rs ++ more)) w.address)) (wants_of channel r.listing)
          (λ w there. some_stays (log ++ keeps_of r.kept) (keeps_of (kept_in rs ++ more)) w.address there) (walks_keep plan log (wants_of channel r.listing) r.pulled r.kept are.0.walks)),
      subst (λ (l : List Entry). AllByRecursion (KeepsListed channel l) rs) (sym on) (rounds_keep plan channel (log ++ keeps_of r.kept) rs more are.1),
    )

-- ---- exchanges that were told

cancel : {A : Type 0} (xs ys zs : List A) → xs ++ ys ≡ xs ++ zs → ys ≡ zs
cancel [] ys zs e = e
cancel (x ∷ xs) ys zs e = let rest : xs ++ ys ≡ xs ++ zs = cc in cancel xs ys zs rest

some_same : {A : Type 0} (x y : A) → Some x ≡ Some y → x ≡ y
some_same x y e = cc

pub made_same : (old new : Option (List Exchange)) (before made all : List Exchange) → old ≡ Some before → new ≡ Some (before ++ made) → new ≡ with_all old all → made ≡ all
made_same old new before made all was is told =
    cancel before made all (some_same (before ++ made) (before ++ all) (sym is ∙ told ∙ ap (λ (o : Option (List Exchange)). with_all o all) was))

-- ---- a whole call

pub still_stands : (a : Archive) (log : List Entry) (tried : List Fragment) (outcomes : Image → Type 0) → StandsWith a log tried outcomes → (l : List Entry) × (doubt : Option Entry) × Stands a l doubt outcomes
still_stands a log [] outcomes s = (log, None, s)
still_stands a log (f ∷ fs) outcomes (inl s) = (log, None, s)
still_stands a log (f ∷ fs) outcomes (inr s) = (log, Some (Keep f), s)

module _ {D C : Type 0} {site : Seen D} {told : C → Option (List Exchange)} {store : C → List Entry → Type 0}
    {later : C → C → Type 0} {faults : C → ℕ} {chosen : C → Option Peer} {plan : PullPlan} where
  pub relayed_done : {d e : D} {x y : C} {a b : Archive} {log : List Entry} (own channel : List Track) → own ≡ channel
      → Ran site told store later faults chosen plan own d e x y a b log plan.rounds → Relayed site told store later faults chosen plan channel d e x y a b log ends.Done
  relayed_done {d = d} {e = e} {x = x} {y = y} {a = a} {b = b} {log = log} own channel same p = record {
    rounds = p.rounds;
    are = subst (λ (c : List Track). AreRounds plan c log p.rounds) same p.are;
    made = [];
    added = [];
    tried = [];
    asks = subst (Asks told store later faults chosen x y) (sym (append-nil (made_in p.rounds))) p.asks;
    adds = subst (λ (fs : List Fragment). Adds site d e a b log fs []) (sym (append-nil (kept_in p.rounds))) p.adds;
    ends = record { all = p.count_is; made_is = refl; added_is = refl; tried_is = refl };
  }

  pub relayed_out : {d e : D} {x y : C} {a b : Archive} {log : List Entry} (own channel : List Track) (why : Stop) (end : RelayEnd) → own ≡ channel → end ≡ end_of why
      → RanOut site told store later faults chosen plan own d e x y a b log why → Relayed site told store later faults chosen plan channel d e x y a b log end
  relayed_out {b = b} {log = log} own channel why end same is p = record {
    rounds = p.rounds;
    are = subst (λ (c : List Track). AreRounds plan c log p.rounds) same p.are;
    made = p.made;
    added = p.added;
    tried = p.tried;
    asks = p.asks;
    adds = p.adds;
    ends = subst (EndsWith plan channel b (log ++ keeps_of (kept_in p.rounds)) (length p.rounds) p.made p.added p.tried) (sym is)
        (stopped plan channel b (log ++ keeps_of (kept_in p.rounds)) (length p.rounds) p.made p.added p.tried why p.few
        (subst (λ (c : List Track). RoundStops plan c b (log ++ keeps_of (kept_in p.rounds)) p.made p.added p.tried why) same p.stops));
  }

  pub relayed_none : (channel : List Track) → ((d : D) (t : ℕ) (c : Image) → site.left_at d t c → t ≤ (site.view d).moment) → ((x : C) → later x x) → (d : D) (x : C) (a : Archive) (log : List Entry) → 0 < plan.rounds
      → Stands a log None (site.may_leave d) → Relayed site told store later faults chosen plan channel d d x x a a log ends.NoMemory
  relayed_none channel no_later same d x a log some stands = record {
    rounds = [];
    are = tt;
    made = [];
    added = [];
    tried = [];
    asks = asks_same same x;
    adds = adds_none no_later d a log stands;
    ends = record { few = some; why = stop.NoMemory; end_is = refl; stops = inl (record { tries = record { each = tt; few = omega arith }; added_is = refl; tried_is = refl }) };
  }

  module _ {d e : D} {x y : C} {a b : Archive} {log : List Entry} {channel : List Track} {end : RelayEnd} (p : Relayed site told store later faults chosen plan channel d e x y a b log end)
      (up : List Track) (first last : List Entry) (all : List Exchange) (serves : Serves plan.place up first last all) (same : all ≡ made_in p.rounds ++ p.made) where
    answered : AnsweredBy up first (made_in p.rounds ++ p.made) last
    answered = subst (λ (xs : List Exchange). AnsweredBy up first xs last) same serves.answered

    all_kept : AllByRecursion (IsKeptIn last) ((kept_in p.rounds ++ p.added) ++ p.tried)
    all_kept =
        let s = answered_split up first last (made_in p.rounds) p.made answered in
        let h = answered_grows up s.0 last p.made s.2 in
        let here = all_on s.0 last h.0 (kept_in p.rounds) h.1 (rounds_kept plan up channel first last first s.0 log all p.rounds serves p.are s.1) in
        subst (AllByRecursion (IsKeptIn last)) (sym (append_assoc (kept_in p.rounds) p.added p.tried))
        (both_all (IsKeptIn last) (kept_in p.rounds) (p.added ++ p.tried) here
        (⊎_elim
        (λ (done : IsDone plan (length p.rounds) p.made p.added p.tried × (end ≡ ends.Done)).
        subst (AllByRecursion (IsKeptIn last)) (sym (ap (λ (fs : List Fragment). fs ++ p.tried) done.0.added_is ∙ done.0.tried_is)) tt)
        (λ (out : IsStopped plan channel b (log ++ keeps_of (kept_in p.rounds)) (length p.rounds) p.made p.added p.tried end).
        stops_kept plan up channel first last s.0 last (log ++ keeps_of (kept_in p.rounds)) b all p.made p.added p.tried out.why serves out.stops s.2)
        (ends_either plan channel b (log ++ keeps_of (kept_in p.rounds)) (length p.rounds) p.made p.added p.tried end p.ends)))

    pub relayed_below : Below log first → IsSome (site.view d).contents → Throughout site d e (LeavesBelow last)
    relayed_below below some =
        let g = answered_grows up first last (made_in p.rounds ++ p.made) answered in
        let here : Below log last = subst (Below log) (sym g.1) (below_grows log first g.0 below) in
        weakened site d e (LeavesFront log ((kept_in p.rounds ++ p.added) ++ p.tried)) (LeavesBelow last) (p.adds.moments some)
        (λ t c left. (left.0, left.1, below_front log last left.0 ((kept_in p.rounds ++ p.added) ++ p.tried) all_kept here left.2))

    pub relayed_well : 0 < plan.tries → channel_of log ≡ Some channel → Below log first → IsPatient all → AllByRecursion (IsOffered up) channel → EndsWell end
    relayed_well some channel_is below patient offers =
        let s = answered_split up first last (made_in p.rounds) p.made answered in
        let g = answered_grows up first s.0 (made_in p.rounds) s.1 in
        let here : Below (log ++ keeps_of (kept_in p.rounds)) s.0 =
        below_added log s.0 (kept_in p.rounds) (rounds_kept plan up channel first last first s.0 log all p.rounds serves p.are s.1) (subst (Below log) (sym g.1) (below_grows log first g.0 below)) in
        let rest = back_all (λ (q : Exchange). IsWhole q.answer × IsUnrefused q.answer) (made_in p.rounds) p.made (subst IsPatient same patient) in
        ⊎_elim
        (λ (done : IsDone plan (length p.rounds) p.made p.added p.tried × (end ≡ ends.Done)). subst EndsWell (sym done.1) tt)
        (λ (out : IsStopped plan channel b (log ++ keeps_of (kept_in p.rounds)) (length p.rounds) p.made p.added p.tried end).
        subst EndsWell (sym out.end_is)
        (stops_well plan up channel first last all some serves offers s.0 last (log ++ keeps_of (kept_in p.rounds)) b p.made p.added p.tried out.why (channel_stays log (keeps_of (kept_in p.rounds)) channel channel_is) here
        out.stops s.2 rest))
        (ends_either plan channel b (log ++ keeps_of (kept_in p.rounds)) (length p.rounds) p.made p.added p.tried end p.ends)
