-- Rounds, one after another.
use Rattle.std.proofs.Common.{◌≡◌, ◌<◌, ◌≤◌, ◌+◌, ℕ, List, [], ◌∷◌, ◌++◌, length-append, Option, None, refl, ap, sym, ◌∙◌, subst, append-nil, inr, arith}
use Rattle.std.proofs.lemmas.Grind.{flat_map-append}
use Rattle.sm_model.specs.declared.entry.Entry.{Entry}
use Rattle.sm_model.specs.declared.fragment.Fragment.{Fragment}
use Rattle.sm_model.specs.declared.track.Track.{Track}
use Rattle.sm_site.specs.Image.{Image}
use Rattle.sm_site.specs.Meanings.{Seen}
use Rattle.sm_manin.specs.declared.listing.Listing.{Listing}
use Rattle.sm_archive.specs.declared.archive.Archive.{Archive}
use Rattle.sm_archive.specs.Stands.{Stands}
use Rattle.sm_fetch.specs.declared.dial.Exchange.{Exchange}
use Rattle.sm_fetch.specs.declared.got.Got.TheVariants as got
use Rattle.sm_fetch.specs.Exchanges.{Peer}
use Rattle.sm_client.specs.Stands.{miss_of}
use Rattle.sm_pull.specs.declared.plan.PullPlan.{PullPlan}
use Rattle.sm_pull.specs.declared.stop.Stop.{Stop}
use Rattle.sm_pull.specs.declared.stop.Stop.TheVariants as stop
use Rattle.sm_pull.specs.Asks.{Asks, AsksManifest, Gives}
use Rattle.sm_pull.specs.Adds.{keeps_of, Adds}
use Rattle.sm_pull.specs.Tracks.{HasTracks}
use Rattle.sm_pull.proofs.Dials.{asks_same, asks_then}
use Rattle.sm_pull.proofs.Disks.{log_both, adds_none, adds_then}
use Rattle.sm_relay.specs.Wants.{wants_of}
use Rattle.sm_relay.specs.Pulls.{Pulls, PullStops}
use Rattle.sm_relay.specs.Rounds.{Round, IsRound, AreRounds, made_in, kept_in, IsBroken, RoundStops, RunsRound, BreaksRound}
use Rattle.sm_relay.specs.Ends.{Ran, RanOut}

rounds_more : (plan : PullPlan) (channel : List Track) (log : List Entry) (rs : List Round) (r : Round) → AreRounds plan channel log rs → IsRound plan channel (log ++ keeps_of (kept_in rs)) r
    → AreRounds plan channel log (rs ++ r ∷ [])
rounds_more plan channel log [] r are is = (subst (λ (l : List Entry). IsRound plan channel l r) (append-nil log) is, tt)
rounds_more plan channel log (q ∷ rs) r are is =
    (are.0, rounds_more plan channel (log ++ keeps_of q.kept) rs r are.1 (subst (λ (l : List Entry). IsRound plan channel l r) (sym (log_both log q.kept (kept_in rs))) is))

made_more : (rs : List Round) (r : Round) → made_in (rs ++ r ∷ []) ≡ made_in rs ++ (r.asked ++ r.pulled)
made_more rs r = flat_map-append (λ (q : Round). q.asked ++ q.pulled) rs (r ∷ []) ∙ ap (λ (xs : List Exchange). made_in rs ++ xs) (append-nil (r.asked ++ r.pulled))

kept_more : (rs : List Round) (r : Round) → kept_in (rs ++ r ∷ []) ≡ kept_in rs ++ r.kept
kept_more rs r = flat_map-append (λ (q : Round). q.kept) rs (r ∷ []) ∙ ap (λ (fs : List Fragment). kept_in rs ++ fs) (append-nil r.kept)

broken_stops : (plan : PullPlan) (channel : List Track) (new : Archive) (log : List Entry) (made : List Exchange) (added tried : List Fragment) (why : Stop)
    → IsBroken plan channel new log made added tried why → RoundStops plan channel new log made added tried why
broken_stops plan channel new log made added tried (stop.NoManifest outcomes) b = absurd b.breaks.stops
broken_stops plan channel new log made added tried (stop.NoTrack index) b = absurd b.breaks.stops
broken_stops plan channel new log made added tried (stop.GaveUp address outcomes) b = b
broken_stops plan channel new log made added tried (stop.Refused address cause) b = b
broken_stops plan channel new log made added tried stop.Full b = b
broken_stops plan channel new log made added tried stop.DiskFault b = b
broken_stops plan channel new log made added tried stop.NoMemory b = inr b

module _ {D C : Type 0} {site : Seen D} {told : C → Option (List Exchange)} {store : C → List Entry → Type 0}
    {later : C → C → Type 0} {faults : C → ℕ} {chosen : C → Option Peer} {plan : PullPlan} {channel : List Track} where
  -- behind a pause
  pub runs_behind : {d e : D} {x y z : C} {a b : Archive} {log : List Entry} → ((x y z : C) → later x y → later y z → later x z) → Asks told store later faults chosen x y []
      → RunsRound site told store later faults chosen plan channel d e y z a b log → RunsRound site told store later faults chosen plan channel d e x z a b log
  runs_behind then pause r = record { round = r.round; is = r.is; asks = asks_then then pause r.asks; adds = r.adds }

  pub breaks_behind : {d e : D} {x y z : C} {a b : Archive} {log : List Entry} (why : Stop) → ((x y z : C) → later x y → later y z → later x z) → Asks told store later faults chosen x y []
      → BreaksRound site told store later faults chosen plan channel d e y z a b log why → BreaksRound site told store later faults chosen plan channel d e x z a b log why
  breaks_behind why then pause r = record { made = r.made; added = r.added; tried = r.tried; asks = asks_then then pause r.asks; adds = r.adds; stops = r.stops }

  -- a round, by what was read and pulled
  pub round_ran : {d e : D} {x y z : C} {a b : Archive} {log : List Entry} {asked : List Exchange} (listing : Listing) → ((x y z : C) → later x y → later y z → later x z)
      → Asks told store later faults chosen x y asked → Gives (AsksManifest plan.place) miss_of plan.tries asked (got.Manifest listing) → HasTracks listing channel
      → Pulls site told store later faults chosen plan d e y z a b log (wants_of channel listing) → RunsRound site told store later faults chosen plan channel d e x z a b log
  round_ran {asked = asked} listing then asks read tracks p = record {
    round = record { listing = listing; asked = asked; pulled = p.made; kept = p.added };
    is = record { read = read; tracks = tracks; walks = p.walks };
    asks = asks_then then asks p.asks;
    adds = p.adds;
  }

  pub round_broke : {d e : D} {x y z : C} {a b : Archive} {log : List Entry} {asked : List Exchange} (listing : Listing) (why : Stop) → ((x y z : C) → later x y → later y z → later x z)
      → Asks told store later faults chosen x y asked → Gives (AsksManifest plan.place) miss_of plan.tries asked (got.Manifest listing) → HasTracks listing channel
      → PullStops site told store later faults chosen plan d e y z a b log (wants_of channel listing) why → BreaksRound site told store later faults chosen plan channel d e x z a b log why
  round_broke {b = b} {log = log} {asked = asked} listing why then asks read tracks p = record {
    made = asked ++ p.made;
    added = p.added;
    tried = p.tried;
    asks = asks_then then asks p.asks;
    adds = p.adds;
    stops = broken_stops plan channel b log (asked ++ p.made) p.added p.tried why
        (record { listing = listing; asked = asked; read = read; tracks = tracks; pulled = p.made; breaks = p.breaks; made_is = refl });
  }

  pub round_stopped : {x y : C} (d : D) (a : Archive) (log : List Entry) (made : List Exchange) (why : Stop) → ((d : D) (t : ℕ) (c : Image) → site.left_at d t c → t ≤ (site.view d).moment)
      → Asks told store later faults chosen x y made → RoundStops plan channel a log made [] [] why → Stands a log None (site.may_leave d)
      → BreaksRound site told store later faults chosen plan channel d d x y a a log why
  round_stopped d a log made why no_later asks stops stands = record { made = made; added = []; tried = []; asks = asks; adds = adds_none no_later d a log stands; stops = stops }

  -- none yet
  pub ran_none : ((d : D) (t : ℕ) (c : Image) → site.left_at d t c → t ≤ (site.view d).moment) → ((x : C) → later x x) → (d : D) (x : C) (a : Archive) (log : List Entry) → Stands a log None (site.may_leave d)
      → Ran site told store later faults chosen plan channel d d x x a a log 0
  ran_none no_later same d x a log stands = record { rounds = []; are = tt; count_is = refl; asks = asks_same same x; adds = adds_none no_later d a log stands }

  -- one more
  pub ran_more : {d e f : D} {x y z : C} {a b c : Archive} {log : List Entry} {n : ℕ} (k : ℕ) → ((x y z : C) → later x y → later y z → later x z)
      → (p : Ran site told store later faults chosen plan channel d e x y a b log n) → RunsRound site told store later faults chosen plan channel e f y z b c (log ++ keeps_of (kept_in p.rounds))
      → k ≡ n + 1 → Ran site told store later faults chosen plan channel d f x z a c log k
  ran_more {d = d} {f = f} {x = x} {z = z} {a = a} {c = c} {log = log} k then p q is = record {
    rounds = p.rounds ++ q.round ∷ [];
    are = rounds_more plan channel log p.rounds q.round p.are q.is;
    count_is = let all = length-append p.rounds (q.round ∷ []) in let so_far = p.count_is in omega (arith, all, so_far, is);
    asks = subst (Asks told store later faults chosen x z) (sym (made_more p.rounds q.round)) (asks_then then p.asks q.asks);
    adds = subst (λ (fs : List Fragment). Adds site d f a c log fs []) (sym (kept_more p.rounds q.round)) (adds_then p.adds q.adds);
  }

  -- and one that broke off
  pub ran_out : {d e f : D} {x y z : C} {a b c : Archive} {log : List Entry} {n : ℕ} (why : Stop) → ((x y z : C) → later x y → later y z → later x z)
      → (p : Ran site told store later faults chosen plan channel d e x y a b log n) → n < plan.rounds
      → BreaksRound site told store later faults chosen plan channel e f y z b c (log ++ keeps_of (kept_in p.rounds)) why
      → RanOut site told store later faults chosen plan channel d f x z a c log why
  ran_out why then p few q = record {
    rounds = p.rounds;
    are = p.are;
    few = let count = p.count_is in omega (arith, count, few);
    made = q.made;
    added = q.added;
    tried = q.tried;
    asks = asks_then then p.asks q.asks;
    adds = adds_then p.adds q.adds;
    stops = q.stops;
  }
