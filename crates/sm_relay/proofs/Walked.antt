-- Wants gone through, one part after another.
use Rattle.std.proofs.Common.{◌≡◌, ◌≤◌, ℕ, Bool, true, false, List, [], ◌∷◌, ◌++◌, length, length-append, Option, Some, None, IsSome, refl, ap, sym, ◌∙◌, subst, append_assoc, append-nil, inr, arith}
use Rattle.std.specs.Prelude.{is_some}
use Rattle.std.specs.List.{AllByRecursion}
use Rattle.sm_model.specs.declared.entry.Entry.{Entry}
use Rattle.sm_model.specs.declared.fragment.Fragment.{Fragment}
use Rattle.sm_site.specs.Image.{Image}
use Rattle.sm_site.specs.Meanings.{Seen}
use Rattle.sm_archive.specs.declared.archive.Archive.{Archive}
use Rattle.sm_archive.specs.Stands.{Stands}
use Rattle.sm_fetch.specs.declared.dial.Exchange.{Exchange}
use Rattle.sm_fetch.specs.Exchanges.{Peer}
use Rattle.sm_client.specs.declared.report.Miss.{Miss}
use Rattle.sm_pull.specs.declared.plan.PullPlan.{PullPlan}
use Rattle.sm_pull.specs.declared.stop.Stop.{Stop}
use Rattle.sm_pull.specs.declared.stop.Stop.TheVariants as stop
use Rattle.sm_pull.specs.Asks.{Asks, Gives, Tries}
use Rattle.sm_pull.specs.Adds.{keeps_of, Adds}
use Rattle.sm_pull.proofs.Dials.{asks_same, asks_then}
use Rattle.sm_pull.proofs.Tried.{both_all, misses_tried}
use Rattle.sm_pull.proofs.Disks.{log_both, adds_none, adds_then}
use Rattle.sm_relay.specs.Wants.{Want}
use Rattle.sm_relay.specs.Pulls.{IsStep, Fails, StopsAt, Walks, Breaks, Pulls, PullStops}

-- ---- lists

walks_at : (plan : PullPlan) (log log' : List Entry) (ws : List Want) (made made' : List Exchange) (added added' : List Fragment) → log ≡ log' → made ≡ made' → added ≡ added'
    → Walks plan log ws made added → Walks plan log' ws made' added'
walks_at plan log log' ws made made' added added' l m a walks =
    subst (λ (x : List Entry). Walks plan x ws made' added') l (subst (λ (x : List Exchange). Walks plan log ws x added') m (subst (λ (x : List Fragment). Walks plan log ws made x) a walks))

pub walks_then : (plan : PullPlan) (log : List Entry) (ws vs : List Want) (made made' : List Exchange) (added added' : List Fragment) → Walks plan log ws made added
    → Walks plan (log ++ keeps_of added) vs made' added' → Walks plan log (ws ++ vs) (made ++ made') (added ++ added')
walks_then plan log [] vs made made' added added' first second =
    walks_at plan (log ++ keeps_of added) log vs made' (made ++ made') added' (added ++ added')
    (ap (λ (fs : List Fragment). log ++ keeps_of fs) first.1 ∙ append-nil log) (ap (λ (xs : List Exchange). xs ++ made') (sym first.0)) (ap (λ (fs : List Fragment). fs ++ added') (sym first.1)) second
walks_then plan log (w ∷ ws) vs made made' added added' (one, more, kept, rest, step, walks, made_is, added_is) second =
    let on : log ++ keeps_of added ≡ (log ++ keeps_of kept) ++ keeps_of rest = ap (λ (fs : List Fragment). log ++ keeps_of fs) added_is ∙ sym (log_both log kept rest) in (
      one,
      more ++ made',
      kept,
      rest ++ added',
      step,
      walks_then plan (log ++ keeps_of kept) ws vs more made' rest added' walks (subst (λ (l : List Entry). Walks plan l vs made' added') on second),
      ap (λ (xs : List Exchange). xs ++ made') made_is ∙ append_assoc one more made',
      ap (λ (fs : List Fragment). fs ++ added') added_is ∙ append_assoc kept rest added',
    )

pub walks_one : (plan : PullPlan) (log : List Entry) (w : Want) (made : List Exchange) (added : List Fragment) → IsStep plan log w made added → Walks plan log (w ∷ []) made added
walks_one plan log w made added step = (made, [], added, [], step, (refl, refl), sym (append-nil made), sym (append-nil added))

pub breaks_then : (plan : PullPlan) (new : Archive) (log : List Entry) (ws vs : List Want) (made made' : List Exchange) (added added' tried : List Fragment) (why : Stop) → Walks plan log ws made added
    → Breaks plan new (log ++ keeps_of added) vs made' added' tried why → Breaks plan new log (ws ++ vs) (made ++ made') (added ++ added') tried why
breaks_then plan new log ws vs made made' added added' tried why walks b = record {
  front = ws ++ b.front;
  want = b.want;
  back = b.back;
  wants_are = ap (λ (xs : List Want). ws ++ xs) b.wants_are ∙ sym (append_assoc ws b.front (b.want ∷ b.back));
  walked = made ++ b.walked;
  walks = walks_then plan log ws b.front made b.walked added added' walks b.walks;
  last = b.last;
  stops = subst (λ (l : List Entry). StopsAt plan new l b.want b.last tried why) (log_both log added added') b.stops;
  made_is = ap (λ (xs : List Exchange). made ++ xs) b.made_is ∙ sym (append_assoc made b.walked b.last);
}

pub breaks_more : (plan : PullPlan) (new : Archive) (log : List Entry) (ws vs : List Want) (made : List Exchange) (added tried : List Fragment) (why : Stop)
    → Breaks plan new log ws made added tried why → Breaks plan new log (ws ++ vs) made added tried why
breaks_more plan new log ws vs made added tried why b = record {
  front = b.front;
  want = b.want;
  back = b.back ++ vs;
  wants_are = ap (λ (xs : List Want). xs ++ vs) b.wants_are ∙ append_assoc b.front (b.want ∷ b.back) vs;
  walked = b.walked;
  walks = b.walks;
  last = b.last;
  stops = b.stops;
  made_is = b.made_is;
}

pub breaks_one : (plan : PullPlan) (new : Archive) (log : List Entry) (w : Want) (made : List Exchange) (tried : List Fragment) (why : Stop) → StopsAt plan new log w made tried why
    → Breaks plan new log (w ∷ []) made [] tried why
breaks_one plan new log w made tried why stops = record {
  front = [];
  want = w;
  back = [];
  wants_are = refl;
  walked = [];
  walks = (refl, refl);
  last = made;
  stops = subst (λ (l : List Entry). StopsAt plan new l w made tried why) (sym (append-nil log)) stops;
  made_is = refl;
}

-- ---- calls

module _ {D C : Type 0} {site : Seen D} {told : C → Option (List Exchange)} {store : C → List Entry → Type 0}
    {later : C → C → Type 0} {faults : C → ℕ} {chosen : C → Option Peer} {plan : PullPlan} where
  -- nothing was wanted
  pub pulls_none : ((d : D) (t : ℕ) (c : Image) → site.left_at d t c → t ≤ (site.view d).moment) → ((x : C) → later x x) → (d : D) (x : C) (a : Archive) (log : List Entry) (wants : List Want) → wants ≡ []
      → Stands a log None (site.may_leave d) → Pulls site told store later faults chosen plan d d x x a a log wants
  pulls_none no_later same d x a log wants none stands = record {
    made = [];
    added = [];
    asks = asks_same same x;
    adds = adds_none no_later d a log stands;
    walks = subst (λ (ws : List Want). Walks plan log ws [] []) (sym none) (refl, refl);
  }

  -- one part, and then another
  pub pulls_then : {d e f : D} {x y z : C} {a b c : Archive} {log : List Entry} (wants ws vs : List Want) → wants ≡ ws ++ vs → ((x y z : C) → later x y → later y z → later x z)
      → (p : Pulls site told store later faults chosen plan d e x y a b log ws) → Pulls site told store later faults chosen plan e f y z b c (log ++ keeps_of p.added) vs
      → Pulls site told store later faults chosen plan d f x z a c log wants
  pulls_then {log = log} wants ws vs is then p q = record {
    made = p.made ++ q.made;
    added = p.added ++ q.added;
    asks = asks_then then p.asks q.asks;
    adds = adds_then p.adds q.adds;
    walks = subst (λ (us : List Want). Walks plan log us (p.made ++ q.made) (p.added ++ q.added)) (sym is) (walks_then plan log ws vs p.made q.made p.added q.added p.walks q.walks);
  }

  -- one part, and then one that ends it, whatever stands behind
  pub stops_then : {d e f : D} {x y z : C} {a b c : Archive} {log : List Entry} (why : Stop) (wants ws vs us : List Want) → wants ≡ (ws ++ vs) ++ us → ((x y z : C) → later x y → later y z → later x z)
      → (p : Pulls site told store later faults chosen plan d e x y a b log ws) → PullStops site told store later faults chosen plan e f y z b c (log ++ keeps_of p.added) vs why
      → PullStops site told store later faults chosen plan d f x z a c log wants why
  stops_then {c = c} {log = log} why wants ws vs us is then p q = record {
    made = p.made ++ q.made;
    added = p.added ++ q.added;
    tried = q.tried;
    asks = asks_then then p.asks q.asks;
    adds = adds_then p.adds q.adds;
    breaks = subst (λ (ts : List Want). Breaks plan c log ts (p.made ++ q.made) (p.added ++ q.added) q.tried why) (sym is)
        (breaks_more plan c log (ws ++ vs) us (p.made ++ q.made) (p.added ++ q.added) q.tried why (breaks_then plan c log ws vs p.made q.made p.added q.added q.tried why p.walks q.breaks));
  }

  -- the same wants
  pub pulls_as : {d e : D} {x y : C} {a b : Archive} {log : List Entry} (ws vs : List Want) → ws ≡ vs → Pulls site told store later faults chosen plan d e x y a b log ws
      → Pulls site told store later faults chosen plan d e x y a b log vs
  pulls_as {log = log} ws vs is p = record {
    made = p.made;
    added = p.added;
    asks = p.asks;
    adds = p.adds;
    walks = subst (λ (us : List Want). Walks plan log us p.made p.added) is p.walks;
  }

  pub stops_as : {d e : D} {x y : C} {a b : Archive} {log : List Entry} (why : Stop) (ws vs : List Want) → ws ≡ vs → PullStops site told store later faults chosen plan d e x y a b log ws why
      → PullStops site told store later faults chosen plan d e x y a b log vs why
  stops_as {b = b} {log = log} why ws vs is p = record {
    made = p.made;
    added = p.added;
    tried = p.tried;
    asks = p.asks;
    adds = p.adds;
    breaks = subst (λ (us : List Want). Breaks plan b log us p.made p.added p.tried why) is p.breaks;
  }

  -- one address
  pub pulls_one : {d e : D} {x y : C} {a b : Archive} {log : List Entry} (w : Want) (made : List Exchange) (added : List Fragment) → Asks told store later faults chosen x y made
      → Adds site d e a b log added [] → IsStep plan log w made added → Pulls site told store later faults chosen plan d e x y a b log (w ∷ [])
  pulls_one {log = log} w made added asks adds step = record { made = made; added = added; asks = asks; adds = adds; walks = walks_one plan log w made added step }

  pub stops_one : {d e : D} {x y : C} {a b : Archive} {log : List Entry} (why : Stop) (w : Want) (made : List Exchange) (tried : List Fragment) → Asks told store later faults chosen x y made
      → Adds site d e a b log [] tried → StopsAt plan b log w made tried why → PullStops site told store later faults chosen plan d e x y a b log (w ∷ []) why
  stops_one {b = b} {log = log} why w made tried asks adds stops = record { made = made; added = []; tried = tried; asks = asks; adds = adds; breaks = breaks_one plan b log w made tried why stops }

-- ---- one address

pub none_there : {A : Type 0} (o : Option A) (b : Bool) → b ≡ is_some o → b ≡ false → o ≡ None
none_there None b is not = refl
none_there (Some x) b is not = absurd (let e : true ≡ false = sym is ∙ not in cc)

pub some_there : {A : Type 0} (o : Option A) (b : Bool) → b ≡ is_some o → b ≡ true → IsSome o
some_there None b is so = absurd (let e : false ≡ true = sym is ∙ so in cc)
some_there (Some x) b is so = refl

pub gives_tries : {G : Type 0} (asks : Exchange → G → Type 0) (miss : G → Option Miss) (tries : ℕ) (made : List Exchange) (g : G) → Gives asks miss tries made g → Tries asks tries made
gives_tries {G = G} asks miss tries made g gives = record {
  each = subst (AllByRecursion (λ (x : Exchange). (h : G) × asks x h)) (sym gives.made_is)
      (both_all (λ (x : Exchange). (h : G) × asks x h) gives.missed (gives.last ∷ []) (misses_tried asks miss gives.missed gives.outcomes gives.misses) ((g, gives.gave), tt));
  few = let all = ap length gives.made_is in let both = length-append gives.missed (gives.last ∷ []) in let few = gives.few in omega (arith, all, both, few);
}

-- what isn't kept for such a reason
pub stops_failed : (plan : PullPlan) (new : Archive) (log : List Entry) (w : Want) (made : List Exchange) (tried : List Fragment) (why : Stop) → Fails plan new log w made tried why
    → StopsAt plan new log w made tried why
stops_failed plan new log w made tried (stop.NoManifest outcomes) f = absurd f.not_kept
stops_failed plan new log w made tried (stop.NoTrack index) f = absurd f.not_kept
stops_failed plan new log w made tried (stop.GaveUp address outcomes) f = absurd f.not_kept
stops_failed plan new log w made tried (stop.Refused address cause) f = f
stops_failed plan new log w made tried stop.Full f = f
stops_failed plan new log w made tried stop.DiskFault f = f
stops_failed plan new log w made tried stop.NoMemory f = inr f
