-- Manifests, read until the expected start is known.
use Rattle.std.proofs.Common.{◌≡◌, ◌<◌, ℕ, Bool, true, List, [], length, Option, Some, None, refl, sym, ◌∙◌}
use Rattle.sm_manin.specs.declared.listing.StreamListing.{StreamListing}
use Rattle.sm_fetch.specs.declared.dial.Exchange.{Exchange}
use Rattle.sm_client.specs.declared.plan.Plan.{Plan}
use Rattle.sm_client.specs.declared.report.Miss.{Miss}
use Rattle.sm_client.specs.declared.report.End.{End}
use Rattle.sm_client.specs.declared.report.End.TheVariants as ends
use Rattle.sm_client.specs.declared.list.Manifest.TheVariants as manifest
use Rattle.sm_client.specs.declared.standing.Standing as code
use Rattle.sm_client.specs.Starts.{has, starts}
use Rattle.sm_client.specs.Stands.{Stand, unread, absent, standing, Standing, relisted, first_start}
use Rattle.sm_client.specs.Asks.{MayList, Relists}
use Rattle.sm_client.specs.Ends.{EndsAt, IsTail}
use Rattle.sm_client.specs.Calls.{at, Holds, HasLevels, ListWent, ListedBy, ListEnded, BegunStanding, RelistedTo, RelistEnded, SoughtFound}
use Rattle.sm_client.proofs.Went.{lists-start, lists-more}

-- ---- the first manifest

pub found-levels : {plan : Plan} {name : List ℕ} {old new : Option (List Exchange)} {found : Option StreamListing} (o : Option StreamListing)
    → ((stand : Stand) → MayList plan stand → ListedBy plan name stand old new (manifest.Read found)) → found ≡ o → HasLevels o
found-levels o r is = rw is at (r unread tt).1

pub began-absent : {plan : Plan} {name : List ℕ} {old new : Option (List Exchange)} {found : Option StreamListing} (number : ℕ)
    → ((stand : Stand) → MayList plan stand → ListedBy plan name stand old new (manifest.Read found)) → found ≡ None
    → ListEnded plan name number (at unread []) (ends.NoStream number) old new
began-absent {plan = plan} number r is = record {
  to = at absent [];
  last = [];
  went = rw is at (r unread tt).0;
  written = refl;
  ends = record { stands = refl; which = refl };
  tail = record { last_is = refl; tail_is = refl };
}

pub began-standing : {plan : Plan} {name : List ℕ} {old new : Option (List Exchange)} {found : Option StreamListing} {s : StreamListing} (from : Option ℕ) (now : code.Standing)
    → ((stand : Stand) → MayList plan stand → ListedBy plan name stand old new (manifest.Read found)) → found ≡ Some s → from ≡ plan.from
    → Holds now (record { listing = Some s; expected = first_start from s.times; known = starts s.times; written = []; manifests = 1 })
    → BegunStanding plan name now old new
began-standing {plan = plan} {s = s} from now r is same holds = record {
  to = record { listing = Some s; expected = first_start plan.from s.times; known = starts s.times; written = []; manifests = 1 };
  holds = rw (← same) holds;
  written = refl;
  went = rw is at (r unread tt).0;
}

pub began-lost : {plan : Plan} {name : List ℕ} {old new : Option (List Exchange)} {found : Option StreamListing} {s : StreamListing} (number : ℕ)
    → ((stand : Stand) → MayList plan stand → ListedBy plan name stand old new (manifest.Read found)) → found ≡ Some s
    → ListEnded plan name number (at unread []) ends.NoMemory old new
began-lost number r is = record { to = _; last = []; went = rw is at (r unread tt).0; written = refl; ends = tt; tail = refl }

pub listed-gave_up : {plan : Plan} {name : List ℕ} {old new : Option (List Exchange)} {outcomes : List Miss} (number : ℕ) (stand : Stand) → MayList plan stand
    → ListedBy plan name stand old new (manifest.GaveUp outcomes) → ListEnded plan name number (at stand []) (ends.NoManifest outcomes) old new
listed-gave_up number stand may r = record {
  to = _;
  last = [];
  went = r.0;
  written = refl;
  ends = record { may = may; missed = refl; all = r.1 };
  tail = record { last_is = refl; tail_is = refl };
}

pub listed-stopped : {plan : Plan} {name : List ℕ} {old new : Option (List Exchange)} (number : ℕ) (stand : Stand)
    → ListedBy plan name stand old new manifest.NoMemory → ListEnded plan name number (at stand []) ends.NoMemory old new
listed-stopped number stand r = record { to = r.to; last = r.last; went = r.went; written = r.written; ends = tt; tail = refl }

-- ---- a further one

pub relisted-to : {plan : Plan} {name : List ℕ} {old new : Option (List Exchange)} {found : Option StreamListing} {p : Standing} {now : code.Standing} → Relists plan p
    → ((stand : Stand) → MayList plan stand → ListedBy plan name stand old new (manifest.Read found)) → Holds now (relisted p found) → RelistedTo plan name p now old new
relisted-to {found = found} {p = p} may r holds = record { to = relisted p found; holds = holds; written = refl; went = (r (standing p) may).0 }

pub relisted-lost : {plan : Plan} {name : List ℕ} {old new : Option (List Exchange)} {found : Option StreamListing} {p : Standing} → Relists plan p
    → ((stand : Stand) → MayList plan stand → ListedBy plan name stand old new (manifest.Read found)) → RelistEnded plan name p ends.NoMemory old new
relisted-lost {p = p} may r = record { ended = λ number. record { to = _; last = []; went = (r (standing p) may).0; written = refl; ends = tt; tail = refl } }

pub relist-gave_up : {plan : Plan} {name : List ℕ} {old new : Option (List Exchange)} {outcomes : List Miss} {p : Standing} → Relists plan p
    → ((stand : Stand) → MayList plan stand → ListedBy plan name stand old new (manifest.GaveUp outcomes)) → RelistEnded plan name p (ends.NoManifest outcomes) old new
relist-gave_up {p = p} may r = record { ended = λ number. listed-gave_up number (standing p) may (r (standing p) may) }

pub relist-stopped : {plan : Plan} {name : List ℕ} {old new : Option (List Exchange)} {p : Standing} → Relists plan p
    → ((stand : Stand) → MayList plan stand → ListedBy plan name stand old new manifest.NoMemory) → RelistEnded plan name p ends.NoMemory old new
relist-stopped {p = p} may r = record { ended = λ number. listed-stopped number (standing p) (r (standing p) may) }

-- ---- one after another

-- what holds before each further manifest
pub record Seeking (plan : Plan) (name : List ℕ) (old now : code.Standing) (log log' : Option (List Exchange)) : Type 0 where
  pub led : (p : Standing) → Holds old p → length p.written < plan.count → RelistedTo plan name p now log log'
  pub written : now.written ≡ old.written
  pub levels : HasLevels now.listing

pub seeking-start : (plan : Plan) (name : List ℕ) (s : code.Standing) (log : Option (List Exchange)) → HasLevels s.listing → Seeking plan name s s log log
seeking-start plan name s log levels = record {
  led = λ p h more. record { to = p; holds = h; written = refl; went = lists-start plan name (at (standing p) []) log };
  written = refl;
  levels = levels;
}

pub seeking-more : {plan : Plan} {name : List ℕ} {old now : code.Standing} {log mid new : Option (List Exchange)} (then : code.Standing) → Seeking plan name old now log mid
    → ((q : Standing) → Holds now q → length q.written < plan.count → Relists plan q)
    → ((q : Standing) → Holds now q → Relists plan q → RelistedTo plan name q then mid new) → then.written ≡ now.written → HasLevels then.listing → Seeking plan name old then log new
seeking-more then k settled more same levels = record {
  led = λ p h wanted.
      let a = k.led p h wanted in
      let b = more a.to a.holds (settled a.to a.holds (rw a.written wanted)) in
      record { to = b.to; holds = b.holds; written = b.written ∙ a.written; went = lists-more a.went b.went };
  written = same ∙ k.written;
  levels = levels;
}

pub seeking-found : {plan : Plan} {name : List ℕ} {old now : code.Standing} {log new : Option (List Exchange)} {known : Bool} → Seeking plan name old now log new → known ≡ true
    → ((q : Standing) → Holds now q → known ≡ has q.expected q.known)
    → (p : Standing) → Holds old p → length p.written < plan.count → SoughtFound plan name p now log new
seeking-found k known is p h wanted = let a = k.led p h wanted in
    record { to = a.to; holds = a.holds; known = sym (is a.to a.holds) ∙ known; written = a.written; went = a.went }

ended-more : {plan : Plan} {name : List ℕ} {p q : Standing} {end : End} {log mid new : Option (List Exchange)} (number : ℕ)
    → q.written ≡ p.written → ListWent plan name (at (standing p) []) (at (standing q) []) [] log mid → ListEnded plan name number (at (standing q) []) end mid new
    → ListEnded plan name number (at (standing p) []) end log new
ended-more number same w e = record { to = e.to; last = e.last; went = lists-more w e.went; written = e.written ∙ same; ends = e.ends; tail = e.tail }

pub seeking-ended : {plan : Plan} {name : List ℕ} {old now : code.Standing} {log mid new : Option (List Exchange)} {end : End} → Seeking plan name old now log mid
    → ((q : Standing) → Holds now q → length q.written < plan.count → Relists plan q)
    → ((q : Standing) → Holds now q → Relists plan q → RelistEnded plan name q end mid new)
    → (p : Standing) (number : ℕ) → Holds old p → length p.written < plan.count → ListEnded plan name number (at (standing p) []) end log new
seeking-ended k settled more p number h wanted =
    let a = k.led p h wanted in
    ended-more number a.written a.went ((more a.to a.holds (settled a.to a.holds (rw a.written wanted))).ended number)

-- how an end that the last manifest settles ends
pub record Settled (plan : Plan) (now : code.Standing) (end : End) : Type 0 where
  pub ends : (q : Standing) (number : ℕ) → Holds now q → length q.written < plan.count → EndsAt plan number end (at (standing q) [])
  pub tail : (q : Standing) (name : List ℕ) → IsTail plan name end (at (standing q) []) [] []

pub seeking-settled : {plan : Plan} {name : List ℕ} {old now : code.Standing} {log new : Option (List Exchange)} {end : End} → Seeking plan name old now log new → Settled plan now end
    → (p : Standing) (number : ℕ) → Holds old p → length p.written < plan.count → ListEnded plan name number (at (standing p) []) end log new
seeking-settled {name = name} k s p number h wanted =
    let a = k.led p h wanted in
    record { to = at (standing a.to) []; last = []; went = a.went; written = a.written; ends = s.ends a.to number a.holds (rw a.written wanted); tail = s.tail a.to name }
