-- What one request for an address and its place gives.
use Rattle.std.proofs.Common.{◌≡◌, ◌<◌, ℕ, cond, eqb, List, [], ◌++◌, Option, Some, None, ap, sym, ◌∙◌, subst, append_assoc}
use Rattle.std.proofs.lemmas.Bool.{eqb-true}
use Rattle.sm_model.specs.declared.address.Address.{Address}
use Rattle.sm_model.specs.declared.entry.Entry.{Entry}
use Rattle.sm_model.specs.declared.run.RawFragment.{RawFragment}
use Rattle.sm_model.specs.Fragments.{IsValid}
use Rattle.sm_fetch.specs.declared.dial.Answer.{Answer}
use Rattle.sm_fetch.specs.declared.dial.Answer.TheVariants as answers
use Rattle.sm_fetch.specs.declared.dial.Exchange.{Exchange}
use Rattle.sm_fetch.specs.declared.place.Place.{Place}
use Rattle.sm_fetch.specs.declared.placed.Placed.{Placed}
use Rattle.sm_fetch.specs.declared.placed.Placed.TheVariants as placed
use Rattle.sm_fetch.specs.Exchanges.{Peer, Rose}
use Rattle.sm_fetch.specs.Origins.{Grows, DialAlone}
use Rattle.sm_fetch.specs.Placing.{SpellsPlaced, FetchedPlaced, GrowsPlaced, IsPlacedAt}
use Rattle.sm_fetch.specs.Requests.{fragment_request, fragment_limit}
use Rattle.sm_fetch.specs.Spelt.{given}
use Rattle.sm_fetch.proofs.Alone.{Passes}
use Rattle.sm_client.specs.declared.report.Miss.{Miss}
use Rattle.sm_client.specs.declared.report.Miss.TheVariants as miss
use Rattle.sm_pull.specs.Asks.{Asks, Gives}
use Rattle.sm_pull.proofs.Tried.{Tried, tried_gave, tried_stopped, try_made, try_any, few_made}
use Rattle.sm_pull.proofs.Dials.{asks_one, made_by}
use Rattle.sm_standby.specs.Turns.{AsksPlaced, missed}
use Rattle.sm_standby.proofs.Opens.{by_bool}
use Rattle.sm_standby.specs.Asked.{IsRead, Finds, found_of}

pub placed_wanting : (time : ℕ) (p : Placed) → SpellsPlaced time answers.NoMemory p → p ≡ placed.NoMemory
placed_wanting time p is = is

placed_lost : (time : ℕ) (answer : Answer) (p : Placed) → SpellsPlaced time answer p → answer ≡ answers.Lost → p ≡ placed.Lost
placed_lost time (answers.Bytes bytes) p spelled is = absurd (cc)
placed_lost time answers.Lost p spelled is = spelled
placed_lost time answers.NoMemory p spelled is = absurd (cc)

pub placed_asked : {C : Type 0} {log : C → Option (List Exchange)} {store : C → List Entry → Type 0} {later : C → C → Type 0} {faults : C → ℕ} {chosen : C → Option Peer} {d e : C}
    {place : Place} {url : List ℕ} {address : Address} {p : Placed} (f : FetchedPlaced place url address (log d) (log e) p) → DialAlone log store later faults chosen d e
    → (p ≡ placed.Lost → Rose (faults d) (faults e)) → Asks log store later faults chosen d e (made_by (fragment_request place url address) fragment_limit f.answer)
placed_asked {place = place} {url = url} {address = address} {p = p} f alone lost =
    asks_one (fragment_request place url address) fragment_limit f.answer f.log alone (λ is. lost (placed_lost address.time f.answer p f.spells is))

miss_some : (m : Miss) → None ≡ Some m → ⊥
miss_some m e = cc

-- what missed isn't want of memory
pub missed_other : (p : Placed) (m : Miss) → missed p ≡ Some m → p ≡ placed.NoMemory → ⊥
missed_other p m is none = miss_some m (ap missed (sym none) ∙ is)

-- what an answer spells as a fragment is valid, and of the time that was asked
pub read_valid : (time n : ℕ) (raw : RawFragment) (answer : Answer) → SpellsPlaced time answer (placed.Fragment n raw) → IsValid (given [] 0 raw) × (raw.time ≡ time)
read_valid time n raw (answers.Bytes bytes) (at, body, whole, f) = (f.0.valid, f.0.time_is)
read_valid time n raw answers.Lost s = absurd (cc)
read_valid time n raw answers.NoMemory s = absurd (cc)

-- a fragment that the last of several requests gave
pub read_of : (s t u : List Entry → Type 0) (place : Place) (tries : ℕ) (url : List ℕ) (a : Address) (made : List Exchange) (n : ℕ) (raw : RawFragment) → Grows s t → GrowsPlaced place url a t u (placed.Fragment n raw)
    → Gives (AsksPlaced place url a) missed tries made (placed.Fragment n raw) → IsRead place tries url a made s u n raw
read_of s t u place tries url a made n raw grows there gives =
    let v = read_valid a.time n raw gives.last.answer gives.gave.spelled in
    record {
      gives = gives;
      valid = v.0;
      time_is = v.1;
      up = λ up told.
          let x = grows up told in
          let y = there (up ++ x.0) x.1 in
          let joined : (up ++ x.0) ++ y.0 ≡ up ++ (x.0 ++ y.0) = append_assoc up x.0 y.0 in
          (x.0 ++ y.0, subst u joined y.1, subst (λ (l : List Entry). IsPlacedAt place url a l (placed.Fragment n raw)) joined y.2);
    }

-- what was read isn't want of memory
pub fragment_other : (n : ℕ) (raw : RawFragment) → placed.Fragment n raw ≡ placed.NoMemory → ⊥
fragment_other n raw is = cc

pub status_other : (status : ℕ) → placed.Status status ≡ placed.NoMemory → ⊥
status_other status is = cc

is_404 : (status : ℕ) (m : Miss) → cond (eqb status 404) None (Some m) ≡ None → status ≡ 404
is_404 status m e = by_bool (eqb status 404) (λ t. cond t None (Some m) ≡ None → status ≡ 404) (λ is h. eqb-true status 404 is) (λ is h. absurd (cc)) e

-- what the tries gave where the last one was no miss
pub found_answer : {C : Type 0} {log : C → Option (List Exchange)} {store : C → List Entry → Type 0} {later : C → C → Type 0} {faults : C → ℕ} {chosen : C → Option Peer} {c d e : C}
    {place : Place} {url : List ℕ} {a : Address} {outcomes : List Miss} {tries : ℕ}
    (most : ℕ) (p : Placed) → Passes later → missed p ≡ None → Tried log store later faults chosen (AsksPlaced place url a) missed c d outcomes tries → tries < most
    → FetchedPlaced place url a (log d) (log e) p → DialAlone log store later faults chosen d e → (p ≡ placed.Lost → Rose (faults d) (faults e))
    → GrowsPlaced place url a (store d) (store e) p
    → (made : List Exchange) × Asks log store later faults chosen c e made × Finds place most url a made (store c) (store e) (found_of p)
found_answer {store = store} {c = c} {d = d} {e = e} {place = place} {url = url} {a = a} most (placed.Fragment n raw) then none t fits f alone lost there =
    let r = tried_gave most then t fits (placed_asked f alone lost)
    (try_made (fragment_request place url a) fragment_limit (SpellsPlaced a.time) placed.NoMemory (placed_wanting a.time) f.answer (placed.Fragment n raw) f.spells (fragment_other n raw)) in
    (r.0, r.1, read_of (store c) (store d) (store e) place most url a r.0 n raw t.asked.alone.on.grows there r.2)
found_answer {place = place} {url = url} {a = a} most (placed.Status status) then none t fits f alone lost there =
    let r = tried_gave most then t fits (placed_asked f alone lost)
    (try_made (fragment_request place url a) fragment_limit (SpellsPlaced a.time) placed.NoMemory (placed_wanting a.time) f.answer (placed.Status status) f.spells (status_other status)) in
    (r.0, r.1, subst (λ (s : ℕ). Gives (AsksPlaced place url a) missed most r.0 (placed.Status s)) (is_404 status (miss.Status status) none) r.2)
found_answer most placed.Cut then none t fits f alone lost there = absurd (cc)
found_answer most (placed.Unreadable at) then none t fits f alone lost there = absurd (cc)
found_answer most placed.Lost then none t fits f alone lost there = absurd (cc)
found_answer {place = place} {url = url} {a = a} most placed.NoMemory then none t fits f alone lost there =
    tried_stopped most then t fits (placed_asked f alone lost)
    (try_any (fragment_request place url a) fragment_limit (SpellsPlaced a.time) f.answer placed.NoMemory f.spells) (few_made (fragment_request place url a) fragment_limit f.answer)
