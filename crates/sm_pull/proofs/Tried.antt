-- Tries at one thing.
use Rattle.std.proofs.Common.{◌≡◌, ◌<◌, ◌≤◌, ◌+◌, ℕ, List, [], ◌∷◌, ◌++◌, length, length-append, Option, Some, None, refl, ap, sym, ◌∙◌, subst, append-nil, arith}
use Rattle.std.specs.List.{AllByRecursion}
use Rattle.sm_model.specs.declared.address.Address.{Address}
use Rattle.sm_model.specs.declared.entry.Entry.{Entry}
use Rattle.sm_model.specs.declared.run.RawFragment.{RawFragment}
use Rattle.sm_manin.specs.declared.listing.Listing.{Listing}
use Rattle.sm_fetch.specs.declared.dial.Answer.{Answer}
use Rattle.sm_fetch.specs.declared.dial.Answer.TheVariants as answers
use Rattle.sm_fetch.specs.declared.dial.Exchange.{Exchange}
use Rattle.sm_fetch.specs.declared.got.Got.{Got}
use Rattle.sm_fetch.specs.declared.got.Got.TheVariants as got
use Rattle.sm_fetch.specs.declared.place.Place.{Place}
use Rattle.sm_fetch.specs.Exchanges.{Peer, Rose}
use Rattle.sm_fetch.specs.Fetched.{FetchedManifest, FetchedFragment}
use Rattle.sm_fetch.specs.Origins.{DialAlone}
use Rattle.sm_fetch.specs.Requests.{manifest_request, manifest_limit, fragment_request, fragment_limit}
use Rattle.sm_fetch.specs.Spelt.{SpellsManifest, SpellsFragment}
use Rattle.sm_client.specs.declared.report.Miss.{Miss}
use Rattle.sm_client.specs.Stands.{miss_of}
use Rattle.sm_pull.specs.Asks.{Asks, IsTry, Misses, Gives, GivesNone, Tries}
use Rattle.sm_pull.proofs.Dials.{asks_same, asks_then, asks_one, made_by}

-- ---- lists of tries

module _ {G : Type 0} (asks : Exchange → G → Type 0) (miss : G → Option Miss) where
  pub misses_more : (xs : List Exchange) (ms : List Miss) (x : Exchange) (m : Miss) (g : G) → Misses asks miss xs ms → asks x g → miss g ≡ Some m → Misses asks miss (xs ++ x ∷ []) (ms ++ m ∷ [])
  misses_more [] [] x m g all asked is = ((g, asked, is), tt)
  misses_more [] (n ∷ ms) x m g all asked is = absurd all
  misses_more (y ∷ xs) [] x m g all asked is = absurd all
  misses_more (y ∷ xs) (n ∷ ms) x m g all asked is = (all.0, misses_more xs ms x m g all.1 asked is)

  pub misses_tried : (xs : List Exchange) (ms : List Miss) → Misses asks miss xs ms → AllByRecursion (λ x. (g : G) × asks x g) xs
  misses_tried [] [] all = tt
  misses_tried [] (m ∷ ms) all = absurd all
  misses_tried (x ∷ xs) [] all = absurd all
  misses_tried (x ∷ xs) (m ∷ ms) all = ((all.0.0, all.0.1), misses_tried xs ms all.1)

pub both_all : {A : Type 0} (P : A → Type 0) (xs ys : List A) → AllByRecursion P xs → AllByRecursion P ys → AllByRecursion P (xs ++ ys)
both_all P [] ys all more = more
both_all P (x ∷ xs) ys all more = (all.0, both_all P xs ys all.1 more)

-- ---- one try

module _ {G : Type 0} (request : List ℕ) (limit : ℕ) (spells : Answer → G → Type 0) where
  -- what isn't want of memory came of one exchange
  pub try_made : (wanting : G) → ((g : G) → spells answers.NoMemory g → g ≡ wanting) → (answer : Answer) (g : G) → spells answer g → (g ≡ wanting → ⊥)
      → (x : Exchange) × (made_by request limit answer ≡ x ∷ []) × IsTry request limit spells x g
  try_made wanting none (answers.Bytes bytes) g spelled other = (record { request = request; limit = limit; answer = answers.Bytes bytes }, refl, record { request_is = refl; limit_is = refl; spelled = spelled })
  try_made wanting none answers.Lost g spelled other = (record { request = request; limit = limit; answer = answers.Lost }, refl, record { request_is = refl; limit_is = refl; spelled = spelled })
  try_made wanting none answers.NoMemory g spelled other = absurd (other (none g spelled))

  -- whatever came, at most one was made
  pub try_any : (answer : Answer) (g : G) → spells answer g → AllByRecursion (λ x. (h : G) × IsTry request limit spells x h) (made_by request limit answer)
  try_any (answers.Bytes bytes) g spelled = ((g, record { request_is = refl; limit_is = refl; spelled = spelled }), tt)
  try_any answers.Lost g spelled = ((g, record { request_is = refl; limit_is = refl; spelled = spelled }), tt)
  try_any answers.NoMemory g spelled = tt

pub few_made : (request : List ℕ) (limit : ℕ) (answer : Answer) → length (made_by request limit answer) ≤ 1
few_made request limit (answers.Bytes bytes) = omega arith
few_made request limit answers.Lost = omega arith
few_made request limit answers.NoMemory = omega arith

-- ---- tries of a loop

-- so many tries missed, and this came of them
pub record Tried {C G : Type 0} (log : C → Option (List Exchange)) (store : C → List Entry → Type 0) (later : C → C → Type 0) (faults : C → ℕ) (chosen : C → Option Peer)
    (asks : Exchange → G → Type 0) (miss : G → Option Miss) (old new : C) (outcomes : List Miss) (tries : ℕ) : Type 0 where
  pub made : List Exchange
  pub asked : Asks log store later faults chosen old new made
  pub misses : Misses asks miss made outcomes
  pub count : length made ≡ tries

module _ {C G : Type 0} {log : C → Option (List Exchange)} {store : C → List Entry → Type 0} {later : C → C → Type 0} {faults : C → ℕ} {chosen : C → Option Peer}
    {asks : Exchange → G → Type 0} {miss : G → Option Miss} where
  pub tried_start : ((d : C) → later d d) → (d : C) (outcomes : List Miss) → outcomes ≡ [] → Tried log store later faults chosen asks miss d d outcomes 0
  tried_start same d outcomes none = record { made = []; asked = asks_same same d; misses = subst (Misses asks miss []) (sym none) tt; count = refl }

  pub tried_more : {d e f : C} {outcomes : List Miss} {tries : ℕ} {one : List Exchange} {g : G} {m : Miss} (after : List Miss) (k : ℕ) → ((d e f : C) → later d e → later e f → later d f)
      → Tried log store later faults chosen asks miss d e outcomes tries → Asks log store later faults chosen e f one → (x : Exchange) × (one ≡ x ∷ []) × asks x g → miss g ≡ Some m
      → after ≡ outcomes ++ m ∷ [] → k ≡ tries + 1 → Tried log store later faults chosen asks miss d f after k
  tried_more {outcomes = outcomes} {one = one} {g = g} {m = m} after k then t asked x is more next = record {
    made = t.made ++ one;
    asked = asks_then then t.asked asked;
    misses = subst (λ (ys : List Exchange). Misses asks miss (t.made ++ ys) after) (sym x.1)
        (subst (Misses asks miss (t.made ++ x.0 ∷ [])) (sym more) (misses_more asks miss t.made outcomes x.0 m g t.misses x.2 is));
    count = let all = length-append t.made one in let single = ap length x.1 in let so_far = t.count in omega (arith, all, single, so_far, next);
  }

  -- and a while passed since
  pub tried_rested : {d e f : C} {outcomes : List Miss} {tries : ℕ} → ((d e f : C) → later d e → later e f → later d f)
      → Tried log store later faults chosen asks miss d e outcomes tries → Asks log store later faults chosen e f [] → Tried log store later faults chosen asks miss d f outcomes tries
  tried_rested {d = d} {f = f} then t rest =
      record { made = t.made; asked = subst (Asks log store later faults chosen d f) (append-nil t.made) (asks_then then t.asked rest); misses = t.misses; count = t.count }

  pub tried_gave : {d e f : C} {outcomes : List Miss} {tries : ℕ} {one : List Exchange} {g : G} (most : ℕ) → ((d e f : C) → later d e → later e f → later d f)
      → Tried log store later faults chosen asks miss d e outcomes tries → tries < most → Asks log store later faults chosen e f one → (x : Exchange) × (one ≡ x ∷ []) × asks x g
      → (made : List Exchange) × Asks log store later faults chosen d f made × Gives asks miss most made g
  tried_gave {outcomes = outcomes} {one = one} most then t fits asked x = (
    t.made ++ one,
    asks_then then t.asked asked,
    record {
      missed = t.made;
      outcomes = outcomes;
      misses = t.misses;
      few = let so_far = t.count in omega (arith, so_far, fits);
      last = x.0;
      gave = x.2;
      made_is = ap (λ (ys : List Exchange). t.made ++ ys) x.1;
    },
  )

  pub tried_none : {d e : C} {outcomes : List Miss} {tries : ℕ} (most : ℕ) → Tried log store later faults chosen asks miss d e outcomes tries → tries ≡ most
      → (made : List Exchange) × Asks log store later faults chosen d e made × GivesNone asks miss most made outcomes
  tried_none most t all = (t.made, t.asked, record { misses = t.misses; all = t.count ∙ all })

  pub tried_stopped : {d e f : C} {outcomes : List Miss} {tries : ℕ} {one : List Exchange} (most : ℕ) → ((d e f : C) → later d e → later e f → later d f)
      → Tried log store later faults chosen asks miss d e outcomes tries → tries < most → Asks log store later faults chosen e f one
      → AllByRecursion (λ x. (g : G) × asks x g) one → length one ≤ 1
      → (made : List Exchange) × Asks log store later faults chosen d f made × Tries asks most made
  tried_stopped {outcomes = outcomes} {one = one} most then t fits asked each few = (
    t.made ++ one,
    asks_then then t.asked asked,
    record {
      each = both_all (λ (x : Exchange). (g : G) × asks x g) t.made one (misses_tried asks miss t.made outcomes t.misses) each;
      few = let all = length-append t.made one in let so_far = t.count in omega (arith, all, so_far, few, fits);
    },
  )

-- ---- what answers spell

pub manifest_wanting : (g : Got) → SpellsManifest answers.NoMemory g → g ≡ got.NoMemory
manifest_wanting g is = is

pub fragment_wanting : (time : ℕ) (g : Got) → SpellsFragment time answers.NoMemory g → g ≡ got.NoMemory
fragment_wanting time g is = is

pub manifest_lost : (answer : Answer) (g : Got) → SpellsManifest answer g → answer ≡ answers.Lost → g ≡ got.Lost
manifest_lost (answers.Bytes bytes) g spelled is = absurd (cc)
manifest_lost answers.Lost g spelled is = spelled
manifest_lost answers.NoMemory g spelled is = absurd (cc)

pub fragment_lost : (time : ℕ) (answer : Answer) (g : Got) → SpellsFragment time answer g → answer ≡ answers.Lost → g ≡ got.Lost
fragment_lost time (answers.Bytes bytes) g spelled is = absurd (cc)
fragment_lost time answers.Lost g spelled is = spelled
fragment_lost time answers.NoMemory g spelled is = absurd (cc)

-- ---- one call

module _ {C : Type 0} {log : C → Option (List Exchange)} {store : C → List Entry → Type 0} {later : C → C → Type 0} {faults : C → ℕ} {chosen : C → Option Peer} where
  pub manifest_asked : {d e : C} {place : Place} {g : Got} (f : FetchedManifest place (log d) (log e) g) → DialAlone log store later faults chosen d e
      → (g ≡ got.Lost → Rose (faults d) (faults e)) → Asks log store later faults chosen d e (made_by (manifest_request place) manifest_limit f.answer)
  manifest_asked {place = place} {g = g} f alone lost =
      asks_one (manifest_request place) manifest_limit f.answer f.log alone (λ is. lost (manifest_lost f.answer g f.spells is))

  pub fragment_asked : {d e : C} {place : Place} {url : List ℕ} {address : Address} {g : Got} {bytes : ℕ} (f : FetchedFragment place url address (log d) (log e) g bytes)
      → DialAlone log store later faults chosen d e → (g ≡ got.Lost → Rose (faults d) (faults e))
      → Asks log store later faults chosen d e (made_by (fragment_request place url address) fragment_limit f.answer)
  fragment_asked {place = place} {url = url} {address = address} {g = g} f alone lost =
      asks_one (fragment_request place url address) fragment_limit f.answer f.log alone (λ is. lost (fragment_lost address.time f.answer g f.spells is))

miss_some : (m : Miss) → None ≡ Some m → ⊥
miss_some m e = cc

-- what missed isn't want of memory
pub missed_other : (g : Got) (m : Miss) → miss_of g ≡ Some m → g ≡ got.NoMemory → ⊥
missed_other g m is none = miss_some m (ap miss_of (sym none) ∙ is)

pub manifest_other : (l : Listing) → got.Manifest l ≡ got.NoMemory → ⊥
manifest_other l is = cc

pub fragment_other : (raw : RawFragment) → got.Fragment raw ≡ got.NoMemory → ⊥
fragment_other raw is = cc
