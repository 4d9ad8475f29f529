-- Exchanges one after another.
use Rattle.std.proofs.Common.{◌≡◌, ◌<◌, ◌⊎◌, ℕ, List, [], ◌∷◌, ◌++◌, length, Option, Some, None, refl, ap, sym, ◌∙◌, append_assoc, append-nil, inl, inr}
use Rattle.sm_manin.specs.declared.listing.StreamListing.{StreamListing}
use Rattle.sm_fetch.specs.declared.dial.Exchange.{Exchange}
use Rattle.sm_fetch.specs.declared.got.Got.{Got}
use Rattle.sm_fetch.specs.declared.got.Got.TheVariants as got
use Rattle.sm_fetch.specs.declared.dial.Answer.{Answer}
use Rattle.sm_fetch.specs.declared.dial.Answer.TheVariants as answers
use Rattle.sm_fetch.specs.Exchanges.{with_one, with_all, logged}
use Rattle.sm_fetch.specs.Requests.{manifest_request, manifest_limit}
use Rattle.sm_fetch.specs.Spelt.{SpellsManifest}
use Rattle.sm_fetch.specs.Fetched.{FetchedManifest}
use Rattle.sm_client.specs.declared.plan.Plan.{Plan}
use Rattle.sm_client.specs.declared.report.Miss.{Miss}
use Rattle.sm_client.specs.Turns.{Meaning, Turn, fresh, settle, hears, Behaves}
use Rattle.sm_client.specs.Stands.{Item, list, piece, Standing, Stand, standing, State, read_at, miss_of, missed_by, after_list, after_piece, state_by, state_after}
use Rattle.sm_client.specs.Asks.{MayList, MadePiece, Asks, AsksLast, IsRead, got_of, exchange_of, exchanges, heard_of, hears_got, turn_after}
use Rattle.sm_client.specs.Calls.{at, AsksLists, AsksListLast, ListWent, ListMade, ListFound, ListMissed, ListedOnce, IsListedOf, Went, MayPiece, PieceMade, PieceHeard}
use Rattle.sm_model.specs.declared.run.RawFragment.{RawFragment}
use Rattle.sm_client.specs.declared.piece.Wanted.{Wanted}
use Rattle.sm_client.specs.declared.list.Listed.{Listed}
use Rattle.sm_client.specs.declared.list.Listed.TheVariants as listed_once
use Rattle.sm_client.proofs.Levels.{spelled-levels}
use Rattle.sm_client.proofs.Turns.{behaves-refl, behaves-trans, behaves-same, heard-behaves, turn_after-behaves, asks-behaves, last-behaves, turn_after-append, state_after-append, asks-append}

-- ---- logs

pub with_all-all : (ws : Option (List Exchange)) (xs ys : List Exchange) → with_all (with_all ws xs) ys ≡ with_all ws (xs ++ ys)
with_all-all None xs ys = refl
with_all-all (Some ws) xs ys = ap Some (append_assoc ws xs ys)

pub with_all-nil : (ws : Option (List Exchange)) → ws ≡ with_all ws []
with_all-nil None = refl
with_all-nil (Some ws) = ap Some (sym (append-nil ws))

pub with_all-one : (ws : Option (List Exchange)) (x : Exchange) → with_one ws x ≡ with_all ws (x ∷ [])
with_all-one None x = refl
with_all-one (Some ws) x = refl

pub exchanges-append : (xs ys : List Item) → exchanges (xs ++ ys) ≡ exchanges xs ++ exchanges ys
exchanges-append [] ys = refl
exchanges-append (x ∷ xs) ys = ap (λ l. exchange_of x ∷ l) (exchanges-append xs ys)

pub log-more : (old mid new : Option (List Exchange)) (xs ys last : List Item) → mid ≡ with_all old (exchanges (xs ++ [])) → new ≡ with_all mid (exchanges (ys ++ last))
    → new ≡ with_all old (exchanges ((xs ++ ys) ++ last))
log-more old mid new xs ys last p q =
    let one : mid ≡ with_all old (exchanges xs) = p ∙ ap (λ l. with_all old (exchanges l)) (append-nil xs) in
    q ∙ (ap (λ o. with_all o (exchanges (ys ++ last))) one ∙ (with_all-all old (exchanges xs) (exchanges (ys ++ last))
    ∙ (ap (with_all old) (sym (exchanges-append xs (ys ++ last))) ∙ ap (λ l. with_all old (exchanges l)) (sym (append_assoc xs ys last)))))

-- ---- from one turn and state to another

pub went-start : {P : Type 0} (m : Meaning P) (plan : Plan) (name : List ℕ) (t : Turn P) (s : State) (log : Option (List Exchange)) → Went m plan name t t s s [] log log
went-start m plan name t s log = record { made = []; log = with_all-nil log; asks = tt; state = refl; asks_last = tt; turn = behaves-refl m t }

pub went-more : {P : Type 0} {m : Meaning P} {plan : Plan} {name : List ℕ} {start mid now : Turn P} {from by to : State} {last : List Item} {old log new : Option (List Exchange)}
    → Went m plan name start mid from by [] old log → Went m plan name mid now by to last log new → Went m plan name start now from to last old new
went-more {m = m} {plan = plan} {name = name} {start = start} {mid = mid} {now = now} {from = from} {by = by} {to = to} {last = last} {old = old} {log = log} {new = new} r s =
    let there : Behaves m (turn_after m start r.made) mid = behaves-same _ (ap (turn_after m start) (sym (append-nil r.made))) r.turn in
    record {
      made = r.made ++ s.made;
      log = log-more old log new r.made s.made last r.log s.log;
      asks = asks-append m plan name start from r.made s.made r.asks (rw r.state (asks-behaves plan name by s.made there s.asks));
      state = state_after-append plan name from r.made s.made ∙ (ap (λ st. state_after plan name st s.made) r.state ∙ s.state);
      asks_last = rw turn_after-append (last-behaves plan name to last (turn_after-behaves s.made there) s.asks_last);
      turn =
          let both : turn_after m start ((r.made ++ s.made) ++ last) ≡ turn_after m (turn_after m start r.made) (s.made ++ last) =
          ap (turn_after m start) (append_assoc r.made s.made last) ∙ turn_after-append m start r.made (s.made ++ last) in
          behaves-same _ both (behaves-trans (turn_after-behaves (s.made ++ last) there) s.turn);
    }

-- the last one counts too
pub went-took : {P : Type 0} {m : Meaning P} {plan : Plan} {name : List ℕ} {start now : Turn P} {from to : State} {x : Item} {old new : Option (List Exchange)} (then : State)
    → Went m plan name start now from to (x ∷ []) old new → IsRead (got_of x) → state_by plan name to x ≡ then → Went m plan name start now from then [] old new
went-took {m = m} {plan = plan} {name = name} {start = start} {now = now} {from = from} {to = to} {x = x} {old = old} {new = new} then r read is =
    record {
      made = r.made ++ x ∷ [];
      log = r.log ∙ ap (λ l. with_all old (exchanges l)) (sym (append-nil (r.made ++ x ∷ [])));
      asks = asks-append m plan name start from r.made (x ∷ []) r.asks (rw r.state (r.asks_last, read, tt));
      state = state_after-append plan name from r.made (x ∷ []) ∙ (ap (λ st. state_after plan name st (x ∷ [])) r.state ∙ is);
      asks_last = tt;
      turn = behaves-same _ (ap (turn_after m start) (append-nil (r.made ++ x ∷ []))) r.turn;
    }

-- ---- exchanges for manifests alone

lists-asks : {P : Type 0} (m : Meaning P) (plan : Plan) (name : List ℕ) (t : Turn P) (s : State) (xs : List Item) → AsksLists plan name s xs → Asks m plan name t s xs
lists-asks m plan name t s [] a = tt
lists-asks m plan name t s (list x g ∷ xs) a = (a.0, a.1, lists-asks m plan name t (after_list plan name s g) xs a.2)
lists-asks m plan name t s (piece x g level ∷ xs) a = absurd a

lists-turn : {P : Type 0} (m : Meaning P) (plan : Plan) (name : List ℕ) (t : Turn P) (s : State) (xs : List Item) → AsksLists plan name s xs → turn_after m t xs ≡ t
lists-turn m plan name t s [] a = refl
lists-turn m plan name t s (list x g ∷ xs) a = lists-turn m plan name t (after_list plan name s g) xs a.2
lists-turn m plan name t s (piece x g level ∷ xs) a = absurd a

last-asks : {P : Type 0} (m : Meaning P) (plan : Plan) (name : List ℕ) (t : Turn P) (s : State) (xs : List Item) → AsksListLast plan s xs → AsksLast m plan name t s xs
last-asks m plan name t s [] a = tt
last-asks m plan name t s (list x g ∷ []) a = a
last-asks m plan name t s (list x g ∷ y ∷ xs) a = absurd a
last-asks m plan name t s (piece x g level ∷ xs) a = absurd a

last-turn : {P : Type 0} (m : Meaning P) (plan : Plan) (t : Turn P) (s : State) (xs : List Item) → AsksListLast plan s xs → turn_after m t xs ≡ t
last-turn m plan t s [] a = refl
last-turn m plan t s (list x g ∷ []) a = refl
last-turn m plan t s (list x g ∷ y ∷ xs) a = absurd a
last-turn m plan t s (piece x g level ∷ xs) a = absurd a

pub went-lists : {P : Type 0} (m : Meaning P) {plan : Plan} {name : List ℕ} (t : Turn P) {from to : State} {last : List Item} {old new : Option (List Exchange)}
    → ListWent plan name from to last old new → Went m plan name t t from to last old new
went-lists m {plan = plan} {name = name} t {from = from} {to = to} {last = last} r =
    let stays : turn_after m t (r.made ++ last) ≡ t =
    turn_after-append m t r.made last ∙ (ap (λ u. turn_after m u last) (lists-turn m plan name t from r.made r.asks) ∙ last-turn m plan t to last r.asks_last) in
    record {
      made = r.made;
      log = r.log;
      asks = lists-asks m plan name t from r.made r.asks;
      state = r.state;
      asks_last = last-asks m plan name _ to last r.asks_last;
      turn = behaves-same _ stays (behaves-refl m t);
    }

lists-append : (plan : Plan) (name : List ℕ) (s : State) (xs ys : List Item) → AsksLists plan name s xs → AsksLists plan name (state_after plan name s xs) ys → AsksLists plan name s (xs ++ ys)
lists-append plan name s [] ys a b = b
lists-append plan name s (list x g ∷ xs) ys a b = (a.0, a.1, lists-append plan name (after_list plan name s g) xs ys a.2 b)
lists-append plan name s (piece x g level ∷ xs) ys a b = absurd a

pub lists-start : (plan : Plan) (name : List ℕ) (s : State) (log : Option (List Exchange)) → ListWent plan name s s [] log log
lists-start plan name s log = record { made = []; log = with_all-nil log; asks = tt; state = refl; asks_last = tt }

pub lists-more : {plan : Plan} {name : List ℕ} {from by to : State} {last : List Item} {old log new : Option (List Exchange)}
    → ListWent plan name from by [] old log → ListWent plan name by to last log new → ListWent plan name from to last old new
lists-more {plan = plan} {name = name} {from = from} {by = by} {last = last} {old = old} {log = log} {new = new} r s =
    record {
      made = r.made ++ s.made;
      log = log-more old log new r.made s.made last r.log s.log;
      asks = lists-append plan name from r.made s.made r.asks (rw r.state s.asks);
      state = state_after-append plan name from r.made s.made ∙ (ap (λ st. state_after plan name st s.made) r.state ∙ s.state);
      asks_last = s.asks_last;
    }

-- ---- one request for the manifest

list-last : {plan : Plan} {s : State} {old new : Option (List Exchange)} {g : Got} (name : List ℕ) → MayList plan s.stand → length s.missed < plan.tries
    → (made : ListMade plan old new g) → ListWent plan name s s (list made.exchange g ∷ []) old new
list-last {s = s} {old = old} name may tries made = record {
  made = [];
  log = made.log ∙ with_all-one old made.exchange;
  asks = tt;
  state = refl;
  asks_last = record { may = may; tries = tries; request = made.request; limit = made.limit; spells = made.spells };
}

list-one : {plan : Plan} {s : State} {old new : Option (List Exchange)} {g : Got} (name : List ℕ) (then : State) → MayList plan s.stand → length s.missed < plan.tries
    → (made : ListMade plan old new g) → IsRead g → after_list plan name s g ≡ then → ListWent plan name s then [] old new
list-one {s = s} {old = old} name then may tries made read is = record {
  made = list made.exchange _ ∷ [];
  log = made.log ∙ with_all-one old made.exchange;
  asks = (record { may = may; tries = tries; request = made.request; limit = made.limit; spells = made.spells }, read, tt);
  state = is;
  asks_last = tt;
}

pub list-found : {plan : Plan} {name : List ℕ} {old new : Option (List Exchange)} {found : Option StreamListing} (stand : Stand) (missed : List Miss)
    → MayList plan stand → length missed < plan.tries → ListFound plan name old new found → ListWent plan name (at stand missed) (at (read_at plan stand found) []) [] old new
list-found {plan = plan} {name = name} stand missed may tries f =
    list-one name _ may tries f.made tt (ap (λ o. at (read_at plan stand o) []) (sym f.is))

missed-is : (plan : Plan) (name : List ℕ) (s : State) (g : Got) (m : Miss) → miss_of g ≡ Some m → (IsRead g) × (after_list plan name s g ≡ at s.stand (s.missed ++ m ∷ []))
missed-is plan name s (got.Manifest l) m e = absurd (cc)
missed-is plan name s (got.Fragment raw) m e = absurd (cc)
missed-is plan name s (got.Status status) m e = (tt, ap (missed_by s) e)
missed-is plan name s got.Cut m e = (tt, ap (missed_by s) e)
missed-is plan name s (got.Unreadable at) m e = (tt, ap (missed_by s) e)
missed-is plan name s got.Lost m e = (tt, ap (missed_by s) e)
missed-is plan name s got.NoMemory m e = absurd (cc)

pub list-missed : {plan : Plan} {old new : Option (List Exchange)} {m : Miss} (name : List ℕ) (stand : Stand) (missed : List Miss)
    → MayList plan stand → length missed < plan.tries → ListMissed plan old new m → ListWent plan name (at stand missed) (at stand (missed ++ m ∷ [])) [] old new
list-missed {plan = plan} {m = m} name stand missed may tries f =
    let is = missed-is plan name (at stand missed) f.came m f.is in list-one name _ may tries f.made is.0 is.1

-- want of memory, with an exchange or without one
abbrev pub ListLost : Plan → List ℕ → State → Option (List Exchange) → Option (List Exchange) → Type 0
ListLost plan name s old new = (last : List Item) × ListWent plan name s s last old new

pub list-lost : {plan : Plan} {old new : Option (List Exchange)} (name : List ℕ) (stand : Stand) (missed : List Miss)
    → MayList plan stand → length missed < plan.tries → (new ≡ old) ⊎ ListMade plan old new got.NoMemory
    → ListLost plan name (at stand missed) old new
list-lost {plan = plan} {old = old} name stand missed may tries (inl e) = ([], rw e (lists-start plan name (at stand missed) old))
list-lost name stand missed may tries (inr made) = (list made.exchange got.NoMemory ∷ [], list-last name may tries made)

-- ---- one request for a fragment

pub piece_missed-is : (name : List ℕ) (s : State) (g : Got) (level : ℕ) (m : Miss) → miss_of g ≡ Some m → (IsRead g) × (after_piece name s g level ≡ at s.stand (s.missed ++ m ∷ []))
piece_missed-is name s (got.Manifest l) level m e = absurd (cc)
piece_missed-is name s (got.Fragment raw) level m e = absurd (cc)
piece_missed-is name s (got.Status status) level m e = (tt, ap (missed_by s) e)
piece_missed-is name s got.Cut level m e = (tt, ap (missed_by s) e)
piece_missed-is name s (got.Unreadable at) level m e = (tt, ap (missed_by s) e)
piece_missed-is name s got.Lost level m e = (tt, ap (missed_by s) e)
piece_missed-is name s got.NoMemory level m e = absurd (cc)

hears-read : {P : Type 0} (m : Meaning P) (t : Turn P) (g : Got) (x : Exchange) (level : ℕ) → IsRead g → hears_got m t g x level ≡ hears m t (heard_of g x level)
hears-read m t (got.Manifest l) x level r = refl
hears-read m t (got.Fragment raw) x level r = refl
hears-read m t (got.Status status) x level r = refl
hears-read m t got.Cut x level r = refl
hears-read m t (got.Unreadable at) x level r = refl
hears-read m t got.Lost x level r = refl
hears-read m t got.NoMemory x level r = absurd r

pub made-piece : {P : Type 0} {m : Meaning P} {plan : Plan} {name : List ℕ} {w : Wanted} {who : P} {old new : Option (List Exchange)} {g : Got} {level : ℕ}
    (p : Standing) (missed : List Miss) (ps : List P) → MayPiece plan p w → length missed < plan.tries
    → (made : PieceMade m plan name w who old new g level) → MadePiece m plan name (fresh who ps) (at (standing p) missed) made.exchange g level
made-piece {m = m} {name = name} {w = w} {who = who} {level = level} p missed ps may tries made = record {
  at = p;
  stands = refl;
  more = may.more;
  known = may.known;
  tries = tries;
  listing = w.listing.now;
  last = may.last;
  after = may.after;
  behind = may.behind;
  chosen = rw may.counted made.chosen;
  within = made.within;
  request = rw (← may.expects) made.request;
  limit = made.limit;
  spells = rw (← may.expects) made.spells;
}

-- it was heard, and the next policy acts where that one has retired
pub piece-last : {P : Type 0} {m : Meaning P} {plan : Plan} {name : List ℕ} {w : Wanted} {who then : P} {old new : Option (List Exchange)} {g : Got} {level : ℕ} {now : P} {qs : List P}
    (p : Standing) (missed : List Miss) (ps kept : List P) → MayPiece plan p w → length missed < plan.tries
    → (heard : PieceHeard m plan name w who then old new g level) → IsRead g → kept ≡ ps → settle m then [] kept ≡ fresh now qs
    → Went m plan name (fresh who ps) (fresh now qs) (at (standing p) missed) (at (standing p) missed) (piece heard.made.exchange g level ∷ []) old new
piece-last {m = m} {who = who} {old = old} {g = g} {level = level} p missed ps kept may tries heard read same settled = record {
  made = [];
  log = heard.made.log ∙ with_all-one old heard.made.exchange;
  asks = tt;
  state = refl;
  asks_last = made-piece p missed ps may tries heard.made;
  turn = behaves-same _ (hears-read m (fresh who ps) g heard.made.exchange level read) (heard-behaves kept heard.heard same settled);
}

-- ---- as calls tell them

fetched-made : {plan : Plan} {old new : Option (List Exchange)} {g : Got} → (answer : Answer) → new ≡ logged old (manifest_request plan.place) manifest_limit answer
    → SpellsManifest answer g → ((new ≡ old) × (g ≡ got.NoMemory)) ⊎ ListMade plan old new g
fetched-made {plan = plan} (answers.Bytes bytes) log s =
    inr (record { exchange = record { request = manifest_request plan.place; limit = manifest_limit; answer = answers.Bytes bytes }; log = log; request = refl; limit = refl; spells = s })
fetched-made {plan = plan} answers.Lost log s =
    inr (record { exchange = record { request = manifest_request plan.place; limit = manifest_limit; answer = answers.Lost }; log = log; request = refl; limit = refl; spells = s })
fetched-made answers.NoMemory log s = inl (log, s)

pub list-made : {plan : Plan} {old new : Option (List Exchange)} {g : Got} → FetchedManifest plan.place old new g → ((new ≡ old) × (g ≡ got.NoMemory)) ⊎ ListMade plan old new g
list-made f = fetched-made f.answer f.log f.spells

made-same : {plan : Plan} {old new : Option (List Exchange)} {g : Got} (h : Got) → g ≡ h → ((new ≡ old) × (g ≡ got.NoMemory)) ⊎ ListMade plan old new g
    → ((new ≡ old) × (h ≡ got.NoMemory)) ⊎ ListMade plan old new h
made-same h e m = rw (← e) m

not_lost : {plan : Plan} {old new : Option (List Exchange)} {g : Got} → (g ≡ got.NoMemory → ⊥) → ((new ≡ old) × (g ≡ got.NoMemory)) ⊎ ListMade plan old new g → ListMade plan old new g
not_lost n (inl e) = absurd (n e.1)
not_lost n (inr m) = m

lost : {plan : Plan} {old new : Option (List Exchange)} → ((new ≡ old) × (got.NoMemory ≡ got.NoMemory)) ⊎ ListMade plan old new got.NoMemory → (new ≡ old) ⊎ ListMade plan old new got.NoMemory
lost (inl e) = inl e.0
lost (inr m) = inr m

pub spelled-no_fragment : (raw : RawFragment) (answer : Answer) → SpellsManifest answer (got.Fragment raw) → ⊥
spelled-no_fragment raw (answers.Bytes bytes) s = s
spelled-no_fragment raw answers.Lost s = cc
spelled-no_fragment raw answers.NoMemory s = cc

no_fragment : {plan : Plan} {old new : Option (List Exchange)} (raw : RawFragment) → ListMade plan old new (got.Fragment raw) → ⊥
no_fragment raw m = spelled-no_fragment raw m.exchange.answer m.spells

missed-not : (g : Got) (m : Miss) → miss_of g ≡ Some m → g ≡ got.NoMemory → ⊥
missed-not g m e is = let n : miss_of g ≡ None = ap miss_of is in cc

lost-by : {plan : Plan} {old new : Option (List Exchange)} (g : Got) → ((new ≡ old) × (g ≡ got.NoMemory)) ⊎ ListMade plan old new g
    → (g ≡ got.NoMemory) ⊎ ((raw : RawFragment) × (g ≡ got.Fragment raw)) → (new ≡ old) ⊎ ListMade plan old new got.NoMemory
lost-by g m (inl e) = lost (made-same got.NoMemory e m)
lost-by g m (inr f) = absurd (no_fragment f.0 (not_lost (λ e. cc) (made-same (got.Fragment f.0) f.1 m)))

pub listed-once : (plan : Plan) {old new : Option (List Exchange)} {g : Got} (name : List ℕ) (r : Listed) → FetchedManifest plan.place old new g → IsListedOf g name r → ListedOnce plan name old new r
listed-once plan name (listed_once.Found found) f is =
    let made = not_lost (λ e. cc) (made-same (got.Manifest is.0) is.1 (list-made f)) in
    (record { listing = is.0; made = made; is = is.2 }, rw is.2 (spelled-levels name made.exchange.answer is.0 made.spells))
listed-once plan {g = g} name (listed_once.Missed m) f is = record { came = g; made = not_lost (missed-not g m is) (list-made f); is = is }
listed-once plan {g = g} name listed_once.NoMemory f is = lost-by g (list-made f) is
