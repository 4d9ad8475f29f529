-- Turns that do the same, and what they ask.
use Rattle.std.proofs.Common.{◌≡◌, ◌<◌, ℕ, true, cond, List, [], ◌∷◌, ◌++◌, length, slice_index_or, remove, refl, ap, sym, ◌∙◌, append_assoc, append-nil, arith}
use Rattle.sm_policy.specs.declared.policy.Heard.{Heard}
use Rattle.sm_fetch.specs.declared.dial.Exchange.{Exchange}
use Rattle.sm_fetch.specs.declared.got.Got.{Got}
use Rattle.sm_fetch.specs.declared.got.Got.TheVariants as got
use Rattle.sm_client.specs.declared.plan.Plan.{Plan}
use Rattle.sm_client.specs.Turns.{Meaning, Turn, fresh, settle, hears, Continues, Alike, Behaves}
use Rattle.sm_client.specs.Stands.{Item, list, piece, State, ladder_of, state_by, state_after}
use Rattle.sm_client.specs.Asks.{Made, Asks, AsksLast, hears_got, turn_by, turn_after}
use Rattle.sm_client.proofs.Rows.{by_bool}

pub behaves-refl : {P : Type 0} (m : Meaning P) (t : Turn P) → Behaves m t t
behaves-refl m t = record { next = refl; alike = record { picks = λ more ladder ahead. refl; retires = λ more. refl } }

pub behaves-trans : {P : Type 0} {m : Meaning P} {t u v : Turn P} → Behaves m t u → Behaves m u v → Behaves m t v
behaves-trans a b = record {
  next = a.next ∙ b.next;
  alike = record {
    picks = λ more ladder ahead. a.alike.picks more ladder ahead ∙ b.alike.picks more ladder ahead;
    retires = λ more. a.alike.retires more ∙ b.alike.retires more;
  };
}

pub behaves-same : {P : Type 0} {m : Meaning P} {t u : Turn P} (v : Turn P) → v ≡ t → Behaves m t u → Behaves m v u
behaves-same v e b = rw e b

pub now_retired : {P : Type 0} {m : Meaning P} {p q : P} {hs gs : List Heard} → Alike m p hs q gs → m.retired p hs ≡ m.retired q gs
now_retired {m = m} {p = p} {q = q} {hs = hs} {gs = gs} a = ap (m.retired p) (sym (append-nil hs)) ∙ (a.retires [] ∙ ap (m.retired q) (append-nil gs))

pub now_picks : {P : Type 0} {m : Meaning P} {p q : P} {hs gs : List Heard} → Alike m p hs q gs → (ladder : List ℕ) (ahead : ℕ) → m.pick p hs ladder ahead ≡ m.pick q gs ladder ahead
now_picks {m = m} {p = p} {q = q} {hs = hs} {gs = gs} a ladder ahead =
    ap (λ l. m.pick p l ladder ahead) (sym (append-nil hs)) ∙ (a.picks [] ladder ahead ∙ ap (λ l. m.pick q l ladder ahead) (append-nil gs))

pub settle-alike : {P : Type 0} {m : Meaning P} {p q : P} {hs gs : List Heard} (ps : List P) → Alike m p hs q gs → Behaves m (settle m p hs ps) (settle m q gs ps)
settle-alike [] a = record { next = refl; alike = a }
settle-alike {P = P} {m = m} {p = p} {q = q} {hs = hs} {gs = gs} (r ∷ rs) a =
    let yes : Turn P = settle m r [] rs in
    let no : Turn P = record { who = p; heard = hs; next = r ∷ rs } in
    let no' : Turn P = record { who = q; heard = gs; next = r ∷ rs } in
    rw (now_retired a)
    (by_bool (m.retired q gs) (λ b. Behaves m (cond b yes no) (cond b yes no')) (λ t. behaves-refl m yes) (λ f. record { next = refl; alike = a }))

pub hears-behaves : {P : Type 0} {m : Meaning P} {t u : Turn P} (h : Heard) → Behaves m t u → Behaves m (hears m t h) (hears m u h)
hears-behaves {m = m} {t = t} {u = u} h b =
    rw b.next
    (settle-alike u.next (record {
      picks = λ more ladder ahead. rw (append_assoc t.heard (h ∷ []) more, append_assoc u.heard (h ∷ []) more) (b.alike.picks (h ∷ more) ladder ahead);
      retires = λ more. rw (append_assoc t.heard (h ∷ []) more, append_assoc u.heard (h ∷ []) more) (b.alike.retires (h ∷ more));
    }))

-- the code's policies after one has heard, and has perhaps made room
pub heard-behaves : {P : Type 0} {m : Meaning P} {a b c : P} {ps qs : List P} {h : Heard} (kept : List P) → Continues m a b h → kept ≡ ps
    → settle m b [] kept ≡ fresh c qs → Behaves m (hears m (fresh a ps) h) (fresh c qs)
heard-behaves {m = m} {a = a} {b = b} {ps = ps} {h = h} kept k same is =
    let alike : Alike m a (h ∷ []) b [] = record { picks = λ more ladder ahead. sym (k.picks more ladder ahead); retires = λ more. sym (k.retires more) } in
    rw (← is, same) (settle-alike ps alike)

-- and after one has retired
pub unheard-behaves : {P : Type 0} (m : Meaning P) {a b c : P} {ps qs : List P} (kept : List P) → b ≡ a → kept ≡ ps
    → settle m b [] kept ≡ fresh c qs → settle m a [] ps ≡ fresh c qs
unheard-behaves m kept who same is = rw (← who, ← same) is

-- ---- what is asked

pub made-behaves : {P : Type 0} {m : Meaning P} {t u : Turn P} (plan : Plan) (name : List ℕ) (s : State) (x : Item) → Behaves m t u
    → Made m plan name u s x → Made m plan name t s x
made-behaves plan name s (list x g) b k = k
made-behaves plan name s (piece x g level) b k = record {
  at = k.at;
  stands = k.stands;
  more = k.more;
  known = k.known;
  tries = k.tries;
  listing = k.listing;
  last = k.last;
  after = k.after;
  behind = k.behind;
  chosen = k.chosen ∙ sym (now_picks b.alike (ladder_of k.listing.levels) (length k.after));
  within = k.within;
  request = k.request;
  limit = k.limit;
  spells = k.spells;
}

hears_got-behaves : {P : Type 0} {m : Meaning P} {t u : Turn P} (g : Got) (x : Exchange) (level : ℕ) → Behaves m t u → Behaves m (hears_got m t g x level) (hears_got m u g x level)
hears_got-behaves (got.Manifest l) x level b = hears-behaves _ b
hears_got-behaves (got.Fragment raw) x level b = hears-behaves _ b
hears_got-behaves (got.Status status) x level b = hears-behaves _ b
hears_got-behaves got.Cut x level b = hears-behaves _ b
hears_got-behaves (got.Unreadable at) x level b = hears-behaves _ b
hears_got-behaves got.Lost x level b = hears-behaves _ b
hears_got-behaves got.NoMemory x level b = b

turn_by-behaves : {P : Type 0} {m : Meaning P} {t u : Turn P} (x : Item) → Behaves m t u → Behaves m (turn_by m t x) (turn_by m u x)
turn_by-behaves (list x g) b = b
turn_by-behaves (piece x g level) b = hears_got-behaves g x level b

pub turn_after-behaves : {P : Type 0} {m : Meaning P} {t u : Turn P} (xs : List Item) → Behaves m t u → Behaves m (turn_after m t xs) (turn_after m u xs)
turn_after-behaves [] b = b
turn_after-behaves (x ∷ xs) b = turn_after-behaves xs (turn_by-behaves x b)

pub asks-behaves : {P : Type 0} {m : Meaning P} {t u : Turn P} (plan : Plan) (name : List ℕ) (s : State) (xs : List Item) → Behaves m t u
    → Asks m plan name u s xs → Asks m plan name t s xs
asks-behaves plan name s [] b a = tt
asks-behaves plan name s (x ∷ xs) b a =
    (made-behaves plan name s x b a.0, a.1, asks-behaves plan name (state_by plan name s x) xs (turn_by-behaves x b) a.2)

pub last-behaves : {P : Type 0} {m : Meaning P} {t u : Turn P} (plan : Plan) (name : List ℕ) (s : State) (xs : List Item) → Behaves m t u
    → AsksLast m plan name u s xs → AsksLast m plan name t s xs
last-behaves plan name s [] b a = tt
last-behaves plan name s (x ∷ []) b a = made-behaves plan name s x b a
last-behaves plan name s (x ∷ y ∷ xs) b a = absurd a

pub turn_after-append : {P : Type 0} (m : Meaning P) (t : Turn P) (xs ys : List Item) → turn_after m t (xs ++ ys) ≡ turn_after m (turn_after m t xs) ys
turn_after-append m t [] ys = refl
turn_after-append m t (x ∷ xs) ys = turn_after-append m (turn_by m t x) xs ys

pub state_after-append : (plan : Plan) (name : List ℕ) (s : State) (xs ys : List Item) → state_after plan name s (xs ++ ys) ≡ state_after plan name (state_after plan name s xs) ys
state_after-append plan name s [] ys = refl
state_after-append plan name s (x ∷ xs) ys = state_after-append plan name (state_by plan name s x) xs ys

pub asks-append : {P : Type 0} (m : Meaning P) (plan : Plan) (name : List ℕ) (t : Turn P) (s : State) (xs ys : List Item) → Asks m plan name t s xs
    → Asks m plan name (turn_after m t xs) (state_after plan name s xs) ys → Asks m plan name t s (xs ++ ys)
asks-append m plan name t s [] ys a b = b
asks-append m plan name t s (x ∷ xs) ys a b = (a.0, a.1, asks-append m plan name (turn_by m t x) (state_by plan name s x) xs ys a.2 b)

-- ---- as the code has them

pub settle-stays : {P : Type 0} (m : Meaning P) (a : P) (rest : List P) → (m.retired a [] ≡ true → rest ≡ []) → settle m a [] rest ≡ fresh a rest
settle-stays m a [] h = refl
settle-stays {P = P} m a (q ∷ qs) h =
    by_bool (m.retired a []) (λ b. m.retired a [] ≡ b → cond b (settle m q [] qs) (fresh a (q ∷ qs)) ≡ fresh a (q ∷ qs))
    (λ t e. absurd (let none : q ∷ qs ≡ [] = h e in cc)) (λ f e. refl) refl

pub settle-next : {P : Type 0} (m : Meaning P) (a : P) (rest : List P) (d : P) → m.retired a [] ≡ true → 0 < length rest
    → settle m a [] rest ≡ settle m (slice_index_or rest 0 d) [] (remove rest 0)
settle-next m a [] d t h = absurd (omega (arith, h))
settle-next m a (q ∷ qs) d t h = rw t refl

-- where the policies of a loop lead is where they led
pub record Settles {P : Type 0} (m : Meaning P) (a : P) (ps : List P) (b : P) (qs : List P) : Type 0 where
  pub is : settle m a [] ps ≡ settle m b [] qs

pub settles-start : {P : Type 0} (m : Meaning P) (a : P) (ps : List P) → Settles m a ps a ps
settles-start m a ps = record { is = refl }

pub settles-more : {P : Type 0} {m : Meaning P} {a b c : P} {ps qs rs : List P} → Settles m a ps b qs → m.retired b [] ≡ true → 0 < length qs
    → c ≡ slice_index_or qs 0 c → rs ≡ remove qs 0 → Settles m a ps c rs
settles-more {m = m} {b = b} {c = c} {qs = qs} r t h who next =
    record { is = r.is ∙ (settle-next m b qs c t h ∙ (ap (λ p. settle m p [] (remove qs 0)) (sym who) ∙ ap (settle m c []) (sym next))) }

pub settles-end : {P : Type 0} {m : Meaning P} {a b : P} {ps qs : List P} → Settles m a ps b qs → (m.retired b [] ≡ true → qs ≡ []) → settle m a [] ps ≡ fresh b qs
settles-end {m = m} {b = b} {qs = qs} r h = r.is ∙ settle-stays m b qs h
