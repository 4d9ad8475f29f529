-- What pushes leave, one after another.
use Rattle.std.proofs.Common.{◌≡◌, ◌≢◌, ℕ, zero, suc, ◌+◌, ◌-◌, ◌*◌, ◌≤◌, ◌<◌, ◌^◌, Bool, true, false, if◌then◌else◌, List, [], ◌∷◌, ◌++◌, length, Some, Result, Ok, Err, refl, sym, ◌∙◌, ap, subst, arith, append_assoc, append-nil}
use Rattle.std.specs.Prelude.{OnOk, map}
use Rattle.std.proofs.lemmas.List.{append_cancel_left}
use Rattle.sm_fetch.specs.declared.dial.Answer.{Answer}
use Rattle.sm_fetch.specs.declared.dial.Answer.TheVariants as answers
use Rattle.sm_fetch.specs.declared.dial.Exchange.{Exchange}
use Rattle.sm_fetch.specs.declared.place.Place.{Place}
use Rattle.sm_fetch.specs.declared.push.Pushed.{Pushed}
use Rattle.sm_fetch.specs.declared.push.Pushed.TheVariants as pushed
use Rattle.sm_fetch.specs.Exchanges.{logged}
use Rattle.sm_fetch.specs.Fetched.{PushedBody}
use Rattle.sm_fetch.specs.Spelt.{SpellsPush}
use Rattle.sm_reply.specs.Replies.{counts_line}
use Rattle.sm_site.specs.Memory.{site_seen, site_view}
use Rattle.sm_site.specs.declared.memory.MemorySite.{MemorySite}
use Rattle.sm_fetch.specs.Requests.{push_request, push_limit}
use Rattle.sm_world.specs.Deeds.{Deed, IsDone, AreDone, before_a, chance_by, deeds_in, fragments_in, of_b, push_of, requests_of, round_of}
use Rattle.sm_world.specs.Deeds.Deed.{Pushes, Stops, Crashes}
use Rattle.sm_world.specs.Dialing.{Dialing, next_number}
use Rattle.sm_world.specs.Later.{IsLater}
use Rattle.sm_world.specs.Numbered.{IsAnswered, AreAnswered}
use Rattle.sm_world.specs.LaterLaws.{continues_later, continues_same, continues_then}
use Rattle.sm_world.specs.Rounds.{behind, crashes, is_crash, is_refused, kind_at, kind_by, refusals, state_at, state_by}
use Rattle.sm_world.specs.declared.kind.Kind.{Kind}
use Rattle.sm_world.specs.Stages.{HasPushed, StaysOn}
use Rattle.sm_world.specs.Told.{Says, SaysOf, Tell, known_by, refused_by}
use Rattle.sm_world.specs.declared.stage.Stage.{Stage}
use Rattle.sm_world.specs.declared.told.Told.{Told}
use Rattle.sm_world.specs.declared.told.Told.TheVariants as told

-- ---- what answers tell

tell_one : (n : ℕ) (x : Exchange) (t : Told) → SaysOf n x t → Tell (n ∷ []) (x ∷ []) (known_by t) (refused_by t)
tell_one n x t says = (t, says, (0, 0, (refl, refl), omega arith, omega arith))

tell_both : (ns ms : List ℕ) (xs ys : List Exchange) (k r k' r' : ℕ) → Tell ns xs k r → Tell ms ys k' r' → Tell (ns ++ ms) (xs ++ ys) (k + k') (r + r')
tell_both [] ms (x ∷ xs) ys k r k' r' a b = absurd a
tell_both (n ∷ ns) ms [] ys k r k' r' a b = absurd a
tell_both [] ms [] ys k r k' r' a b =
    let known : k' ≡ k + k' = (let z = a.0 in omega (arith, z)) in
    let refused : r' ≡ r + r' = (let z = a.1 in omega (arith, z)) in
    subst (λ (n : ℕ). Tell ms ys n (r + r')) known (subst (λ (n : ℕ). Tell ms ys k' n) refused b)
tell_both (n ∷ ns) ms (x ∷ xs) ys k r k' r' a b = (
  a.0,
  a.1,
  (
    a.2.0 + k',
    a.2.1 + r',
    tell_both ns ms xs ys a.2.0 a.2.1 k' r' a.2.2 b,
    (let e = a.2.3 in omega (arith, e)),
    (let e = a.2.4 in omega (arith, e)),
  ),
)

fragments_both : (ds es : List Deed) → fragments_in (ds ++ es) ≡ fragments_in ds ++ fragments_in es
fragments_both [] es = refl
fragments_both (Pushes n body ∷ ds) es = ap (λ (l : List ℕ). n ∷ l) (fragments_both ds es)
fragments_both (Stops calls ∷ ds) es = fragments_both ds es
fragments_both (Crashes choice ∷ ds) es = fragments_both ds es

-- ---- what was done

pub done_one : (place : Place) (id : List ℕ) (deed : Deed) (a b : MemorySite × Dialing) → IsDone place id deed a b → AreDone place id (deed ∷ []) a b
done_one place id deed a b done = (b, done, refl)

pub done_both : (place : Place) (id : List ℕ) (ds es : List Deed) (a b c : MemorySite × Dialing) → AreDone place id ds a b → AreDone place id es b c
    → AreDone place id (ds ++ es) a c
done_both place id [] es a b c same more = subst (λ (d : MemorySite × Dialing). AreDone place id es d c) same more
done_both place id (d ∷ ds) es a b c (mid, done, rest) more = (mid, done, done_both place id ds es mid b c rest more)

-- the exchanges are the pushes among it
pub record Asked (place : Place) (id : List ℕ) (deeds : List Deed) (a b : MemorySite × Dialing) : Type 0 where
  pub more : List Exchange
  pub made : b.1.made ≡ a.1.made ++ more
  pub asked : map (λ (x : Exchange). x.request) more ≡ requests_of place id deeds

pub asked_by : (place : Place) (id : List ℕ) (deeds : List Deed) (a b : MemorySite × Dialing) → AreDone place id deeds a b → Asked place id deeds a b
asked_by place id [] a b same = record {
  more = [];
  made = ap (λ (d : MemorySite × Dialing). d.1.made) same ∙ sym (append-nil a.1.made);
  asked = refl;
}
asked_by place id (Pushes n body ∷ deeds) a b (mid, done, rest) =
    let r = asked_by place id deeds mid b rest in
    let x : Exchange = push_of place id body done.answer in
    record {
      more = x ∷ r.more;
      made = r.made ∙ ap (λ (l : List Exchange). l ++ r.more) done.made ∙ append_assoc a.1.made (x ∷ []) r.more;
      asked = ap (λ (l : List (List ℕ)). push_request place id body ∷ l) r.asked;
    }
asked_by place id (Stops calls ∷ deeds) a b (mid, done, rest) =
    let r = asked_by place id deeds mid b rest in
    record { more = r.more; made = r.made ∙ ap (λ (s : Dialing). s.made ++ r.more) done.dialing; asked = r.asked }
asked_by place id (Crashes choice ∷ deeds) a b (mid, done, rest) =
    let r = asked_by place id deeds mid b rest in
    record { more = r.more; made = r.made ∙ ap (λ (s : Dialing). s.made ++ r.more) done.dialing; asked = r.asked }

-- ---- one push

said_something : (fragments : ℕ) (came : Pushed) (t : Told) → Says fragments came t → came ≢ pushed.NoMemory
said_something fragments came (told.Taken known) says none = absurd (let bad : pushed.Status 200 (counts_line (fragments - known) known) ≡ pushed.NoMemory = sym says.1 ∙ none in cc)
said_something fragments came told.Refused says none = absurd (let bad : pushed.Status 409 says.0 ≡ pushed.NoMemory = sym says.1 ∙ none in cc)
said_something fragments came told.Failed says none = says.0 none

few_known : (fragments : ℕ) (came : Pushed) (t : Told) → fragments ≤ 3 → Says fragments came t → known_by t ≤ 3
few_known fragments came (told.Taken known) few says = let a = says.0 in omega (arith, few, a)
few_known fragments came told.Refused few says = omega arith
few_known fragments came told.Failed few says = omega arith

-- the exchange of a push that got an answer
one_more : (made made' : List Exchange) (request : List ℕ) (limit : ℕ) (answer : Answer) (came : Pushed) → Some made' ≡ logged (Some made) request limit answer → SpellsPush answer came → came ≢ pushed.NoMemory
    → made' ≡ made ++ (record { request = request; limit = limit; answer = answer }) ∷ []
one_more made made' request limit (answers.Bytes bytes) came log spells something = cc
one_more made made' request limit answers.Lost came log spells something = cc
one_more made made' request limit answers.NoMemory came log spells something = absurd (something spells)

module _ (old new : Stage) (place : new.place ≡ old.place) (id : new.id ≡ old.id) (header : new.header ≡ old.header) where
  pub has_pushed : (body : List ℕ) (came : Pushed) (t : Told) (fragments : ℕ) → PushedBody old.place old.id body (Some old.dial.1.made) (Some new.dial.1.made) came
      → Says fragments came t → fragments ≤ 3 → new.known ≡ old.known + known_by t → new.refused ≡ old.refused + refused_by t
      → IsLater site_seen old.dial new.dial → HasPushed old new (Pushes fragments body ∷ []) 0 (refused_by t) 3
  has_pushed body came t fragments p says few known refused later =
      let x : Exchange = push_of old.place old.id body p.answer in
      let made : new.dial.1.made ≡ old.dial.1.made ++ x ∷ [] =
      one_more old.dial.1.made new.dial.1.made _ _ p.answer came p.log p.spells (said_something fragments came t says)
      in
      let same : later.exchanges.more ≡ x ∷ [] = append_cancel_left old.dial.1.made later.exchanges.more (x ∷ []) (sym later.exchanges.made ∙ made) in
      let answered : IsAnswered (site_view old.dial.0) (site_view new.dial.0) old.dial.1.lost old.dial.1.cut (next_number old.dial.1) x =
      (subst (λ (l : List Exchange). AreAnswered (site_view old.dial.0) (site_view new.dial.0) old.dial.1.lost old.dial.1.cut old.dial.1.since (length old.dial.1.made) l) same
      later.exchanges.answered).0
      in
      record {
        place = place;
        id = id;
        header = header;
        done = done_one old.place old.id (Pushes fragments body) old.dial new.dial (record { answer = p.answer; made = made; answered = answered; later = later });
        more = x ∷ [];
        made = made;
        known = known_by t;
        tell = tell_one fragments x t (record { came = came; spells = p.spells; says = says });
        known_is = known;
        few = few_known fragments came t few says;
        refused_is = refused;
        crashed = λ low. (let e = later.crashes in omega (arith, e));
        stays_on = continues_later site_seen old.dial new.dial later;
      }

  -- no push, but perhaps crashes
  pub quiet : (deed : Deed) (crashes : ℕ) → fragments_in (deed ∷ []) ≡ []
      → IsDone old.place old.id deed old.dial new.dial → new.dial.1.made ≡ old.dial.1.made → new.known ≡ old.known → new.refused ≡ old.refused
      → (old.dial.1.crashes + crashes < 2 ^ 62 → new.dial.1.crashes ≡ old.dial.1.crashes + crashes) → StaysOn old.dial new.dial → HasPushed old new (deed ∷ []) crashes 0 0
  quiet deed crashes none done made known refused crashed stays = record {
    place = place;
    id = id;
    header = header;
    done = done_one old.place old.id deed old.dial new.dial done;
    more = [];
    made = made ∙ sym (append-nil old.dial.1.made);
    known = 0;
    tell = subst (λ (ns : List ℕ). Tell ns [] 0 0) (sym none) (refl, refl);
    known_is = omega (arith, known);
    few = omega arith;
    refused_is = omega (arith, refused);
    crashed = crashed;
    stays_on = stays;
  }

-- ---- one after another

pub pushed_then : (a b c : Stage) (ds es : List Deed) (n n' r r' m m' : ℕ) → HasPushed a b ds n r m → HasPushed b c es n' r' m' → HasPushed a c (ds ++ es) (n + n') (r + r') (m + m')
pushed_then a b c ds es n n' r r' m m' x y = record {
  place = y.place ∙ x.place;
  id = y.id ∙ x.id;
  header = y.header ∙ x.header;
  done = done_both a.place a.id ds es a.dial b.dial c.dial x.done
      (subst (λ (p : Place). AreDone p a.id es b.dial c.dial) x.place (subst (λ (i : List ℕ). AreDone b.place i es b.dial c.dial) x.id y.done));
  more = x.more ++ y.more;
  made = y.made ∙ ap (λ (l : List Exchange). l ++ y.more) x.made ∙ append_assoc a.dial.1.made x.more y.more;
  known = x.known + y.known;
  tell = subst (λ (ns : List ℕ). Tell ns (x.more ++ y.more) (x.known + y.known) (r + r')) (sym (fragments_both ds es))
      (tell_both (fragments_in ds) (fragments_in es) x.more y.more x.known r y.known r' x.tell y.tell);
  known_is = (let e = x.known_is in let f = y.known_is in omega (arith, e, f));
  few = (let e = x.few in let f = y.few in omega (arith, e, f));
  refused_is = (let e = x.refused_is in let f = y.refused_is in omega (arith, e, f));
  crashed = λ low.
      (let e = x.crashed (omega (arith, low)) in
      let f = y.crashed (omega (arith, low, e)) in
      omega (arith, e, f));
  stays_on = continues_then site_seen a.dial b.dial c.dial x.stays_on y.stays_on;
}

-- as many, in other words; and as many known at most
pub pushed_as : (a b : Stage) (ds es : List Deed) (n n' r r' m m' : ℕ) → ds ≡ es → n ≡ n' → r ≡ r' → m ≤ m' → HasPushed a b ds n r m → HasPushed a b es n' r' m'
pushed_as a b ds es n n' r r' m m' deeds crashes refusals most x = record {
  place = x.place;
  id = x.id;
  header = x.header;
  done = subst (λ (l : List Deed). AreDone a.place a.id l a.dial b.dial) deeds x.done;
  more = x.more;
  made = x.made;
  known = x.known;
  tell = subst (λ (l : List Deed). Tell (fragments_in l) x.more x.known r') deeds (subst (Tell (fragments_in ds) x.more x.known) refusals x.tell);
  known_is = x.known_is;
  few = (let e = x.few in omega (arith, e, most));
  refused_is = (let e = x.refused_is in omega (arith, e, refusals));
  crashed = λ low. (let e = x.crashed (omega (arith, low, crashes)) in omega (arith, e, crashes));
  stays_on = x.stays_on;
}

-- nothing was done
pub pushed_not : (a : Stage) → HasPushed a a [] 0 0 3
pushed_not a = record {
  place = refl;
  id = refl;
  header = refl;
  done = refl;
  more = [];
  made = sym (append-nil a.dial.1.made);
  known = 0;
  tell = (refl, refl);
  known_is = omega arith;
  few = omega arith;
  refused_is = omega arith;
  crashed = λ low. omega arith;
  stays_on = continues_same site_seen a.dial;
}

pub on_ok : {A E : Type 0} (r : Result A E) (P Q : Type 0) → (P → Q) → OnOk r P → OnOk r Q
on_ok (Ok a) P Q so holds = so holds
on_ok (Err e) P Q so holds = tt

-- what encoder B pushes, by what was drawn
pub pushed_by_b : {A E : Type 0} (a b : Stage) (r : Result A E) (f : ℕ) (body want : List ℕ) (kind k : Kind) (i n : ℕ) → body ≡ want → kind ≡ k → of_b k a.header i ≡ Pushes f want ∷ []
    → (if is_refused k then 1 else 0) ≡ n → OnOk r (HasPushed a b (Pushes f body ∷ []) 0 n 3)
    → OnOk r (HasPushed a b (of_b kind a.header i) 0 (if is_refused kind then 1 else 0) 3)
pushed_by_b a b r f body want kind k i n is drawn deeds refused pushed =
    on_ok r _ _
    (λ p. pushed_as a b (Pushes f body ∷ []) (of_b kind a.header i) 0 0 n (if is_refused kind then 1 else 0) 3 3
    (ap (λ (l : List ℕ). Pushes f l ∷ []) is ∙ sym deeds ∙ sym (ap (λ (j : Kind). of_b j a.header i) drawn)) refl
    (sym refused ∙ sym (ap (λ (j : Kind). if is_refused j then 1 else 0) drawn)) (omega arith) p)
    pushed

pub silent_b : (a : Stage) (kind k : Kind) (i n : ℕ) → n ≡ 0 → kind ≡ k → of_b k a.header i ≡ [] → (if is_refused k then 1 else 0) ≡ n
    → HasPushed a a (of_b kind a.header i) 0 (if is_refused kind then 1 else 0) 3
silent_b a kind k i n none drawn deeds refused =
    pushed_as a a [] (of_b kind a.header i) 0 0 0 (if is_refused kind then 1 else 0) 3 3 (sym deeds ∙ sym (ap (λ (j : Kind). of_b j a.header i) drawn)) refl
    (sym none ∙ sym refused ∙ sym (ap (λ (j : Kind). if is_refused j then 1 else 0) drawn)) (omega arith) (pushed_not a)

-- nothing comes before the push of encoder A, by what was drawn
pub silent_a : (a : Stage) (kind k : Kind) (body : List ℕ) (chance n : ℕ) → n ≡ 0 → kind ≡ k → before_a k body chance ≡ [] → (if is_crash k then 1 else 0) ≡ n
    → HasPushed a a (before_a kind body chance) (if is_crash kind then 1 else 0) 0 3
silent_a a kind k body chance n none drawn deeds crashed =
    pushed_as a a [] (before_a kind body chance) 0 (if is_crash kind then 1 else 0) 0 0 3 3
    (sym deeds ∙ sym (ap (λ (j : Kind). before_a j body chance) drawn))
    (sym none ∙ sym crashed ∙ sym (ap (λ (j : Kind). if is_crash j then 1 else 0) drawn)) refl (omega arith) (pushed_not a)

-- ---- rounds

counted : (b : Bool) (n : ℕ) → n + (if b then 1 else 0) ≡ (if b then n + 1 else n)
counted true n = refl
counted false n = omega arith

pub round_more : (a b c : Stage) (i x y : ℕ) → y ≡ state_at i x → HasPushed a b (deeds_in a.header i x) (crashes i x) (refusals i x) (9 * i)
    → HasPushed b c (round_of (kind_by y) b.header i (chance_by y)) (if is_crash (kind_by y) then 1 else 0) (if is_refused (kind_by y) then 1 else 0) 9
    → HasPushed a c (deeds_in a.header (suc i) x) (crashes (suc i) x) (refusals (suc i) x) (9 * suc i)
round_more a b c i x y is before round =
    let k : kind_by y ≡ kind_at i x = ap kind_by is in
    let crashed : (if is_crash (kind_by y) then 1 else 0) ≡ (if is_crash (kind_at i x) then 1 else 0) = ap (λ (k : Kind). if is_crash k then 1 else 0) k in
    let refused : (if is_refused (kind_by y) then 1 else 0) ≡ (if is_refused (kind_at i x) then 1 else 0) = ap (λ (k : Kind). if is_refused k then 1 else 0) k in
    let deeds : round_of (kind_by y) b.header i (chance_by y) ≡ round_of (kind_at i x) a.header i (chance_by (state_at i x)) =
    ap (λ (z : ℕ). round_of (kind_by z) b.header i (chance_by z)) is ∙ ap (λ (h : List ℕ). round_of (kind_at i x) h i (chance_by (state_at i x))) before.header
    in
    pushed_as a c (deeds_in a.header i x ++ round_of (kind_by y) b.header i (chance_by y)) (deeds_in a.header (suc i) x) _ _ _ _ _ _
    (ap (λ (l : List Deed). deeds_in a.header i x ++ l) deeds)
    (ap (λ (n : ℕ). crashes i x + n) crashed ∙ counted (is_crash (kind_at i x)) (crashes i x))
    (ap (λ (n : ℕ). refusals i x + n) refused ∙ counted (is_refused (kind_at i x)) (refusals i x)) (omega arith)
    (pushed_then a b c (deeds_in a.header i x) (round_of (kind_by y) b.header i (chance_by y)) _ _ _ _ _ _ before round)

pub state_more : (i x y z : ℕ) → y ≡ state_at i x → z ≡ behind (kind_by y) (state_by y) → z ≡ state_at (suc i) x
state_more i x y z is next = next ∙ ap (λ (n : ℕ). behind (kind_by n) (state_by n)) is

at_most : (b : Bool) (n i : ℕ) → n ≤ i → (if b then n + 1 else n) ≤ suc i
at_most true n i below = omega (arith, below)
at_most false n i below = omega (arith, below)

pub few_refusals : (i x : ℕ) → refusals i x ≤ i
few_refusals zero x = omega arith
few_refusals (suc i) x = at_most (is_refused (kind_at i x)) (refusals i x) i (few_refusals i x)

pub few_crashes : (i x : ℕ) → crashes i x ≤ i
few_crashes zero x = omega arith
few_crashes (suc i) x = at_most (is_crash (kind_at i x)) (crashes i x) i (few_crashes i x)
