-- The numbers of connections, and what a script still gives.
use Rattle.std.proofs.Common.{◌≡◌, ℕ, ◌+◌, ◌≤◌, max, Bool, true, false, ◌&&◌, nat_le, if◌then◌else◌, IsTrue, List, [], ◌∷◌, ◌++◌, All, length, drop, refl, sym, ◌∙◌, ap, subst, arith}
use Rattle.std.proofs.Common.{Result, Ok, Err, OnOk, OnErr}
use Rattle.std.proofs.lemmas.List.{drop-append-le}
use Rattle.std.proofs.lemmas.Bool.{and_from}
use Rattle.std.proofs.lemmas.Bool.Decides.{nat_tests}
use Rattle.std.proofs.lemmas.List.Elements.{All-nil, All-cons, All-append}
use Rattle.sm_site.specs.declared.event.Event.{Event}
use Rattle.sm_site.specs.declared.event.Event.TheVariants.{Opened, Piece, Closed, Ended}
use Rattle.sm_site.specs.declared.step.Step.{Step}
use Rattle.sm_site.specs.declared.step.Step.TheVariants.{Sized, Read, Wrote, Synced, Took, Sent, Shut, Crashed}
use Rattle.sm_site.specs.Meanings.{Deal, Item}
use Rattle.sm_site.specs.Event.{deal_of, IsBelow, IsNext}
use Rattle.sm_site.specs.Numbers.{Gives, IsSized}
use Rattle.sm_site.specs.Scripts.{is_script, deals_of, number_after, numbers_after, IsTaken, Takes}
use Rattle.sm_site.specs.Past.{is_crash, item_of, items_on, items_from, number_on, numbers_from, numbers_of}

pub numbers_push : (n : ℕ) (steps : List Step) (step : Step) → numbers_from n (steps ++ step ∷ []) ≡ number_on (numbers_from n steps) step
numbers_push n [] step = refl
numbers_push n (x ∷ steps) step = numbers_push (number_on n x) steps step

no_less : (n : ℕ) (event : Event) → n ≤ number_after n (deal_of event)
no_less n (Opened k) = omega arith
no_less n (Piece k piece) = omega arith
no_less n (Closed k) = omega arith
no_less n Ended = omega arith

pub step_no_less : (n : ℕ) (step : Step) → n ≤ number_on n step
step_no_less n (Sized file failed) = omega arith
step_no_less n (Read file at k failed) = omega arith
step_no_less n (Wrote file at bytes failed reached) = omega arith
step_no_less n (Synced file failed) = omega arith
step_no_less n (Took event) = no_less n event
step_no_less n (Sent conn bytes failed) = omega arith
step_no_less n (Shut conn) = omega arith
step_no_less n (Crashed choice) = omega arith

pub numbers_no_less : (n : ℕ) (steps : List Step) → n ≤ numbers_from n steps
numbers_no_less n [] = omega arith
numbers_no_less n (step ∷ steps) = omega (arith, step_no_less n step, numbers_no_less (number_on n step) steps)

-- every connection of the transcript has a number below this one
abbrev pub Under : ℕ → Item → Type 0
Under n item = IsBelow n item.deal

single : (n : ℕ) (item : Item) → Under n item → All (Under n) (item ∷ [])
single n item under = All-cons (Under n) item [] under (All-nil (Under n))

event_under : (n k m : ℕ) (event : Event) → number_after k (deal_of event) ≤ n → All (Under n) ((record { moment = m; deal = deal_of event }) ∷ [])
event_under n k m (Opened j) le = single n _ (omega (arith, le))
event_under n k m (Piece j piece) le = single n _ tt
event_under n k m (Closed j) le = single n _ tt
event_under n k m Ended le = single n _ tt

item_under : (n k m : ℕ) (step : Step) → number_on k step ≤ n → All (Under n) (item_of m step)
item_under n k m (Sized file failed) le = All-nil (Under n)
item_under n k m (Read file at j failed) le = All-nil (Under n)
item_under n k m (Wrote file at bytes failed reached) le = All-nil (Under n)
item_under n k m (Synced file failed) le = All-nil (Under n)
item_under n k m (Took event) le = event_under n k m event le
item_under n k m (Sent conn bytes failed) le = single n _ tt
item_under n k m (Shut conn) le = single n _ tt
item_under n k m (Crashed choice) le = All-nil (Under n)

items_under : (n k m : ℕ) (items : List Item) (steps : List Step) → numbers_from k steps ≤ n → All (Under n) items → All (Under n) (items_on m items steps)
items_under n k m items [] le all = all
items_under n k m items (step ∷ steps) le all = items_under n (number_on k step) (m + 1) _ steps le (either (is_crash step))
  where
    either : (b : Bool) → All (Under n) (if b then [] else items ++ item_of (m + 1) step)
    either true = All-nil (Under n)
    either false = All-append (Under n) items (item_of (m + 1) step) all (item_under n k (m + 1) step (omega (arith, numbers_no_less (number_on k step) steps, le)))

pub all_under : (steps : List Step) (n : ℕ) → numbers_of steps ≤ n → All (Under n) (items_from 0 steps)
all_under steps n le = items_under n 0 0 [] steps le (All-nil (Under n))

pub rising : (steps : List Step) (now : ℕ) (event : Event) → Gives event (numbers_of steps) now → IsNext event (items_from 0 steps)
rising steps now (Opened n) gives = all_under steps n gives.0
rising steps now (Piece n piece) gives = tt
rising steps now (Closed n) gives = tt
rising steps now Ended gives = tt

-- the event that a script gives
pub record IsGood (n : ℕ) (event : Event) (rest : List Event) : Type 0 where
  pub sized : IsSized event
  pub gives : Gives event n (number_after n (deal_of event))
  pub script : IsTrue (is_script (number_after n (deal_of event)) rest)

pub left_of : (a b : Bool) → IsTrue (a && b) → IsTrue a
left_of true b t = refl
left_of false b t = absurd (cc)

pub right_of : (a b : Bool) → IsTrue (a && b) → IsTrue b
right_of true b t = t
right_of false b t = absurd (cc)

pub le_from : (m n : ℕ) → IsTrue (nat_le m n) → m ≤ n
le_from m n t = grind (arith, nat_tests)

next_number : (n k : ℕ) → n ≤ k → k + 1 ≡ max n (k + 1)
next_number n k le = omega arith

first_good : (n : ℕ) (event : Event) (rest : List Event) → IsTrue (is_script n (event ∷ rest)) → IsGood n event rest
first_good n (Opened k) rest t =
    let le : n ≤ k = le_from n k (left_of (nat_le n k) (is_script (k + 1) rest) t) in
    record {
      sized = tt;
      gives = (le, omega arith);
      script = subst (λ (m : ℕ). IsTrue (is_script m rest)) (next_number n k le) (right_of (nat_le n k) (is_script (k + 1) rest) t);
    }
first_good n (Piece k piece) rest t =
    let sizes = left_of (nat_le 1 (length piece) && nat_le (length piece) 65536) (is_script n rest) t in
    record {
      sized = (le_from 1 (length piece) (left_of (nat_le 1 (length piece)) (nat_le (length piece) 65536) sizes), le_from (length piece) 65536 (right_of (nat_le 1 (length piece)) (nat_le (length piece) 65536) sizes));
      gives = refl;
      script = right_of (nat_le 1 (length piece) && nat_le (length piece) 65536) (is_script n rest) t;
    }
first_good n (Closed k) rest t = record { sized = tt; gives = refl; script = t }
first_good n Ended rest t = absurd (cc)

pub taken_good : (n : ℕ) (event : Event) (events rest : List Event) → IsTaken event events rest → IsTrue (is_script n events) → IsGood n event rest
taken_good n event [] rest taken t = subst (λ (e : Event). IsGood n e rest) (sym taken.0) (subst (λ (l : List Event). IsGood n Ended l) (sym taken.1) (record { sized = tt; gives = refl; script = refl }))
taken_good n event (first ∷ events) rest taken t = subst (λ (e : Event). IsGood n e rest) (sym taken.0) (subst (λ (l : List Event). IsGood n first l) (sym taken.1) (first_good n first events t))

pub taken_deals : (event : Event) (events rest : List Event) → IsTaken event events rest → Takes (deal_of event) (deals_of events) (deals_of rest)
taken_deals event [] rest taken = (ap deal_of taken.0, ap deals_of taken.1)
taken_deals event (first ∷ events) rest taken = (ap deal_of taken.0, ap deals_of taken.1)

-- a script goes on above its numbers
pub script_goes_on : (n : ℕ) (events more : List Event) → IsTrue (is_script n events) → IsTrue (is_script (numbers_after n (deals_of events)) more) → IsTrue (is_script n (events ++ more))
script_goes_on n [] more t behind = behind
script_goes_on n (Opened k ∷ events) more t behind =
    let first : IsTrue (nat_le n k) = left_of (nat_le n k) (is_script (k + 1) events) t in
    let number = next_number n k (le_from n k first) in
    and_from (nat_le n k) (is_script (k + 1) (events ++ more)) first
    (script_goes_on (k + 1) events more (right_of (nat_le n k) (is_script (k + 1) events) t) (subst (λ (m : ℕ). IsTrue (is_script (numbers_after m (deals_of events)) more)) (sym number) behind))
script_goes_on n (Piece k piece ∷ events) more t behind =
    let sized = nat_le 1 (length piece) && nat_le (length piece) 65536 in
    and_from sized (is_script n (events ++ more)) (left_of sized (is_script n events) t) (script_goes_on n events more (right_of sized (is_script n events) t) behind)
script_goes_on n (Closed k ∷ events) more t behind = script_goes_on n events more t behind
script_goes_on n (Ended ∷ events) more t behind = absurd (cc)

pub deals_append : (xs ys : List Event) → deals_of (xs ++ ys) ≡ deals_of xs ++ deals_of ys
deals_append [] ys = refl
deals_append (x ∷ xs) ys = ap (λ (l : List Deal). deal_of x ∷ l) (deals_append xs ys)

-- a step that gives no number leaves the script as it was
pub script_quiet : (past later : List Step) (step : Step) (events : List Event) → later ≡ past ++ step ∷ [] → number_on (numbers_of past) step ≡ numbers_of past → IsTrue (is_script (numbers_of past) events)
    → IsTrue (is_script (numbers_of later) events)
script_quiet past later step events is quiet t =
    let same : numbers_of later ≡ numbers_of past = ap (λ (l : List Step). numbers_of l) is ∙ numbers_push 0 past step ∙ quiet in
    subst (λ (n : ℕ). IsTrue (is_script n events)) (sym same) t

-- events are added to what is still to come, or they aren't
pub script_extended : {T E : Type 0} (r : Result T E) (n taken : ℕ) (old new more : List Event) → OnOk r (new ≡ old ++ more) → OnErr r (new ≡ old) → taken ≤ length old
    → IsTrue (is_script n (drop taken old)) → IsTrue (is_script (numbers_after n (deals_of (drop taken old))) more) → IsTrue (is_script n (drop taken new))
script_extended (Ok x) n taken old new more added refused within was behind =
    let is : drop taken new ≡ drop taken old ++ more = ap (λ (l : List Event). drop taken l) added ∙ drop-append-le taken old more within in
    subst (λ (l : List Event). IsTrue (is_script n l)) (sym is) (script_goes_on n (drop taken old) more was behind)
script_extended (Err e) n taken old new more added refused within was behind = subst (λ (l : List Event). IsTrue (is_script n (drop taken l))) (sym refused) was

pub deals_extended : (taken : ℕ) (old new more : List Event) → new ≡ old ++ more → taken ≤ length old → deals_of (drop taken new) ≡ deals_of (drop taken old) ++ deals_of more
deals_extended taken old new more added within =
    ap deals_of (ap (λ (l : List Event). drop taken l) added ∙ drop-append-le taken old more within) ∙ deals_append (drop taken old) more

-- one event more
pub numbers_after_push : (n : ℕ) (events : List Event) (event : Event)
    → numbers_after n (deals_of (events ++ event ∷ [])) ≡ number_after (numbers_after n (deals_of events)) (deal_of event)
numbers_after_push n [] event = refl
numbers_after_push n (x ∷ events) event = numbers_after_push (number_after n (deal_of x)) events event
