-- The order in which numbers are given and bytes go out.
use Rattle.std.proofs.Common.{◌≡◌, ℕ, ◌+◌, ◌-◌, ◌≤◌, ◌<◌, Bool, true, false, ◌&&◌, ◌==◌, nat_lt, if◌then◌else◌, IsTrue, None, Some, List, [], ◌∷◌, ◌++◌, All, length, get_or, take, drop, refl, sym, ◌∙◌, ap, subst, arith}
use Rattle.std.proofs.lemmas.Bool.Decides.{nat_tests}
use Rattle.std.proofs.lemmas.List.{take_more, take-append-drop}
use Rattle.std.proofs.lemmas.List.Elements.{All-head, All-tail}
use Rattle.sm_site.specs.declared.event.Event.{Event}
use Rattle.sm_site.specs.declared.event.Event.TheVariants.{Opened, Piece, Closed, Ended}
use Rattle.sm_site.specs.declared.step.Step.{Step}
use Rattle.sm_site.specs.declared.step.Step.TheVariants.{Sized, Read, Wrote, Synced, Took, Sent, Shut, Crashed}
use Rattle.sm_site.specs.Event.{deal_of, IsBelow}
use Rattle.sm_site.specs.Meanings.{Deal, Item, IsLive, open_after, open_from, sent_on}
use Rattle.sm_site.specs.Meanings.Deal.{Began, Came, Left, Over, Sent as SentDeal, Shut as ShutDeal}
use Rattle.sm_site.specs.Numbers.{Gives}
use Rattle.sm_site.specs.Scripts.{number_after}
use Rattle.sm_site.specs.Sending.{sent_after}
use Rattle.sm_site.specs.Past.{begins, is_crash, is_new, is_opening, is_ordered, item_of, items_from, items_on, keeps_order, number_on, numbers_from, numbers_of, opened_by, opened_in}
use Rattle.sm_site.proofs.Given.{Under, all_under, left_of, right_of, le_from, numbers_no_less, numbers_push, step_no_less}
use Rattle.sm_site.proofs.Sends.{sent_push, sent_step}

swapped : (a b c : Bool) → a && (b && c) ≡ b && (a && c)
swapped true b c = refl
swapped false true c = refl
swapped false false c = refl

-- one step more
pub ordered_push : (n : ℕ) (steps : List Step) (step : Step) → is_ordered n (steps ++ step ∷ []) ≡ keeps_order (numbers_from n steps) step && is_ordered n steps
ordered_push n [] step = refl
ordered_push n (x ∷ steps) step =
    ap (λ (b : Bool). keeps_order n x && b) (ordered_push (number_on n x) steps step)
    ∙ swapped (keeps_order n x) (keeps_order (numbers_from (number_on n x) steps) step) (is_ordered (number_on n x) steps)

both : (a b : Bool) → a ≡ true → IsTrue b → IsTrue (a && b)
both a b is t = subst (λ (x : Bool). IsTrue (x && b)) (sym is) t

pub ordered_step : (past later : List Step) (step : Step) → later ≡ past ++ step ∷ [] → keeps_order (numbers_of past) step ≡ true → IsTrue (is_ordered 0 past) → IsTrue (is_ordered 0 later)
ordered_step past later step is keeps t =
    subst (λ (b : Bool). IsTrue b) (sym (ap (λ (l : List Step). is_ordered 0 l) is ∙ ordered_push 0 past step))
    (both (keeps_order (numbers_of past) step) (is_ordered 0 past) keeps t)

pub ordered_front : (n : ℕ) (xs ys : List Step) → IsTrue (is_ordered n (xs ++ ys)) → IsTrue (is_ordered n xs)
ordered_front n [] ys t = refl
ordered_front n (x ∷ xs) ys t =
    both (keeps_order n x) (is_ordered (number_on n x) xs) (left_of (keeps_order n x) (is_ordered (number_on n x) (xs ++ ys)) t)
    (ordered_front (number_on n x) xs ys (right_of (keeps_order n x) (is_ordered (number_on n x) (xs ++ ys)) t))

-- a step, and those before it
pub record IsAt (before : List Step) (step : Step) : Type 0 where
  pub before_it : IsTrue (is_ordered 0 before)
  pub keeps : IsTrue (keeps_order (numbers_of before) step)

pub ordered_at : (before : List Step) (step : Step) → IsTrue (is_ordered 0 (before ++ step ∷ [])) → IsAt before step
ordered_at before step t =
    let two : IsTrue (keeps_order (numbers_of before) step && is_ordered 0 before) = subst (λ (b : Bool). IsTrue b) (ordered_push 0 before step) t in
    record {
      before_it = right_of (keeps_order (numbers_of before) step) (is_ordered 0 before) two;
      keeps = left_of (keeps_order (numbers_of before) step) (is_ordered 0 before) two;
    }

-- what is opened by a script has a new number
pub new_event : (n now : ℕ) (event : Event) → Gives event n now → is_new n event ≡ true
new_event n now (Opened k) gives = let le : n ≤ k = gives.0 in grind (arith, nat_tests)
new_event n now (Piece k piece) gives = refl
new_event n now (Closed k) gives = refl
new_event n now Ended gives = refl

-- what is open has one of the numbers that were given
deal_below : (n conn : ℕ) (deal : Deal) (was : Bool) → IsBelow n deal → (IsTrue was → conn < n) → IsTrue (open_after was conn deal) → conn < n
deal_below n conn (Began k) was below before live =
    elim (k == conn) as (λ b. (k == conn) ≡ b → IsTrue (if b then true else was) → conn < n) [
      | true ↦ λ is t. let same : k < n = below in grind (arith, nat_tests)
      | false ↦ λ is t. before t
    ] refl live
deal_below n conn (Came k bytes) was below before live = before live
deal_below n conn (Left k) was below before live = before (unless (k == conn) live)
  where
    unless : (b : Bool) → IsTrue (if b then false else was) → IsTrue was
    unless true t = absurd (cc)
    unless false t = t
deal_below n conn Over was below before live = before live
deal_below n conn (SentDeal k bytes failed) was below before live = before live
deal_below n conn (ShutDeal k) was below before live = before (unless (k == conn) live)
  where
    unless : (b : Bool) → IsTrue (if b then false else was) → IsTrue was
    unless true t = absurd (cc)
    unless false t = t

items_below : (n conn : ℕ) (items : List Item) (was : Bool) → All (Under n) items → (IsTrue was → conn < n) → IsTrue (open_from was conn items) → conn < n
items_below n conn [] was all before live = before live
items_below n conn (item ∷ items) was all before live =
    items_below n conn items (open_after was conn item.deal) (All-tail (Under n) item items all) (λ t. deal_below n conn item.deal was (All-head (Under n) item items all) before t) live

pub live_below : (conn : ℕ) (past : List Step) → IsLive conn (items_from 0 past) → conn < numbers_of past
live_below conn past live =
    items_below (numbers_of past) conn (items_from 0 past) false (all_under past (numbers_of past) (omega arith)) (λ t. absurd (cc)) live

-- bytes go out on what is open
pub live_keeps : (conn : ℕ) (past : List Step) → IsLive conn (items_from 0 past) → nat_lt conn (numbers_of past) ≡ true
live_keeps conn past live = let below : conn < numbers_of past = live_below conn past live in grind (arith, nat_tests)

-- a connection whose number wasn't given yet has sent nothing
not_sent : (conn n k : ℕ) (step : Step) (bytes : List ℕ) → IsTrue (keeps_order k step) → k ≤ conn → bytes ≡ [] → sent_after conn bytes step ≡ []
not_sent conn n k (Sized file failed) bytes keeps le none = none
not_sent conn n k (Read file at j failed) bytes keeps le none = none
not_sent conn n k (Wrote file at own failed reached) bytes keeps le none = none
not_sent conn n k (Synced file failed) bytes keeps le none = none
not_sent conn n k (Took event) bytes keeps le none = none
not_sent conn n k (Sent j part failed) bytes keeps le none =
    let other : (j == conn) ≡ false = apart j conn k keeps le in
    ap (λ (b : Bool). bytes ++ (if b then part.items else [])) other ∙ ap (λ (l : List ℕ). l ++ []) none
  where
    apart : (j conn k : ℕ) → IsTrue (nat_lt j k) → k ≤ conn → (j == conn) ≡ false
    apart j conn k t le = grind (arith, nat_tests)
not_sent conn n k (Shut j) bytes keeps le none = none
not_sent conn n k (Crashed choice) bytes keeps le none = refl

none_sent : (conn k m : ℕ) (items : List Item) (steps : List Step) → IsTrue (is_ordered k steps) → numbers_from k steps ≤ conn → sent_on conn items ≡ [] → sent_on conn (items_on m items steps) ≡ []
none_sent conn k m items [] t le none = none
none_sent conn k m items (step ∷ steps) t le none =
    let first : IsTrue (keeps_order k step) = left_of (keeps_order k step) (is_ordered (number_on k step) steps) t in
    let rest : IsTrue (is_ordered (number_on k step) steps) = right_of (keeps_order k step) (is_ordered (number_on k step) steps) t in
    none_sent conn (number_on k step) (m + 1) (if is_crash step then [] else items ++ item_of (m + 1) step) steps rest le
    (sent_step conn (m + 1) items step ∙ not_sent conn 0 k step (sent_on conn items) first (omega (arith, step_no_less k step, numbers_no_less (number_on k step) steps, le)) none)

event_begins : (conn n : ℕ) (event : Event) → IsTrue (is_opening conn event) → IsTrue (is_new n event) → n ≤ conn
event_begins conn n (Opened k) opens new = grind (arith, nat_tests)
event_begins conn n (Piece k piece) opens new = absurd (cc)
event_begins conn n (Closed k) opens new = absurd (cc)
event_begins conn n Ended opens new = absurd (cc)

begins_sends : (conn : ℕ) (before : List Step) (step : Step) → IsAt before step → IsTrue (begins conn step) → sent_after conn (sent_on conn (items_from 0 before)) step ≡ []
begins_sends conn before (Sized file failed) at t = absurd (cc)
begins_sends conn before (Read file i n failed) at t = absurd (cc)
begins_sends conn before (Wrote file i bytes failed reached) at t = absurd (cc)
begins_sends conn before (Synced file failed) at t = absurd (cc)
begins_sends conn before (Took event) at t = none_sent conn 0 0 [] before at.before_it (event_begins conn (numbers_of before) event t at.keeps) refl
begins_sends conn before (Sent n part failed) at t = absurd (cc)
begins_sends conn before (Shut n) at t = absurd (cc)
begins_sends conn before (Crashed choice) at t = refl

-- behind a step at which it begins nothing went out on it yet
pub begun_behind : (conn : ℕ) (before : List Step) (step : Step) → IsTrue (is_ordered 0 (before ++ step ∷ [])) → IsTrue (begins conn step) → sent_on conn (items_from 0 (before ++ step ∷ [])) ≡ []
begun_behind conn before step t is = sent_push conn before step ∙ begins_sends conn before step (ordered_at before step t) is

event_number : (n k : ℕ) (event : Event) → opened_by event ≡ Some k → IsTrue (is_new n event) → number_after n (deal_of event) ≡ k + 1
event_number n k (Opened j) is new = let same : j ≡ k = cc in let le : n ≤ j = le_from n j new in omega arith
event_number n k (Piece j piece) is new = absurd (cc)
event_number n k (Closed j) is new = absurd (cc)
event_number n k Ended is new = absurd (cc)

step_number : (n k : ℕ) (step : Step) → opened_in step ≡ Some k → IsTrue (keeps_order n step) → number_on n step ≡ k + 1
step_number n k (Sized file failed) is keeps = absurd (cc)
step_number n k (Read file i j failed) is keeps = absurd (cc)
step_number n k (Wrote file i bytes failed reached) is keeps = absurd (cc)
step_number n k (Synced file failed) is keeps = absurd (cc)
step_number n k (Took event) is keeps = event_number n k event is keeps
step_number n k (Sent j part failed) is keeps = absurd (cc)
step_number n k (Shut j) is keeps = absurd (cc)
step_number n k (Crashed choice) is keeps = absurd (cc)

-- the last number that was given is the greatest
pub number_behind : (before : List Step) (step : Step) (k : ℕ) → IsTrue (is_ordered 0 (before ++ step ∷ [])) → opened_in step ≡ Some k → numbers_of (before ++ step ∷ []) ≡ k + 1
number_behind before step k t is = numbers_push 0 before step ∙ step_number (numbers_of before) k step is (ordered_at before step t).keeps

event_quiet : (n : ℕ) (event : Event) → opened_by event ≡ None → number_after n (deal_of event) ≡ n
event_quiet n (Opened j) is = absurd (cc)
event_quiet n (Piece j piece) is = refl
event_quiet n (Closed j) is = refl
event_quiet n Ended is = refl

-- a step that gives none leaves it
pub number_quiet : (n : ℕ) (step : Step) → opened_in step ≡ None → number_on n step ≡ n
number_quiet n (Sized file failed) is = refl
number_quiet n (Read file i j failed) is = refl
number_quiet n (Wrote file i bytes failed reached) is = refl
number_quiet n (Synced file failed) is = refl
number_quiet n (Took event) is = event_quiet n event is
number_quiet n (Sent j part failed) is = refl
number_quiet n (Shut j) is = refl
number_quiet n (Crashed choice) is = refl

-- the last of the first steps
module _ (past : List Step) (at : ℕ) (step : Step) (some : 0 < at) (within : at ≤ length past) (is : step ≡ get_or past (at - 1) step) where
  pub front_is : take at past ≡ take (at - 1) past ++ step ∷ []
  front_is =
      let same : at ≡ (at - 1) + 1 = omega arith in
      ap (λ (n : ℕ). take n past) same ∙ take_more past (at - 1) step (omega arith) ∙ ap (λ (s : Step). take (at - 1) past ++ s ∷ []) (sym is)

  pub front_ordered : IsTrue (is_ordered 0 past) → IsTrue (is_ordered 0 (take (at - 1) past ++ step ∷ []))
  front_ordered t =
      subst (λ (l : List Step). IsTrue (is_ordered 0 l)) front_is
      (ordered_front 0 (take at past) (drop at past) (subst (λ (l : List Step). IsTrue (is_ordered 0 l)) (sym (take-append-drop at past)) t))

  pub front_begun : (conn : ℕ) → IsTrue (is_ordered 0 past) → IsTrue (begins conn step) → sent_on conn (items_from 0 (take at past)) ≡ []
  front_begun conn t begun = ap (λ (l : List Step). sent_on conn (items_from 0 l)) front_is ∙ begun_behind conn (take (at - 1) past) step (front_ordered t) begun

  pub front_number : (k : ℕ) → IsTrue (is_ordered 0 past) → opened_in step ≡ Some k → numbers_of (take at past) ≡ k + 1
  front_number k t opened = ap numbers_of front_is ∙ number_behind (take (at - 1) past) step k (front_ordered t) opened

  pub front_quiet : opened_in step ≡ None → numbers_of (take at past) ≡ numbers_of (take (at - 1) past)
  front_quiet none = ap numbers_of front_is ∙ numbers_push 0 (take (at - 1) past) step ∙ number_quiet (numbers_of (take (at - 1) past)) step none
