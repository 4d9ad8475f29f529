-- What came on a connection by some moment of an exchange.
use Rattle.std.proofs.Common.{◌≡◌, ◌≢◌, ◌⊎◌, inl, inr, ⊎_elim, ℕ, ◌+◌, ◌-◌, ◌^◌, ◌<◌, ◌≤◌, Bool, true, false, ◌&&◌, ◌==◌, if◌then◌else◌, List, [], ◌∷◌, ◌++◌, length, refl, sym, ◌∙◌, ap, subst, arith, append_assoc}
use Rattle.std.specs.Prelude.{max, nat_le}
use Rattle.std.proofs.lemmas.Bool.{eq-eqb, ne_eqb, and_parts}
use Rattle.std.proofs.lemmas.Bool.Decides.{nat_tests}
use Rattle.std.proofs.lemmas.List.{append-nil}
use Rattle.sm_site.specs.declared.event.Event.{Event}
use Rattle.sm_site.specs.declared.event.Event.TheVariants.{Opened, Piece, Closed, Ended}
use Rattle.sm_site.specs.Meanings.{Deal, Item}
use Rattle.sm_site.specs.Meanings.Deal.{Began, Came, Left, Over, Sent, Shut}
use Rattle.sm_site.specs.Scripts.{is_script, deals_of, numbers_after}
use Rattle.sm_serve.specs.Connections.{received_after, received_from, received, without, live_after, live_from, live, is_among, is_event, deals_in, events_in}
use Rattle.sm_world.specs.Bringing.{begun, begun_by, brought, Brings}
use Rattle.sm_world.specs.Went.{Opens}
use Rattle.sm_serve.specs.Serving.{AreTaken, LastIsOver, NoneIsOver}
use Rattle.sm_serve.proofs.Lives.{among_less, among_push}

-- ---- how often a connection begins

pub begun_both : (conn : ℕ) (xs ys : List Deal) → begun conn (xs ++ ys) ≡ begun conn xs + begun conn ys
begun_both conn [] ys = omega arith
begun_both conn (x ∷ xs) ys = let rest = begun_both conn xs ys in omega arith

pub began_one : (conn : ℕ) → begun_by conn (Began conn) ≡ 1
began_one conn = ap (λ (b : Bool). if b then 1 else 0) (eq-eqb conn conn refl)

began_other : (conn k : ℕ) → k ≢ conn → begun_by conn (Began k) ≡ 0
began_other conn k other = ap (λ (b : Bool). if b then 1 else 0) (ne_eqb k conn other)

not_begun : (conn k : ℕ) → begun_by conn (Began k) ≡ 0 → k ≢ conn
not_begun conn k none is = let one : begun_by conn (Began k) ≡ 1 = ap (λ (b : Bool). if b then 1 else 0) (eq-eqb k conn is) in omega (arith, one, none)

-- a number above all that are still to come begins none of these
numbers_rise : (from : ℕ) (deals : List Deal) → from ≤ numbers_after from deals
numbers_rise from [] = omega arith
numbers_rise from (Began k ∷ deals) = let rest = numbers_rise (max from (k + 1)) deals in omega (arith, rest)
numbers_rise from (Came k bytes ∷ deals) = numbers_rise from deals
numbers_rise from (Left k ∷ deals) = numbers_rise from deals
numbers_rise from (Over ∷ deals) = numbers_rise from deals
numbers_rise from (Sent k bytes failed ∷ deals) = numbers_rise from deals
numbers_rise from (Shut k ∷ deals) = numbers_rise from deals

pub none_above : (conn from : ℕ) (deals : List Deal) → numbers_after from deals ≤ conn → begun conn deals ≡ 0
none_above conn from [] le = refl
none_above conn from (Began k ∷ deals) le =
    let rest = numbers_rise (max from (k + 1)) deals in
    let other = began_other conn k (λ e. omega (arith, rest, le, e)) in
    let more = none_above conn (max from (k + 1)) deals le in
    omega (arith, other, more)
none_above conn from (Came k bytes ∷ deals) le = let rest = none_above conn from deals le in omega (arith, rest)
none_above conn from (Left k ∷ deals) le = let rest = none_above conn from deals le in omega (arith, rest)
none_above conn from (Over ∷ deals) le = let rest = none_above conn from deals le in omega (arith, rest)
none_above conn from (Sent k bytes failed ∷ deals) le = let rest = none_above conn from deals le in omega (arith, rest)
none_above conn from (Shut k ∷ deals) le = let rest = none_above conn from deals le in omega (arith, rest)

-- behind its opening a script opens a connection no more
none_behind : (conn from : ℕ) (events : List Event) → conn < from → is_script from events ≡ true → begun conn (deals_of events) ≡ 0
none_behind conn from [] lt is = refl
none_behind conn from (Opened k ∷ events) lt is =
    let p = and_parts (nat_le from k) (is_script (k + 1) events) is in
    let le : from ≤ k = (let test = p.0 in grind (arith, nat_tests)) in
    let other = began_other conn k (λ e. omega (arith, le, lt, e)) in
    let more = none_behind conn (k + 1) events (omega (arith, le, lt)) p.1 in
    omega (arith, other, more)
none_behind conn from (Piece k piece ∷ events) lt is =
    let rest = none_behind conn from events lt (and_parts (nat_le 1 (length piece) && nat_le (length piece) 65536) (is_script from events) is).1 in
    omega (arith, rest)
none_behind conn from (Closed k ∷ events) lt is = let rest = none_behind conn from events lt is in omega (arith, rest)
none_behind conn from (Ended ∷ events) lt is = absurd (cc)

-- ---- what comes on it

abbrev came_by : ℕ → Deal → List ℕ
came_by conn (Began n) = []
came_by conn (Came n bytes) = if n == conn then bytes else []
came_by conn (Left n) = []
came_by conn Over = []
came_by conn (Sent n bytes failed) = []
came_by conn (Shut n) = []

abbrev pub came_in : ℕ → List Deal → List ℕ
came_in conn [] = []
came_in conn (deal ∷ deals) = came_by conn deal ++ came_in conn deals

came_both : (conn : ℕ) (xs ys : List Deal) → came_in conn (xs ++ ys) ≡ came_in conn xs ++ came_in conn ys
came_both conn [] ys = refl
came_both conn (x ∷ xs) ys = ap (λ (l : List ℕ). came_by conn x ++ l) (came_both conn xs ys) ∙ sym (append_assoc (came_by conn x) (came_in conn xs) (came_in conn ys))

came_brought : (conn : ℕ) (events : List Event) → came_in conn (deals_of events) ≡ brought conn events
came_brought conn [] = refl
came_brought conn (Opened k ∷ events) = came_brought conn events
came_brought conn (Piece k piece ∷ events) = ap (λ (l : List ℕ). (if k == conn then piece else []) ++ l) (came_brought conn events)
came_brought conn (Closed k ∷ events) = came_brought conn events
came_brought conn (Ended ∷ events) = came_brought conn events

-- what a connection has received behind these
received_deals : ℕ → List ℕ → List Deal → List ℕ
received_deals conn was [] = was
received_deals conn was (deal ∷ deals) = received_deals conn (received_after conn was deal) deals

received_both : (conn : ℕ) (was : List ℕ) (xs ys : List Deal) → received_deals conn was (xs ++ ys) ≡ received_deals conn (received_deals conn was xs) ys
unfolding received_deals
received_both conn was [] ys = refl
received_both conn was (x ∷ xs) ys = received_both conn (received_after conn was x) xs ys

adds_to : (b : Bool) (was bytes more : List ℕ) → (if b then was ++ bytes else was) ++ more ≡ was ++ ((if b then bytes else []) ++ more)
adds_to true was bytes more = append_assoc was bytes more
adds_to false was bytes more = refl

received_more : (conn : ℕ) (was : List ℕ) (deals : List Deal) → begun conn deals ≡ 0 → received_deals conn was deals ≡ was ++ came_in conn deals
unfolding received_deals
received_more conn was [] none = sym (append-nil was)
received_more conn was (Began k ∷ deals) none =
    let other : begun_by conn (Began k) ≡ 0 = omega (arith, none) in
    let same : (if k == conn then [] else was) ≡ was = ap (λ (b : Bool). if b then [] else was) (ne_eqb k conn (not_begun conn k other)) in
    ap (λ (l : List ℕ). received_deals conn l deals) same ∙ received_more conn was deals (omega (arith, none))
received_more conn was (Came k bytes ∷ deals) none =
    received_more conn (if k == conn then was ++ bytes else was) deals (omega (arith, none)) ∙ adds_to (k == conn) was bytes (came_in conn deals)
received_more conn was (Left k ∷ deals) none = received_more conn was deals (omega (arith, none))
received_more conn was (Over ∷ deals) none = received_more conn was deals (omega (arith, none))
received_more conn was (Sent k bytes failed ∷ deals) none = received_more conn was deals (omega (arith, none))
received_more conn was (Shut k ∷ deals) none = received_more conn was deals (omega (arith, none))

-- what isn't an event changes nothing of that
received_events : (conn : ℕ) (was : List ℕ) (items : List Item) → received_from conn was items ≡ received_deals conn was (deals_in items)
unfolding received_deals deals_in
received_events conn was [] = refl
received_events conn was (item ∷ items) = go item.deal (λ w. received_events conn w items)
  where
    go : (deal : Deal) → ((w : List ℕ) → received_from conn w items ≡ received_deals conn w (deals_in items))
        → received_from conn (received_after conn was deal) items ≡ received_deals conn was (if is_event deal then deal ∷ deals_in items else deals_in items)
    go (Began k) rest = rest (received_after conn was (Began k))
    go (Came k bytes) rest = rest (received_after conn was (Came k bytes))
    go (Left k) rest = rest was
    go Over rest = rest was
    go (Sent k bytes failed) rest = rest was
    go (Shut k) rest = rest was

received_append : (conn : ℕ) (was : List ℕ) (base items : List Item) → received_from conn was (base ++ items) ≡ received_from conn (received_from conn was base) items
received_append conn was [] items = refl
received_append conn was (item ∷ base) items = received_append conn (received_after conn was item.deal) base items

pub deals_both : (xs ys : List Item) → deals_in (xs ++ ys) ≡ deals_in xs ++ deals_in ys
unfolding deals_in
deals_both [] ys = refl
deals_both (x ∷ xs) ys = go (is_event x.deal) (deals_both xs ys)
  where
    go : (b : Bool) → deals_in (xs ++ ys) ≡ deals_in xs ++ deals_in ys
        → (if b then x.deal ∷ deals_in (xs ++ ys) else deals_in (xs ++ ys)) ≡ (if b then x.deal ∷ deals_in xs else deals_in xs) ++ deals_in ys
    go true e = ap (λ (l : List Deal). x.deal ∷ l) e
    go false e = e

-- ---- which connections are live

pub among_after : (conn : ℕ) (ns : List ℕ) (deal : Deal) → begun_by conn deal ≡ 0 → is_among conn ns ≡ false → is_among conn (live_after ns deal) ≡ false
among_after conn ns (Began k) none out = among_push conn k (without k ns) (among_less conn k ns out) (λ e. not_begun conn k none (sym e))
among_after conn ns (Came k bytes) none out = out
among_after conn ns (Left k) none out = among_less conn k ns out
among_after conn ns Over none out = out
among_after conn ns (Sent k bytes failed) none out = out
among_after conn ns (Shut k) none out = among_less conn k ns out

among_from : (conn : ℕ) (ns : List ℕ) (items : List Item) → begun conn (deals_in items) ≡ 0 → is_among conn ns ≡ false → is_among conn (live_from ns items) ≡ false
unfolding deals_in
among_from conn ns [] none out = out
among_from conn ns (item ∷ items) none out = go item.deal (λ ks e o. among_from conn ks items e o) none
  where
    go : (deal : Deal) → ((ks : List ℕ) → begun conn (deals_in items) ≡ 0 → is_among conn ks ≡ false → is_among conn (live_from ks items) ≡ false)
        → begun conn (if is_event deal then deal ∷ deals_in items else deals_in items) ≡ 0 → is_among conn (live_from (live_after ns deal) items) ≡ false
    go (Began k) rest e = rest (live_after ns (Began k)) (omega (arith, e)) (among_after conn ns (Began k) (omega (arith, e)) out)
    go (Came k bytes) rest e = rest ns (omega (arith, e)) out
    go (Left k) rest e = rest (live_after ns (Left k)) (omega (arith, e)) (among_after conn ns (Left k) refl out)
    go Over rest e = rest ns (omega (arith, e)) out
    go (Sent k bytes failed) rest e = rest ns e out
    go (Shut k) rest e = rest (live_after ns (Shut k)) e (among_after conn ns (Shut k) refl out)

live_append : (ns : List ℕ) (base items : List Item) → live_from ns (base ++ items) ≡ live_from (live_from ns base) items
live_append ns [] items = refl
live_append ns (item ∷ base) items = live_append (live_after ns item.deal) base items

-- a connection that wasn't live and hasn't begun since isn't live
pub still_out : (conn : ℕ) (base items : List Item) → is_among conn (live base) ≡ false → begun conn (deals_in items) ≡ 0 → is_among conn (live (base ++ items)) ≡ false
unfolding live
still_out conn base items out none = ap (is_among conn) (live_append [] base items) ∙ among_from conn (live_from [] base) items none out

-- ---- what was taken of a script

pub AreOver : List Deal → Type 0
AreOver [] = Unit {0}
AreOver (deal ∷ deals) = (deal ≡ Over) × AreOver deals

none_over : (conn : ℕ) (deals : List Deal) → AreOver deals → (begun conn deals ≡ 0) × (came_in conn deals ≡ [])
unfolding AreOver
none_over conn [] over = (refl, refl)
none_over conn (deal ∷ deals) (is, over) =
    let rest = none_over conn deals over in
    (let one = ap (begun_by conn) is in omega (arith, one, rest.0), ap (λ (d : Deal). came_by conn d ++ came_in conn deals) is ∙ rest.1)

-- what the connection brings, behind what came before its opening, and with the end behind it
pub record IsComing (conn : ℕ) (request : List ℕ) (coming : List Deal) : Type 0 where
  pub before : List Deal
  pub behind : List Deal
  pub splits : coming ≡ before ++ Began conn ∷ behind
  pub none : begun conn before ≡ 0
  pub once : begun conn behind ≡ 0
  pub brings : came_in conn behind ≡ request
  pub bringing : List Deal
  pub ends : List Deal
  pub parts : behind ≡ bringing ++ ends
  pub no_end : NoneIsOver bringing
  pub all_ends : AreOver ends

-- these are the first of what comes
abbrev pub AreFirst : ℕ → List ℕ → List Deal → Type 0
AreFirst conn request deals = (coming ahead : List Deal) × (deals ++ ahead ≡ coming) × IsComing conn request coming

pub first_of_first : (conn : ℕ) (request : List ℕ) (xs ys : List Deal) → AreFirst conn request (xs ++ ys) → AreFirst conn request xs
first_of_first conn request xs ys (coming, ahead, is, comes) = (coming, ys ++ ahead, sym (append_assoc xs ys ahead) ∙ is, comes)

split_at : (conn : ℕ) (xs ahead before behind : List Deal) → xs ++ ahead ≡ before ++ Began conn ∷ behind → begun conn before ≡ 0
    → (begun conn xs ≡ 0) ⊎ ((t : List Deal) × (xs ≡ before ++ Began conn ∷ t) × (t ++ ahead ≡ behind))
split_at conn [] ahead before behind is none = inl refl
split_at conn (x ∷ xs) ahead [] behind is none =
    let first : x ≡ Began conn = cc in
    let rest : xs ++ ahead ≡ behind = cc in
    inr (xs, ap (λ (d : Deal). d ∷ xs) first, rest)
split_at conn (x ∷ xs) ahead (y ∷ before) behind is none =
    let first : x ≡ y = cc in
    let rest : xs ++ ahead ≡ before ++ Began conn ∷ behind = cc in
    let here : begun_by conn x ≡ 0 = (let same = ap (begun_by conn) first in omega (arith, same, none)) in
    ⊎_elim
    (λ (out : begun conn xs ≡ 0). inl (omega (arith, here, out)))
    (λ (in_ : (t : List Deal) × (xs ≡ before ++ Began conn ∷ t) × (t ++ ahead ≡ behind)). inr (in_.0, (let tails = in_.1 in cc), in_.2))
    (split_at conn xs ahead before behind rest (omega (arith, none)))

-- by then it hasn't begun, or it has once, and what came on it is a front of the request, the rest of which is ahead
begins_by_then : (conn : ℕ) (request : List ℕ) (base items : List Item) (coming ahead : List Deal) → deals_in items ++ ahead ≡ coming → (comes : IsComing conn request coming)
    → (begun conn (deals_in items) ≡ 0)
    ⊎ ((t : List Deal) × (deals_in items ≡ comes.before ++ Began conn ∷ t) × (t ++ ahead ≡ comes.behind) × (begun conn (deals_in items) ≡ 1)
    × (received conn (base ++ items) ++ came_in conn ahead ≡ request))
unfolding received received_deals
begins_by_then conn request base items coming ahead is comes =
    ⊎_elim (λ (out : begun conn (deals_in items) ≡ 0). inl out) here (split_at conn (deals_in items) ahead comes.before comes.behind (is ∙ comes.splits) comes.none)
  where
    here : (t : List Deal) × (deals_in items ≡ comes.before ++ Began conn ∷ t) × (t ++ ahead ≡ comes.behind)
        → (begun conn (deals_in items) ≡ 0)
        ⊎ ((t : List Deal) × (deals_in items ≡ comes.before ++ Began conn ∷ t) × (t ++ ahead ≡ comes.behind) × (begun conn (deals_in items) ≡ 1)
        × (received_from conn [] (base ++ items) ++ came_in conn ahead ≡ request))
    here (t, at, behind) =
        let none : begun conn t ≡ 0 = (let both = begun_both conn t ahead in let once = comes.once in let same = ap (begun conn) behind in omega (arith, both, once, same)) in
        let had = received_deals conn (received_from conn [] base) comes.before in
        let now : received_from conn [] (base ++ items) ≡ came_in conn t =
        received_append conn [] base items ∙ received_events conn (received_from conn [] base) items ∙ ap (received_deals conn (received_from conn [] base)) at
        ∙ received_both conn (received_from conn [] base) comes.before (Began conn ∷ t) ∙ ap (λ (b : Bool). received_deals conn (if b then [] else had) t) (eq-eqb conn conn refl) ∙ received_more conn [] t none in
        let all = ap (begun conn) at in
        let both = begun_both conn comes.before (Began conn ∷ t) in
        let one = began_one conn in
        let first = comes.none in
        inr (t, at, behind, omega (arith, all, both, one, none, first), ap (λ (l : List ℕ). l ++ came_in conn ahead) now ∙ sym (came_both conn t ahead) ∙ ap (came_in conn) behind ∙ comes.brings)

-- by then it hasn't begun, or what came on it is a front of the request
pub came_by_then : (conn : ℕ) (request : List ℕ) (base items : List Item) → AreFirst conn request (deals_in items)
    → (begun conn (deals_in items) ≡ 0) ⊎ ((rest : List ℕ) × (received conn (base ++ items) ++ rest ≡ request))
came_by_then conn request base items (coming, ahead, is, comes) = elim (begins_by_then conn request base items coming ahead is comes) [
  | inl out ↦ inl out
  | inr b ↦ inr (came_in conn ahead, b.4)
]

-- the end stands behind the opening
end_behind : (conn : ℕ) (xs t before : List Deal) → xs ++ Began conn ∷ t ≡ before ++ Over ∷ [] → (first : List Deal) × (t ≡ first ++ Over ∷ [])
end_behind conn [] t [] is = absurd (cc)
end_behind conn [] t (d ∷ before) is = (before, (cc))
end_behind conn (x ∷ []) t [] is = absurd (cc)
end_behind conn (x ∷ y ∷ xs) t [] is = absurd (cc)
end_behind conn (x ∷ xs) t (d ∷ before) is = end_behind conn xs t before (cc)

-- behind the first end only ends are ahead
ends_ahead : (first ahead ds ends : List Deal) → (first ++ Over ∷ []) ++ ahead ≡ ds ++ ends → NoneIsOver ds → AreOver ends → AreOver ahead
unfolding AreOver
ends_ahead [] ahead [] ends is none over = (subst AreOver (sym is) over).1
ends_ahead [] ahead (d ∷ ds) ends is none over = absurd (let same : Over ≡ d = cc in none.0 (sym same))
ends_ahead (x ∷ first) ahead [] ends is none over = ends_ahead first ahead [] ((first ++ Over ∷ []) ++ ahead) refl tt (subst AreOver (sym is) over).1
ends_ahead (x ∷ first) ahead (d ∷ ds) ends is none over = ends_ahead first ahead ds ends (cc) none.1 over

-- by then it hasn't begun, or it was opened once for the request, all of which came where the end did
pub opens_by_then : (conn : ℕ) (request : List ℕ) (items : List Item) → AreFirst conn request (deals_in items) → LastIsOver (deals_in items) ⊎ (2 ^ 64 - 1 ≤ events_in items)
    → (begun conn (deals_in items) ≡ 0) ⊎ Opens conn request items
opens_by_then conn request items (coming, ahead, is, comes) ends = elim (begins_by_then conn request [] items coming ahead is comes) [
  | inl out ↦ inl out
  | inr b ↦ inr (record { once = b.3; more = came_in conn ahead; came = sym b.4; all = ⊎_elim (λ (last : LastIsOver (deals_in items)). inl (nothing b.0 b.1 b.2 last)) (λ (many : 2 ^ 64 - 1 ≤ events_in items). inr many) ends })
]
  where
    nothing : (t : List Deal) → deals_in items ≡ comes.before ++ Began conn ∷ t → t ++ ahead ≡ comes.behind → LastIsOver (deals_in items) → came_in conn ahead ≡ []
    nothing t at behind (before, last, none) =
        let e = end_behind conn comes.before t before (sym at ∙ last) in
        (none_over conn ahead (ends_ahead e.0 ahead comes.bringing comes.ends (ap (λ (l : List Deal). l ++ ahead) (sym e.1) ∙ behind ∙ comes.parts) comes.no_end comes.all_ends)).1

-- a connection begins once
pub begins_once : (conn : ℕ) (request : List ℕ) (deals : List Deal) → AreFirst conn request (deals ++ Began conn ∷ []) → begun conn deals ≡ 0
begins_once conn request deals (coming, ahead, is, comes) =
    let one = began_one conn in
    let all = ap (begun conn) (is ∙ comes.splits) in
    let left = begun_both conn (deals ++ Began conn ∷ []) ahead in
    let inner = begun_both conn deals (Began conn ∷ []) in
    let right = begun_both conn comes.before (Began conn ∷ comes.behind) in
    let before = comes.none in
    let behind = comes.once in
    omega (arith, one, all, left, inner, right, before, behind)

-- what was taken is the first of the script and of ends behind it
taken_first : (deals was now : List Deal) → AreTaken deals was now → (over ahead : List Deal) × AreOver over × (deals ++ ahead ≡ was ++ over)
unfolding AreOver
taken_first [] was now is = ([], was, tt, sym (append-nil was))
taken_first (deal ∷ deals) [] now (rest, (is, none), more) =
    let t = taken_first deals rest now more in
    (Over ∷ t.0, t.1, (refl, t.2), ap (λ (d : Deal). d ∷ (deals ++ t.1)) is ∙ ap (λ (l : List Deal). Over ∷ l) (t.3 ∙ ap (λ (l : List Deal). l ++ t.0) none))
taken_first (deal ∷ deals) (first ∷ was) now (rest, (is, on), more) =
    let t = taken_first deals rest now more in
    (t.0, t.1, t.2, ap (λ (d : Deal). d ∷ (deals ++ t.1)) is ∙ ap (λ (l : List Deal). first ∷ l) (t.3 ∙ ap (λ (l : List Deal). l ++ t.0) on))

-- no end stands in a script
no_end_in : (from : ℕ) (events : List Event) → is_script from events ≡ true → NoneIsOver (deals_of events)
no_end_in from [] is = tt
no_end_in from (Opened k ∷ events) is = (λ same. cc, no_end_in (k + 1) events (and_parts (nat_le from k) (is_script (k + 1) events) is).1)
no_end_in from (Piece k piece ∷ events) is =
    (λ same. cc, no_end_in from events (and_parts (nat_le 1 (length piece) && nat_le (length piece) 65536) (is_script from events) is).1)
no_end_in from (Closed k ∷ events) is = (λ same. cc, no_end_in from events is)
no_end_in from (Ended ∷ events) is = absurd (cc)

-- what was taken of a script behind which a connection brings a request
pub taken_of : (conn : ℕ) (request : List ℕ) (events : List Event) (before deals now : List Deal) → Brings conn request events → begun conn before ≡ 0 → AreTaken deals (before ++ deals_of events) now
    → AreFirst conn request deals
taken_of conn request events before deals now brings none taken =
    let t = taken_first deals (before ++ deals_of events) now taken in
    let over = none_over conn t.0 t.2 in
    let opens : deals_of events ≡ Began conn ∷ deals_of brings.rest = ap deals_of brings.opens in
    let script : is_script (conn + 1) brings.rest ≡ true =
    (and_parts (nat_le conn conn) (is_script (conn + 1) brings.rest) (subst (λ (es : List Event). is_script conn es ≡ true) brings.opens (brings.fits conn (omega arith)))).1 in
    let behind = deals_of brings.rest ++ t.0 in
    let once : begun conn behind ≡ 0 = (let both = begun_both conn (deals_of brings.rest) t.0 in let first = none_behind conn (conn + 1) brings.rest (omega arith) script in omega (arith, both, first, over.0)) in (
      (before ++ deals_of events) ++ t.0,
      t.1,
      t.3,
      record {
        before = before;
        behind = behind;
        splits = append_assoc before (deals_of events) t.0 ∙ ap (λ (l : List Deal). before ++ (l ++ t.0)) opens;
        none = none;
        once = once;
        brings = came_both conn (deals_of brings.rest) t.0 ∙ ap (λ (l : List ℕ). came_in conn (deals_of brings.rest) ++ l) over.1 ∙ append-nil (came_in conn (deals_of brings.rest))
            ∙ came_brought conn brings.rest ∙ brings.all;
        bringing = deals_of brings.rest;
        ends = t.0;
        parts = refl;
        no_end = no_end_in (conn + 1) brings.rest script;
        all_ends = t.2;
      },
    )
