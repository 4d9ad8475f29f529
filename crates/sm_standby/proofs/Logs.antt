-- Logs that have their entries at the places of another.
use Rattle.std.proofs.Common.{◌≡◌, ◌⊎◌, ◌+◌, ℕ, zero, suc, cond, List, [], ◌∷◌, ◌++◌, length, slice_get, Option, Some, None, refl, ap, sym, ◌∙◌, subst}
use Rattle.std.proofs.Common.{append-nil, arith, inl, inr, ⊎_elim}
use Rattle.std.specs.List.{AllByRecursion}
use Rattle.sm_model.specs.declared.address.Address.{Address}
use Rattle.sm_model.specs.declared.entry.Entry.{Entry}
use Rattle.sm_model.specs.declared.entry.Entry.TheVariants.{Declare, Keep}
use Rattle.sm_model.specs.declared.fragment.Fragment.{Fragment}
use Rattle.sm_model.specs.declared.run.RawFragment.{RawFragment}
use Rattle.sm_model.specs.declared.track.Track.{Track}
use Rattle.sm_log.specs.Logs.{kept_from, kept_at, is_kept_at}
use Rattle.sm_site.specs.Image.{Image}
use Rattle.sm_site.specs.Meanings.{Seen}
use Rattle.sm_site.proofs.Moments.{weakened}
use Rattle.sm_archive.specs.declared.archive.Archive.{Archive}
use Rattle.sm_manin.specs.declared.listing.Listing.{Listing}
use Rattle.sm_fetch.specs.declared.dial.Exchange.{Exchange}
use Rattle.sm_fetch.specs.declared.place.Place.{Place}
use Rattle.sm_fetch.specs.declared.placed.Placed.TheVariants as placed
use Rattle.sm_fetch.specs.Exchanges.{Peer}
use Rattle.sm_fetch.specs.Placing.{IsPlacedAt}
use Rattle.sm_fetch.specs.Spelt.{given}
use Rattle.sm_pull.specs.declared.plan.PullPlan.{PullPlan}
use Rattle.sm_pull.specs.declared.stop.Stop.{Stop}
use Rattle.sm_pull.specs.Adds.{keeps_of, LeavesFront}
use Rattle.sm_pull.specs.Below.{Places}
use Rattle.sm_pull.proofs.Disks.{log_both}
use Rattle.sm_standby.specs.declared.held.Later.{Later}
use Rattle.sm_standby.specs.declared.report.FollowEnd.{FollowEnd}
use Rattle.sm_standby.specs.declared.report.FollowEnd.TheVariants as ends
use Rattle.sm_standby.specs.Turns.{url_of, Whose, candidate, again, Came, absent, kept, later, dropped, Turn, passed, asked, Standing, address_for, FitsPlace, kept_by, after, Turns, kept_in, IsUpstream}
use Rattle.sm_standby.specs.Asked.{StopsAt, IsTried}
use Rattle.sm_standby.specs.Followed.{at, tried_turn, EndsTurns}
use Rattle.sm_standby.specs.Rounds as rounds
use Rattle.sm_standby.specs.Rounds.{Round, AreRounds, RoundsUpstream, Part, StopsRound, EndsCall, Called}
use Rattle.sm_standby.specs.Placed.{NamesItself, Names, AllName, RoundsName, PartNames, LeavesPlaces, StaysPlaced}
use Rattle.sm_standby.proofs.Opens.{by_bool}

-- ---- lists

pub get_more : {X : Type 0} (xs ys : List X) (i : ℕ) (x : X) → slice_get xs i ≡ Some x → slice_get (xs ++ ys) i ≡ Some x
get_more [] ys i x e = absurd (cc)
get_more (z ∷ xs) ys zero x e = e
get_more (z ∷ xs) ys (suc i) x e = get_more xs ys i x e

pub some_same : {X : Type 0} (a b : X) → Some a ≡ Some b → a ≡ b
some_same a b e = cc

get_push : {X : Type 0} (xs : List X) (y : X) (i : ℕ) (x : X) → slice_get (xs ++ y ∷ []) i ≡ Some x → (slice_get xs i ≡ Some x) ⊎ ((i ≡ length xs) × (y ≡ x))
get_push [] y zero x e = inr (refl, some_same y x e)
get_push [] y (suc i) x e = absurd (cc)
get_push (z ∷ xs) y zero x e = inl e
get_push (z ∷ xs) y (suc i) x e = ⊎_elim (λ l. inl l) (λ r. inr (ap suc r.0, r.1)) (get_push xs y i x e)

pub places_front : (log more up : List Entry) → Places (log ++ more) up → Places log up
places_front log more up all = λ p f e. all p f (get_more log more p (Keep f) e)

keep-same : (f g : Fragment) → Keep f ≡ Keep g → f ≡ g
keep-same f g e = cc

pub places_push : (log up : List Entry) (f : Fragment) → Places log up → slice_get up (length log) ≡ Some (Keep f) → Places (log ++ Keep f ∷ []) up
places_push log up f all here = λ p g e.
    ⊎_elim (all p g) (λ r. ap (λ (i : ℕ). slice_get up i) r.0 ∙ (here ∙ ap (λ (x : Entry). Some x) r.1)) (get_push log (Keep f) p (Keep g) e)

-- ---- what is kept at an address

place_in : Option (ℕ × Fragment) → ℕ
place_in None = 0
place_in (Some k) = k.0

what_in : Fragment → Option (ℕ × Fragment) → Fragment
what_in f None = f
what_in f (Some k) = k.1

pub one_place : (m k : ℕ) (x y : Fragment) → ◌≡◌ {A = Option (ℕ × Fragment)} (Some (m, x)) (Some (k, y)) → m ≡ k
unfolding place_in
one_place m k x y h = ap place_in h

second : (m k : ℕ) (x y : Fragment) → ◌≡◌ {A = Option (ℕ × Fragment)} (Some (m, x)) (Some (k, y)) → x ≡ y
unfolding what_in
second m k x y h = ap (what_in x) h

kept_get : (a : Address) (place : ℕ) (log : List Entry) (n : ℕ) (f : Fragment) → kept_from a place log ≡ Some (n, f) → (k : ℕ) × (n ≡ place + k) × (slice_get log k ≡ Some (Keep f))
kept_get a place [] n f e = absurd (cc)
kept_get a place (Declare tracks ∷ log) n f e = let r = kept_get a (suc place) log n f e in (suc r.0, (let s = r.1 in omega (arith, s)), r.2)
kept_get a place (Keep g ∷ log) n f e =
    by_bool (is_kept_at a g) (λ t. cond t (Some (place, g)) (kept_from a (suc place) log) ≡ Some (n, f) → (k : ℕ) × (n ≡ place + k) × (slice_get (Keep g ∷ log) k ≡ Some (Keep f)))
    (λ is h. (0, (let s = one_place place n g f h in omega (arith, s)), ap (λ (x : Fragment). Some (Keep x)) (second place n g f h)))
    (λ is h. let r = kept_get a (suc place) log n f h in (suc r.0, (let s = r.1 in omega (arith, s)), r.2)) e

pub kept_there : (up : List Entry) (a : Address) (n : ℕ) (f : Fragment) → kept_at up a ≡ Some (n, f) → slice_get up n ≡ Some (Keep f)
kept_there up a n f e = let r = kept_get a 0 up n f e in subst (λ (k : ℕ). slice_get up k ≡ Some (Keep f)) (let s = r.1 in omega (arith, s)) r.2

placed_there : (place : Place) (url : List ℕ) (a : Address) (up : List Entry) (n : ℕ) (raw : RawFragment) → IsPlacedAt place url a up (placed.Fragment n raw) → NamesItself place url a
    → slice_get up n ≡ Some (Keep (given a.stream a.bitrate raw))
placed_there place url a up n raw at names = kept_there up a n (given a.stream a.bitrate raw) (at names.may a names.names)

-- ---- turns

pub fits_next : (who : Whose) (next n : ℕ) (raw : RawFragment) → FitsPlace who next (kept n raw) → n ≡ next
fits_next (candidate a) next n raw h = h
fits_next (again l) next n raw h = h

-- what a turn leaves of the log
pub after_log : (s : Standing) (who : Whose) (made : List Exchange) (c : Came) → (after s (asked who made c)).log ≡ s.log ++ keeps_of (kept_by (address_for who) c)
after_log s (candidate a) made c = refl
after_log s (again l) made c = refl

came_places : (place : Place) (listing : Listing) (log up : List Entry) (who : Whose) (made : List Exchange) (c : Came) → FitsPlace who (length log) c → IsUpstream place listing up (asked who made c)
    → NamesItself place (url_of listing (address_for who)) (address_for who) → Places log up → Places (log ++ keeps_of (kept_by (address_for who) c)) up
came_places place listing log up who made absent fits u names all = subst (λ (l : List Entry). Places l up) (sym (append-nil log)) all
came_places place listing log up who made (kept n raw) fits u names all =
    places_push log up (given (address_for who).stream (address_for who).bitrate raw) all
    (subst (λ (i : ℕ). slice_get up i ≡ Some (Keep (given (address_for who).stream (address_for who).bitrate raw))) (fits_next who (length log) n raw fits)
    (placed_there place (url_of listing (address_for who)) (address_for who) up n raw u names))
came_places place listing log up who made (later n raw) fits u names all = subst (λ (l : List Entry). Places l up) (sym (append-nil log)) all
came_places place listing log up who made (dropped n raw) fits u names all = subst (λ (l : List Entry). Places l up) (sym (append-nil log)) all

turns_places : (plan : PullPlan) (channel : List Track) (listing : Listing) (s e : Standing) (up : List Entry) (ts : List Turn) → Turns plan channel listing s ts e
    → AllByRecursion (IsUpstream plan.place listing up) ts → AllName plan.place listing ts → Places s.log up → Places e.log up
turns_places plan channel listing s e up [] legal us names all = subst (λ (x : Standing). Places x.log up) legal all
turns_places plan channel listing s e up (passed a ∷ ts) legal us names all = turns_places plan channel listing (after s (passed a)) e up ts legal.1 us.1 names.1 all
turns_places plan channel listing s e up (asked who made c ∷ ts) legal us names all =
    turns_places plan channel listing (after s (asked who made c)) e up ts legal.1 us.1 names.1
    (subst (λ (l : List Entry). Places l up) (sym (after_log s who made c)) (came_places plan.place listing s.log up who made c legal.0.fits us.0 names.0 all))

-- the log behind these turns
pub turns_log : (plan : PullPlan) (channel : List Track) (listing : Listing) (s e : Standing) (ts : List Turn) → Turns plan channel listing s ts e → e.log ≡ s.log ++ keeps_of (kept_in ts)
turns_log plan channel listing s e [] legal = ap (λ (x : Standing). x.log) (sym legal) ∙ sym (append-nil s.log)
turns_log plan channel listing s e (passed a ∷ ts) legal = turns_log plan channel listing (after s (passed a)) e ts legal.1
turns_log plan channel listing s e (asked who made c ∷ ts) legal =
    turns_log plan channel listing (after s (asked who made c)) e ts legal.1
    ∙ (ap (λ (l : List Entry). l ++ keeps_of (kept_in ts)) (after_log s who made c) ∙ log_both s.log (kept_by (address_for who) c) (kept_in ts))

-- ---- rounds

rounds_places : (plan : PullPlan) (channel : List Track) (log log' up : List Entry) (held held' : List Later) (rs : List Round) → AreRounds plan channel log held rs log' held'
    → RoundsUpstream plan.place rs up → RoundsName plan.place rs → Places log up → Places log' up
rounds_places plan channel log log' up held held' [] legal us names all = subst (λ (l : List Entry). Places l up) legal.0 all
rounds_places plan channel log log' up held held' (r ∷ rs) legal us names all =
    rounds_places plan channel legal.0 log' up legal.1 held' rs legal.3 us.1 names.1
    (turns_places plan channel r.listing (at log held (rounds.addresses_of channel r.listing)) (at legal.0 legal.1 []) up r.turns legal.2.turns us.0 names.0 all)

pub rounds_log : (plan : PullPlan) (channel : List Track) (log log' : List Entry) (held held' : List Later) (rs : List Round) → AreRounds plan channel log held rs log' held' → log' ≡ log ++ keeps_of (rounds.kept_by rs)
rounds_log plan channel log log' held held' [] legal = sym legal.0 ∙ sym (append-nil log)
rounds_log plan channel log log' held held' (r ∷ rs) legal =
    rounds_log plan channel legal.0 log' legal.1 held' rs legal.3
    ∙ (ap (λ (l : List Entry). l ++ keeps_of (rounds.kept_by rs)) (turns_log plan channel r.listing (at log held (rounds.addresses_of channel r.listing)) (at legal.0 legal.1 []) r.turns legal.2.turns)
    ∙ log_both log (kept_in r.turns) (rounds.kept_by rs))

-- ---- the end

abbrev pub TriedIs : PullPlan → List Track → List ℕ → Address → Archive → List Entry → List Exchange → List Came → Type 0
TriedIs plan channel url a new log made tried = (tried ≡ []) ⊎ ((why : Stop) × IsTried plan channel url a new log made tried why)

pub tried_is : (plan : PullPlan) (channel : List Track) (url : List ℕ) (a : Address) (new : Archive) (log : List Entry) (made : List Exchange) (tried : List Came) (end : FollowEnd)
    → StopsAt plan channel url a new log made tried end → TriedIs plan channel url a new log made tried
tried_is plan channel url a new log made tried (ends.GaveUp b outcomes) s = inl s.2
tried_is plan channel url a new log made tried (ends.OtherId b id) s = inl s.2
tried_is plan channel url a new log made tried (ends.Refused b cause) s = inr (_, s)
tried_is plan channel url a new log made tried ends.Full s = inr (_, s)
tried_is plan channel url a new log made tried ends.DiskFault s = inr (_, s)
tried_is plan channel url a new log made tried ends.NoMemory (inl s) = inl s.1
tried_is plan channel url a new log made tried ends.NoMemory (inr s) = inr (_, s)
tried_is plan channel url a new log made tried ends.Done s = absurd s
tried_is plan channel url a new log made tried (ends.Gap place next) s = absurd s
tried_is plan channel url a new log made tried (ends.NoManifest outcomes) s = absurd s
tried_is plan channel url a new log made tried (ends.NoTrack index) s = absurd s

pub kept_fits : (who : Whose) (next n : ℕ) (raw : RawFragment) → n ≡ next → FitsPlace who next (kept n raw)
kept_fits (candidate a) next n raw h = h
kept_fits (again l) next n raw h = h

tried_places : (plan : PullPlan) (channel : List Track) (listing : Listing) (log up : List Entry) (who : Whose) (new : Archive) (made : List Exchange) (cs : List Came)
    → TriedIs plan channel (url_of listing (address_for who)) (address_for who) new log made cs
    → AllByRecursion (IsUpstream plan.place listing up) (tried_turn who made cs) → AllName plan.place listing (tried_turn who made cs) → Places log up → Places (log ++ keeps_of (kept_in (tried_turn who made cs))) up
tried_places plan channel listing log up who new made [] is us names all = subst (λ (l : List Entry). Places l up) (sym (append-nil log)) all
tried_places plan channel listing log up who new made (c ∷ cs) (inl none) us names all = absurd (cc)
tried_places plan channel listing log up who new made (c ∷ cs) (inr (why, t)) us names all =
    let same : c ≡ kept t.number t.raw = head-is c (kept t.number t.raw) cs t.tried_is in
    let fits : FitsPlace who (length log) c = subst (FitsPlace who (length log)) (sym same) (kept_fits who (length log) t.number t.raw t.next) in
    subst (λ (fs : List Fragment). Places (log ++ keeps_of fs) up) (sym (append-nil (kept_by (address_for who) c))) (came_places plan.place listing log up who made c fits us.0 names.0 all)
  where
    head-is : (x y : Came) (xs : List Came) → x ∷ xs ≡ y ∷ [] → x ≡ y
    head-is x y xs e = cc

all_left : {A : Type 0} (P : A → Type 0) (xs ys : List A) → AllByRecursion P (xs ++ ys) → AllByRecursion P xs
all_left P [] ys all = tt
all_left P (x ∷ xs) ys all = (all.0, all_left P xs ys all.1)

all_right : {A : Type 0} (P : A → Type 0) (xs ys : List A) → AllByRecursion P (xs ++ ys) → AllByRecursion P ys
all_right P [] ys all = all
all_right P (x ∷ xs) ys all = all_right P xs ys all.1

end_places : (plan : PullPlan) (channel : List Track) (listing : Listing) (to : Standing) (up : List Entry) (new : Archive) (last : List Exchange) (tried : List Turn) (end : FollowEnd)
    → EndsTurns plan channel listing to new last tried end → AllByRecursion (IsUpstream plan.place listing up) tried → AllName plan.place listing tried → Places to.log up → Places (to.log ++ keeps_of (kept_in tried)) up
end_places plan channel listing to up new last tried end (inl (is, none, nothing)) us names all =
    subst (λ (ts : List Turn). Places (to.log ++ keeps_of (kept_in ts)) up) (sym nothing) (subst (λ (l : List Entry). Places l up) (sym (append-nil to.log)) all)
end_places plan channel listing to up new last tried end (inr (who, cs, turn, is, stops)) us names all =
    subst (λ (ts : List Turn). Places (to.log ++ keeps_of (kept_in ts)) up) (sym is)
    (tried_places plan channel listing to.log up who new last cs (tried_is plan channel (url_of listing (address_for who)) (address_for who) new to.log last cs end stops)
    (subst (AllByRecursion (IsUpstream plan.place listing up)) is us) (subst (AllName plan.place listing) is names) all)

pub none_kept : (log up : List Entry) (turns tried : List Turn) → turns ≡ [] → tried ≡ [] → Places log up → Places ((log ++ keeps_of (kept_in turns)) ++ keeps_of (kept_in tried)) up
none_kept log up turns tried e f all =
    subst (λ (ts : List Turn). Places ((log ++ keeps_of (kept_in ts)) ++ keeps_of (kept_in tried)) up) (sym e)
    (subst (λ (ts : List Turn). Places ((log ++ []) ++ keeps_of (kept_in ts)) up) (sym f) (subst (λ (l : List Entry). Places l up) (sym (append-nil (log ++ []) ∙ append-nil log)) all))

stops_places : (plan : PullPlan) (channel : List Track) (log up : List Entry) (held : List Later) (new : Archive) (p : Part) (to : Standing) (end : FollowEnd) → StopsRound plan channel log held new p to end
    → AllByRecursion (IsUpstream plan.place p.listing up) (p.turns ++ p.tried) → PartNames plan.place p → Places log up → Places ((log ++ keeps_of (kept_in p.turns)) ++ keeps_of (kept_in p.tried)) up
stops_places plan channel log up held new p to end (inl (reads, bare)) us names all = none_kept log up p.turns p.tried bare.turns bare.tried all
stops_places plan channel log up held new p to end (inr (gives, inl (lacks, bare))) us names all = none_kept log up p.turns p.tried bare.turns bare.tried all
stops_places plan channel log up held new p to end (inr (gives, inr t)) us names all =
    let from : Standing = at log held (rounds.addresses_of channel p.listing) in
    let there = turns_places plan channel p.listing from to up p.turns t.turns (all_left (IsUpstream plan.place p.listing up) p.turns p.tried us) (all_left (Names plan.place p.listing) p.turns p.tried names) all in
    subst (λ (l : List Entry). Places (l ++ keeps_of (kept_in p.tried)) up) (turns_log plan channel p.listing from to p.turns t.turns)
    (end_places plan channel p.listing to up new p.last p.tried end t.ended (all_right (IsUpstream plan.place p.listing up) p.turns p.tried us) (all_right (Names plan.place p.listing) p.turns p.tried names) there)

part_places : (plan : PullPlan) (channel : List Track) (rs : List Round) (log up : List Entry) (held : List Later) (new : Archive) (p : Part) (to : Standing) (end : FollowEnd) → EndsCall plan channel rs log held new p to end
    → AllByRecursion (IsUpstream plan.place p.listing up) (p.turns ++ p.tried) → PartNames plan.place p → Places log up → Places ((log ++ keeps_of (kept_in p.turns)) ++ keeps_of (kept_in p.tried)) up
part_places plan channel rs log up held new p to ends.Done e us names all = none_kept log up p.turns p.tried (ap (λ (q : Part). q.turns) e.2) (ap (λ (q : Part). q.tried) e.2) all
part_places plan channel rs log up held new p to (ends.Gap place next) e us names all = none_kept log up p.turns p.tried (ap (λ (q : Part). q.turns) e.3) (ap (λ (q : Part). q.tried) e.3) all
part_places plan channel rs log up held new p to (ends.NoManifest outcomes) e us names all = stops_places plan channel log up held new p to (ends.NoManifest outcomes) e.1 us names all
part_places plan channel rs log up held new p to (ends.NoTrack index) e us names all = stops_places plan channel log up held new p to (ends.NoTrack index) e.1 us names all
part_places plan channel rs log up held new p to (ends.GaveUp a outcomes) e us names all = stops_places plan channel log up held new p to (ends.GaveUp a outcomes) e.1 us names all
part_places plan channel rs log up held new p to (ends.OtherId a id) e us names all = stops_places plan channel log up held new p to (ends.OtherId a id) e.1 us names all
part_places plan channel rs log up held new p to (ends.Refused a cause) e us names all = stops_places plan channel log up held new p to (ends.Refused a cause) e.1 us names all
part_places plan channel rs log up held new p to ends.Full e us names all = stops_places plan channel log up held new p to ends.Full e.1 us names all
part_places plan channel rs log up held new p to ends.DiskFault e us names all = stops_places plan channel log up held new p to ends.DiskFault e.1 us names all
part_places plan channel rs log up held new p to ends.NoMemory e us names all = stops_places plan channel log up held new p to ends.NoMemory e.1 us names all

-- all that a call kept, and what it tried to keep last, stands at its places
pub call_places : (plan : PullPlan) (channel : List Track) (before log up : List Entry) (held : List Later) (rs : List Round) (new : Archive) (p : Part) (to : Standing) (end : FollowEnd)
    → AreRounds plan channel before [] rs log held → EndsCall plan channel rs log held new p to end
    → RoundsUpstream plan.place rs up → AllByRecursion (IsUpstream plan.place p.listing up) (p.turns ++ p.tried) → RoundsName plan.place rs → PartNames plan.place p → Places before up
    → Places (before ++ keeps_of ((rounds.kept_by rs ++ kept_in p.turns) ++ kept_in p.tried)) up
call_places plan channel before log up held rs new p to end legal ended us vs names named all =
    subst (λ (l : List Entry). Places l up)
    (ap (λ (l : List Entry). (l ++ keeps_of (kept_in p.turns)) ++ keeps_of (kept_in p.tried)) (rounds_log plan channel before log [] held rs legal)
    ∙ (ap (λ (l : List Entry). l ++ keeps_of (kept_in p.tried)) (log_both before (rounds.kept_by rs) (kept_in p.turns)) ∙ log_both before (rounds.kept_by rs ++ kept_in p.turns) (kept_in p.tried)))
    (part_places plan channel rs log up held new p to end ended vs named (rounds_places plan channel before log up [] held rs legal us names all))

-- and so does each front of it
pub front_places : (before up : List Entry) (fs : List Fragment) (t : ℕ) (c : Image) → Places (before ++ keeps_of fs) up → LeavesFront before fs t c → LeavesPlaces up t c
front_places before up fs t c all (after, store, front) = (
  after,
  store,
  subst (λ (l : List Entry). Places l up) (sym front.after_is)
      (places_front (before ++ keeps_of front.front) (keeps_of front.back) up
      (subst (λ (l : List Entry). Places l up) (ap (λ (gs : List Fragment). before ++ keeps_of gs) front.whole ∙ sym (log_both before front.front front.back)) all)),
)

pub places_grow : (log up more : List Entry) → Places log up → Places log (up ++ more)
places_grow log up more all = λ p f e. get_more up more p (Keep f) (all p f e)

-- at each moment of a call
pub stays_placed : {D C : Type 0} {site : Seen D} {told : C → Option (List Exchange)}
    {store : C → List Entry → Type 0} {goes_on : C → C → Type 0} {faults : C → ℕ} {chosen : C → Option Peer}
    {d e : D} {x y : C} {plan : PullPlan} {channel : List Track} {a b : Archive} (before : List Entry) (end : FollowEnd) → (c : Called site told store goes_on faults chosen d e x y plan channel a b before end)
    → StaysPlaced site store d e x y plan.place before c.rounds c.part
stays_placed {site = site} {d = d} {e = e} {plan = plan} {channel = channel} {b = b} before end c = λ up told.
    let u = c.up up told in (
      u.0,
      u.1,
      λ names named all some.
          weakened site d e _ (LeavesPlaces (up ++ u.0)) (c.adds.moments some)
          (λ t i left. front_places before (up ++ u.0) ((rounds.kept_by c.rounds ++ kept_in c.part.turns) ++ kept_in c.part.tried) t i
          (call_places plan channel before c.log (up ++ u.0) c.held c.rounds b c.part c.to end c.legal c.ended u.2.0 u.2.1 names named (places_grow before up u.0 all)) left),
    )
