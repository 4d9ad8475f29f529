-- What the next event brings to a run.
use Rattle.std.proofs.Common.{◌≡◌, inl, inr, ⊎_elim, ℕ, ◌+◌, ◌-◌, ◌<◌, ◌≤◌, ◌^◌, Bool, true, false, ◌==◌, if◌then◌else◌, List, [], ◌∷◌, ◌++◌, Option, Some, None, is_some, IsSome, IfSome, IsTrue, length, refl, sym, ◌∙◌, ap, subst, arith, append_assoc, length-append}
use Rattle.std.specs.Prelude.{All}
use Rattle.std.specs.List.{AllByRecursion}
use Rattle.std.proofs.lemmas.List.Elements.{recursion_from_All}
use Rattle.std.proofs.lemmas.Bool.{eq-eqb, cases_lt, cases_Bool}
use Rattle.std.proofs.lemmas.Bool.Decides.{eqb_tells}
use Rattle.sm_site.specs.Image.{Image}
use Rattle.sm_site.specs.Meanings.{View, Deal, Item, DiskCall, IsLive, open_after, open_from, Seen}
use Rattle.sm_site.specs.Meanings.Deal.{Began, Came, Left, Over, Sent, Shut}
use Rattle.sm_site.specs.Clauses.{AreOne, Both, NoMore, Adds, LinkAlone}
use Rattle.sm_site.specs.Scripts.{Takes}
use Rattle.sm_model.specs.declared.act.Act.{Act}
use Rattle.sm_model.specs.declared.act.Act.TheVariants.{Header, Fragment as Ask}
use Rattle.sm_model.specs.declared.address.Address.{Address}
use Rattle.sm_model.specs.declared.track.Track.{Track}
use Rattle.sm_archive.specs.declared.answers.Declared.{Declared}
use Rattle.sm_archive.specs.declared.fetch.Fetched.{Fetched}
use Rattle.sm_reply.specs.declared.reply.Reply.{Reply}
use Rattle.sm_origin.specs.Answers.{reply_to_header, reply_to_fetched}
use Rattle.sm_site.specs.Event.{deal_of, IsBelow, IsNext}
use Rattle.sm_site.specs.declared.event.Event.{Event}
use Rattle.sm_site.specs.declared.event.Event.TheVariants.{Opened, Piece, Closed, Ended}
use Rattle.sm_site.proofs.Views.{seen_here, same_here, elapses_here}
use Rattle.sm_origin.specs.Stores.{Fits}
use Rattle.sm_origin.specs.Machine.{Machine, entry_of}
use Rattle.sm_serve.specs.declared.live.Live.{Live}
use Rattle.sm_serve.specs.declared.state.State.{State}
use Rattle.sm_serve.specs.declared.outcome.Served.{Served as Outcome}
use Rattle.sm_serve.specs.Connections.{without, is_among, live_after, live_from, live, events_in, deals_in}
use Rattle.std.proofs.lemmas.List.{append-nil}
use Rattle.sm_origin.specs.declared.origin.Origin.{Origin}
use Rattle.sm_serve.specs.Standing.{StandsOn}
use Rattle.sm_serve.proofs.Lasting.{on_itself, on_stepped, on_then}
use Rattle.sm_serve.proofs.Adding.{step_leaves}
use Rattle.sm_model.specs.declared.entry.Entry.{Entry}
use Rattle.sm_archive.specs.Store.{IsStore}
use Rattle.sm_origin.specs.Shown.{Claim, Holds}
use Rattle.sm_serve.specs.Shown.{Shown}
use Rattle.sm_serve.specs.Surviving.{Survives}
use Rattle.sm_serve.specs.Moments.{FitsAt}
use Rattle.sm_serve.specs.Run.{Stepped, Moves, Run, Point, idle, declared, recalled, at, start, begins}
use Rattle.sm_serve.specs.Standing.{History, is_told, Keeps, Pending, calls_of}
use Rattle.sm_serve.specs.Serving.{numbers_of, AreResting, Serves, Known, Turns, TurnsBy, AreTaken, Served, EndsAs, MayHandle, IsNew, Since, Begins, DeclaresIn, RecallsIn}
use Rattle.sm_site.proofs.Transcripts.{open_push, stays_live}
use Rattle.sm_serve.proofs.Transcripts.{told_adds, events_are}
use Rattle.sm_serve.proofs.Going.{Acted, stepped, run_as, link_move}
use Rattle.sm_serve.proofs.Sending.{calls_here, contents_here, disk_faults_here, told_here}
use Rattle.sm_serve.proofs.Lives.{among_push, among_less, among_itself, rest_all}

-- ---- a connection is live where it is open in the transcript

still_open : (n k : ℕ) (ns : List ℕ) (was : Bool) → (is_among n ns ≡ true → was ≡ true) → is_among n (without k ns) ≡ true → (if k == n then false else was) ≡ true
still_open n k ns was so among = elim (eqb_tells k n) [
  | inl same ↦ absurd (let gone = subst (λ (j : ℕ). is_among n (without j ns) ≡ false) (sym same.1) (among_itself n ns) in cc)
  | inr other ↦ ap (λ (b : Bool). if b then false else was) other.0 ∙ elim (cases_Bool (is_among n ns)) [
    | inl there ↦ so there
    | inr none ↦ absurd (let gone = among_less n k ns none in cc)
  ]
]

open_after_live : (n : ℕ) (ns : List ℕ) (was : Bool) (deal : Deal) → (is_among n ns ≡ true → was ≡ true) → is_among n (live_after ns deal) ≡ true → open_after was n deal ≡ true
open_after_live n ns was (Began k) so among = elim (eqb_tells k n) [
  | inl same ↦ ap (λ (b : Bool). if b then true else was) same.0
  | inr other ↦ ap (λ (b : Bool). if b then true else was) other.0 ∙ elim (cases_Bool (is_among n ns)) [
    | inl there ↦ so there
    | inr none ↦ absurd (let gone = among_push n k (without k ns) (among_less n k ns none) (λ e. other.1 (sym e)) in cc)
  ]
]
open_after_live n ns was (Came k bytes) so among = so among
open_after_live n ns was (Left k) so among = still_open n k ns was so among
open_after_live n ns was Over so among = so among
open_after_live n ns was (Sent k bytes failed) so among = so among
open_after_live n ns was (Shut k) so among = still_open n k ns was so among

open_from_live : (n : ℕ) (ns : List ℕ) (was : Bool) (items : List Item) → (is_among n ns ≡ true → was ≡ true) → is_among n (live_from ns items) ≡ true → open_from was n items ≡ true
open_from_live n ns was [] so among = so among
open_from_live n ns was (item ∷ items) so among = open_from_live n (live_after ns item.deal) (open_after was n item.deal) items (open_after_live n ns was item.deal so) among

open_append : (was : Bool) (n : ℕ) (xs ys : List Item) → open_from was n (xs ++ ys) ≡ open_from (open_from was n xs) n ys
open_append was n [] ys = refl
open_append was n (x ∷ xs) ys = open_append (open_after was n x.deal) n xs ys

pub live_is_open : (n : ℕ) (base items : List Item) → is_among n (live items) ≡ true → IsLive n (base ++ items)
unfolding live
live_is_open n base items among = open_append false n base items ∙ open_from_live n [] (open_from false n base) items (λ e. absurd (cc)) among

-- ---- a number above all before is none of those that are live

below_after : (n : ℕ) (ns : List ℕ) (deal : Deal) → IsBelow n deal → is_among n ns ≡ false → is_among n (live_after ns deal) ≡ false
below_after n ns (Began k) below none = among_push n k (without k ns) (among_less n k ns none) (λ e. omega (arith, e, below))
below_after n ns (Came k bytes) below none = none
below_after n ns (Left k) below none = among_less n k ns none
below_after n ns Over below none = none
below_after n ns (Sent k bytes failed) below none = none
below_after n ns (Shut k) below none = among_less n k ns none

below_from : (n : ℕ) (ns : List ℕ) (items : List Item) → AllByRecursion (λ item. IsBelow n item.deal) items → is_among n ns ≡ false → is_among n (live_from ns items) ≡ false
below_from n ns [] all none = none
below_from n ns (item ∷ items) all none = below_from n (live_after ns item.deal) items all.1 (below_after n ns item.deal all.0 none)

behind_base : (n : ℕ) (base items : List Item) → AllByRecursion (λ item. IsBelow n item.deal) (base ++ items) → AllByRecursion (λ item. IsBelow n item.deal) items
behind_base n [] items all = all
behind_base n (x ∷ base) items all = behind_base n base items all.1

fresh : (n : ℕ) (base items : List Item) → All (λ item. IsBelow n item.deal) (base ++ items) → is_among n (live items) ≡ false
unfolding live
fresh n base items all = below_from n [] items (behind_base n base items (recursion_from_All (λ item. IsBelow n item.deal) (base ++ items) all)) refl

if_told : (o : Option (List Item)) (P : List Item → Type 0) (items : List Item) → o ≡ Some items → IfSome o P → P items
if_told None P items e holds = absurd (cc)
if_told (Some x) P items e holds = let same : x ≡ items = cc in subst P same holds

-- an entry that begins a connection opens it
began_live : (v w : View) (n : ℕ) → Adds (Began n) v w → IfSome w.transcript (IsLive n)
began_live v w n adds = go v.transcript w.transcript adds
  where
    go : (a b : Option (List Item)) → Both a b (λ before now. (m : ℕ) × (v.moment < m) × (m ≤ w.moment) × (now ≡ before ++ (record { moment = m; deal = Began n }) ∷ [])) → IfSome b (IsLive n)
    go None None both = tt
    go None (Some y) both = absurd both
    go (Some x) None both = tt
    go (Some x) (Some y) (m, lt, le, on) =
        subst (λ (l : List Item). IsLive n l) (sym on) (open_push false n x (record { moment = m; deal = Began n }) ∙ ap (λ (b : Bool). if b then true else open_from false n x) (eq-eqb n n refl))

told_by : (o : Option (List Item)) → IsSome o → (items : List Item) × (o ≡ Some items)
told_by None some = absurd (cc)
told_by (Some items) some = (items, refl)

module _ {D : Type 0} (site link : Seen D)
    (one : AreOne site link)
    (told : (s : D) (t : ℕ) (image : Image) → site.left_at s t image → IsSome (site.view s).contents) where
  -- the run goes on from an event
  pub pend : (h : History) (d e : D) (deal : Deal) → Keeps site h d → LinkAlone link d e → Adds deal (link.view d) (link.view e) → (link.view e).send_faults ≡ (link.view d).send_faults
      → (m : ℕ) × Pending site h m deal e
  pend h d e deal keeps call adds faults =
      let here = seen_here site link one (Adds deal) d e adds in
      let t = told_adds (site.view d) (site.view e) (h.base ++ h.items) deal keeps.told here in
      let time = elapses_here site link one d e call.time in
      let same = same_here site link one d e call.crash in
      let sends : (site.view e).send_faults ≡ (site.view d).send_faults = ap (λ (v : View). v.send_faults) (one.view e) ∙ faults ∙ ap (λ (v : View). v.send_faults) (sym (one.view d)) in
      let above : (site.view d).moment < t.0 = t.1 in
      let within : t.0 ≤ (site.view e).moment = t.2 in
      let before : IsTrue (is_told (site.view e)) → h.point.ended ≤ (site.view d).moment =
      λ has. keeps.clock (told_here site link one told d e call has) in (
        t.0,
        λ q move machine ended failed disk_faults.
            link_move site told h d e (at t.0 deal) q keeps move machine (λ has. (let b = before has in omega (arith, ended, b, above))) t.3 time same
            (calls_here site link one told d e call) (contents_here site link one told d e call)
            (λ has. omega (arith, ended, within))
            (λ below. subst (λ (k : ℕ). h.found.send_faults + k ≤ (site.view e).send_faults) (sym failed)
            (subst (λ (k : ℕ). h.found.send_faults + h.point.failed ≤ k) (sym sends) (keeps.blamed (subst (λ (k : ℕ). k < 2 ^ 64 - 1) sends below))))
            disk_faults (disk_faults_here site link one told d e call),
      )

  -- a call that takes no event
  pub still_serves : (fewer : (m : Machine) (o : Origin) (old new : D) → StandsOn site m o old → (site.view new).contents ≡ (site.view old).contents → NoMore (site.may_leave old) (site.may_leave new) → StandsOn site m o new)
      → (h : History) (state : State) (d e : D) → Serves site h state d → LinkAlone link d e
      → (link.view e).transcript ≡ (link.view d).transcript → (link.view e).send_faults ≡ (link.view d).send_faults → Turns site h [] state e
  still_serves fewer h state d e serves call still faults =
      let keeps = serves.keeps in
      let time = elapses_here site link one d e call.time in
      let same = same_here site link one d e call.crash in
      let contents = contents_here site link one told d e call in
      let sends : (site.view e).send_faults ≡ (site.view d).send_faults = ap (λ (v : View). v.send_faults) (one.view e) ∙ faults ∙ ap (λ (v : View). v.send_faults) (sym (one.view d)) in
      let before : IsTrue (is_told (site.view e)) → IsTrue (is_told (site.view d)) = told_here site link one told d e call in
      record {
        later = h;
        serves = record {
          keeps = record {
            run = run_as (is_told (site.view d)) (is_told (site.view e)) h.first h.begin h.found.disk_faults h.items h.steps h.point (ap (λ (o : Option Image). is_some o) contents) keeps.run;
            told = ap (λ (v : View). v.transcript) (one.view e) ∙ still ∙ ap (λ (v : View). v.transcript) (sym (one.view d)) ∙ keeps.told;
            clock = λ has. (let c = keeps.clock (before has) in let l = time.later in omega (arith, c, l));
            current = λ has. keeps.current (before has);
            now = λ image left. keeps.now image ((same image).0 left);
            images = λ t image from left. elim (cases_lt (site.view d).moment t) [
              | inl after ↦
                  let has : IsTrue (is_told (site.view d)) = before (told e t image left) in
                  let was : site.may_leave d image = ⊎_elim (λ o. o) (λ n. (same image).0 n) (time.within t image after left) in
                  inl (subst (λ (m : Machine). Fits m image) (sym (keeps.current has t (let c = keeps.clock has in omega (arith, c, after)))) (keeps.now image was))
              | inr before ↦ keeps.images t image from ((time.keeps t image before).0 left)
            ];
            recorded = subst (λ (o : Option (List DiskCall)). Both h.found.calls o (λ before now. now ≡ before ++ calls_of h.steps))
                (sym (calls_here site link one told d e call)) keeps.recorded;
            blamed = λ below. subst (λ (k : ℕ). h.found.send_faults + h.point.failed ≤ k) (sym sends) (keeps.blamed (subst (λ (k : ℕ). k < 2 ^ 64 - 1) sends below));
            counted = keeps.counted ∙ sym (disk_faults_here site link one told d e call);
            still_told = ap (λ (o : Option Image). is_some o) contents ∙ keeps.still_told;
          };
          rest = record {
            stands = fewer h.point.machine state.origin d e serves.rest.stands contents (λ image left. (same image).0 left);
            phase_is = serves.rest.phase_is;
            numbers = serves.rest.numbers;
            resting = serves.rest.resting;
          };
        };
        since = record { first = refl; begin = refl; base = refl; found = refl; on = on_itself h };
        taken = sym (append-nil (deals_in h.items));
        no_ladder = refl;
      }

  pub may_handle : (event : Event) (state : State) (d e : D) → Known site state d → Adds (deal_of event) (link.view d) (link.view e) → is_some (site.view e).transcript ≡ is_some (site.view d).transcript
      → MayHandle event state.lives.items (site.view e).transcript
  may_handle (Opened n) state d e known adds told = subst (λ (v : View). IfSome v.transcript (IsLive n)) (sym (one.view e)) (began_live (link.view d) (link.view e) n adds)
  may_handle (Piece n piece) state d e known adds told = λ among. go among (site.view d).transcript refl
    where
      go : is_among n (numbers_of state.lives.items) ≡ true → (o : Option (List Item)) → (site.view d).transcript ≡ o → IfSome (site.view e).transcript (IsLive n)
      go among None is = none (site.view e).transcript (told ∙ ap is_some is)
        where
          none : (o : Option (List Item)) → is_some o ≡ false → IfSome o (IsLive n)
          none None e = tt
          none (Some x) e = absurd (cc)
      go among (Some items) is =
          let k = known (ap is_some is) in
          let live_now : IsLive n (k.0.base ++ k.0.items) = live_is_open n k.0.base k.0.items (subst (λ (ns : List ℕ). is_among n ns ≡ true) k.1.rest.numbers among) in
          let was : IfSome (site.view d).transcript (IsLive n) = subst (λ (o : Option (List Item)). IfSome o (IsLive n)) (sym k.1.keeps.told) live_now in
          let there : IfSome (link.view d).transcript (IsLive n) = subst (λ (v : View). IfSome v.transcript (IsLive n)) (one.view d) was in
          subst (λ (v : View). IfSome v.transcript (IsLive n)) (sym (one.view e)) (stays_live (link.view d) (link.view e) n (Came n piece) (λ b t. t) there adds)
  may_handle (Closed n) state d e known adds told = tt
  may_handle Ended state d e known adds told = tt

  pub is_new : (event : Event) (h : History) (d : D) → (site.view d).transcript ≡ Some (h.base ++ h.items) → IfSome (link.view d).transcript (IsNext event) → IsNew event h
  is_new (Opened n) h d told next = fresh n h.base h.items (if_told (link.view d).transcript (IsNext (Opened n)) (h.base ++ h.items) (ap (λ (v : View). v.transcript) (sym (one.view d)) ∙ told) next)
  is_new (Piece n piece) h d told next = tt
  is_new (Closed n) h d told next = tt
  is_new Ended h d told next = tt

-- ---- what was taken of a script

taken_then : (xs ys a b c : List Deal) → AreTaken xs a b → AreTaken ys b c → AreTaken (xs ++ ys) a c
taken_then [] ys a b c one two = subst (λ (ds : List Deal). AreTaken ys ds c) one two
taken_then (x ∷ xs) ys a b c (rest, takes, one) two = (rest, takes, taken_then xs ys rest b c one two)

pub scripts_then : (a b c : Option (List Deal)) (xs ys : List Deal) → Both a b (AreTaken xs) → Both b c (AreTaken ys) → Both a c (AreTaken (xs ++ ys))
scripts_then None None None xs ys one two = tt
scripts_then None None (Some c) xs ys one two = absurd two
scripts_then None (Some b) c xs ys one two = absurd one
scripts_then (Some a) None c xs ys one two = absurd one
scripts_then (Some a) (Some b) None xs ys one two = absurd two
scripts_then (Some a) (Some b) (Some c) xs ys one two = taken_then xs ys a b c one two

pub script_stays : (s : Option (List Deal)) → Both s s (AreTaken [])
script_stays None = tt
script_stays (Some s) = refl

pub script_took : (deal : Deal) (a b c : Option (List Deal)) → Both a b (Takes deal) → c ≡ b → Both a c (AreTaken (deal ∷ []))
script_took deal None None None took same = tt
script_took deal None None (Some c) took same = absurd (cc)
script_took deal None (Some b) c took same = absurd took
script_took deal (Some a) None c took same = absurd took
script_took deal (Some a) (Some b) None took same = absurd (cc)
script_took deal (Some a) (Some b) (Some c) took same = (b, took, cc)

pub same_script : (a b : Option (List Deal)) → b ≡ a → Both a b (AreTaken [])
same_script a b same = subst (λ (o : Option (List Deal)). Both a o (AreTaken [])) (sym same) (script_stays a)

module _ {D : Type 0} (site link : Seen D) (one : AreOne site link) where
  pub script_in : (d : D) → (site.view d).script ≡ (link.view d).script
  script_in d = ap (λ (v : View). v.script) (one.view d)

  unfoldable pub turn_taken : (h : History) (n : ℕ) (deal : Deal) (state : State) (d mid e : D) → 1 ≡ n → Both (link.view d).script (link.view mid).script (Takes deal) → (site.view e).script ≡ (site.view mid).script
      → Turns site h (deal ∷ []) state e → TurnsBy site h n (site.view d).script state e
  turn_taken h n deal state d mid e one took same turns = record {
    deals = deal ∷ [];
    many = one;
    turns = turns;
    script_is = subst (λ (s : Option (List Deal)). Both s (site.view e).script (AreTaken (deal ∷ []))) (sym (script_in d))
        (script_took deal (link.view d).script (link.view mid).script (site.view e).script took (same ∙ script_in mid));
  }

  unfoldable pub turn_not_taken : (h : History) (state : State) (d e : D) → (link.view e).script ≡ (link.view d).script → Turns site h [] state e → TurnsBy site h 0 (site.view d).script state e
  turn_not_taken h state d e same turns = record {
    deals = [];
    many = refl;
    turns = turns;
    script_is = same_script (site.view d).script (site.view e).script (script_in e ∙ same ∙ sym (script_in d));
  }

module _ {D : Type 0} (site : Seen D) where
  unfoldable pub turns_then : (h : History) (i j k : ℕ) (was : Option (List Deal)) (state : State) (d : D) (mid : State) (c : D) → j + i ≡ k → (one : TurnsBy site h i was mid c)
      → TurnsBy site one.turns.later j (site.view c).script state d → TurnsBy site h k was state d
  turns_then h i j k was state d mid c sum one two = record {
    deals = one.deals ++ two.deals;
    many = omega (arith, length-append one.deals two.deals, one.many, two.many, sum);
    turns = record {
      later = two.turns.later;
      serves = two.turns.serves;
      since = record {
        first = two.turns.since.first ∙ one.turns.since.first;
        begin = two.turns.since.begin ∙ one.turns.since.begin;
        base = two.turns.since.base ∙ one.turns.since.base;
        found = two.turns.since.found ∙ one.turns.since.found;
        on = on_then h one.turns.later two.turns.later one.turns.since.on two.turns.since.on;
      };
      taken = two.turns.taken ∙ ap (λ (ds : List Deal). ds ++ two.deals) one.turns.taken ∙ append_assoc (deals_in h.items) one.deals two.deals;
      no_ladder = two.turns.no_ladder ∙ one.turns.no_ladder;
    };
    script_is = scripts_then was (site.view c).script (site.view d).script one.deals two.deals one.script_is two.script_is;
  }

  unfoldable pub turns_here : (h : History) (state : State) (d : D) → Serves site h state d → TurnsBy site h 0 (site.view d).script state d
  turns_here h state d serves = record {
    deals = [];
    many = refl;
    turns = record {
      later = h;
      serves = serves;
      since = record { first = refl; begin = refl; base = refl; found = refl; on = on_itself h };
      taken = sym (append-nil (deals_in h.items));
      no_ladder = refl;
    };
    script_is = script_stays (site.view d).script;
  }

  -- as many events as were counted
  pub counted : (h : History) (n : ℕ) (was : Option (List Deal)) (state : State) (d : D) → (all : TurnsBy site h n was state d) → events_in all.turns.later.items ≡ n + events_in h.items
  counted h n was state d all =
      let now = events_are all.turns.later.items in
      let before = events_are h.items in
      omega (arith, now, before, ap length all.turns.taken, length-append (deals_in h.items) all.deals, all.many)

  module _ (left_told : (s : D) (t : ℕ) (image : Image) → site.left_at s t image → IsSome (site.view s).contents)
      (crashes : (first : Machine) (begin faults : ℕ) (items : List Item) (steps : List Stepped) (point : Point) → Run true first begin faults items steps point → (t : ℕ) (image : Image)
      → FitsAt first steps t image
      → (log : List Entry) × IsStore log image × ((more : List Entry) × (log ≡ first.log ++ more)) × ((claim : Claim) → Shown items t claim → Holds log claim)) where
    survives : (h : History) (d : D) → Keeps site h d → (t : ℕ) (image : Image) → h.begin ≤ t → site.left_at d t image → Survives h.first h.items t image
    survives h d keeps t image from left =
        let run = run_as (is_told (site.view d)) true h.first h.begin h.found.disk_faults h.items h.steps h.point (sym (left_told d t image left)) keeps.run in
        let s = crashes h.first h.begin h.found.disk_faults h.items h.steps h.point run t image (keeps.images t image from left) in
        record { log = s.0; store = s.1; more = s.2.0; extends = s.2.1; holds = s.3 }

    pub has_served : (h : History) (deals : List Deal) (turns : ℕ) (result : Outcome) (state : State) (d : D) → (all : Turns site h deals state d)
        → EndsAs turns result (site.view d).transcript (events_in h.items) (events_in all.later.items) deals → Served site h result turns state d
    has_served h deals turns result state d all ends =
        let k = all.serves.keeps in
        record {
          later = all.later;
          since = all.since;
          deals = deals;
          taken = all.taken;
          no_ladder = all.no_ladder;
          ended = ends;
          run = k.run;
          awaits = all.serves.rest.phase_is;
          told = k.told;
          stands = all.serves.rest.stands;
          recorded = k.recorded;
          blamed = k.blamed;
          counted = k.counted;
          still_told = k.still_told;
          crash = k.images;
          survives = survives all.later d k;
        }

recorded_first : (o : Option (List DiskCall)) → Both o o (λ before now. now ≡ before ++ [])
recorded_first None = tt
recorded_first (Some cs) = sym (append-nil cs)

nothing_live : (ls : List Live) → ls ≡ [] → numbers_of ls ≡ live []
unfolding live
nothing_live ls none = ap numbers_of none

module _ {D : Type 0} (site : Seen D)
    (no_later : (d : D) (t : ℕ) (c : Image) → site.left_at d t c → t ≤ (site.view d).moment) (at_now : (d : D) (c : Image) → site.left_at d (site.view d).moment c → site.may_leave d c)
    (fits : (m : Machine) (o : Origin) (d : D) (image : Image) → StandsOn site m o d → site.may_leave d image → Fits m image) where
  pub begun : (state : State) (d : D) → state.lives.items ≡ [] → Begins site state d
  begun state d none m base stands told =
      let begin = (site.view d).moment in
      let h : History = record { first = m; begin = begin; base = base; found = site.view d; items = []; steps = []; point = start m begin (site.view d).disk_faults } in (
        h,
        refl,
        refl,
        refl,
        refl,
        refl,
        record {
          keeps = record {
            run = begins;
            told = told ∙ ap (λ (l : List Item). Some l) (sym (append-nil base));
            clock = λ has. omega arith;
            current = λ has t le. refl;
            now = λ image left. fits m state.origin d image stands left;
            images = λ t image from left.
                let early = no_later d t image left in
                let now : t ≡ (site.view d).moment = omega (arith, early, from) in
                inl (fits m state.origin d image stands (at_now d image (subst (λ (k : ℕ). site.left_at d k image) now left)));
            recorded = recorded_first (site.view d).calls;
            blamed = λ below. omega arith;
            counted = refl;
            still_told = refl;
          };
          rest = record { stands = stands; phase_is = refl; numbers = nothing_live state.lives.items none; resting = subst (λ (ls : List Live). AreResting h ls) (sym none) tt };
        },
        refl,
      )

-- ---- one step without a connection

module _ {D : Type 0} (site : Seen D) (h : History) (act : Act) (reply : Reply) (old new : State) (d e : D)
    (serves : Serves site h old d) (lives : new.lives ≡ old.lives) (a : Acted site h e None act reply new.origin) where
  abbrev behind_one : Point
  behind_one = record { machine = a.x.after; counts = h.point.counts; phase = idle; ended = a.x.ends; failed = h.point.failed; faults = a.x.faults_after }

  abbrev with_one : History
  with_one = stepped site h a.x behind_one

  module _ (move : Moves (is_told (site.view e)) h.items h.point [] (a.x ∷ []) behind_one) where
    serves_on : Serves site with_one new e
    serves_on = record {
      keeps = a.keeps behind_one move refl refl refl refl;
      rest = record {
        stands = a.stands;
        phase_is = refl;
        numbers = ap (λ (ls : _). numbers_of ls.items) lives ∙ serves.rest.numbers;
        resting = subst (λ (ls : List Live). AreResting with_one ls) (sym (ap (λ (ls : _). ls.items) lives)) (rest_all h with_one (λ l rest. record { rests = rest.rests; counts = rest.counts }) old.lives.items serves.rest.resting);
      };
    }

    since_on : Since h with_one
    since_on = record { first = refl; begin = refl; base = refl; found = refl; on = on_stepped (is_told (site.view e)) h a.x behind_one move }

-- a ladder
pub declares : {D : Type 0} (site : Seen D) (h : History) (channel : List Track) (result : Declared) (old new : State) (d e : D)
    → Serves site h old d → new.lives ≡ old.lives → Acted site h e None (Header channel) (reply_to_header result) new.origin
    → DeclaresIn site h channel result new e
declares site h channel result old new d e serves lives a =
    let q : Point = record { machine = a.x.after; counts = h.point.counts; phase = idle; ended = a.x.ends; failed = h.point.failed; faults = a.x.faults_after } in
    let move : Moves (is_told (site.view e)) h.items h.point [] (a.x ∷ []) q = declared channel a.x serves.rest.phase_is a.conn_is a.is_step refl refl refl in
    record {
      later = stepped site h a.x q;
      serves = serves_on site h (Header channel) (reply_to_header result) old new d e serves lives a move;
      since = since_on site h (Header channel) (reply_to_header result) old new d e serves lives a move;
      same = refl;
      step = a.x;
      steps = refl;
      conn = a.conn_is;
      act = a.is_step.act_is;
      reply = a.reply_is;
    }

-- a read-back
pub recalls : {D : Type 0} (site : Seen D) (h : History) (address : Address) (result : Fetched) (state : State) (d e : D)
    → Serves site h state d → Acted site h e None (Ask address) (reply_to_fetched h.point.machine.log address result) state.origin
    → RecallsIn site h address result state e
recalls site h address result state d e serves a =
    let q : Point = record { machine = a.x.after; counts = h.point.counts; phase = idle; ended = a.x.ends; failed = h.point.failed; faults = a.x.faults_after } in
    let reply = reply_to_fetched h.point.machine.log address result in
    let move : Moves (is_told (site.view e)) h.items h.point [] (a.x ∷ []) q = recalled address a.x serves.rest.phase_is a.conn_is a.is_step refl refl refl in
    record {
      later = stepped site h a.x q;
      serves = serves_on site h (Ask address) reply state state d e serves refl a move;
      since = since_on site h (Ask address) reply state state d e serves refl a move;
      same = refl;
      step = a.x;
      steps = refl;
      conn = a.conn_is;
      act = a.is_step.act_is;
      reply = a.reply_is;
      log = λ has.
          step_leaves _ a.x.before a.x.after a.x.act a.x.reply (ap entry_of a.is_step.act_is) (a.is_step.machine has).step ∙ ap (λ (m : Machine). m.log) a.is_step.before_is;
    }
