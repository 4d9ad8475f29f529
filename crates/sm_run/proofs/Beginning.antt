-- From a store that was opened to a run beside players.
use Rattle.std.proofs.Common.{inl, ◌≡◌, ◌≤◌, ℕ, Bool, List, [], ◌++◌, Option, Some, None, Result, Ok, Err, refl, sym, ap, subst, ◌∙◌, append_assoc, arith}
use Rattle.std.proofs.lemmas.List.{map-append}
use Rattle.std.proofs.lemmas.List.Elements.{All-nil}
use Rattle.std.specs.Prelude.{All, IfSome, IsSome, IfOk, IfErr, OnErr, is_some}
use Rattle.sm_model.specs.declared.entry.Entry.{Entry}
use Rattle.sm_model.specs.declared.track.Track.{Track}
use Rattle.sm_site.specs.Clauses.{Rose}
use Rattle.sm_site.specs.Image.{Image}
use Rattle.sm_site.specs.Meanings.{Chosen, View, Item, Seen, asked}
use Rattle.sm_seglog.specs.Stores.{HasStore}
use Rattle.sm_archive.specs.Store.{IsStore, Spell}
use Rattle.sm_origin.specs.Machine.{Machine}
use Rattle.sm_origin.specs.Opening.{HasOneStore}
use Rattle.sm_serve.specs.declared.state.State.{State}
use Rattle.sm_serve.specs.declared.outcome.Served.{Served as Outcome}
use Rattle.sm_serve.specs.declared.outcome.Served.TheVariants as served
use Rattle.sm_serve.specs.Standing.{History, is_told}
use Rattle.sm_serve.specs.Connections.{deals_in, events_in}
use Rattle.sm_serve.specs.Serving.{Begins, EndsAs, Known, Serves, Served}
use Rattle.sm_command.specs.Lasting.{AtEachMoment, NoFewer}
use Rattle.sm_command.specs.Serving.{Found, GoesUnseen, IsBegun}
use Rattle.sm_command.proofs.Starting.{IsPrepared, early, serves_early, why_stopped}
use Rattle.sm_shelf.specs.Laying.{nothing}
use Rattle.sm_log.specs.Digests.{Digest}
use Rattle.sm_shelf.specs.Past.{Publishing, all_at, last_of, publishing}
use Rattle.sm_shelf.specs.Shelf.{Belongs, Desk, IsOf, bare, shut}
use Rattle.sm_show.specs.Marks.{HasShown, ShownUp, past_after, told_at}
use Rattle.sm_show.specs.Recalling.{Publishes, Recalls, Rests}
use Rattle.sm_show.proofs.Resting.{last_then, since_then}
use Rattle.sm_players.specs.Wiring.{Wires}
use Rattle.sm_run.specs.declared.fault.ShowFault.{ShowFault}
use Rattle.sm_run.specs.declared.fault.ShowFault.TheVariants as fault
use Rattle.sm_run.specs.declared.showing.Ended.{Ended}
use Rattle.sm_run.specs.Showing.{IsSelectedWith, RunsShown, ShownFrom, StopsShort, WhyUnshown}
use Rattle.sm_run.specs.Staff.{Staff}
use Rattle.sm_ends.specs.Ended.{End}

-- a shelf with nothing belongs to each log
pub nothing_belongs : (log : List Entry) → (desk : Desk) → desk.published ≡ nothing → desk.pending ≡ [] → Belongs log desk
nothing_belongs log desk none empty = ((0, omega arith, none), subst (All (IsOf log)) (sym empty) (λ k op below. absurd (omega (arith, below))))

some_told : (a b : Option Image) → is_some a ≡ is_some b → IsSome a → IsSome b
some_told None b e some = absurd (cc)
some_told (Some x) None e some = absurd (cc)
some_told (Some x) (Some y) e some = cc

pub link_before : (a b c : ℕ) → b ≡ a → Rose b c → Rose a c
link_before a b c e rose = subst (λ (n : ℕ). Rose n c) e rose

pub later_rose : (a b c : ℕ) → a ≤ b → Rose b c → Rose a c
later_rose a b c le rose =
    let later = rose.later in
    record { later = omega (arith, le, later); rose = λ last. (let now = rose.rose last in omega (arith, le, now)) }

-- a run that began here began so on a site with fewer faults too
begun_since : (old mid found : View) (first m : Machine) (channel : Option (List Track)) (base was : List Item) (h : History) → NoFewer old mid → found ≡ mid → first ≡ m → was ≡ base
    → IsBegun found.disk_faults first channel was h → IsBegun old.disk_faults m channel base h
begun_since old mid found first m channel base was h few is is_first is_base b = record {
  counted = (let more = b.counted in let same = ap (λ (v : View). v.disk_faults) is in let less = few.disk in omega (arith, more, same, less));
  first = b.first ∙ is_first;
  base_is = b.base_is ∙ is_base;
  items = b.items;
  steps = b.steps;
}

-- from a state that is prepared the loop ran, and this was shown
pub shown_from : {D : Type 0} (site : Seen D) (shelf : Desk) (ladder : Bool) (told told' : Option (List ℕ)) (turns : ℕ) (state : State) (d : D)
    (state' : State) (d' : D) (after : State) (e : D) (end : Outcome) → IsPrepared site ladder told told' state d state' d' → (site.view d').link_faults ≡ (site.view d).link_faults
    → (end ≡ served.LinkFault → Rose (site.view d').link_faults (site.view e).link_faults)
    → ((h : History) → Serves site h state' d' → Served site h end turns after e)
    → ((h : History) → Serves site h state' d' → IsSome (site.view d').contents → (run : Served site h end turns after e) × HasShown h end run.later (bare shelf.table) shelf)
    → ShownFrom site shelf ladder told told' turns state d e end
shown_from site shelf ladder told told' turns state d state' d' after e end p same blamed runs shows = record {
  from = record {
    channel = p.channel;
    input = p.input;
    blamed = λ is. link_before (site.view d).link_faults (site.view d').link_faults (site.view e).link_faults same (blamed is);
    run = λ b serves none no_step. (let h = p.begun b serves none no_step in (h.0, h.1, h.2, (after, runs h.0 h.3)));
  };
  shown = λ some b serves none no_step.
      let h = p.begun b serves none no_step in
      let s = runs h.0 h.3 in
      let here : is_told (site.view e) ≡ is_told (site.view d') = s.still_told ∙ ap (λ (v : View). is_told v) s.since.found ∙ sym h.3.keeps.still_told in
      let x = shows h.0 h.3 (some_told (site.view e).contents (site.view d').contents here some) in
      (h.0, h.1, h.2, (after, x.0, x.1));
}

-- ---- the whole

pub runs_shown : {D : Type 0} (site : Seen D) (pass : (d : D) → IfSome (site.view d).contents (site.may_leave d))
    (at_now : (d : D) (c : Image) → site.left_at d (site.view d).moment c → site.may_leave d c) (now_at : (d : D) (c : Image) → site.may_leave d c → site.left_at d (site.view d).moment c)
    (one_list : (xs ys : List (List ℕ)) (image : Image) → HasStore xs image → HasStore ys image → xs ≡ ys)
    (one_log : (bodies : List (List ℕ)) (a b : List Entry) → Spell bodies a → Spell bodies b → a ≡ b)
    (ladder : Bool) (told told' : Option (List ℕ)) (turns : ℕ) (state : State) (old mid new : D) (r : Result Ended ShowFault) → Found site state old mid
    → Begins site state mid → ((log : List Entry) → HasOneStore log (site.may_leave old) → AtEachMoment site old mid (IsStore log))
    → (site.view mid).transcript ≡ (site.view old).transcript → NoFewer (site.view old) (site.view mid)
    → IfOk r (λ e. ShownFrom site e.shelf ladder told told' turns state mid new e.served) → IfOk r (λ e. RunsShown site e.shelf ladder told told' turns old new e.served)
runs_shown site pass at_now now_at one_list one_log ladder told told' turns state old mid new (Err why) f begin all same le s = tt
runs_shown site pass at_now now_at one_list one_log ladder told told' turns state old mid new (Ok e) f begin all same le s =
    let early_is = λ (some : IsSome (site.view old).contents) (log : List Entry) (one : HasOneStore log (site.may_leave old)) (base : List Item) (is : (site.view old).transcript ≡ Some base).
    serves_early site pass at_now now_at one_list one_log state old mid f same begin some log one (all log one) base is in
    record {
      run = record {
        start = state;
        opened = mid;
        found = f;
        no_fewer = le;
        silent = same;
        channel = s.from.channel;
        input = s.from.input;
        blamed = λ is. later_rose (site.view old).link_faults (site.view mid).link_faults (site.view new).link_faults le.link (s.from.blamed is);
        run = λ base is.
            let b = begin f.machine base f.stands (same ∙ is) in
            let h = s.from.run b.0 b.6 b.4 b.5 in
            (h.0, h.1 ∙ b.2, begun_since (site.view old) (site.view mid) b.0.found b.0.first f.machine s.from.channel base b.0.base h.0 le b.7 b.1 b.3 h.2, h.3);
        whole = λ some log one base is.
            let h = s.from.run (early f.machine (site.view old).moment base (site.view mid)) (early_is some log one base is) refl refl in
            (h.0, h.1, begun_since (site.view old) (site.view mid) (site.view mid) f.machine f.machine s.from.channel base base h.0 le refl refl refl h.2, h.3);
      };
      shown = λ some base is.
          let b = begin f.machine base f.stands (same ∙ is) in
          let h = s.shown some b.0 b.6 b.4 b.5 in
          (h.0, h.1 ∙ b.2, begun_since (site.view old) (site.view mid) b.0.found b.0.first f.machine s.from.channel base b.0.base h.0 le b.7 b.1 b.3 h.2, h.3);
      whole = λ some some_new log one base is.
          let h = s.shown some_new (early f.machine (site.view old).moment base (site.view mid)) (early_is some log one base is) refl refl in
          (h.0, h.1, begun_since (site.view old) (site.view mid) (site.view mid) f.machine f.machine s.from.channel base base h.0 le refl refl refl h.2, h.3);
    }

-- ---- what is read back before the players start

pub on_err : {T E : Type 0} (r : Result T E) (P : Type 0) → P → OnErr r P
on_err (Ok x) P p = tt
on_err (Err e) P p = p

-- ---- a shelf that was taken down

none_waits : (log : List Entry) (desk : Desk) → Belongs log desk → Belongs log (shut desk)
none_waits log desk belongs = (belongs.0, All-nil (IsOf log))

shut_up : (h later : History) (turns behind short : ℕ) (before desk : Desk) → ShownUp h later turns behind short before desk → ShownUp h later turns behind short before (shut desk)
shut_up h later turns behind short before desk s =
    let was = s.shows in
    record {
      last = s.last;
      shows = record {
        begun = was.begun;
        since = was.since;
        same = was.same;
        log = was.log;
        added = was.added;
        first = was.first;
        first_is = was.first_is;
        front = was.front;
        counted = was.counted;
        in_order = was.in_order;
        last_is = was.last_is;
        past = was.past;
        belongs = none_waits s.last.point.machine.log desk was.belongs;
      };
      since = s.since;
      belongs = none_waits later.point.machine.log desk s.belongs;
    }

pub shut_shown : (h : History) (end : Outcome) (later : History) (before desk : Desk) → HasShown h end later before desk → HasShown h end later before (shut desk)
shut_shown h (served.Done taken behind short) later before desk s = shut_up h later taken behind short before desk s
shut_shown h served.LinkFault later before desk (taken, behind, short, s) = (taken, behind, short, shut_up h later taken behind short before desk s)
shut_shown h served.NoMemory later before desk (taken, behind, short, s) = (taken, behind, short, shut_up h later taken behind short before desk s)

module _ {D : Type 0} (site : Seen D) where
  pub known_before : (state : State) (old mid : D) → Recalls site state old mid → Known site state old → Known site state mid
  known_before state old mid r known some =
      let k = known (subst (λ (o : Option (List Item)). IsSome o) r.disk_alone.link.transcript some) in
      let u = r.rests k.0 k.1 in
      (u.later, u.serves)

  -- the loop that ran behind it ran from before
  unfoldable pub served_before : (h : History) (state : State) (mid : D) (end : Outcome) (turns : ℕ) (after : State) (e : D) (u : Rests site h state mid)
      → Served site u.later end turns after e → Served site h end turns after e
  served_before h state mid end turns after e u s = record {
    later = s.later;
    since = since_then h u.later s.later u.since s.since;
    deals = s.deals;
    taken = s.taken ∙ ap (λ (is : List Item). deals_in is ++ s.deals) u.same;
    no_ladder = s.no_ladder ∙ u.no_ladder;
    ended = subst (λ (is : List Item). EndsAs turns end (site.view e).transcript (events_in is) (events_in s.later.items) s.deals) u.same s.ended;
    run = s.run;
    awaits = s.awaits;
    told = s.told;
    stands = s.stands;
    recorded = s.recorded;
    blamed = s.blamed;
    counted = s.counted;
    still_told = s.still_told;
    crash = s.crash;
    survives = s.survives;
  }

  -- reading back tells nothing
  rests_told : (h : History) (state : State) (mid : D) (u : Rests site h state mid) → told_at u.later ≡ told_at h
  rests_told h state mid u = ap (λ (is : List Item). Some (u.later.base ++ is)) u.same ∙ ap (λ (is : List Item). Some (is ++ h.items)) u.since.base

  -- the same of shelves that are equal
  pub shown_on : (h : History) (end : Outcome) (turns : ℕ) (state : State) (d : D) (a a' b b' : Desk) → a ≡ a' → b ≡ b'
      → (run : Served site h end turns state d) × HasShown h end run.later a b → (run : Served site h end turns state d) × HasShown h end run.later a' b'
  shown_on h end turns state d a a' b b' first last s =
      (s.0, subst (λ (x : Desk). HasShown h end s.0.later x b') first (subst (λ (x : Desk). HasShown h end s.0.later a x) last s.1))

  shown_up : (h : History) (state : State) (mid : D) (later : History) (turns behind short : ℕ) (before between desk : Desk) (u : Rests site h state mid) → IsSome (site.view mid).contents
      → Publishes (told_at h) before between → ShownUp u.later later turns behind short between desk → ShownUp h later turns behind short before desk
  shown_up h state mid later turns behind short before between desk u told more s =
      let was = s.shows in
      record {
        last = s.last;
        shows = record {
          begun = was.begun;
          since = since_then h u.later was.begun u.since was.since;
          same = was.same ∙ u.same;
          log = was.log ∙ u.log told;
          added = more.digests ++ was.added;
          first = was.first;
          first_is = was.first_is ∙ ap (λ (d : Digest). last_of d was.added) more.last ∙ sym (last_then before.published more.digests was.added);
          front = was.front;
          counted = was.counted;
          in_order = was.in_order;
          last_is = was.last_is;
          past = was.past ∙ ap (λ (l : List Publishing). past_after l was.counted.marks)
              (ap (λ (t : Option (List Item)). between.past ++ all_at t was.added) (rests_told h state mid u)
              ∙ ap (λ (l : List Publishing). l ++ all_at (told_at h) was.added) more.past
              ∙ append_assoc before.past (all_at (told_at h) more.digests) (all_at (told_at h) was.added)
              ∙ ap (λ (l : List Publishing). before.past ++ l) (sym (map-append (publishing (told_at h)) more.digests was.added)));
          belongs = was.belongs;
        };
        since = s.since;
        belongs = s.belongs;
      }

  -- what was shown from there on was shown from before
  pub shown_before : (h : History) (state : State) (mid : D) (end : Outcome) (later : History) (before between desk : Desk) (u : Rests site h state mid) → IsSome (site.view mid).contents
      → Publishes (told_at h) before between → HasShown u.later end later between desk → HasShown h end later before desk
  shown_before h state mid (served.Done taken behind short) later before between desk u told more s = shown_up h state mid later taken behind short before between desk u told more s
  shown_before h state mid served.LinkFault later before between desk u told more s = (s.0, s.1, s.2, shown_up h state mid later s.0 s.1 s.2 before between desk u told more s.3)
  shown_before h state mid served.NoMemory later before between desk u told more s = (s.0, s.1, s.2, shown_up h state mid later s.0 s.1 s.2 before between desk u told more s.3)

  -- a run that went on unseen up to it goes on unseen behind it
  pub unseen_behind : (h : History) (state : State) (mid new : D) → Recalls site state mid new → GoesUnseen site h state mid → GoesUnseen site h state new
  unseen_behind h state mid new r u =
      let k = r.rests u.later u.serves in
      record { later = k.later; serves = k.serves; since = since_then h u.later k.later u.since k.since; same = k.same ∙ u.same }

more_counts : (a b c : View) → NoFewer a b → NoFewer b c → NoFewer a c
more_counts a b c first second =
    let disk = first.disk in
    let disk_yet = second.disk in
    let link = first.link in
    let link_yet = second.link in
    record { disk = omega (arith, disk, disk_yet); link = omega (arith, link, link_yet) }

-- behind the opening no event was waited for
pub why_short : {D : Type 0} (site : Seen D) (ladder : Bool) (wires : Wires) (input input' : End) (staff staff' : Staff) (state : State) (old mid new : D)
    (r : Result Ended ShowFault) → Found site state old mid → NoFewer (site.view old) (site.view mid) → (site.view mid).transcript ≡ (site.view old).transcript → Begins site state mid
    → IfErr r (λ why. StopsShort site ladder wires input input' staff staff' state mid new why) → OnErr r ((site.view new).transcript ≡ (site.view mid).transcript) → OnErr r (NoFewer (site.view mid) (site.view new))
    → input.faults ≤ input'.faults → IfErr r (λ why. WhyUnshown site ladder wires input input' staff staff' old new why)
why_short site ladder wires input input' staff staff' state old mid new (Ok e) f few silent begin h still counts counted = tt
why_short site ladder wires input input' staff staff' state old mid new (Err (fault.Store why)) f few silent begin h still counts counted =
    (why_stopped site ladder input input' state old mid new (Err why) f few silent begin h.0 still counts counted, h.1)
why_short site ladder wires input input' staff staff' state old mid new (Err (fault.Spawn why)) f few silent begin h still counts counted = (
  record {
    state = state;
    opened = mid;
    found = f;
    begins = begin;
    after = h.0.0;
    prepared = h.0.1;
    means = h.0.2;
    reads = h.0.3;
    silent = still ∙ silent;
    no_fewer = more_counts (site.view old) (site.view mid) (site.view new) few counts;
  },
  h.1,
)

-- what was chosen stays
pub selected_with : (r : Result Ended ShowFault) (chosen : Chosen) (u v w : View) → v.chosen ≡ asked u.chosen (Some chosen) → w.chosen ≡ v.chosen → IsSelectedWith r chosen u w
selected_with (Ok e) chosen u v w is same = same ∙ is
selected_with (Err (fault.Spawn why)) chosen u v w is same = same ∙ is
selected_with (Err (fault.Store why)) chosen u v w is same = inl (same ∙ is)
