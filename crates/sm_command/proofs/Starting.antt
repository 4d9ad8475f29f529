-- How a store comes to be served.
use Rattle.std.proofs.Common.{inl, inr, ◌≡◌, ℕ, Bool, true, false, List, [], ◌∷◌, ◌++◌, Option, Some, None, Result, Ok, Err, ◌≤◌, refl, sym, ap, subst, ◌∙◌, arith}
use Rattle.std.proofs.lemmas.List.{append-nil}
use Rattle.std.specs.Prelude.{IfSome, IsSome, IfOk, IfErr, IsErrAnd, IsErrOf, OnErr}
use Rattle.sm_model.specs.declared.entry.Entry.{Entry}
use Rattle.sm_model.specs.declared.track.Track.{Track}
use Rattle.sm_site.specs.Clauses.{Both, Rose}
use Rattle.sm_site.specs.Image.{Image}
use Rattle.sm_site.specs.Meanings.{View, Item, DiskCall, Seen}
use Rattle.sm_seglog.specs.Stores.{HasStore}
use Rattle.sm_archive.specs.declared.answers.Declared.{Declared}
use Rattle.sm_archive.specs.declared.answers.Declared.TheVariants as declared
use Rattle.sm_archive.specs.declared.archive.Archive.{Archive}
use Rattle.sm_archive.specs.Opening.{NotAStore}
use Rattle.sm_archive.specs.Store.{IsStore, Spell}
use Rattle.sm_origin.specs.Machine.{Machine}
use Rattle.sm_origin.specs.Opening.{HasOneStore}
use Rattle.sm_origin.specs.Shown.{Claim, Holds}
use Rattle.sm_origin.specs.Stores.{Fits}
use Rattle.sm_origin.specs.Answers.{reply_to_header}
use Rattle.sm_reply.specs.declared.reply.Counted.TheVariants.{Neither}
use Rattle.sm_reply.specs.Replies.{silent}
use Rattle.sm_serve.specs.declared.state.State.{State}
use Rattle.sm_serve.specs.declared.outcome.Served.{Served as Outcome}
use Rattle.sm_serve.specs.declared.outcome.Served.TheVariants as served
use Rattle.sm_serve.specs.declared.live.Live.{Live}
use Rattle.sm_serve.specs.Connections.{live}
use Rattle.sm_serve.specs.Moments.{FitsAt}
use Rattle.sm_serve.specs.Run.{Stepped, Point, Run, begins, start}
use Rattle.sm_serve.specs.Shown.{Shown}
use Rattle.sm_serve.specs.Standing.{History, StandsOn}
use Rattle.sm_serve.specs.Serving.{AreResting, Begins, DeclaresIn, Serves, Served, Known, numbers_of}
use Rattle.sm_serve.proofs.Lasting.{on_itself, on_then}
use Rattle.sm_command.specs.declared.fault.StoreFault.{StoreFault}
use Rattle.sm_command.specs.declared.fault.StoreFault.TheVariants as fault
use Rattle.sm_command.specs.Choosing.{WhyUnchosen}
use Rattle.sm_command.specs.Lasting.{AtEachMoment, Lasts, LeavesLog, NoFewer, Untouched}
use Rattle.sm_command.specs.Serving.{Found, DeclaresTo, GoesUnseen, HasRun, IsBegun, PrepareMeans, ReadsLadder, RunLasts, RunsFrom, StopsFrom, WhyUnopened, WhyNoLadder, WhyUnready, LadderMeans, fault_of_input, ladder_limit, outcome_of, standard}
use Rattle.sm_command.proofs.Lasting.{fits_found, log_is, store_since}
use Rattle.sm_ends.specs.declared.input.InputFault.{InputFault}
use Rattle.sm_ends.specs.declared.input.InputFault.TheVariants as input
use Rattle.sm_ends.specs.Ended.{End}
use Rattle.sm_ends.specs.Ended as ended

pub found : {D : Type 0} (site : Seen D) (state : State) (old new : D)
    → ((m : Machine) × (m.doubt ≡ None) × StandsOn site m state.origin new)
    → IfSome (site.view old).contents (λ c. (m : Machine) × IsStore m.log c × (m.doubt ≡ None) × StandsOn site m state.origin new)
    → state.origin.archive.limits ≡ standard → Found site state old new
found {D} site state old new some told limits_are = by_contents (site.view old).contents refl told
  where
    under : (m : Machine) → StandsOn site m state.origin new → m.archive.limits ≡ standard
    under m stands = ap (λ (a : Archive). a.limits) stands.archive ∙ limits_are

    by_contents : (c : Option Image) → (site.view old).contents ≡ c
        → IfSome c (λ c. (m : Machine) × IsStore m.log c × (m.doubt ≡ None) × StandsOn site m state.origin new) → Found site state old new
    by_contents None e h = record {
      machine = some.0;
      settled = some.1;
      store = subst (λ (x : Option Image). IfSome x (IsStore some.0.log)) (sym e) tt;
      stands = some.2;
      limits_are = under some.0 some.2;
    }
    by_contents (Some c) e h = record {
      machine = h.0;
      settled = h.2;
      store = subst (λ (x : Option Image). IfSome x (IsStore h.0.log)) (sym e) h.1;
      stands = h.3;
      limits_are = under h.0 h.3;
    }

later_rose : (a b c : ℕ) → a ≤ b → Rose b c → Rose a c
later_rose a b c le rose =
    let later = rose.later in
    record { later = omega (arith, le, later); rose = λ last. (let now = rose.rose last in omega (arith, le, now)) }

-- a fault that was passed on
pub stated_is : {T : Type 0} (r : Result T StoreFault) (why other : StoreFault) → IsErrAnd r (λ y. y ≡ why) → r ≡ Err other → why ≡ other
stated_is (Ok x) why other same e = absurd same
stated_is (Err y) why other same e = cc

-- the same fault of another call
pub stated_again : {T U : Type 0} (why other : StoreFault) → (let r : Result T StoreFault = Err why in r) ≡ Err other → (let r : Result U StoreFault = Err why in r) ≡ Err other
stated_again {T = T} {U = U} why other e = let same : why ≡ other = cc in ap (λ (w : StoreFault). let r : Result U StoreFault = Err w in r) same

pub unopened_chosen : (a b : View) (why : StoreFault) → WhyUnchosen a b why → WhyUnopened a b why
unopened_chosen a b fault.DiskFault h = h
unopened_chosen a b fault.LinkFault h = h
unopened_chosen a b (fault.NotAStore at) h = absurd h
unopened_chosen a b fault.Unread h = h
unopened_chosen a b fault.LongLadder h = h
unopened_chosen a b (fault.BadLadder at) h = h
unopened_chosen a b (fault.Refused cause) h = h
unopened_chosen a b fault.Full h = h
unopened_chosen a b fault.Damaged h = h
unopened_chosen a b fault.NoMemory h = h

-- a site that was chosen before counted no fewer faults, and has its contents
unopened_later : (a b c : View) (why : StoreFault) → NoFewer a b → b.contents ≡ a.contents → WhyUnopened b c why → WhyUnopened a c why
unopened_later a b c fault.DiskFault few same h = later_rose a.disk_faults b.disk_faults c.disk_faults few.disk h
unopened_later a b c fault.LinkFault few same h = later_rose a.link_faults b.link_faults c.link_faults few.link h
unopened_later a b c (fault.NotAStore at) few same h = subst (λ (o : Option Image). IfSome o (NotAStore at)) same h
unopened_later a b c fault.Unread few same h = h
unopened_later a b c fault.LongLadder few same h = h
unopened_later a b c (fault.BadLadder at) few same h = h
unopened_later a b c (fault.Refused cause) few same h = h
unopened_later a b c fault.Full few same h = h
unopened_later a b c fault.Damaged few same h = h
unopened_later a b c fault.NoMemory few same h =
    let disk = few.disk in
    let disk_yet = h.disk in
    let link = few.link in
    let link_yet = h.link in
    record { disk = omega (arith, disk, disk_yet); link = omega (arith, link, link_yet) }

pub why_later : (a b c : View) (r : Result State StoreFault) → NoFewer a b → b.contents ≡ a.contents → IfErr r (λ why. WhyUnopened b c why) → IfErr r (λ why. WhyUnopened a c why)
why_later a b c (Ok state) few same h = tt
why_later a b c (Err why) few same h = unopened_later a b c why few same h

silent_by : (answer : Declared) → Ok tt ≡ outcome_of answer → reply_to_header answer ≡ silent Neither
silent_by declared.Fixed e = refl
silent_by declared.Agreed e = refl
silent_by (declared.Refused cause) e = absurd cc
silent_by declared.Full e = absurd cc
silent_by declared.DiskFault e = absurd cc
silent_by declared.NoMemory e = absurd cc

-- a state from which the loop may run: wherever a run began, it is where one is that has the ladder's step alone
pub record IsPrepared {D : Type 0} (site : Seen D) (ladder : Bool) (told told' : Option (List ℕ)) (state : State) (d : D)
    (state' : State) (d' : D) : Type 0 where
  pub channel : Option (List Track)
  pub input : ReadsLadder ladder told told' channel
  pub begun : (b : History) → Serves site b state d → b.items ≡ [] → b.steps ≡ []
      → (h : History) × (h.begin ≡ b.begin) × IsBegun b.found.disk_faults b.first channel b.base h × Serves site h state' d'

with_ladder : {D : Type 0} (site : Seen D) (told told' : Option (List ℕ)) (state : State) (d : D) (state' : State) (d' : D)
    → DeclaresTo site told told' state d state' d' (Ok tt) → IsPrepared site true told told' state d state' d'
with_ladder site told told' state d state' d' declares = record {
  channel = Some declares.2.channel;
  input = declares.2.input;
  begun = λ b serves none no_step.
      let k = declares.2.runs b serves in (
        k.later,
        k.since.begin,
        record {
          counted = (let same = ap (λ (v : View). v.disk_faults) k.since.found in omega (arith, same));
          first = k.since.first;
          base_is = k.since.base;
          items = k.same ∙ none;
          steps = (k.step, k.steps ∙ ap (λ (xs : List Stepped). xs ++ k.step ∷ []) no_step, k.conn, k.act, k.reply ∙ silent_by declares.0 declares.1);
        },
        k.serves,
      );
}

without : {D : Type 0} (site : Seen D) (told : Option (List ℕ)) (state : State) (d : D)
    → IsPrepared site false told told state d state d
without site told state d = record {
  channel = None;
  input = refl;
  begun = λ b serves none no_step. (b, refl, record { counted = omega arith; first = refl; base_is = refl; items = none; steps = no_step }, serves);
}

pub prepared : {D : Type 0} (site : Seen D) (ladder : Bool) (input input' : End) (state : State) (d : D) (state' : State)
    (d' : D) → PrepareMeans site ladder input input' state d state' d' (Ok tt) → IsPrepared site ladder input.told input'.told state d state' d'
prepared site true input input' state d state' d' (inl declares) = with_ladder site input.told input'.told state d state' d' declares
prepared site true input input' state d state' d' (inr none) = absurd none.why
prepared {D} site false input input' state d state' d' same =
    subst (λ (x : D). IsPrepared site false input.told input'.told state d state' x) (sym same.site_is) (
    subst (λ (s : State). IsPrepared site false input.told input'.told state d s d) (sym same.state_is) (
    subst (λ (i : End). IsPrepared site false input.told i.told state d state d) (sym same.input_is) (without site input.told state d)
    )
    )

pub stops : {D : Type 0} (site : Seen D) (ladder : Bool) (input input' : End) (state : State) (d : D) (state' : State)
    (d' : D) (why : StoreFault) → PrepareMeans site ladder input input' state d state' d' (Err why) → StopsFrom site ladder input input' state d d' why
stops site true input input' state d state' d' why means = (refl, (state', means))
stops site false input input' state d state' d' why same = let bad = same.done in absurd cc

-- ---- serving

same_rose : (a b c : ℕ) → b ≡ a → Rose b c → Rose a c
same_rose a b c e rose = subst (λ (n : ℕ). Rose n c) e rose

base_of : (told : Option (List Item)) → IsSome told → (base : List Item) × (told ≡ Some base)
base_of None h = absurd cc
base_of (Some base) h = (base, refl)

pub known : {D : Type 0} (site : Seen D) (ladder : Bool) (told told' : Option (List ℕ)) (state : State) (d : D) (state' : State)
    (d' : D) → Begins site state d → IsPrepared site ladder told told' state d state' d' → ((m : Machine) × StandsOn site m state.origin d)
    → (site.view d').transcript ≡ (site.view d).transcript → Known site state' d'
known site ladder told told' state d state' d' begin p stands same some =
    let base = base_of (site.view d').transcript some in
    let b = begin stands.0 base.0 stands.1 (sym same ∙ base.1) in
    let h = p.begun b.0 b.6 b.4 b.5 in
    (h.0, h.3)

pub runs_from : {D : Type 0} (site : Seen D) (ladder : Bool) (told told' : Option (List ℕ)) (turns : ℕ) (state : State) (d : D)
    (state' : State) (d' : D) (after : State) (e : D) (end : Outcome) → IsPrepared site ladder told told' state d state' d' → (site.view d').link_faults ≡ (site.view d).link_faults
    → (end ≡ served.LinkFault → Rose (site.view d').link_faults (site.view e).link_faults)
    → ((h : History) → Serves site h state' d' → Served site h end turns after e)
    → RunsFrom site ladder told told' turns state d e end
runs_from site ladder told told' turns state d state' d' after e end p same blamed runs = record {
  channel = p.channel;
  input = p.input;
  blamed = λ is. same_rose (site.view d).link_faults (site.view d').link_faults (site.view e).link_faults same (blamed is);
  run = λ b serves none no_step. (let h = p.begun b serves none no_step in (h.0, h.1, h.2, (after, runs h.0 h.3)));
}

-- neither a ladder that isn't read nor one that is refused says that the files are no store
no_place : (answer : Declared) (at : ℕ) → (let r : Result (Unit {0}) StoreFault = Err (fault.NotAStore at) in r) ≡ outcome_of answer → ⊥
no_place declared.Fixed at e = cc
no_place declared.Agreed at e = cc
no_place (declared.Refused cause) at e = cc
no_place declared.Full at e = cc
no_place declared.DiskFault at e = cc
no_place declared.NoMemory at e = cc

pub ladder_is_placed : {D : Type 0} (site : Seen D) (ladder : Bool) (input input' : End) (state : State) (d d' : D)
    (r : Result Outcome StoreFault) → IfErr r (λ why. StopsFrom site ladder input input' state d d' why) → (at : ℕ) → IsErrOf r (fault.NotAStore at) → ⊥
ladder_is_placed site ladder input input' state d d' r h at is =
    by_cause (subst (λ (x : Result Outcome StoreFault). IfErr x (λ why. StopsFrom site ladder input input' state d d' why)) is h)
  where
    by_means : (after : State) → LadderMeans site input input' state d after d' (Err (fault.NotAStore at)) → ⊥
    by_means after (inl declares) = no_place declares.0 at declares.1
    by_means after (inr none) = none.why

    by_cause : StopsFrom site ladder input input' state d d' (fault.NotAStore at) → ⊥
    by_cause (asked, stop) = by_means stop.0 stop.1

-- ---- a run that went on

pub unseen_itself : {D : Type 0} (site : Seen D) (h : History) (state : State) (d : D) → Serves site h state d
    → GoesUnseen site h state d
unseen_itself site h state d serves = record { later = h; serves = serves; since = record { first = refl; begin = refl; base = refl; found = refl; on = on_itself h }; same = refl }

pub unseen_declared : {D : Type 0} (site : Seen D) (h : History) (channel : List Track) (answer : Declared) (state : State) (d : D)
    → DeclaresIn site h channel answer state d → GoesUnseen site h state d
unseen_declared site h channel answer state d k = record { later = k.later; serves = k.serves; since = k.since; same = k.same }

pub served_lasts : {D : Type 0} (site : Seen D) (h : History) (state : State) (d : D) (end : Outcome) (turns : ℕ) (after : State) (e : D)
    → (u : GoesUnseen site h state d) → Served site u.later end turns after e → RunLasts site h e
served_lasts site h state d end turns after e u s = record {
  later = s.later;
  since = record { first = s.since.first ∙ u.since.first; begin = s.since.begin ∙ u.since.begin; base = s.since.base ∙ u.since.base; found = s.since.found ∙ u.since.found; on = on_then h u.later s.later u.since.on s.since.on };
  told = s.told;
  survives = s.survives;
}

-- where no event was waited for, what a crash leaves is what the run up to then leaves
pub stopped_lasts : {D : Type 0} (site : Seen D) → ((s : D) (t : ℕ) (image : Image) → site.left_at s t image → IsSome (site.view s).contents)
    → ((first : Machine) (begin faults : ℕ) (items : List Item) (steps : List Stepped) (point : Point) → Run true first begin faults items steps point → (t : ℕ) (image : Image) → FitsAt first steps t image
    → (log : List Entry) × IsStore log image × ((more : List Entry) × (log ≡ first.log ++ more)) × ((claim : Claim) → Shown items t claim → Holds log claim))
    → (h : History) (state : State) (d : D) → GoesUnseen site h state d → RunLasts site h d
stopped_lasts site left_told crashes h state d u =
    let k = u.later in
    let keeps = u.serves.keeps in
    record {
      later = k;
      since = u.since;
      told = keeps.told;
      survives = λ t image from left.
          let run = subst (λ (b : Bool). Run b k.first k.begin k.found.disk_faults k.items k.steps k.point) (left_told d t image left) keeps.run in
          let s = crashes k.first k.begin k.found.disk_faults k.items k.steps k.point run t image (keeps.images t image from left) in
          record { log = s.0; store = s.1; more = s.2.0; extends = s.2.1; holds = s.3 };
    }

-- ---- the whole

recorded_first : (o : Option (List DiskCall)) → Both o o (λ before now. now ≡ before ++ [])
recorded_first None = tt
recorded_first (Some cs) = sym (append-nil cs)

none_live : live [] ≡ []
unfolding live
none_live = refl

no_lives : (ls : List Live) → numbers_of ls ≡ [] → ls ≡ []
no_lives [] e = refl
no_lives (l ∷ ls) e = absurd (cc)

-- a run that begins when the call did, on a site that was found so
abbrev pub early : Machine → ℕ → List Item → View → History
early m begin base found = record { first = m; begin = begin; base = base; found = found; items = []; steps = []; point = start m begin found.disk_faults }

module _ {D : Type 0} (site : Seen D) (pass : (d : D) → IfSome (site.view d).contents (site.may_leave d))
    (at_now : (d : D) (c : Image) → site.left_at d (site.view d).moment c → site.may_leave d c) (now_at : (d : D) (c : Image) → site.may_leave d c → site.left_at d (site.view d).moment c)
    (one_list : (xs ys : List (List ℕ)) (image : Image) → HasStore xs image → HasStore ys image → xs ≡ ys)
    (one_log : (bodies : List (List ℕ)) (a b : List Entry) → Spell bodies a → Spell bodies b → a ≡ b) where
  pub found_is : (state : State) (old mid : D) (f : Found site state old mid) → IsSome (site.view old).contents → (log : List Entry) → HasOneStore log (site.may_leave old) → f.machine.log ≡ log
  found_is state old mid f some log one = log_is one_list one_log (site.view old).contents (site.may_leave old) f.machine.log log some (pass old) f.store one

  pub serves_early : (state : State) (old mid : D) (f : Found site state old mid) → (site.view mid).transcript ≡ (site.view old).transcript → Begins site state mid
      → IsSome (site.view old).contents → (log : List Entry) → HasOneStore log (site.may_leave old) → AtEachMoment site old mid (IsStore log) → (base : List Item) → (site.view old).transcript ≡ Some base
      → Serves site (early f.machine (site.view old).moment base (site.view mid)) state mid
  serves_early state old mid f same begin some log one all base told =
      let m = f.machine in
      let b = begin m base f.stands (same ∙ told) in
      let fits : (t : ℕ) (image : Image) → (site.view old).moment ≤ t → site.left_at mid t image → Fits m image =
      λ t image from left. fits_found m log image (found_is state old mid f some log one) (store_since site at_now log old mid one all t image from left) in
      let numbers : numbers_of state.lives.items ≡ live [] = b.6.rest.numbers ∙ ap (λ (is : List Item). live is) b.4 in
      record {
        keeps = record {
          run = begins;
          told = same ∙ told ∙ ap (λ (is : List Item). Some is) (sym (append-nil base));
          clock = λ has. all.later;
          current = λ has t le. refl;
          now = λ image left. fits (site.view mid).moment image all.later (now_at mid image left);
          images = λ t image from left. inl (fits t image from left);
          recorded = recorded_first (site.view mid).calls;
          blamed = λ below. omega arith;
          counted = refl;
          still_told = refl;
        };
        rest = record {
          stands = f.stands;
          phase_is = refl;
          numbers = numbers;
          resting = subst (λ (ls : List Live). AreResting (early m (site.view old).moment base (site.view mid)) ls) (sym (no_lives state.lives.items (numbers ∙ none_live))) tt;
        };
      }

  -- a call that opened the store and ran from it
  pub opened_lasts : (state : State) (old mid new : D) (f : Found site state old mid) → (site.view mid).transcript ≡ (site.view old).transcript → Begins site state mid
      → ((log : List Entry) → HasOneStore log (site.may_leave old) → AtEachMoment site old mid (IsStore log)) → ((h : History) → Serves site h state mid → RunLasts site h new)
      → Lasts site old new
  opened_lasts state old mid new f same begin all lasts some log one base told =
      let l = lasts (early f.machine (site.view old).moment base (site.view mid)) (serves_early state old mid f same begin some log one (all log one) base told) in
      let is : l.later.first.log ≡ log = ap (λ (m : Machine). m.log) l.since.first ∙ found_is state old mid f some log one in
      record {
        items = l.later.items;
        told = l.told ∙ ap (λ (b : List Item). Some (b ++ l.later.items)) l.since.base;
        survives = λ t image from left.
            let s = l.survives t image (subst (λ (k : ℕ). k ≤ t) (sym l.since.begin) from) left in
            record { now = s.log; store = s.store; more = s.more; extends = s.extends ∙ ap (λ (xs : List Entry). xs ++ s.more) is; holds = s.holds };
      }

  pub has_run : (ladder : Bool) (told told' : Option (List ℕ)) (turns : ℕ) (state : State) (old mid new : D) (r : Result Outcome StoreFault) → Found site state old mid
      → Begins site state mid → ((log : List Entry) → HasOneStore log (site.may_leave old) → AtEachMoment site old mid (IsStore log))
      → (site.view mid).transcript ≡ (site.view old).transcript → NoFewer (site.view old) (site.view mid)
      → IfOk r (λ end. RunsFrom site ladder told told' turns state mid new end) → IfOk r (λ end. HasRun site ladder told told' turns old new end)
  has_run ladder told told' turns state old mid new (Err why) f begin all same le runs = tt
  has_run ladder told told' turns state old mid new (Ok end) f begin all same le runs = record {
    start = state;
    opened = mid;
    found = f;
    no_fewer = le;
    silent = same;
    channel = runs.channel;
    input = runs.input;
    blamed = λ is. later_rose (site.view old).link_faults (site.view mid).link_faults (site.view new).link_faults le.link (runs.blamed is);
    run = λ base e.
        let b = begin f.machine base f.stands (same ∙ e) in
        let h = runs.run b.0 b.6 b.4 b.5 in (
          h.0,
          h.1 ∙ b.2,
          record {
            counted = (let more = h.2.counted in let same = ap (λ (v : View). v.disk_faults) b.7 in let few = le.disk in omega (arith, more, same, few));
            first = h.2.first ∙ b.1;
            base_is = h.2.base_is ∙ b.3;
            items = h.2.items;
            steps = h.2.steps;
          },
          h.3,
        );
    whole = λ some log one base e.
        let h = runs.run (early f.machine (site.view old).moment base (site.view mid)) (serves_early state old mid f same begin some log one (all log one) base e) refl refl in
        let more = h.2.counted in
        let few = le.disk in
        (h.0, h.1, record { counted = omega (arith, more, few); first = h.2.first; base_is = h.2.base_is; items = h.2.items; steps = h.2.steps }, h.3);
  }

more_counts : (a b c : View) → NoFewer a b → NoFewer b c → NoFewer a c
more_counts a b c first second =
    let disk = first.disk in
    let disk_yet = second.disk in
    let link = first.link in
    let link_yet = second.link in
    record { disk = omega (arith, disk, disk_yet); link = omega (arith, link, link_yet) }

-- behind the opening nothing was served
pub why_stopped : {D : Type 0} (site : Seen D) (ladder : Bool) (input input' : End) (state : State) (old mid new : D)
    (r : Result Outcome StoreFault) → Found site state old mid → NoFewer (site.view old) (site.view mid) → (site.view mid).transcript ≡ (site.view old).transcript → Begins site state mid
    → IfErr r (λ why. StopsFrom site ladder input input' state mid new why) → OnErr r ((site.view new).transcript ≡ (site.view mid).transcript) → OnErr r (NoFewer (site.view mid) (site.view new))
    → input.faults ≤ input'.faults → IfErr r (λ why. WhyUnready site ladder input input' old new why)
why_stopped site ladder input input' state old mid new (Ok end) f few silent begin h still counts counted = tt
why_stopped site ladder input input' state old mid new (Err why) f few silent begin h still counts counted = record {
  cause = inr (h.0, record { state = state; opened = mid; found = f; no_fewer = few; silent = silent; begins = begin; after = h.1.0; means = h.1.1 });
  silent = still ∙ silent;
  no_fewer = more_counts (site.view old) (site.view mid) (site.view new) few counts;
  counted = counted;
  untouched = λ at is. absurd (ladder_is_placed site ladder input input' state mid new (Err why) h at (ap (λ (x : StoreFault). let r : Result Outcome StoreFault = Err x in r) is));
}

-- no store was opened
pub why_unopened : {D : Type 0} (site : Seen D) (ladder : Bool) (input : End) (old new : D) (why : StoreFault)
    → WhyUnopened (site.view old) (site.view new) why → (site.view new).transcript ≡ (site.view old).transcript → NoFewer (site.view old) (site.view new)
    → ((at : ℕ) → (let r : Result State StoreFault = Err why in r) ≡ Err (fault.NotAStore at) → Untouched site old new)
    → LeavesLog site old new → WhyUnready site ladder input input old new why
why_unopened site ladder input old new why cause silent few untouched leaves = record {
  cause = inl (cause, refl, leaves);
  silent = silent;
  no_fewer = few;
  counted = omega arith;
  untouched = λ at is. untouched at (ap (λ (x : StoreFault). let r : Result State StoreFault = Err x in r) is);
}

-- why an input was not read is why no ladder was
pub no_ladder : (old new : End) (why : InputFault) → ended.WhyUnread ladder_limit old new why → WhyNoLadder old new (fault_of_input why)
no_ladder old new input.Failed unread = unread
no_ladder old new input.TooLong unread = unread
no_ladder old new input.NoMemory unread = unread
