-- How a dial stands behind its calls.
use Rattle.std.proofs.Common.{◌≡◌, ◌⊎◌, inl, inr, ⊎_elim, ◌↔◌, ℕ, ◌+◌, ◌≤◌, ◌<◌, ◌^◌, ◌-◌, true, List, [], ◌∷◌, ◌++◌, Option, None, Some, is_some, refl, sym, ◌∙◌, ap, subst, append_assoc, arith}
use Rattle.std.specs.Prelude.{IfSome, IsSome, IsTrue}
use Rattle.std.specs.List.{Contains}
use Rattle.std.proofs.lemmas.List.{append-nil}
use Rattle.std.proofs.lemmas.List.Elements.{Contains-append_left, Contains-append_cases, Contains-push}
use Rattle.sm_model.specs.declared.entry.Entry.{Entry}
use Rattle.sm_model.specs.declared.entry.Entry.TheVariants.{Keep}
use Rattle.sm_model.specs.declared.fragment.Fragment.{Fragment}
use Rattle.sm_site.specs.Image.{Image}
use Rattle.sm_site.specs.Clauses.{Both, NoMore, SameOutcomes, Settled}
use Rattle.sm_site.specs.Meanings.{Item, DiskCall, Seen}
use Rattle.sm_site.specs.Sites.{SameBut}
use Rattle.sm_seglog.specs.Stores.{HasStore}
use Rattle.sm_archive.specs.Store.{IsStore, Spell}
use Rattle.sm_origin.specs.declared.origin.Origin.{Origin}
use Rattle.sm_origin.specs.Machine.{Machine}
use Rattle.sm_origin.specs.Stores.{Fits, IsPartOf}
use Rattle.sm_origin.specs.Opening.{HasOneStore}
use Rattle.sm_serve.specs.declared.state.State.{State}
use Rattle.sm_serve.specs.Run.{Run}
use Rattle.sm_serve.specs.Moments.{machine_at}
use Rattle.sm_serve.specs.Standing.{History, Keeps, StandsOn, is_told, calls_of}
use Rattle.sm_serve.specs.Serving.{Begins, Serves, Since, TurnsBy}
use Rattle.sm_serve.proofs.Adding.{Extends}
use Rattle.sm_serve.proofs.Going.{run_as}
use Rattle.sm_world.specs.Pushed.{ComesOf, IsPushed, IsPushedIn}
use Rattle.sm_world.specs.Worlds.{World, IsClosed, IsOpen, Stands, Grows, Crashes}
use Rattle.sm_world.proofs.Chains.{later_extends}
use Rattle.sm_world.proofs.Sources.{in_none, in_one, pushed_later, pushed_behind}
use Rattle.sm_world.proofs.Entries.{Comes}
use Rattle.sm_world.proofs.Runs.{stood}
use Rattle.sm_world.proofs.Stores.{one_store, store_in, fewer_stores}

-- ---- options

pub some_of : {A : Type 0} (o : Option A) → IsSome o → (x : A) × (o ≡ Some x)
some_of None some = absurd (cc)
some_of (Some x) some = (x, refl)

pub at_some : {A : Type 0} (o : Option A) (P : A → Type 0) (x : A) → o ≡ Some x → IfSome o P → P x
at_some None P x e holds = absurd (cc)
at_some (Some y) P x e holds = let same : y ≡ x = cc in subst P same holds

pub from_some : {A : Type 0} (o : Option A) (P : A → Type 0) (x : A) → o ≡ Some x → P x → IfSome o P
from_some {A} o P x e holds = subst (λ (p : Option A). IfSome p P) (sym e) holds

-- ---- what comes of pushes

comes_crashed : (first : List Entry) (past : List (List Item)) (items : List Item) (log : List Entry) → ComesOf first past items log → ComesOf first (past ++ items ∷ []) [] log
comes_crashed first past items log c = record { more = c.more; log_is = c.log_is; pushed = λ f there. inl (⊎_elim (earlier f) (now f) (c.pushed f there)) }
  where
    earlier : (f : Fragment) → IsPushedIn past f → IsPushedIn (past ++ items ∷ []) f
    earlier f p = (p.0, Contains-append_left past (items ∷ []) p.0 p.1, p.2)

    now : (f : Fragment) → IsPushed items f → IsPushedIn (past ++ items ∷ []) f
    now f p = (items, Contains-push past items, p)

module _ {D : Type 0} (site : Seen D) where
  -- the log and a part of what is in doubt
  comes_open : (w : World) (state : State) (d : D) (o : IsOpen site w state d) → IsSome (site.view d).contents → (part : List Entry) → IsPartOf o.run.point.machine.doubt part
      → ComesOf w.first w.past (o.run.base ++ o.run.items) (w.log ++ part)
  comes_open w state d o told part of_doubt = record {
    more = (o.found.more ++ s.more) ++ part;
    log_is = ap (λ (l : List Entry). l ++ part) (sym o.log_is ∙ s.log_is ∙ ap (λ (l : List Entry). l ++ s.more) o.found.log_is ∙ append_assoc w.first o.found.more s.more)
        ∙ append_assoc w.first (o.found.more ++ s.more) part;
    pushed = λ f there. ⊎_elim (λ a. ⊎_elim (found f) (kept f) (Contains-append_cases o.found.more s.more (Keep f) a)) (doubted f) (Contains-append_cases (o.found.more ++ s.more) part (Keep f) there);
  }
    where
      h : History
      h = o.run

      run : Run true h.first h.begin h.found.disk_faults h.items h.steps h.point
      run = run_as (is_told (site.view d)) true h.first h.begin h.found.disk_faults h.items h.steps h.point (sym told) o.serves.keeps.run

      s : Comes h.items h.first h.point.machine
      s = (stood h.first h.begin h.found.disk_faults h.items h.steps h.point o.settled run).comes

      Source : Fragment → Type 0
      Source f = IsPushedIn w.past f ⊎ IsPushed (h.base ++ h.items) f

      found : (f : Fragment) → Contains o.found.more (Keep f) → Source f
      found f there = ⊎_elim (λ earlier. inl earlier) (λ now. inr (pushed_later h.base h.items f now)) (o.found.pushed f there)

      kept : (f : Fragment) → Contains s.more (Keep f) → Source f
      kept f there = inr (pushed_behind h.base h.items f (s.pushed f there))

      doubted : (f : Fragment) → Contains part (Keep f) → Source f
      doubted f there = ⊎_elim
          (λ none. absurd (in_none (Keep f) (subst (λ (l : List Entry). Contains l (Keep f)) none there)))
          (λ some. (let last : some.0 ≡ Keep f = in_one some.0 (Keep f) (subst (λ (l : List Entry). Contains l (Keep f)) some.2 there) in
          inr (pushed_behind h.base h.items f (s.doubted f (some.1 ∙ ap (λ (e : Entry). Some e) last)))))
          of_doubt

  -- what a dial keeps was pushed
  pub comes_now : (w : World) (state : Option State) (d : D) → IsSome (site.view d).contents → Stands site w state d
      → (items : List Item) × ((site.view d).transcript ≡ Some items) × ComesOf w.first w.past items w.log
  comes_now w None d told c = (c.items, c.told, c.comes)
  comes_now w (Some state) d told o = (
    o.run.base ++ o.run.items,
    o.serves.keeps.told,
    subst (ComesOf w.first w.past (o.run.base ++ o.run.items)) (append-nil w.log) (comes_open w state d o told [] (inl refl)),
  )

  -- ---- a site that is the same but for its script

  module _ (fewer : (m : Machine) (o : Origin) (old new : D) → StandsOn site m o old → (site.view new).contents ≡ (site.view old).contents → NoMore (site.may_leave old) (site.may_leave new) → StandsOn site m o new)
      (w : World) (d e : D) (same : SameBut (site.view d) (site.view e)) (outcomes : SameOutcomes (site.may_leave d) (site.may_leave e)) (past : (t : ℕ) (c : Image) → site.left_at e t c ↔ site.left_at d t c) where
    pub open_stays : (state : State) → IsOpen site w state d → IsOpen site w state e
    open_stays state o = record {
      run = h;
      serves = record {
        keeps = record {
          run = run_as (is_told (site.view d)) (is_told (site.view e)) h.first h.begin h.found.disk_faults h.items h.steps h.point (ap (λ (i : Option Image). is_some i) same.contents) k.run;
          told = same.transcript ∙ k.told;
          clock = λ has. subst (λ (m : ℕ). h.point.ended ≤ m) (sym same.moment) (k.clock (was has));
          current = λ has. k.current (was has);
          now = λ image left. k.now image ((outcomes image).0 left);
          images = λ t image from left. k.images t image from ((past t image).0 left);
          recorded = subst (λ (i : Option (List DiskCall)). Both h.found.calls i (λ before now. now ≡ before ++ calls_of h.steps)) (sym same.calls) k.recorded;
          blamed = λ below. subst (λ (n : ℕ). h.found.send_faults + h.point.failed ≤ n) (sym same.send_faults) (k.blamed (subst (λ (n : ℕ). n < 2 ^ 64 - 1) same.send_faults below));
          counted = k.counted ∙ sym same.disk_faults;
          still_told = ap (λ (i : Option Image). is_some i) same.contents ∙ k.still_told;
        };
        rest = record {
          stands = fewer h.point.machine state.origin d e o.serves.rest.stands same.contents (λ image left. (outcomes image).0 left);
          phase_is = o.serves.rest.phase_is;
          numbers = o.serves.rest.numbers;
          resting = o.serves.rest.resting;
        };
      };
      settled = o.settled;
      found = o.found;
      log_is = o.log_is;
    }
      where
        h : History
        h = o.run

        k : Keeps site h d
        k = o.serves.keeps

        was : IsTrue (is_told (site.view e)) → IsTrue (is_told (site.view d))
        was has = sym (ap (λ (i : Option Image). is_some i) same.contents) ∙ has

    pub stays : (state : Option State) → Stands site w state d → Stands site w state e
    stays None c = record { one = fewer_stores w.log (site.may_leave d) (site.may_leave e) (λ image left. (outcomes image).0 left) c.one; items = c.items; told = same.transcript ∙ c.told; comes = c.comes }
    stays (Some state) o = open_stays state o

  -- ---- opening

  pub closed_stays : (w : World) (d e : D) → (HasOneStore w.log (site.may_leave d) → HasOneStore w.log (site.may_leave e)) → (site.view e).transcript ≡ (site.view d).transcript → IsClosed site w d → IsClosed site w e
  closed_stays w d e one same c = record { one = one c.one; items = c.items; told = same ∙ c.told; comes = c.comes }

  module _ (one_list : (xs ys : List (List ℕ)) (image : Image) → HasStore xs image → HasStore ys image → xs ≡ ys)
      (one_log : (bodies : List (List ℕ)) (a b : List Entry) → Spell bodies a → Spell bodies b → a ≡ b) where
    same_log : (a b : List Entry) (c : Image) → IsStore a c → IsStore b c → a ≡ b
    same_log a b c x y = one_log x.bodies a b x.spell (subst (λ (bodies : List (List ℕ)). Spell bodies b) (sym (one_list x.bodies y.bodies c x.has y.has)) y.spell)

    pub opens : (w : World) (d e : D) (new : State) → IsSome (site.view d).contents → IfSome (site.view d).contents (site.may_leave d)
        → IfSome (site.view d).contents (λ c. (m : Machine) × IsStore m.log c × (m.doubt ≡ None) × StandsOn site m new.origin e) → Begins site new e
        → IsSome (site.view e).contents → (site.view e).transcript ≡ (site.view d).transcript → IsClosed site w d → IsOpen site w new e
    opens w d e new some passes found begins told same closed = record {
      run = h;
      serves = b.6;
      settled = ap (λ (n : Machine). n.doubt) b.1 ∙ m.2;
      found = subst (λ (items : List Item). ComesOf w.first w.past items h.first.log) (sym b.3) (subst (ComesOf w.first w.past closed.items) (sym first_log) closed.comes);
      log_is = ap (λ (n : Machine). n.log) now ∙ first_log;
    }
      where
        c : (x : Image) × ((site.view d).contents ≡ Some x)
        c = some_of (site.view d).contents some

        m : (m : Machine) × IsStore m.log c.0 × (m.doubt ≡ None) × StandsOn site m new.origin e
        m = at_some (site.view d).contents (λ c. (m : Machine) × IsStore m.log c × (m.doubt ≡ None) × StandsOn site m new.origin e) c.0 c.1 found

        b : (h : History) × (h.first ≡ m.0) × (h.begin ≡ (site.view e).moment) × (h.base ≡ closed.items) × (h.items ≡ []) × (h.steps ≡ []) × Serves site h new e × (h.found ≡ site.view e)
        b = begins m.0 closed.items m.3 (same ∙ closed.told)

        h : History
        h = b.0

        first_log : h.first.log ≡ w.log
        first_log = ap (λ (n : Machine). n.log) b.1 ∙ same_log m.0.log w.log c.0 m.1 (store_in w.log c.0 (site.may_leave d) closed.one (at_some (site.view d).contents (site.may_leave d) c.0 c.1 passes))

        now : h.point.machine ≡ h.first
        now = sym (b.6.keeps.current told h.point.ended (omega arith)) ∙ ap (λ (xs : _). machine_at h.first xs h.point.ended) b.5

  -- ---- serving

  pub serves_to : (w : World) (state : State) (d : D) (new : State) (e : D) → IsSome (site.view d).contents → IsSome (site.view e).contents
      → (turns : (h : History) → Serves site h state d → (n : ℕ) × TurnsBy site h n (site.view d).script new e)
      → (o : IsOpen site w state d) → (now : World) × IsOpen site now new e × Grows w now × (now.log ≡ (turns o.run o.serves).1.turns.later.point.machine.log)
  serves_to w state d new e told after turns o = (
    now,
    record {
      run = k;
      serves = t.1.turns.serves;
      settled = ap (λ (m : Machine). m.doubt) since.first ∙ o.settled;
      found = subst (λ (m : Machine). ComesOf w.first w.past k.base m.log) (sym since.first) (subst (λ (items : List Item). ComesOf w.first w.past items h.first.log) (sym since.base) o.found);
      log_is = refl;
    },
    record { first = refl; past = refl; more = grown.0; log = grown.1 ∙ ap (λ (l : List Entry). l ++ grown.0) o.log_is },
    refl,
  )
    where
      h : History
      h = o.run

      t : (n : ℕ) × TurnsBy site h n (site.view d).script new e
      t = turns h o.serves

      k : History
      k = t.1.turns.later

      since : Since h k
      since = t.1.turns.since

      now : World
      now = record { first = w.first; past = w.past; log = k.point.machine.log }

      run : Run true h.first h.begin h.found.disk_faults h.items h.steps h.point
      run = run_as (is_told (site.view d)) true h.first h.begin h.found.disk_faults h.items h.steps h.point (sym told) o.serves.keeps.run

      later : Run true h.first k.begin k.found.disk_faults k.items k.steps k.point
      later = subst (λ (m : Machine). Run true m k.begin k.found.disk_faults k.items k.steps k.point) since.first
          (run_as (is_told (site.view e)) true k.first k.begin k.found.disk_faults k.items k.steps k.point (sym after) t.1.turns.serves.keeps.run)

      grown : Extends h.point.machine k.point.machine
      grown = later_extends h.first h.begin h.found.disk_faults k.begin k.found.disk_faults h.items k.items h.steps since.on.further k.steps h.point k.point run later since.on.steps

  pub serves_on : (w : World) (state : State) (d : D) (new : State) (e : D) → IsSome (site.view d).contents → IsSome (site.view e).contents
      → ((h : History) → Serves site h state d → (n : ℕ) × TurnsBy site h n (site.view d).script new e)
      → IsOpen site w state d → (now : World) × IsOpen site now new e × Grows w now
  serves_on w state d new e told after turns o = let all = serves_to w state d new e told after turns o in (all.0, all.1, all.2)

  -- ---- a crash

  crashed_by : (w : World) (d e : D) (items : List Item) (more : List Entry) (c : Image) → (site.view d).transcript ≡ Some items → ComesOf w.first w.past items (w.log ++ more) → IsStore (w.log ++ more) c
      → Settled c (site.may_leave e) → (site.view e).transcript ≡ Some [] → (now : World) × IsClosed site now e × Crashes (site.view d).transcript w now
  crashed_by w d e items more c was comes store settled empty = (
    record { first = w.first; past = w.past ++ items ∷ []; log = w.log ++ more },
    record { one = one_store (w.log ++ more) c (site.may_leave e) store settled; items = []; told = empty; comes = comes_crashed w.first w.past items (w.log ++ more) comes },
    record { first = refl; past = from_some (site.view d).transcript (λ now. w.past ++ items ∷ [] ≡ w.past ++ now ∷ []) items was refl; more = more; log = refl },
  )

  pub crashes : (w : World) (state : Option State) (d e : D) → IsSome (site.view d).contents → IsSome (site.view e).contents → IfSome (site.view e).contents (site.may_leave d)
      → IfSome (site.view e).contents (λ now. Settled now (site.may_leave e)) → (site.view e).transcript ≡ Some [] → Stands site w state d
      → (now : World) × IsClosed site now e × Crashes (site.view d).transcript w now
  crashes w None d e was told left settled empty closed =
      let c = some_of (site.view e).contents told in
      let store = store_in w.log c.0 (site.may_leave d) closed.one (at_some (site.view e).contents (site.may_leave d) c.0 c.1 left) in
      crashed_by w d e closed.items [] c.0 closed.told (subst (ComesOf w.first w.past closed.items) (sym (append-nil w.log)) closed.comes)
      (subst (λ (l : List Entry). IsStore l c.0) (sym (append-nil w.log)) store) (at_some (site.view e).contents (λ now. Settled now (site.may_leave e)) c.0 c.1 settled) empty
  crashes w (Some state) d e was told left settled empty o =
      let c = some_of (site.view e).contents told in
      let fits : Fits o.run.point.machine c.0 = o.serves.keeps.now c.0 (at_some (site.view e).contents (site.may_leave d) c.0 c.1 left) in
      crashed_by w d e (o.run.base ++ o.run.items) fits.doubt c.0 o.serves.keeps.told (comes_open w state d o was fits.doubt fits.of_doubt)
      (subst (λ (l : List Entry). IsStore (l ++ fits.doubt) c.0) o.log_is fits.store) (at_some (site.view e).contents (λ now. Settled now (site.may_leave e)) c.0 c.1 settled) empty
