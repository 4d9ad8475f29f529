-- What the calls below a dial come to.
use Rattle.std.proofs.Common.{◌≡◌, inl, inr, ⊎_elim, ℕ, ◌+◌, ◌-◌, ◌^◌, ◌≤◌, Bool, true, false, if◌then◌else◌, List, [], ◌∷◌, ◌++◌, Option, None, Some, refl, sym, ap, subst, arith}
use Rattle.std.specs.Prelude.{IfSome, IsSome}
use Rattle.std.proofs.lemmas.List.{append-nil}
use Rattle.sm_model.specs.declared.entry.Entry.{Entry}
use Rattle.sm_model.specs.declared.entry.Entry.TheVariants.{Keep}
use Rattle.sm_site.specs.declared.event.Event.{Event}
use Rattle.sm_site.specs.Image.{Image}
use Rattle.sm_site.specs.Clauses.{Both, Rose, Settled}
use Rattle.sm_site.specs.Meanings.{View, Deal, Item, SameLink, Seen, sent_on}
use Rattle.sm_site.specs.Meanings.Deal.{Over}
use Rattle.sm_site.specs.Scripts.{deals_of}
use Rattle.sm_site.specs.Sites.{SameBut}
use Rattle.sm_seglog.specs.Stores.{HasStore, NotAStore as NoLog}
use Rattle.sm_archive.specs.Opening.{NotAStore}
use Rattle.sm_archive.specs.Store.{IsStore, Spell}
use Rattle.sm_serve.specs.declared.state.State.{State}
use Rattle.sm_serve.specs.declared.outcome.Served.TheVariants as served
use Rattle.sm_serve.specs.Connections.{events_in, is_event}
use Rattle.sm_serve.specs.Run.{at}
use Rattle.sm_serve.specs.Serving.{AreTaken, Served}
use Rattle.sm_serve.specs.Standing.{History}
use Rattle.sm_world.specs.declared.acted.Acted.{Acted}
use Rattle.sm_world.specs.declared.acted.Acted.TheVariants as acted
use Rattle.sm_world.specs.Answering.{HasCause, HasSent, IsServed}
use Rattle.sm_world.specs.Bringing.{Brings}
use Rattle.sm_world.specs.Went.{GoesOutBy}
use Rattle.sm_world.specs.Worlds.{World, IsClosed, Grows}
use Rattle.sm_world.proofs.Sources.{in_none}
use Rattle.sm_world.proofs.Stores.{one_store, store_in}
use Rattle.sm_world.proofs.NoFault.{stores_open}
use Rattle.sm_world.proofs.Standing.{some_of, at_some, from_some}

pub if_some : {A : Type 0} (o : Option A) (P Q : A → Type 0) → ((x : A) → P x → Q x) → IfSome o P → IfSome o Q
if_some None P Q so holds = tt
if_some (Some x) P Q so holds = so x holds

pub if_both : {A : Type 0} (o : Option A) (P Q R : A → Type 0) → ((x : A) → P x → Q x → R x) → IfSome o P → IfSome o Q → IfSome o R
if_both None P Q R so one two = tt
if_both (Some x) P Q R so one two = so x one two

pub grows_not : (w : World) → Grows w w
grows_not w = record { first = refl; past = refl; more = []; log = sym (append-nil w.log) }

pub same_view : (old new : View) → new ≡ old → SameBut old new
same_view old new is = subst (λ (v : View). SameBut old v) (sym is) (record {
  moment = refl;
  contents = refl;
  calls = refl;
  reads = refl;
  disk_faults = refl;
  transcript = refl;
  link_faults = refl;
  send_faults = refl;
  chosen = refl;
})

pub rose_from : (a b n : ℕ) → b ≡ a → Rose b n → Rose a n
rose_from a b n is rose = subst (λ (m : ℕ). Rose m n) is rose

-- ---- all was served

one_more_event : (b : Bool) (all m n : ℕ) → all ≡ m + n → (if b then 1 + all else all) ≡ (if b then 1 + m else m) + n
one_more_event true all m n is = omega (arith, is)
one_more_event false all m n is = is

pub events_both : (xs ys : List Item) → events_in (xs ++ ys) ≡ events_in xs + events_in ys
unfolding events_in
events_both [] ys = omega arith
events_both (x ∷ xs) ys = one_more_event (is_event x.deal) (events_in (xs ++ ys)) (events_in xs) (events_in ys) (events_both xs ys)

module _ {D : Type 0} (site : Seen D) where
  pub served_all : (h : History) (taken late short turns : ℕ) (state : State) (d : D) → 2 ^ 64 - 1 ≤ turns → Served site h (served.Done taken late short) turns state d
      → IfSome (site.view d).transcript IsServed
  served_all h taken late short turns state d many s = ⊎_elim
      (λ all. from_some (site.view d).transcript IsServed (k.base ++ k.items) s.told
      (inr (let sum = events_both k.base k.items in let count = all.1 in let is = all.0 in omega (arith, sum, count, is, many))))
      (λ over. if_some (site.view d).transcript (λ items. (before : List Item) × (m : ℕ) × (items ≡ before ++ at m Over)) IsServed (λ items is. inl is) over.2)
      s.ended
    where
      k : History
      k = s.later

  pub handed : (state : Option State) (s : State) (d between e : D) (request : List ℕ) (conn : ℕ) (came : Acted) → HasSent conn (site.view e).transcript came → 2 ^ 63 ≤ conn
      → ((bytes : List ℕ) → IfSome (site.view e).transcript (λ items. bytes ≡ sent_on conn items) → (deals : List Deal) × Both (site.view between).script (site.view e).script (AreTaken deals)
      × Both (site.view d).transcript (site.view e).transcript (GoesOutBy conn request bytes deals))
      → ((events : List Event) × Brings conn request events × Both (site.view d).script (site.view between).script (λ was now. now ≡ was ++ deals_of events))
      → IfSome (site.view e).transcript IsServed → HasCause site.view state d (Some s) e request came
  handed state s d between e request conn acted.Unopened sent high out brings all = absurd sent
  handed state s d between e request conn acted.Broken sent high out brings all = absurd sent
  handed state s d between e request conn acted.NoMemory sent high out brings all = tt
  handed state s d between e request conn (acted.Sent bytes) sent high out brings all = (
    refl,
    record {
      conn = conn;
      high = high;
      events = brings.0;
      brings = brings.1;
      between = between;
      added = brings.2;
      deals = (out bytes sent).0;
      taken = (out bytes sent).1;
      told = (out bytes sent).2;
      served = all;
      sent = sent;
    },
  )

  pub not_unopened : (conn : ℕ) (told : Option (List Item)) (came : Acted) → HasSent conn told came → came ≡ acted.Unopened → ⊥
  not_unopened conn told acted.Unopened sent is = sent
  not_unopened conn told acted.Broken sent is = absurd (cc)
  not_unopened conn told acted.NoMemory sent is = absurd (cc)
  not_unopened conn told (acted.Sent bytes) sent is = absurd (cc)

  -- a store that was opened before leaves the cause as it is
  pub cause_before : (state state' : Option State) (s : State) (d mid e : D) (request : List ℕ) (came : Acted) → SameLink (site.view d) (site.view mid)
      → HasCause site.view (Some s) mid state' e request came → HasCause site.view state d state' e request came
  cause_before state state' s d mid e request acted.Unopened link cause = absurd (let closed = cause.0 in cc)
  cause_before state state' s d mid e request acted.Broken link cause =
      (cause.0, rose_from (site.view d).link_faults (site.view mid).link_faults (site.view e).link_faults link.link_faults cause.1)
  cause_before state state' s d mid e request acted.NoMemory link cause = tt
  cause_before state state' s d mid e request (acted.Sent bytes) link cause = (
    cause.0,
    record {
      conn = cause.1.conn;
      high = cause.1.high;
      events = cause.1.events;
      brings = cause.1.brings;
      between = cause.1.between;
      added = subst (λ (script : _). Both script (site.view cause.1.between).script (λ was now. now ≡ was ++ deals_of cause.1.events)) link.script cause.1.added;
      deals = cause.1.deals;
      taken = cause.1.taken;
      told = subst (λ (told : _). Both told (site.view e).transcript (GoesOutBy cause.1.conn request bytes cause.1.deals)) link.transcript cause.1.told;
      served = cause.1.served;
      sent = cause.1.sent;
    },
  )

  -- ---- a dial that is made

  pub begins_closed : (d : D) (log : List Entry) (past : List (List Item)) → IsSome (site.view d).contents → IsSome (site.view d).transcript → IfSome (site.view d).contents (λ now. Settled now (site.may_leave d))
      → IfSome (site.view d).contents (IsStore log) → IsClosed site (record { first = log; past = past; log = log }) d
  begins_closed d log past some told settled store =
      let c = some_of (site.view d).contents some in
      let items = some_of (site.view d).transcript told in
      record {
        one = one_store log c.0 (site.may_leave d) (at_some (site.view d).contents (IsStore log) c.0 c.1 store) (at_some (site.view d).contents (λ now. Settled now (site.may_leave d)) c.0 c.1 settled);
        items = items.0;
        told = items.1;
        comes = record { more = []; log_is = sym (append-nil log); pushed = λ f there. absurd (in_none (Keep f) there) };
      }

  pub some_world : (d : D) (past : List (List Item)) → IsSome (site.view d).contents → IsSome (site.view d).transcript → IfSome (site.view d).contents (λ now. Settled now (site.may_leave d))
      → IfSome (site.view d).contents (λ now. (log : List Entry) × IsStore log now) → (w : World) × IsClosed site w d
  some_world d past some told settled store =
      let c = some_of (site.view d).contents some in
      let s = at_some (site.view d).contents (λ now. (log : List Entry) × IsStore log now) c.0 c.1 store in (
        record { first = s.0; past = past; log = s.0 },
        begins_closed d s.0 past some told settled (from_some (site.view d).contents (IsStore s.0) c.0 c.1 s.1),
      )

pub empty_told : (o : Option (List Item)) → IsSome o → IfSome o (λ items. items ≡ []) → o ≡ Some []
empty_told None some empty = absurd (cc)
empty_told (Some items) some empty = ap (λ (l : List Item). Some l) empty

pub never_fails : {D : Type 0} (site : Seen D)
    (one_list : (xs ys : List (List ℕ)) (image : Image) → HasStore xs image → HasStore ys image → xs ≡ ys)
    (no_fault : (xs : List (List ℕ)) (at : ℕ) (image : Image) → HasStore xs image → NoLog at image → ⊥)
    (one_log : (bodies : List (List ℕ)) (a b : List Entry) → Spell bodies a → Spell bodies b → a ≡ b)
    (w : World) (d : D) (at : ℕ) → IsSome (site.view d).contents → IfSome (site.view d).contents (site.may_leave d) → IsClosed site w d → IfSome (site.view d).contents (NotAStore at) → ⊥
never_fails site one_list no_fault one_log w d at some passes closed fails =
    let c = some_of (site.view d).contents some in
    stores_open one_list no_fault one_log w.log c.0 at
    (store_in w.log c.0 (site.may_leave d) closed.one (at_some (site.view d).contents (site.may_leave d) c.0 c.1 passes)) (at_some (site.view d).contents (NotAStore at) c.0 c.1 fails)
