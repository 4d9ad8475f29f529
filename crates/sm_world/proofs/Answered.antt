-- What went out in answer to a request, on the way of its exchange.
use Rattle.std.proofs.Common.{◌≡◌, ◌≢◌, ◌⊎◌, inl, inr, ⊎_elim, ℕ, ◌+◌, ◌-◌, ◌^◌, ◌≤◌, Bool, true, false, ◌||◌, if◌then◌else◌, List, [], ◌∷◌, ◌++◌, take, Option, None, Some, refl, sym, ◌∙◌, ap, subst, arith, append_assoc, append-nil}
use Rattle.std.specs.Prelude.{IfSome, IsSome}
use Rattle.std.proofs.lemmas.Bool.{ne_eqb}
use Rattle.std.proofs.lemmas.List.{append_cancel_left}
use Rattle.sm_site.specs.declared.event.Event.{Event}
use Rattle.sm_site.specs.Clauses.{Both}
use Rattle.sm_site.specs.Meanings.{Deal, Item, Seen, sent_by, sent_on}
use Rattle.sm_site.specs.Meanings.Deal.{Began, Sent}
use Rattle.sm_site.specs.Scripts.{deals_of, numbers_after}
use Rattle.sm_serve.specs.declared.state.State.{State}
use Rattle.sm_serve.specs.Connections.{live, is_among, deals_in, events_in}
use Rattle.sm_serve.specs.Run.{Phase, idle, Point, Stepped, closes, sent_of, at, Moves, LeadsTo, rests, moves_on}
use Rattle.sm_serve.specs.Run.{opened, crowded, came, unread, passed, left, over, continues, acts_on, wants, done, sent, failed, unsent, shut, declared, recalled}
use Rattle.sm_serve.specs.declared.outcome.Served.TheVariants as served
use Rattle.sm_serve.specs.Serving.{AreTaken, LastIsOver, Served, Serves, Since, TurnsBy, numbers_of}
use Rattle.sm_serve.specs.Standing.{History}
use Rattle.sm_serve.proofs.Answering.{IsAway}
use Rattle.sm_serve.proofs.Stepping.{away_after}
use Rattle.sm_wire.proofs.WireLaw.{same_rest}
use Rattle.sm_world.specs.Answering.{HasCause}
use Rattle.sm_world.specs.Bringing.{begun, Brings}
use Rattle.sm_world.specs.Went.{CameOf, GoesOut, GoesOutBy, IsAnsweredSince, Opens}
use Rattle.sm_world.specs.declared.acted.Acted.{Acted}
use Rattle.sm_world.specs.declared.acted.Acted.TheVariants as acted
use Rattle.sm_world.proofs.Calls.{events_both}
use Rattle.sm_world.proofs.Fronts.{AreFirst, begun_both, began_one, deals_both, none_above, opens_by_then, still_out, taken_of}
use Rattle.sm_world.proofs.OneRequest.{sent_both}
use Rattle.sm_world.proofs.Speaking.{both_some, script_on, taken_in}
use Rattle.sm_world.proofs.Standing.{at_some}

-- ---- a connection that has not begun

module _ (conn : ℕ) (base : List Item) (out : is_among conn (live base) ≡ false) where
  -- nothing went out on it, and nothing is about to
  record IsUnopened (es : List Item) (phase : Phase) : Type 0 where
    away : IsAway conn phase
    silent : sent_on conn es ≡ []

  -- a move whose entry doesn't begin it leaves it so
  module _ (es ns : List Item) (p : Point) (s : IsUnopened es p.phase) (unbegun : begun conn (deals_in (es ++ ns)) ≡ 0) where
    before : begun conn (deals_in es) ≡ 0
    before = let all = ap (begun conn) (deals_both es ns) in let both = begun_both conn (deals_in es) (deals_in ns) in omega (arith, all, both, unbegun)

    behind : begun conn (deals_in ns) ≡ 0
    behind = let all = ap (begun conn) (deals_both es ns) in let both = begun_both conn (deals_in es) (deals_in ns) in omega (arith, all, both, unbegun)

    goes : (q : Point) (f : Phase) → q.phase ≡ f → IsAway conn f → sent_on conn ns ≡ [] → IsUnopened (es ++ ns) q.phase
    goes q f is away nothing = record {
      away = subst (λ (g : Phase). IsAway conn g) (sym is) away;
      silent = sent_both conn es ns ∙ ap (λ (l : List ℕ). l ++ sent_on conn ns) s.silent ∙ nothing;
    }

    away_in : (f : Phase) → p.phase ≡ f → IsAway conn f
    away_in f is = subst (λ (g : Phase). IsAway conn g) is s.away

    sent_none : (m : ℕ) (deal : Deal) → ns ≡ at m deal → sent_by conn deal ≡ [] → sent_on conn ns ≡ []
    sent_none m deal e nothing = ap (sent_on conn) e ∙ ap (λ (l : List ℕ). l ++ []) nothing

    no_entry : ns ≡ [] → sent_on conn ns ≡ []
    no_entry e = ap (sent_on conn) e

    one_deal : (m n : ℕ) → deals_in (at m (Began n)) ≡ Began n ∷ []
    unfolding deals_in
    one_deal m n = refl

    other_began : (m n : ℕ) → ns ≡ at m (Began n) → n ≡ conn → ⊥
    other_began m n e same =
        let count = ap (begun conn) (ap (λ (l : List Item). deals_in l) e ∙ one_deal m n ∙ ap (λ (k : ℕ). Began k ∷ []) same) in
        let one = began_one conn in
        let zero_ = behind in
        absurd (omega (arith, count, one, zero_))

    other_live : (n : ℕ) → is_among n (live (base ++ es)) ≡ true → n ≡ conn → ⊥
    other_live n among same =
        let gone = still_out conn base es out before in
        let here : is_among conn (live (base ++ es)) ≡ true = subst (λ (k : ℕ). is_among k (live (base ++ es)) ≡ true) same among in
        absurd (cc)

    sent_other : (m n : ℕ) (part : List ℕ) (broken : Bool) → ns ≡ at m (Sent n part broken) → (n ≡ conn → ⊥) → sent_on conn ns ≡ []
    sent_other m n part broken e other = sent_none m (Sent n part broken) e (ap (λ (b : Bool). if b then part else []) (ne_eqb n conn other))

    stays : (xs : List Stepped) (q : Point) → Moves false (base ++ es) p ns xs q → IsUnopened (es ++ ns) q.phase
    stays xs q (opened m n phase few e none is) = goes q _ (ap (λ (r : Point). r.phase) is) (other_began m n e) (sent_none m _ e refl)
    stays xs q (crowded m n phase many e none is) = goes q _ (ap (λ (r : Point). r.phase) is) (other_began m n e) (sent_none m _ e refl)
    stays xs q (came m n bytes given more phase among e none one two is) = goes q _ (ap (λ (r : Point). r.phase) is) (other_live n among) (sent_none m _ e refl)
    stays xs q (unread m n bytes phase among e none is) = goes q _ (ap (λ (r : Point). r.phase) is) (other_live n among) (sent_none m _ e refl)
    stays xs q (passed m n bytes phase among e none is) = goes q _ (ap (λ (r : Point). r.phase) is) tt (sent_none m _ e refl)
    stays xs q (left m n phase e none is) = goes q _ (ap (λ (r : Point). r.phase) is) tt (sent_none m _ e refl)
    stays xs q (over m phase e none is) = goes q _ (ap (λ (r : Point). r.phase) is) tt (sent_none m _ e refl)
    stays xs q (continues n more phase e none is) = goes q _ (ap (λ (r : Point). r.phase) is) (away_in _ phase) (no_entry e)
    stays xs q (acts_on n item more act x phase does conn_is is_step e one is) =
        goes q _ (ap (λ (r : Point). r.phase) is) (away_after conn n (sent_of x.reply) (x.reply.close || closes item) more (away_in _ phase)) (no_entry e)
    stays xs q (wants n more phase e none is) = goes q _ (ap (λ (r : Point). r.phase) is) (away_in _ phase) (no_entry e)
    stays xs q (done n phase e none is) = goes q _ (ap (λ (r : Point). r.phase) is) tt (no_entry e)
    stays xs q (sent m n bytes close more phase after e none is) =
        goes q _ (ap (λ (r : Point). r.phase) is) (away_after conn n None close more (away_in _ phase)) (sent_other m n bytes false e (away_in _ phase))
    stays xs q (failed m n k bytes close more phase after e none is) =
        goes q _ (ap (λ (r : Point). r.phase) is) (away_in _ phase) (sent_other m n (take k bytes) true e (away_in _ phase))
    stays xs q (unsent n bytes close more phase e none is) = goes q _ (ap (λ (r : Point). r.phase) is) (away_in _ phase) (no_entry e)
    stays xs q (shut m n phase e none is) = goes q _ (ap (λ (r : Point). r.phase) is) tt (sent_none m _ e refl)
    stays xs q (declared header x phase conn_is is_step e one is) = goes q _ (ap (λ (r : Point). r.phase) is) tt (no_entry e)
    stays xs q (recalled address x phase conn_is is_step e one is) = goes q _ (ap (λ (r : Point). r.phase) is) tt (no_entry e)

  -- along a path
  unopened : (steps : List Stepped) (p : Point) → p.phase ≡ idle → (items : List Item) (ss : List Stepped) (q : Point) → LeadsTo base steps p items ss q
      → (es : List Item) × (items ≡ base ++ es) × (begun conn (deals_in es) ≡ 0 → IsUnopened es q.phase)
  unopened steps p phase items ss q (rests now all q' a b c) = (
    [],
    a ∙ sym (append-nil base),
    λ none. record { away = subst (λ (f : Phase). IsAway conn f) (sym (ap (λ (r : Point). r.phase) c ∙ phase)) tt; silent = refl },
  )
  unopened steps p phase items ss q (moves_on was ns now ys xs all r q' path move a b) =
      let t = unopened steps p phase was ys r path in (
        t.0 ++ ns,
        a ∙ ap (λ (l : List Item). l ++ ns) t.1 ∙ append_assoc base t.0 ns,
        λ none.
            (let s = t.2 (let all_ = ap (begun conn) (deals_both t.0 ns) in let both = begun_both conn (deals_in t.0) (deals_in ns) in omega (arith, all_, both, none)) in
            stays t.0 ns r s none xs q (subst (λ (l : List Item). Moves false l r ns xs q) t.1 move)),
      )

-- ---- the way of one exchange

module _ {D : Type 0} (site : Seen D) where
  -- what went out on an unused connection, on which a request was brought
  pub goes_out : (h : History) (state : State) (c d : D) (new : State) (e : D) (from conn : ℕ) (request : List ℕ) (events : List Event) (bytes : List ℕ) → IsSome (site.view c).script
      → IfSome (site.view c).script (λ deals. numbers_after from deals ≤ conn) → is_among conn (numbers_of state.lives.items) ≡ false
      → IfSome (site.view c).transcript (λ items. sent_on conn items ≡ []) → (site.view d).transcript ≡ (site.view c).transcript → Brings conn request events
      → Both (site.view c).script (site.view d).script (λ was now. now ≡ was ++ deals_of events) → IfSome (site.view e).transcript (λ items. bytes ≡ sent_on conn items)
      → Serves site h state d → (taken late short turns : ℕ) → 2 ^ 64 - 1 ≤ turns → Served site h (served.Done taken late short) turns new e → (n : ℕ) × TurnsBy site h n (site.view d).script new e
      → (deals : List Deal) × Both (site.view d).script (site.view e).script (AreTaken deals) × Both (site.view c).transcript (site.view e).transcript (GoesOutBy conn request bytes deals)
  goes_out h state c d new e from conn request events bytes some_script above unused quiet same brings added went_out serves taken_ late short turns many s t = (
    t.1.deals,
    t.1.script_is,
    both_some (site.view c).transcript (site.view e).transcript (GoesOutBy conn request bytes t.1.deals) (h.base ++ h.items) (k.base ++ k.items) told t.1.turns.serves.keeps.told (record {
      more = path.0;
      goes_on = goes_on;
      taken = deals_are;
      out = record { unused = none_sent; opens = opens; went = went };
    }),
  )
    where
      k : History
      k = t.1.turns.later

      since : Since h k
      since = t.1.turns.since

      told : (site.view c).transcript ≡ Some (h.base ++ h.items)
      told = sym same ∙ serves.keeps.told

      none_sent : sent_on conn (h.base ++ h.items) ≡ []
      none_sent = at_some (site.view c).transcript (λ items. sent_on conn items ≡ []) (h.base ++ h.items) told quiet

      out : is_among conn (live h.items) ≡ false
      out = subst (λ (ns : List ℕ). is_among conn ns ≡ false) serves.rest.numbers unused

      path : (es : List Item) × (k.items ≡ h.items ++ es) × (begun conn (deals_in es) ≡ 0 → IsUnopened conn h.items out es k.point.phase)
      path = unopened conn h.items out h.steps h.point serves.rest.phase_is k.items k.steps k.point since.on.path

      goes_on : k.base ++ k.items ≡ (h.base ++ h.items) ++ path.0
      goes_on = ap (λ (l : List Item). l ++ k.items) since.base ∙ ap (λ (l : List Item). h.base ++ l) path.1 ∙ sym (append_assoc h.base h.items path.0)

      deals_are : deals_in path.0 ≡ t.1.deals
      deals_are = same_rest (deals_in h.items) (deals_in path.0) t.1.deals (sym (deals_both h.items path.0) ∙ sym (ap deals_in path.1) ∙ t.1.turns.taken)

      went : bytes ≡ sent_on conn path.0
      went =
          at_some (site.view e).transcript (λ items. bytes ≡ sent_on conn items) (k.base ++ k.items) t.1.turns.serves.keeps.told went_out ∙ ap (sent_on conn) goes_on
          ∙ sent_both conn (h.base ++ h.items) path.0 ∙ ap (λ (l : List ℕ). l ++ sent_on conn path.0) none_sent

      script : (was : List Deal) × ((site.view c).script ≡ Some was) × ((site.view d).script ≡ Some (was ++ deals_of events))
      script = script_on (site.view c).script (site.view d).script events some_script added

      comes : AreFirst conn request (deals_in path.0)
      comes =
          let taken = taken_in (site.view d).script (site.view e).script (script.0 ++ deals_of events) t.1.deals script.2 t.1.script_is in
          let none : begun conn script.0 ≡ 0 = none_above conn from script.0 (at_some (site.view c).script (λ deals. numbers_after from deals ≤ conn) script.0 script.1 above) in
          subst (λ (ds : List Deal). AreFirst conn request ds) (sym deals_are) (taken_of conn request events script.0 t.1.deals taken.0 brings none taken.1)

      same_items : s.later.items ≡ k.items
      same_items =
          let whole : s.later.base ++ s.later.items ≡ k.base ++ k.items = (let both : Some (s.later.base ++ s.later.items) ≡ Some (k.base ++ k.items) = sym s.told ∙ t.1.turns.serves.keeps.told in cc) in
          append_cancel_left h.base s.later.items k.items
          (sym (ap (λ (l : List Item). l ++ s.later.items) s.since.base) ∙ whole ∙ ap (λ (l : List Item). l ++ k.items) since.base)

      ends : LastIsOver (deals_in path.0) ⊎ (2 ^ 64 - 1 ≤ events_in path.0)
      ends = ⊎_elim
          (λ all. inr (let count = ap events_in (same_items ∙ path.1) in let both = events_both h.items path.0 in let taken = all.0 in let now = all.1 in omega (arith, count, both, taken, now, many)))
          (λ over. inl (subst LastIsOver (same_rest (deals_in h.items) s.deals (deals_in path.0) (sym s.taken ∙ ap deals_in (same_items ∙ path.1) ∙ deals_both h.items path.0)) over.3))
          s.ended

      opens : bytes ≢ [] → Opens conn request path.0
      opens some = ⊎_elim (λ (none : begun conn (deals_in path.0) ≡ 0). absurd (some (went ∙ (path.2 none).silent))) (λ (is : Opens conn request path.0). is) (opens_by_then conn request path.0 comes ends)

-- ---- what came of it

both_so : {A : Type 0} (R S : A → A → Type 0) (a b : Option A) → ((x y : A) → R x y → S x y) → Both a b R → Both a b S
both_so R S None None so both = tt
both_so R S None (Some y) so both = absurd both
both_so R S (Some x) None so both = absurd both
both_so R S (Some x) (Some y) so both = so x y both

module _ {D : Type 0} (site : Seen D) where
  pub came_of : (state state' : Option State) (d e : D) (request : List ℕ) (came : Acted) → HasCause site.view state d state' e request came → CameOf (site.view d) (site.view e) request came
  came_of state state' d e request acted.Unopened cause = cause.2
  came_of state state' d e request acted.Broken cause = cause.1
  came_of state state' d e request acted.NoMemory cause = tt
  came_of state state' d e request (acted.Sent bytes) (some, h) =
      both_so (GoesOutBy h.conn request bytes h.deals) (IsAnsweredSince request bytes) (site.view d).transcript (site.view e).transcript (λ was now t. record {
        until = [];
        stretch = t.more;
        since = [];
        goes_on = t.goes_on ∙ ap (λ (l : List Item). l ++ t.more) (sym (append-nil was)) ∙ sym (append-nil ((was ++ []) ++ t.more));
        conn = h.conn;
        high = h.high;
        out = subst (λ (l : List Item). GoesOut h.conn request bytes l t.more) (sym (append-nil was)) t.out;
      }) h.told
