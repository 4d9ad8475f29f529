-- What came on a connection, and the steps that acted on it.
use Rattle.std.proofs.Common.{◌≡◌, ◌⊎◌, inl, inr, ℕ, ◌+◌, ◌≤◌, Bool, true, false, ◌||◌, if◌then◌else◌, List, [], ◌∷◌, ◌++◌, take, Option, Some, None, refl, sym, ◌∙◌, ap, subst, arith, append_assoc, lit<}
use Rattle.std.proofs.lemmas.List.{append-nil}
use Rattle.std.proofs.lemmas.Bool.{eq-eqb, ne_eqb, cases_eq, cases_Bool}
use Rattle.sm_site.specs.Meanings.{Deal, Item}
use Rattle.sm_site.specs.Meanings.Deal.{Began, Came, Left, Over, Sent, Shut}
use Rattle.sm_head.specs.declared.reply.TheConstants.{CONTINUE, NO_MEMORY}
use Rattle.sm_head.specs.Requests.{IsWaiting}
use Rattle.sm_head.proofs.HeadLaw.{none_empty}
use Rattle.sm_conn.specs.Parts.{in_head, waiting}
use Rattle.sm_wire.specs.declared.item.WireItem.{WireItem}
use Rattle.sm_wire.specs.declared.item.WireItem.TheVariants.{Continue}
use Rattle.sm_wire.specs.Wire.{wire, IsWire}
use Rattle.sm_origin.specs.Machine.{Machine}
use Rattle.sm_serve.specs.declared.texts.TheConstants.{TOO_MANY}
use Rattle.sm_serve.specs.Connections.{received, live_after, live_from, live, is_among}
use Rattle.sm_serve.specs.Run.{Counts, no_counts, act_of, counts_after, set_counts, Phase, idle, acting, sending, shutting, at, sent_of, closes, phase_after, Point, Stepped, Moves, opened, crowded, came, unread, passed, left, over, continues, acts_on, wants, done, sent, failed, unsent, shut, declared, recalled, Run, begins, goes_on}
use Rattle.sm_serve.specs.Sent.{opens, openings}
use Rattle.sm_serve.proofs.Answering.{IsAway}
use Rattle.sm_serve.proofs.Stepping.{away_after, option_cases}
use Rattle.sm_serve.proofs.Quiet.{IsQuiet, quiet_began, quiet_came, quiet_left, quiet_over, quiet_sent, quiet_shut, began_less, ended_less, not_live, still_live, bytes_begun, bytes_came, bytes_sent}
use Rattle.sm_promises.specs.Promises.{AreActs, nothing, continued, acted, elsewhere, BecomeSteps}

-- ---- what bytes give

empty_front : (xs ys : List ℕ) → [] ≡ xs ++ 10 ∷ ys → ⊥
empty_front [] ys e = cc
empty_front (x ∷ xs) ys e = cc

empty_waits : IsWaiting []
empty_waits = record { none = none_empty; hopeful = λ h. empty_front h.front h.rest h.splits; short = lit< tt }

nothing_yet : IsWire [] []
unfolding wire
nothing_yet = ([], (in_head [], waiting (in_head []) (in_head []) [] [] [] refl empty_waits refl refl), refl)

none_behind : (xs ys : List WireItem) → xs ≡ xs ++ ys → ys ≡ []
none_behind [] ys e = sym e
none_behind (x ∷ xs) ys e = none_behind xs ys (let rest : xs ≡ xs ++ ys = cc in rest)

both_empty : (ys zs : List WireItem) → ys ++ zs ≡ [] → ys ≡ []
both_empty [] zs e = refl
both_empty (y ∷ ys) zs e = absurd (cc)

-- what begins the bytes gives a front of what they give
abbrev pub Fronts : Type 0
Fronts = (bytes more : List ℕ) (items all : List WireItem) → IsWire bytes items → IsWire (bytes ++ more) all → (rest : List WireItem) × (all ≡ items ++ rest)

one_list : Fronts → (bytes : List ℕ) (given other : List WireItem) → IsWire bytes given → IsWire bytes other → other ≡ given
one_list front bytes given other here there =
    let again = λ (xs ys : List WireItem) (x : IsWire bytes xs) (y : IsWire bytes ys). front bytes [] xs ys x (subst (λ b. IsWire b ys) (sym (append-nil bytes)) y) in
    let f = again given other here there in
    let b = again other given there here in
    f.1 ∙ ap (λ (ws : List WireItem). given ++ ws) (both_empty f.0 b.0 (none_behind given (f.0 ++ b.0) (b.1 ∙ ap (λ (ws : List WireItem). ws ++ b.0) f.1 ∙ append_assoc given f.0 b.0))) ∙ append-nil given

-- ---- one entry more

openings_push : (n m : ℕ) (items : List Item) (deal : Deal) → openings n (items ++ at m deal) ≡ openings n items + opens n deal
unfolding openings
openings_push n m [] deal = omega arith
openings_push n m (x ∷ items) deal = let rest = openings_push n m items deal in omega (arith, rest)

openings_both : (n : ℕ) (xs ys : List Item) → openings n (xs ++ ys) ≡ openings n xs + openings n ys
unfolding openings
openings_both n [] ys = omega arith
openings_both n (x ∷ xs) ys = let rest = openings_both n xs ys in omega (arith, rest)

step_opens : (n : ℕ) (ns : List ℕ) (deal : Deal) → is_among n (live_after ns deal) ≡ true → (is_among n ns ≡ true) ⊎ (1 ≤ opens n deal)
step_opens n ns (Began k) now = elim (cases_eq k n) [
  | inl same ↦ inr (subst (λ (b : Bool). 1 ≤ (if b then 1 else 0)) (sym (eq-eqb k n same)) (omega arith))
  | inr other ↦ inl (began_less n k ns other now)
]
step_opens n ns (Came k bytes) now = inl now
step_opens n ns (Left k) now = inl (ended_less n k ns now)
step_opens n ns Over now = inl now
step_opens n ns (Sent k bytes broken) now = inl now
step_opens n ns (Shut k) now = inl (ended_less n k ns now)

opened_from : (n : ℕ) (ns : List ℕ) (items : List Item) → is_among n (live_from ns items) ≡ true → (is_among n ns ≡ true) ⊎ (1 ≤ openings n items)
unfolding openings
opened_from n ns [] now = inl now
opened_from n ns (x ∷ items) now = elim (opened_from n (live_after ns x.deal) items now) [
  | inl there ↦ elim (step_opens n ns x.deal there) [
    | inl before ↦ inl before
    | inr here ↦ inr (omega (arith, here))
  ]
  | inr later ↦ inr (omega (arith, later))
]

-- a connection that is live was opened
live_opened : (n : ℕ) (items : List Item) → is_among n (live items) ≡ true → 1 ≤ openings n items
unfolding live
live_opened n items now = elim (opened_from n [] items now) [
  | inl none ↦ absurd (cc)
  | inr some ↦ some
]

none_live : (n : ℕ) → is_among n (live []) ≡ true → ⊥
unfolding live
none_live n now = cc

none_received : (n : ℕ) → received n [] ≡ []
unfolding received
none_received n = refl

away_idle : (n : ℕ) (f : Phase) → f ≡ idle → IsAway n f
away_idle n f is = subst (λ (g : Phase). IsAway n g) (sym is) tt

-- ---- what the steps acted on

-- all that came gives what was acted on, and what is left
abbrev Whole : ℕ → List Item → List Stepped → Counts → List WireItem → Type 0
Whole n items ss counts more = (given finished : List WireItem) × IsWire (received n items) given × (given ≡ finished ++ more) × AreActs n ss finished counts

record Partly (n : ℕ) (items : List Item) (ss : List Stepped) : Type 0 where
  read : List ℕ
  late : List ℕ
  came : received n items ≡ read ++ late
  given : List WireItem
  are : IsWire read given
  finished : List WireItem
  rest : List WireItem
  front : given ≡ finished ++ rest
  counts : Counts
  acts : AreActs n ss finished counts

partly_of : (n : ℕ) (items : List Item) (ss : List Stepped) (counts : Counts) (more : List WireItem) → Whole n items ss counts more → Partly n items ss
partly_of n items ss counts more w = record {
  read = received n items;
  late = [];
  came = sym (append-nil (received n items));
  given = w.0;
  are = w.2;
  finished = w.1;
  rest = more;
  front = w.3;
  counts = counts;
  acts = w.4;
}

partly_new : (n : ℕ) (items : List Item) (ss : List Stepped) → received n items ≡ [] → AreActs n ss [] no_counts → Partly n items ss
partly_new n items ss none acts = record {
  read = [];
  late = [];
  came = none;
  given = [];
  are = nothing_yet;
  finished = [];
  rest = [];
  front = refl;
  counts = no_counts;
  acts = acts;
}

partly_late : (n : ℕ) (items now : List Item) (ss : List Stepped) (bytes : List ℕ) → received n now ≡ received n items ++ bytes → Partly n items ss → Partly n now ss
partly_late n items now ss bytes more p = record {
  read = p.read;
  late = p.late ++ bytes;
  came = more ∙ ap (λ (l : List ℕ). l ++ bytes) p.came ∙ append_assoc p.read p.late bytes;
  given = p.given;
  are = p.are;
  finished = p.finished;
  rest = p.rest;
  front = p.front;
  counts = p.counts;
  acts = p.acts;
}

partly_same : (n : ℕ) (items now : List Item) (ss : List Stepped) → received n now ≡ received n items → Partly n items ss → Partly n now ss
partly_same n items now ss same p = record {
  read = p.read;
  late = p.late;
  came = same ∙ p.came;
  given = p.given;
  are = p.are;
  finished = p.finished;
  rest = p.rest;
  front = p.front;
  counts = p.counts;
  acts = p.acts;
}

partly_other : (n : ℕ) (items : List Item) (ss : List Stepped) (x : Stepped) → (x.conn ≡ Some n → ⊥) → Partly n items ss → Partly n items (ss ++ x ∷ [])
partly_other n items ss x other p = record {
  read = p.read;
  late = p.late;
  came = p.came;
  given = p.given;
  are = p.are;
  finished = p.finished;
  rest = p.rest;
  front = p.front;
  counts = p.counts;
  acts = elsewhere ss p.finished p.counts x p.acts other;
}

whole_as : (n : ℕ) (items now : List Item) (ss : List Stepped) (counts counts' : Counts) (more : List WireItem) → received n now ≡ received n items → counts' ≡ counts
    → Whole n items ss counts more → Whole n now ss counts' more
whole_as n items now ss counts counts' more same count w =
    (w.0, w.1, subst (λ bs. IsWire bs w.0) (sym same) w.2, w.3, subst (λ c. AreActs n ss w.1 c) (sym count) w.4)

whole_other : (n : ℕ) (items : List Item) (ss : List Stepped) (x : Stepped) (counts counts' : Counts) (more : List WireItem) → (x.conn ≡ Some n → ⊥) → counts' ≡ counts
    → Whole n items ss counts more → Whole n items (ss ++ x ∷ []) counts' more
whole_other n items ss x counts counts' more other count w =
    (w.0, w.1, w.2, w.3, elsewhere ss w.1 counts' x (subst (λ c. AreActs n ss w.1 c) (sym count) w.4) other)

-- ---- what stands at a point

record Asked (n : ℕ) (items : List Item) (ss : List Stepped) (p : Point) : Type 0 where
  partly : Partly n items ss
  fresh : openings n items ≡ 0 → AreActs n ss [] no_counts
  at_rest : IsAway n p.phase → is_among n (live items) ≡ true → Whole n items ss (p.counts n) []
  acting_on : (more : List WireItem) → p.phase ≡ acting n more → (1 ≤ openings n items) × Whole n items ss (p.counts n) more
  sends : (text : List ℕ) (close : Bool) (more : List WireItem) → p.phase ≡ sending n text close more
      → (1 ≤ openings n items) × (close ≡ false → Whole n items ss (p.counts n) more)
  shuts : p.phase ≡ shutting n → 1 ≤ openings n items

module _ (n : ℕ) (items : List Item) (ss : List Stepped) (q : Point) where
  not_away : (f : Phase) → q.phase ≡ f → (IsAway n f → ⊥) → IsAway n q.phase → ⊥
  not_away f is here away = here (subst (λ (g : Phase). IsAway n g) is away)

  asked_acting : (more : List WireItem) → q.phase ≡ acting n more → Whole n items ss (q.counts n) more → 1 ≤ openings n items → Asked n items ss q
  asked_acting more phase w opened_ = record {
    partly = partly_of n items ss (q.counts n) more w;
    fresh = λ none. absurd (omega (arith, none, opened_));
    at_rest = λ away. absurd (not_away (acting n more) phase (λ f. f refl) away);
    acting_on = λ others is.
        (opened_, subst (λ ms. Whole n items ss (q.counts n) ms) (let e : acting n more ≡ acting n others = sym phase ∙ is in let same : more ≡ others = cc in same) w);
    sends = λ text close others is. absurd (let e : acting n more ≡ sending n text close others = sym phase ∙ is in cc);
    shuts = λ is. opened_;
  }

  asked_sending : (text : List ℕ) (close : Bool) (more : List WireItem) → q.phase ≡ sending n text close more → Partly n items ss
      → (close ≡ false → Whole n items ss (q.counts n) more) → 1 ≤ openings n items → Asked n items ss q
  asked_sending text close more phase partly w opened_ = record {
    partly = partly;
    fresh = λ none. absurd (omega (arith, none, opened_));
    at_rest = λ away. absurd (not_away (sending n text close more) phase (λ f. f refl) away);
    acting_on = λ others is. absurd (let e : sending n text close more ≡ acting n others = sym phase ∙ is in cc);
    sends = λ words closing others is.
        let e : sending n text close more ≡ sending n words closing others = sym phase ∙ is in
        let rest : more ≡ others = cc in
        let closed : close ≡ closing = cc in
        (opened_, λ stays. subst (λ ms. Whole n items ss (q.counts n) ms) rest (w (closed ∙ stays)));
    shuts = λ is. opened_;
  }

  asked_shutting : q.phase ≡ shutting n → Partly n items ss → 1 ≤ openings n items → Asked n items ss q
  asked_shutting phase partly opened_ = record {
    partly = partly;
    fresh = λ none. absurd (omega (arith, none, opened_));
    at_rest = λ away. absurd (not_away (shutting n) phase (λ f. f refl) away);
    acting_on = λ others is. absurd (let e : shutting n ≡ acting n others = sym phase ∙ is in cc);
    sends = λ text close others is. absurd (let e : shutting n ≡ sending n text close others = sym phase ∙ is in cc);
    shuts = λ is. opened_;
  }

  asked_away : IsAway n q.phase → Partly n items ss → (openings n items ≡ 0 → AreActs n ss [] no_counts)
      → (is_among n (live items) ≡ true → Whole n items ss (q.counts n) []) → Asked n items ss q
  asked_away away partly fresh w = record {
    partly = partly;
    fresh = fresh;
    at_rest = λ t. w;
    acting_on = λ others is. absurd (subst (λ (f : Phase). IsAway n f) is away refl);
    sends = λ text close others is. absurd (subst (λ (f : Phase). IsAway n f) is away refl);
    shuts = λ is. absurd (subst (λ (f : Phase). IsAway n f) is away refl);
  }

-- ---- the moves

module _ (front : Fronts) (n : ℕ) (items : List Item) (ss : List Stepped) (p : Point) (s : Asked n items ss p) where
  fresh_on : (m : ℕ) (deal : Deal) → openings n (items ++ at m deal) ≡ 0 → AreActs n ss [] no_counts
  fresh_on m deal none = s.fresh (let sum = openings_push n m items deal in omega (arith, sum, none))

  -- an entry of another connection, or of none
  entry_elsewhere : (m : ℕ) (deal : Deal) (r : Point) → IsQuiet n items (at m deal) → IsAway n p.phase → IsAway n r.phase → r.counts n ≡ p.counts n
      → Asked n (items ++ at m deal) ss r
  entry_elsewhere m deal r quiet was now count =
      asked_away n (items ++ at m deal) ss r now (partly_same n items (items ++ at m deal) ss quiet.0 s.partly) (fresh_on m deal)
      (λ among. whole_as n items (items ++ at m deal) ss (p.counts n) (r.counts n) [] quiet.0 count (s.at_rest was (quiet.2 among)))

  none_elsewhere : (r : Point) → IsAway n p.phase → IsAway n r.phase → r.counts n ≡ p.counts n → Asked n items ss r
  none_elsewhere r was now count =
      asked_away n items ss r now s.partly s.fresh (λ among. whole_as n items items ss (p.counts n) (r.counts n) [] refl count (s.at_rest was among))

  step_elsewhere : (x : Stepped) (r : Point) → (x.conn ≡ Some n → ⊥) → IsAway n p.phase → IsAway n r.phase → r.counts n ≡ p.counts n → Asked n items (ss ++ x ∷ []) r
  step_elsewhere x r other was now count =
      asked_away n items (ss ++ x ∷ []) r now (partly_other n items ss x other s.partly) (λ none. elsewhere ss [] no_counts x (s.fresh none) other)
      (λ among. whole_other n items ss x (p.counts n) (r.counts n) [] other count (s.at_rest was among))

  new_here : (m k : ℕ) → k ≡ n → openings n (items ++ at m (Began k)) ≤ 1 → AreActs n ss [] no_counts
  new_here m k same few =
      s.fresh (let sum = openings_push n m items (Began k) in let one : opens n (Began k) ≡ 1 = ap (λ (b : Bool). if b then 1 else 0) (eq-eqb k n same) in omega (arith, sum, one, few))

  opens_now : (m k : ℕ) → k ≡ n → 1 ≤ openings n (items ++ at m (Began k))
  opens_now m k same = let sum = openings_push n m items (Began k) in let one : opens n (Began k) ≡ 1 = ap (λ (b : Bool). if b then 1 else 0) (eq-eqb k n same) in omega (arith, sum, one)

  opens_still : (m : ℕ) (deal : Deal) → 1 ≤ openings n items → 1 ≤ openings n (items ++ at m deal)
  opens_still m deal some = let sum = openings_push n m items deal in omega (arith, sum, some)

  live_by : (k : ℕ) → k ≡ n → is_among k (live items) ≡ true → is_among n (live items) ≡ true
  live_by k same among = subst (λ (j : ℕ). is_among j (live items) ≡ true) same among

  phase_by : (k : ℕ) (f : ℕ → Phase) → k ≡ n → p.phase ≡ f k → p.phase ≡ f n
  phase_by k f same phase = phase ∙ ap f same

  -- the counts of another connection are set, or its own
  counts_other : (k : ℕ) (new : Counts) → (k ≡ n → ⊥) → set_counts k new p.counts n ≡ p.counts n
  counts_other k new other = ap (λ (b : Bool). if b then new else p.counts n) (ne_eqb n k (λ e. other (sym e)))

  counts_own : (k : ℕ) (new : Counts) → k ≡ n → set_counts k new p.counts n ≡ new
  counts_own k new same = ap (λ (b : Bool). if b then new else p.counts n) (eq-eqb n k (sym same))

  module _ (es : List Item) (xs : List Stepped) (q : Point) where
    with_entry : (m : ℕ) (deal : Deal) (r : Point) → es ≡ at m deal → xs ≡ [] → q ≡ r → Asked n (items ++ at m deal) ss r → Asked n (items ++ es) (ss ++ xs) q
    with_entry m deal r e none is said =
        subst (λ (l : List Item). Asked n (items ++ l) (ss ++ xs) q) (sym e)
        (subst (λ (ys : List Stepped). Asked n (items ++ at m deal) ys q) (sym (ap (λ (ys : List Stepped). ss ++ ys) none ∙ append-nil ss))
        (subst (λ (point : Point). Asked n (items ++ at m deal) ss point) (sym is) said))

    with_none : (r : Point) → es ≡ [] → xs ≡ [] → q ≡ r → Asked n items ss r → Asked n (items ++ es) (ss ++ xs) q
    with_none r e none is said =
        subst (λ (l : List Item). Asked n l (ss ++ xs) q) (sym (ap (λ (l : List Item). items ++ l) e ∙ append-nil items))
        (subst (λ (ys : List Stepped). Asked n items ys q) (sym (ap (λ (ys : List Stepped). ss ++ ys) none ∙ append-nil ss))
        (subst (λ (point : Point). Asked n items ss point) (sym is) said))

    with_step : (x : Stepped) (r : Point) → es ≡ [] → xs ≡ x ∷ [] → q ≡ r → Asked n items (ss ++ x ∷ []) r → Asked n (items ++ es) (ss ++ xs) q
    with_step x r e one is said =
        subst (λ (l : List Item). Asked n l (ss ++ xs) q) (sym (ap (λ (l : List Item). items ++ l) e ∙ append-nil items))
        (subst (λ (ys : List Stepped). Asked n items (ss ++ ys) q) (sym one)
        (subst (λ (point : Point). Asked n items (ss ++ x ∷ []) point) (sym is) said))

    -- further bytes came on it, all before which were acted on
    more_came : (m k : ℕ) (bytes : List ℕ) (given more : List WireItem) → k ≡ n → IsWire (received k items) given → IsWire (received k items ++ bytes) (given ++ more)
        → Whole n items ss (p.counts n) [] → Whole n (items ++ at m (Came k bytes)) ss (p.counts n) more
    more_came m k bytes given more same one two w =
        let here : IsWire (received n items) given = subst (λ (j : ℕ). IsWire (received j items) given) same one in
        let there : IsWire (received n items ++ bytes) (given ++ more) = subst (λ (j : ℕ). IsWire (received j items ++ bytes) (given ++ more)) same two in
        let all : given ≡ w.1 = one_list front (received n items) w.0 given w.2 here ∙ w.3 ∙ append-nil w.1 in (
          given ++ more,
          w.1,
          subst (λ bs. IsWire bs (given ++ more)) (sym (bytes_came n k m bytes items same)) there,
          ap (λ (ws : List WireItem). ws ++ more) all,
          w.4,
        )

    -- the next item is passed over, or acted on by a step
    passes : (more : List WireItem) → Whole n items ss (p.counts n) (Continue ∷ more) → Whole n items ss (p.counts n) more
    passes more w = (w.0, w.1 ++ Continue ∷ [], w.2, w.3 ∙ sym (append_assoc w.1 (Continue ∷ []) more), continued ss w.1 (p.counts n) w.4)

    steps_on : (item : WireItem) (more : List WireItem) (x : Stepped) (counts : Counts) → x.conn ≡ Some n → act_of (p.counts n) item ≡ Some x.act
        → counts ≡ counts_after item x.reply.counted (p.counts n) → Whole n items ss (p.counts n) (item ∷ more) → Whole n items (ss ++ x ∷ []) counts more
    steps_on item more x counts mine does is w = (
      w.0,
      w.1 ++ item ∷ [],
      w.2,
      w.3 ∙ sym (append_assoc w.1 (item ∷ []) more),
      subst (λ c. AreActs n (ss ++ x ∷ []) (w.1 ++ item ∷ []) c) (sym is) (acted ss w.1 (p.counts n) item x w.4 mine does),
    )

    move_asked : (told : Bool) → Moves told items p es xs q → openings n (items ++ es) ≤ 1 → Asked n (items ++ es) (ss ++ xs) q
    move_asked told (opened m k phase many e none is) few = elim (cases_eq k n) [
      | inl same ↦ with_entry m (Began k) _ e none is
          (asked_acting n (items ++ at m (Began k)) ss _ [] (ap (λ (j : ℕ). acting j []) same)
          (whole_as n (items ++ at m (Began k)) (items ++ at m (Began k)) ss no_counts _ [] refl (counts_own k no_counts same)
          ([], [], subst (λ bs. IsWire bs []) (sym (bytes_begun n k m items same)) nothing_yet, refl, new_here m k same (subst (λ (l : List Item). openings n (items ++ l) ≤ 1) e few)))
          (opens_now m k same))
      | inr other ↦ with_entry m (Began k) _ e none is (entry_elsewhere m (Began k) _ (quiet_began n k m items other) (away_idle n p.phase phase) other (counts_other k no_counts other))
    ]
    move_asked told (crowded m k phase many e none is) few = elim (cases_eq k n) [
      | inl same ↦ with_entry m (Began k) _ e none is
          (asked_sending n (items ++ at m (Began k)) ss _ TOO_MANY.now true [] (ap (λ (j : ℕ). sending j TOO_MANY.now true []) same)
          (partly_new n (items ++ at m (Began k)) ss (bytes_begun n k m items same) (new_here m k same (subst (λ (l : List Item). openings n (items ++ l) ≤ 1) e few)))
          (λ stays. absurd (cc)) (opens_now m k same))
      | inr other ↦ with_entry m (Began k) _ e none is (entry_elsewhere m (Began k) _ (quiet_began n k m items other) (away_idle n p.phase phase) other refl)
    ]
    move_asked told (came m k bytes given more phase among e none one two is) few = elim (cases_eq k n) [
      | inl same ↦ with_entry m (Came k bytes) _ e none is
          (asked_acting n (items ++ at m (Came k bytes)) ss _ more (ap (λ (j : ℕ). acting j more) same)
          (more_came m k bytes given more same one two (s.at_rest (away_idle n p.phase phase) (live_by k same among)))
          (opens_still m (Came k bytes) (live_opened n items (live_by k same among))))
      | inr other ↦ with_entry m (Came k bytes) _ e none is (entry_elsewhere m (Came k bytes) _ (quiet_came n k m bytes items other) (away_idle n p.phase phase) other refl)
    ]
    move_asked told (unread m k bytes phase among e none is) few = elim (cases_eq k n) [
      | inl same ↦ with_entry m (Came k bytes) _ e none is
          (asked_sending n (items ++ at m (Came k bytes)) ss _ NO_MEMORY.now true [] (ap (λ (j : ℕ). sending j NO_MEMORY.now true []) same)
          (partly_late n items (items ++ at m (Came k bytes)) ss bytes (bytes_came n k m bytes items same) s.partly) (λ stays. absurd (cc))
          (opens_still m (Came k bytes) (live_opened n items (live_by k same among))))
      | inr other ↦ with_entry m (Came k bytes) _ e none is (entry_elsewhere m (Came k bytes) _ (quiet_came n k m bytes items other) (away_idle n p.phase phase) other refl)
    ]
    move_asked told (passed m k bytes phase gone e none is) few = elim (cases_eq k n) [
      | inl same ↦ with_entry m (Came k bytes) _ e none is
          (asked_away n (items ++ at m (Came k bytes)) ss _ tt (partly_late n items (items ++ at m (Came k bytes)) ss bytes (bytes_came n k m bytes items same) s.partly)
          (fresh_on m (Came k bytes))
          (λ now. absurd (let was : is_among n (live items) ≡ true = sym (still_live n k m bytes items) ∙ now in let none : is_among n (live items) ≡ false = subst (λ (j : ℕ). is_among j (live items) ≡ false) same gone in cc)))
      | inr other ↦ with_entry m (Came k bytes) _ e none is (entry_elsewhere m (Came k bytes) _ (quiet_came n k m bytes items other) (away_idle n p.phase phase) tt refl)
    ]
    move_asked told (left m k phase e none is) few = with_entry m (Left k) _ e none is (entry_elsewhere m (Left k) _ (quiet_left n k m items) (away_idle n p.phase phase) tt refl)
    move_asked told (over m phase e none is) few = with_entry m Over _ e none is (entry_elsewhere m Over _ (quiet_over n m items) (away_idle n p.phase phase) tt refl)
    move_asked told (continues k more phase e none is) few = elim (cases_eq k n) [
      | inl same ↦
          let here = s.acting_on (Continue ∷ more) (phase_by k (λ (j : ℕ). acting j (Continue ∷ more)) same phase) in
          with_none _ e none is
          (asked_sending n items ss _ CONTINUE.now false more (ap (λ (j : ℕ). sending j CONTINUE.now false more) same) s.partly (λ stays. passes more here.1) here.0)
      | inr other ↦ with_none _ e none is (none_elsewhere _ (subst (λ (f : Phase). IsAway n f) (sym phase) other) other refl)
    ]
    move_asked told (acts_on k item more act x phase does conn step e one is) few = elim (cases_eq k n) [
      | inl same ↦
          let here = s.acting_on (item ∷ more) (phase_by k (λ (j : ℕ). acting j (item ∷ more)) same phase) in
          let mine : x.conn ≡ Some n = conn ∙ ap (λ (j : ℕ). Some j) same in
          let own : act_of (p.counts n) item ≡ Some x.act = subst (λ (j : ℕ). act_of (p.counts j) item ≡ Some act) same does ∙ ap (λ a. Some a) (sym step.act_is) in
          let count = counts_own k (counts_after item x.reply.counted (p.counts k)) same ∙ ap (λ (j : ℕ). counts_after item x.reply.counted (p.counts j)) same in
          let w = steps_on item more x _ mine own count here.1 in
          let close = x.reply.close || closes item in
          elim (option_cases (sent_of x.reply)) [
            | inl none ↦ elim (cases_Bool close) [
              | inl shut_ ↦ with_step x _ e one is
                  (asked_shutting n items (ss ++ x ∷ []) _
                  (ap (λ (o : Option (List ℕ)). phase_after k o close more) none ∙ ap (λ (b : Bool). phase_after k None b more) shut_ ∙ ap (λ (j : ℕ). shutting j) same)
                  (partly_of n items (ss ++ x ∷ []) _ more w) here.0)
              | inr stays ↦ with_step x _ e one is
                  (asked_acting n items (ss ++ x ∷ []) _ more
                  (ap (λ (o : Option (List ℕ)). phase_after k o close more) none ∙ ap (λ (b : Bool). phase_after k None b more) stays ∙ ap (λ (j : ℕ). acting j more) same)
                  w here.0)
            ]
            | inr (text, some) ↦ with_step x _ e one is
                (asked_sending n items (ss ++ x ∷ []) _ text close more
                (ap (λ (o : Option (List ℕ)). phase_after k o close more) some ∙ ap (λ (j : ℕ). sending j text close more) same)
                (partly_of n items (ss ++ x ∷ []) _ more w) (λ stays. w) here.0)
          ]
      | inr other ↦ with_step x _ e one is
          (step_elsewhere x _ (λ c. other (let both : Some k ≡ Some n = sym conn ∙ c in cc)) (subst (λ (f : Phase). IsAway n f) (sym phase) other) (away_after n k (sent_of x.reply) _ more other)
          (counts_other k _ other))
    ]
    move_asked told (wants k more phase e none is) few = elim (cases_eq k n) [
      | inl same ↦
          let here = s.acting_on more (phase_by k (λ (j : ℕ). acting j more) same phase) in
          with_none _ e none is
          (asked_sending n items ss _ NO_MEMORY.now true [] (ap (λ (j : ℕ). sending j NO_MEMORY.now true []) same) s.partly (λ stays. absurd (cc)) here.0)
      | inr other ↦ with_none _ e none is (none_elsewhere _ (subst (λ (f : Phase). IsAway n f) (sym phase) other) other refl)
    ]
    move_asked told (done k phase e none is) few = elim (cases_eq k n) [
      | inl same ↦
          let here = s.acting_on [] (phase_by k (λ (j : ℕ). acting j []) same phase) in
          with_none _ e none is (asked_away n items ss _ tt s.partly s.fresh (λ among. here.1))
      | inr other ↦ with_none _ e none is (none_elsewhere _ (subst (λ (f : Phase). IsAway n f) (sym phase) other) tt refl)
    ]
    move_asked told (sent m k text close more phase after e none is) few = elim (cases_eq k n) [
      | inl same ↦
          let here = s.sends text close more (phase_by k (λ (j : ℕ). sending j text close more) same phase) in
          let deal = Sent k text false in
          let bytes = bytes_sent n k m text false items in
          elim (cases_Bool close) [
            | inl shut_ ↦ with_entry m deal _ e none is
                (asked_shutting n (items ++ at m deal) ss _ (ap (λ (b : Bool). if b then shutting k else acting k more) shut_ ∙ ap (λ (j : ℕ). shutting j) same)
                (partly_same n items (items ++ at m deal) ss bytes s.partly) (opens_still m deal here.0))
            | inr stays ↦ with_entry m deal _ e none is
                (asked_acting n (items ++ at m deal) ss _ more (ap (λ (b : Bool). if b then shutting k else acting k more) stays ∙ ap (λ (j : ℕ). acting j more) same)
                (whole_as n items (items ++ at m deal) ss (p.counts n) (p.counts n) more bytes refl (here.1 stays)) (opens_still m deal here.0))
          ]
      | inr other ↦ with_entry m (Sent k text false) _ e none is
          (entry_elsewhere m (Sent k text false) _ (quiet_sent n k m text false items other) (subst (λ (f : Phase). IsAway n f) (sym phase) other) (away_after n k None close more other) refl)
    ]
    move_asked told (failed m k j text close more phase after e none is) few = elim (cases_eq k n) [
      | inl same ↦
          let here = s.sends text close more (phase_by k (λ (i : ℕ). sending i text close more) same phase) in
          let deal = Sent k (take j text) true in
          with_entry m deal _ e none is
          (asked_shutting n (items ++ at m deal) ss _ (ap (λ (i : ℕ). shutting i) same) (partly_same n items (items ++ at m deal) ss (bytes_sent n k m (take j text) true items) s.partly)
          (opens_still m deal here.0))
      | inr other ↦ with_entry m (Sent k (take j text) true) _ e none is
          (entry_elsewhere m (Sent k (take j text) true) _ (quiet_sent n k m (take j text) true items other) (subst (λ (f : Phase). IsAway n f) (sym phase) other) other refl)
    ]
    move_asked told (unsent k text close more phase e none is) few = elim (cases_eq k n) [
      | inl same ↦
          let here = s.sends text close more (phase_by k (λ (i : ℕ). sending i text close more) same phase) in
          with_none _ e none is (asked_shutting n items ss _ (ap (λ (i : ℕ). shutting i) same) s.partly here.0)
      | inr other ↦ with_none _ e none is (none_elsewhere _ (subst (λ (f : Phase). IsAway n f) (sym phase) other) other refl)
    ]
    move_asked told (shut m k phase e none is) few = elim (cases_eq k n) [
      | inl same ↦
          let here = s.shuts (phase_by k (λ (i : ℕ). shutting i) same phase) in
          with_entry m (Shut k) _ e none is
          (asked_away n (items ++ at m (Shut k)) ss _ tt (partly_same n items (items ++ at m (Shut k)) ss (quiet_shut n k m items).0 s.partly) (fresh_on m (Shut k))
          (λ now. absurd (let gone = not_live n k m items same in cc)))
      | inr other ↦ with_entry m (Shut k) _ e none is (entry_elsewhere m (Shut k) _ (quiet_shut n k m items) (subst (λ (f : Phase). IsAway n f) (sym phase) other) tt refl)
    ]
    move_asked told (declared header x phase conn step e one is) few = with_step x _ e one is
        (step_elsewhere x _ (λ c. let both : None ≡ Some n = sym conn ∙ c in cc) (away_idle n p.phase phase) tt refl)
    move_asked told (recalled a x phase conn step e one is) few = with_step x _ e one is
        (step_elsewhere x _ (λ c. let both : None ≡ Some n = sym conn ∙ c in cc) (away_idle n p.phase phase) tt refl)

-- ---- a run

run_asked : Fronts → (told : Bool) (first : Machine) (begin faults : ℕ) (items : List Item) (steps : List Stepped) (p : Point) → Run told first begin faults items steps p
    → (n : ℕ) → openings n items ≤ 1 → Asked n items steps p
run_asked front told first begin faults [] [] p begins n few =
    asked_away n [] [] p tt (partly_new n [] [] (none_received n) nothing) (λ none. nothing) (λ now. absurd (none_live n now))
run_asked front told first begin faults items steps q (goes_on was es items' ss xs steps' p q' run move now all) n few =
    let few_now : openings n (was ++ es) ≤ 1 = subst (λ (l : List Item). openings n l ≤ 1) now few in
    let few_was : openings n was ≤ 1 = let sum = openings_both n was es in omega (arith, sum, few_now) in
    subst (λ (l : List Item). Asked n l steps q) (sym now) (subst (λ (ys : List Stepped). Asked n (was ++ es) ys q) (sym all)
    (move_asked front n was ss p (run_asked front told first begin faults was ss p run n few_was) es xs q told move few_now))

pub become_steps : Fronts → (told : Bool) (first : Machine) (begin faults : ℕ) (items : List Item) (steps : List Stepped) (p : Point) → Run told first begin faults items steps p
    → (n : ℕ) → openings n items ≤ 1 → BecomeSteps n items steps p
become_steps front told first begin faults items steps p run n few =
    let a = run_asked front told first begin faults items steps p run n few in
    record {
      read = a.partly.read;
      late = a.partly.late;
      came = a.partly.came;
      given = a.partly.given;
      are = a.partly.are;
      done = a.partly.finished;
      rest = a.partly.rest;
      front = a.partly.front;
      counts = a.partly.counts;
      acts = a.partly.acts;
      all = λ rests among.
          let w = a.at_rest (away_idle n p.phase rests) among in
          record { given = w.0; are = w.2; counts = p.counts n; acts = subst (λ ws. AreActs n steps ws (p.counts n)) (sym (w.3 ∙ append-nil w.1)) w.4 };
    }
