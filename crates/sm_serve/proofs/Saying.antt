-- What went out on a connection, beside what was told on it.
use Rattle.std.proofs.Common.{◌≡◌, ◌⊎◌, inl, inr, ⊎_elim, ℕ, ◌+◌, ◌≤◌, ◌==◌, Bool, true, false, ◌||◌, if◌then◌else◌, List, [], ◌∷◌, ◌++◌, take, drop, Option, Some, None, refl, sym, ◌∙◌, ap, subst, arith, append_assoc, take-append-drop}
use Rattle.std.specs.List.{concat}
use Rattle.std.proofs.lemmas.List.{append-nil}
use Rattle.std.proofs.lemmas.List.Folds.{concat-append}
use Rattle.std.proofs.lemmas.Bool.{eq-eqb, ne_eqb, cases_eq, cases_Bool}
use Rattle.sm_site.specs.Meanings.{Deal, Item, sent_by, sent_on}
use Rattle.sm_site.specs.Meanings.Deal.{Began, Came, Left, Over, Sent, Shut}
use Rattle.sm_head.specs.declared.reply.TheConstants.{CONTINUE, NO_MEMORY}
use Rattle.sm_wire.specs.declared.item.WireItem.{WireItem}
use Rattle.sm_wire.specs.declared.item.WireItem.TheVariants.{Continue}
use Rattle.sm_origin.specs.Machine.{Machine}
use Rattle.sm_serve.specs.declared.texts.TheConstants.{TOO_MANY}
use Rattle.sm_serve.specs.Connections.{live_after, live_from, live, is_among}
use Rattle.sm_serve.specs.Run.{Phase, idle, acting, sending, shutting, at, sent_of, closes, phase_after, Point, Stepped, Moves, opened, crowded, came, unread, passed, left, over, continues, acts_on, wants, done, sent, failed, unsent, shut, declared, recalled, Run, begins, goes_on}
use Rattle.sm_serve.specs.Sent.{opens, openings, StandsReady, AreTexts, nothing, ready, replied, silent, other as of_other, IsFrontOfTexts}
use Rattle.sm_serve.proofs.Answering.{IsAway}
use Rattle.sm_serve.proofs.Stepping.{away_after, option_cases}
use Rattle.sm_serve.proofs.Quiet.{IsQuiet, quiet_began, quiet_came, quiet_left, quiet_over, quiet_sent, quiet_shut, began_less, ended_less, not_live, still_live}

-- ---- one entry more

openings_push : (n m : ℕ) (items : List Item) (deal : Deal) → openings n (items ++ at m deal) ≡ openings n items + opens n deal
unfolding openings
openings_push n m [] deal = omega arith
openings_push n m (x ∷ items) deal = let rest = openings_push n m items deal in omega (arith, rest)

sent_push : (n m : ℕ) (items : List Item) (deal : Deal) → sent_on n (items ++ at m deal) ≡ sent_on n items ++ sent_by n deal
sent_push n m [] deal = append-nil (sent_by n deal)
sent_push n m (x ∷ items) deal = ap (λ (l : List ℕ). sent_by n x.deal ++ l) (sent_push n m items deal) ∙ sym (append_assoc (sent_by n x.deal) (sent_on n items) (sent_by n deal))

-- a connection that is live was opened
step_opens : (n : ℕ) (ns : List ℕ) (deal : Deal) → is_among n (live_after ns deal) ≡ true → (is_among n ns ≡ true) ⊎ (1 ≤ opens n deal)
step_opens n ns (Began k) now = elim (cases_eq k n) [
  | inl same ↦ inr (subst (λ (b : Bool). 1 ≤ (if b then 1 else 0)) (sym (eq-eqb k n same)) (omega arith))
  | inr other ↦ inl (began_less n k ns other now)
]
step_opens n ns (Came k bytes) now = inl now
step_opens n ns (Left k) now = inl (ended_less n k ns now)
step_opens n ns Over now = inl now
step_opens n ns (Sent k bytes broken) now = inl now
step_opens n ns (Shut k) now = inl (ended_less n k ns now)

opened_from : (n : ℕ) (ns : List ℕ) (items : List Item) → is_among n (live_from ns items) ≡ true → (is_among n ns ≡ true) ⊎ (1 ≤ openings n items)
unfolding openings
opened_from n ns [] now = inl now
opened_from n ns (x ∷ items) now = elim (opened_from n (live_after ns x.deal) items now) [
  | inl there ↦ elim (step_opens n ns x.deal there) [
    | inl before ↦ inl before
    | inr here ↦ inr (omega (arith, here))
  ]
  | inr later ↦ inr (omega (arith, later))
]

live_opened : (n : ℕ) (items : List Item) → is_among n (live items) ≡ true → 1 ≤ openings n items
unfolding live
live_opened n items now = elim (opened_from n [] items now) [
  | inl none ↦ absurd (cc)
  | inr some ↦ some
]

-- ---- texts

-- texts of which all went out but this rest
abbrev Told : ℕ → List Item → List Stepped → List ℕ → Type 0
Told n items ss rest = (texts : List (List ℕ)) × AreTexts n ss texts × (concat texts ≡ sent_on n items ++ rest)

told_as : (n : ℕ) (items : List Item) (ss : List Stepped) (rest now : List ℕ) → rest ≡ now → Told n items ss rest → Told n items ss now
told_as n items ss rest now is told = subst (λ (l : List ℕ). Told n items ss l) is told

told_entry : (n m : ℕ) (items : List Item) (ss : List Stepped) (deal : Deal) (rest now : List ℕ) → rest ≡ sent_by n deal ++ now → Told n items ss rest → Told n (items ++ at m deal) ss now
told_entry n m items ss deal rest now is (texts, are, front) = (
  texts,
  are,
  front ∙ ap (λ (l : List ℕ). sent_on n items ++ l) is ∙ sym (append_assoc (sent_on n items) (sent_by n deal) now) ∙ ap (λ (l : List ℕ). l ++ now) (sym (sent_push n m items deal)),
)

one_more : (texts : List (List ℕ)) (text went : List ℕ) → concat texts ≡ went ++ [] → concat (texts ++ text ∷ []) ≡ went ++ text
one_more texts text went front =
    concat-append texts (text ∷ []) ∙ ap (λ (l : List ℕ). concat texts ++ l) (append-nil text) ∙ ap (λ (l : List ℕ). l ++ text) (front ∙ append-nil went)

told_ready : (n : ℕ) (items : List Item) (ss : List Stepped) (text : List ℕ) → StandsReady text → Told n items ss [] → Told n items ss text
told_ready n items ss text stands (texts, are, front) = (texts ++ text ∷ [], ready ss texts text are stands, one_more texts text (sent_on n items) front)

told_reply : (n : ℕ) (items : List Item) (ss : List Stepped) (x : Stepped) (text : List ℕ) → x.conn ≡ Some n → sent_of x.reply ≡ Some text → Told n items ss [] → Told n items (ss ++ x ∷ []) text
told_reply n items ss x text conn some (texts, are, front) = (texts ++ text ∷ [], replied ss texts x text are conn some, one_more texts text (sent_on n items) front)

told_silent : (n : ℕ) (items : List Item) (ss : List Stepped) (x : Stepped) (rest : List ℕ) → x.conn ≡ Some n → sent_of x.reply ≡ None → Told n items ss rest → Told n items (ss ++ x ∷ []) rest
told_silent n items ss x rest conn none (texts, are, front) = (texts, silent ss texts x are conn none, front)

told_other : (n : ℕ) (items : List Item) (ss : List Stepped) (x : Stepped) (rest : List ℕ) → (x.conn ≡ Some n → ⊥) → Told n items ss rest → Told n items (ss ++ x ∷ []) rest
told_other n items ss x rest conn (texts, are, front) = (texts, of_other ss texts x are conn, front)

-- ---- what stands at a point

-- between two events of the connection
record Rests (n : ℕ) (items : List Item) (failures : ℕ) (rest : List ℕ) : Type 0 where
  unopened : openings n items ≡ 0 → rest ≡ []
  is_live : is_among n (live items) ≡ true → rest ≡ []
  unfailed : failures ≡ 0 → rest ≡ []

record Said (n : ℕ) (items : List Item) (ss : List Stepped) (p : Point) : Type 0 where
  rest : List ℕ
  told : Told n items ss rest
  away : IsAway n p.phase → Rests n items p.failed rest
  acting_on : (more : List WireItem) → p.phase ≡ acting n more → (1 ≤ openings n items) × (rest ≡ [])
  sends : (text : List ℕ) (close : Bool) (more : List WireItem) → p.phase ≡ sending n text close more → (1 ≤ openings n items) × (rest ≡ text)
  shuts : p.phase ≡ shutting n → (1 ≤ openings n items) × (p.failed ≡ 0 → rest ≡ [])

module _ (n : ℕ) (items : List Item) (ss : List Stepped) (q : Point) where
  not_away : (f : Phase) → q.phase ≡ f → (IsAway n f → ⊥) → IsAway n q.phase → ⊥
  not_away f is here away = here (subst (λ (g : Phase). IsAway n g) is away)

  said_acting : (more : List WireItem) → q.phase ≡ acting n more → Told n items ss [] → 1 ≤ openings n items → Said n items ss q
  said_acting more phase told opened_ = record {
    rest = [];
    told = told;
    away = λ away. absurd (not_away (acting n more) phase (λ f. f refl) away);
    acting_on = λ others is. (opened_, refl);
    sends = λ text close others is. absurd (let e : acting n more ≡ sending n text close others = sym phase ∙ is in cc);
    shuts = λ is. (opened_, λ none. refl);
  }

  said_sending : (text : List ℕ) (close : Bool) (more : List WireItem) → q.phase ≡ sending n text close more → Told n items ss text → 1 ≤ openings n items → Said n items ss q
  said_sending text close more phase told opened_ = record {
    rest = text;
    told = told;
    away = λ away. absurd (not_away (sending n text close more) phase (λ f. f refl) away);
    acting_on = λ others is. absurd (let e : sending n text close more ≡ acting n others = sym phase ∙ is in cc);
    sends = λ words closing others is. (opened_, let e : sending n text close more ≡ sending n words closing others = sym phase ∙ is in let same : text ≡ words = cc in same);
    shuts = λ is. absurd (let e : sending n text close more ≡ shutting n = sym phase ∙ is in cc);
  }

  said_shutting : (rest : List ℕ) → q.phase ≡ shutting n → Told n items ss rest → 1 ≤ openings n items → (q.failed ≡ 0 → rest ≡ []) → Said n items ss q
  said_shutting rest phase told opened_ unfailed = record {
    rest = rest;
    told = told;
    away = λ away. absurd (not_away (shutting n) phase (λ f. f refl) away);
    acting_on = λ others is. absurd (let e : shutting n ≡ acting n others = sym phase ∙ is in cc);
    sends = λ text close others is. absurd (let e : shutting n ≡ sending n text close others = sym phase ∙ is in cc);
    shuts = λ is. (opened_, unfailed);
  }

  said_away : (rest : List ℕ) → IsAway n q.phase → Told n items ss rest → Rests n items q.failed rest → Said n items ss q
  said_away rest away told rests = record {
    rest = rest;
    told = told;
    away = λ t. rests;
    acting_on = λ others is. absurd (subst (λ (f : Phase). IsAway n f) is away refl);
    sends = λ text close others is. absurd (subst (λ (f : Phase). IsAway n f) is away refl);
    shuts = λ is. absurd (subst (λ (f : Phase). IsAway n f) is away refl);
  }

none_rests : (n : ℕ) (items : List Item) (failures : ℕ) → Rests n items failures []
none_rests n items failures = record { unopened = λ e. refl; is_live = λ e. refl; unfailed = λ e. refl }

away_idle : (n : ℕ) (f : Phase) → f ≡ idle → IsAway n f
away_idle n f is = subst (λ (g : Phase). IsAway n g) (sym is) tt

-- ---- the moves

module _ (n : ℕ) (items : List Item) (ss : List Stepped) (p : Point) (s : Said n items ss p) where
  rests_on : (m failures : ℕ) (deal : Deal) → IsQuiet n items (at m deal) → (failures ≡ 0 → p.failed ≡ 0) → Rests n items p.failed s.rest → Rests n (items ++ at m deal) failures s.rest
  rests_on m failures deal quiet fails r = record {
    unopened = λ none. r.unopened (let sum = openings_push n m items deal in omega (arith, sum, none));
    is_live = λ now. r.is_live (quiet.2 now);
    unfailed = λ none. r.unfailed (fails none);
  }

  -- an entry of another connection, or of none
  entry_elsewhere : (m : ℕ) (deal : Deal) (r : Point) → sent_by n deal ≡ [] → IsQuiet n items (at m deal) → IsAway n p.phase → IsAway n r.phase → (r.failed ≡ 0 → p.failed ≡ 0) → Said n (items ++ at m deal) ss r
  entry_elsewhere m deal r none quiet was now fails =
      said_away n (items ++ at m deal) ss r s.rest now (told_entry n m items ss deal s.rest s.rest (sym (ap (λ (l : List ℕ). l ++ s.rest) none)) s.told)
      (rests_on m r.failed deal quiet fails (s.away was))

  none_elsewhere : (r : Point) → IsAway n p.phase → IsAway n r.phase → (r.failed ≡ 0 → p.failed ≡ 0) → Said n items ss r
  none_elsewhere r was now fails =
      let rests = s.away was in
      said_away n items ss r s.rest now s.told (record { unopened = rests.unopened; is_live = rests.is_live; unfailed = λ none. rests.unfailed (fails none) })

  step_elsewhere : (x : Stepped) (r : Point) → (x.conn ≡ Some n → ⊥) → IsAway n p.phase → IsAway n r.phase → r.failed ≡ p.failed → Said n items (ss ++ x ∷ []) r
  step_elsewhere x r conn was now fails =
      let rests = s.away was in
      said_away n items (ss ++ x ∷ []) r s.rest now (told_other n items ss x s.rest conn s.told)
      (record { unopened = rests.unopened; is_live = rests.is_live; unfailed = λ none. rests.unfailed (sym fails ∙ none) })

  -- nothing is left to be sent
  clean_live : p.phase ≡ idle → is_among n (live items) ≡ true → Told n items ss []
  clean_live phase among = told_as n items ss s.rest [] ((s.away (away_idle n p.phase phase)).is_live among) s.told

  clean_acting : (more : List WireItem) → p.phase ≡ acting n more → Told n items ss []
  clean_acting more phase = told_as n items ss s.rest [] (s.acting_on more phase).1 s.told

  clean_new : (m k : ℕ) → k ≡ n → p.phase ≡ idle → openings n (items ++ at m (Began k)) ≤ 1 → Told n items ss []
  clean_new m k same phase few =
      told_as n items ss s.rest []
      ((s.away (away_idle n p.phase phase)).unopened
      (let sum = openings_push n m items (Began k) in let one : opens n (Began k) ≡ 1 = ap (λ (b : Bool). if b then 1 else 0) (eq-eqb k n same) in omega (arith, sum, one, few))) s.told

  opens_now : (m k : ℕ) → k ≡ n → 1 ≤ openings n (items ++ at m (Began k))
  opens_now m k same = let sum = openings_push n m items (Began k) in let one : opens n (Began k) ≡ 1 = ap (λ (b : Bool). if b then 1 else 0) (eq-eqb k n same) in omega (arith, sum, one)

  opens_still : (m : ℕ) (deal : Deal) → 1 ≤ openings n items → 1 ≤ openings n (items ++ at m deal)
  opens_still m deal some = let sum = openings_push n m items deal in omega (arith, sum, some)

  live_by : (k : ℕ) → k ≡ n → is_among k (live items) ≡ true → is_among n (live items) ≡ true
  live_by k same among = subst (λ (j : ℕ). is_among j (live items) ≡ true) same among

  phase_by : (k : ℕ) (f : ℕ → Phase) → k ≡ n → p.phase ≡ f k → p.phase ≡ f n
  phase_by k f same phase = phase ∙ ap f same

  sent_here : (k : ℕ) (part : List ℕ) → k ≡ n → (if k == n then part else []) ≡ part
  sent_here k part same = ap (λ (b : Bool). if b then part else []) (eq-eqb k n same)

  module _ (es : List Item) (xs : List Stepped) (q : Point) where
    with_entry : (m : ℕ) (deal : Deal) (r : Point) → es ≡ at m deal → xs ≡ [] → q ≡ r → Said n (items ++ at m deal) ss r → Said n (items ++ es) (ss ++ xs) q
    with_entry m deal r e none is said =
        subst (λ (l : List Item). Said n (items ++ l) (ss ++ xs) q) (sym e)
        (subst (λ (ys : List Stepped). Said n (items ++ at m deal) ys q) (sym (ap (λ (ys : List Stepped). ss ++ ys) none ∙ append-nil ss))
        (subst (λ (point : Point). Said n (items ++ at m deal) ss point) (sym is) said))

    with_none : (r : Point) → es ≡ [] → xs ≡ [] → q ≡ r → Said n items ss r → Said n (items ++ es) (ss ++ xs) q
    with_none r e none is said =
        subst (λ (l : List Item). Said n l (ss ++ xs) q) (sym (ap (λ (l : List Item). items ++ l) e ∙ append-nil items))
        (subst (λ (ys : List Stepped). Said n items ys q) (sym (ap (λ (ys : List Stepped). ss ++ ys) none ∙ append-nil ss))
        (subst (λ (point : Point). Said n items ss point) (sym is) said))

    with_step : (x : Stepped) (r : Point) → es ≡ [] → xs ≡ x ∷ [] → q ≡ r → Said n items (ss ++ x ∷ []) r → Said n (items ++ es) (ss ++ xs) q
    with_step x r e one is said =
        subst (λ (l : List Item). Said n l (ss ++ xs) q) (sym (ap (λ (l : List Item). items ++ l) e ∙ append-nil items))
        (subst (λ (ys : List Stepped). Said n items (ss ++ ys) q) (sym one)
        (subst (λ (point : Point). Said n items (ss ++ x ∷ []) point) (sym is) said))

    move_said : (told : Bool) → Moves told items p es xs q → openings n (items ++ es) ≤ 1 → Said n (items ++ es) (ss ++ xs) q
    move_said told (opened m k phase many e none is) few = elim (cases_eq k n) [
      | inl same ↦ with_entry m (Began k) _ e none is
          (said_acting n (items ++ at m (Began k)) ss _ [] (ap (λ (j : ℕ). acting j []) same)
          (told_entry n m items ss (Began k) [] [] refl (clean_new m k same phase (subst (λ (l : List Item). openings n (items ++ l) ≤ 1) e few))) (opens_now m k same))
      | inr other ↦ with_entry m (Began k) _ e none is (entry_elsewhere m (Began k) _ refl (quiet_began n k m items other) (away_idle n p.phase phase) other (λ f. f))
    ]
    move_said told (crowded m k phase many e none is) few = elim (cases_eq k n) [
      | inl same ↦ with_entry m (Began k) _ e none is
          (said_sending n (items ++ at m (Began k)) ss _ TOO_MANY.now true [] (ap (λ (j : ℕ). sending j TOO_MANY.now true []) same)
          (told_ready n (items ++ at m (Began k)) ss TOO_MANY.now (inr (inr refl))
          (told_entry n m items ss (Began k) [] [] refl (clean_new m k same phase (subst (λ (l : List Item). openings n (items ++ l) ≤ 1) e few)))) (opens_now m k same))
      | inr other ↦ with_entry m (Began k) _ e none is (entry_elsewhere m (Began k) _ refl (quiet_began n k m items other) (away_idle n p.phase phase) other (λ f. f))
    ]
    move_said told (came m k bytes given more phase among e none one two is) few = elim (cases_eq k n) [
      | inl same ↦ with_entry m (Came k bytes) _ e none is
          (said_acting n (items ++ at m (Came k bytes)) ss _ more (ap (λ (j : ℕ). acting j more) same)
          (told_entry n m items ss (Came k bytes) [] [] refl (clean_live phase (live_by k same among))) (opens_still m (Came k bytes) (live_opened n items (live_by k same among))))
      | inr other ↦ with_entry m (Came k bytes) _ e none is (entry_elsewhere m (Came k bytes) _ refl (quiet_came n k m bytes items other) (away_idle n p.phase phase) other (λ f. f))
    ]
    move_said told (unread m k bytes phase among e none is) few = elim (cases_eq k n) [
      | inl same ↦ with_entry m (Came k bytes) _ e none is
          (said_sending n (items ++ at m (Came k bytes)) ss _ NO_MEMORY.now true [] (ap (λ (j : ℕ). sending j NO_MEMORY.now true []) same)
          (told_ready n (items ++ at m (Came k bytes)) ss NO_MEMORY.now (inr (inl refl)) (told_entry n m items ss (Came k bytes) [] [] refl (clean_live phase (live_by k same among))))
          (opens_still m (Came k bytes) (live_opened n items (live_by k same among))))
      | inr other ↦ with_entry m (Came k bytes) _ e none is (entry_elsewhere m (Came k bytes) _ refl (quiet_came n k m bytes items other) (away_idle n p.phase phase) other (λ f. f))
    ]
    move_said told (passed m k bytes phase gone e none is) few = elim (cases_eq k n) [
      | inl same ↦ with_entry m (Came k bytes) _ e none is
          (said_away n (items ++ at m (Came k bytes)) ss _ s.rest tt (told_entry n m items ss (Came k bytes) s.rest s.rest refl s.told)
          (record {
            unopened = λ zero_. (s.away (away_idle n p.phase phase)).unopened (let sum = openings_push n m items (Came k bytes) in omega (arith, sum, zero_));
            is_live = λ now. (s.away (away_idle n p.phase phase)).is_live (sym (still_live n k m bytes items) ∙ now);
            unfailed = (s.away (away_idle n p.phase phase)).unfailed;
          }))
      | inr other ↦ with_entry m (Came k bytes) _ e none is (entry_elsewhere m (Came k bytes) _ refl (quiet_came n k m bytes items other) (away_idle n p.phase phase) tt (λ f. f))
    ]
    move_said told (left m k phase e none is) few = with_entry m (Left k) _ e none is (entry_elsewhere m (Left k) _ refl (quiet_left n k m items) (away_idle n p.phase phase) tt (λ f. f))
    move_said told (over m phase e none is) few = with_entry m Over _ e none is (entry_elsewhere m Over _ refl (quiet_over n m items) (away_idle n p.phase phase) tt (λ f. f))
    move_said told (continues k more phase e none is) few = elim (cases_eq k n) [
      | inl same ↦ with_none _ e none is
          (said_sending n items ss _ CONTINUE.now false more (ap (λ (j : ℕ). sending j CONTINUE.now false more) same)
          (told_ready n items ss CONTINUE.now (inl refl) (clean_acting (Continue ∷ more) (phase_by k (λ (j : ℕ). acting j (Continue ∷ more)) same phase)))
          (s.acting_on (Continue ∷ more) (phase_by k (λ (j : ℕ). acting j (Continue ∷ more)) same phase)).0)
      | inr other ↦ with_none _ e none is (none_elsewhere _ (subst (λ (f : Phase). IsAway n f) (sym phase) other) other (λ f. f))
    ]
    move_said told (acts_on k item more act x phase does conn step e one is) few = elim (cases_eq k n) [
      | inl same ↦
          let here = s.acting_on (item ∷ more) (phase_by k (λ (j : ℕ). acting j (item ∷ more)) same phase) in
          let clean = clean_acting (item ∷ more) (phase_by k (λ (j : ℕ). acting j (item ∷ more)) same phase) in
          let mine : x.conn ≡ Some n = conn ∙ ap (λ (j : ℕ). Some j) same in
          let close = x.reply.close || closes item in
          elim (option_cases (sent_of x.reply)) [
            | inl none ↦ elim (cases_Bool close) [
              | inl shut_ ↦ with_step x _ e one is
                  (said_shutting n items (ss ++ x ∷ []) _ []
                  (ap (λ (o : Option (List ℕ)). phase_after k o close more) none ∙ ap (λ (b : Bool). phase_after k None b more) shut_ ∙ ap (λ (j : ℕ). shutting j) same)
                  (told_silent n items ss x [] mine none clean) here.0 (λ f. refl))
              | inr stays ↦ with_step x _ e one is
                  (said_acting n items (ss ++ x ∷ []) _ more
                  (ap (λ (o : Option (List ℕ)). phase_after k o close more) none ∙ ap (λ (b : Bool). phase_after k None b more) stays ∙ ap (λ (j : ℕ). acting j more) same)
                  (told_silent n items ss x [] mine none clean) here.0)
            ]
            | inr (text, some) ↦ with_step x _ e one is
                (said_sending n items (ss ++ x ∷ []) _ text close more
                (ap (λ (o : Option (List ℕ)). phase_after k o close more) some ∙ ap (λ (j : ℕ). sending j text close more) same) (told_reply n items ss x text mine some clean) here.0)
          ]
      | inr other ↦ with_step x _ e one is
          (step_elsewhere x _ (λ c. other (let both : Some k ≡ Some n = sym conn ∙ c in cc)) (subst (λ (f : Phase). IsAway n f) (sym phase) other) (away_after n k (sent_of x.reply) _ more other) refl)
    ]
    move_said told (wants k more phase e none is) few = elim (cases_eq k n) [
      | inl same ↦ with_none _ e none is
          (said_sending n items ss _ NO_MEMORY.now true [] (ap (λ (j : ℕ). sending j NO_MEMORY.now true []) same)
          (told_ready n items ss NO_MEMORY.now (inr (inl refl)) (clean_acting more (phase_by k (λ j. acting j more) same phase))) (s.acting_on more (phase_by k (λ j. acting j more) same phase)).0)
      | inr other ↦ with_none _ e none is (none_elsewhere _ (subst (λ (f : Phase). IsAway n f) (sym phase) other) other (λ f. f))
    ]
    move_said told (done k phase e none is) few = elim (cases_eq k n) [
      | inl same ↦ with_none _ e none is (said_away n items ss _ [] tt (clean_acting [] (phase_by k (λ j. acting j []) same phase)) (none_rests n items _))
      | inr other ↦ with_none _ e none is (none_elsewhere _ (subst (λ (f : Phase). IsAway n f) (sym phase) other) tt (λ f. f))
    ]
    move_said told (sent m k text close more phase after e none is) few = elim (cases_eq k n) [
      | inl same ↦
          let here = s.sends text close more (phase_by k (λ (j : ℕ). sending j text close more) same phase) in
          let deal = Sent k text false in
          let whole : s.rest ≡ sent_by n deal ++ [] = here.1 ∙ sym (ap (λ (l : List ℕ). l ++ []) (sent_here k text same) ∙ append-nil text) in
          let now = told_entry n m items ss deal s.rest [] whole s.told in
          elim (cases_Bool close) [
            | inl shut_ ↦ with_entry m deal _ e none is
                (said_shutting n (items ++ at m deal) ss _ [] (ap (λ (b : Bool). if b then shutting k else acting k more) shut_ ∙ ap (λ (j : ℕ). shutting j) same) now (opens_still m deal here.0) (λ f. refl))
            | inr stays ↦ with_entry m deal _ e none is
                (said_acting n (items ++ at m deal) ss _ more (ap (λ (b : Bool). if b then shutting k else acting k more) stays ∙ ap (λ (j : ℕ). acting j more) same) now (opens_still m deal here.0))
          ]
      | inr other ↦ with_entry m (Sent k text false) _ e none is
          (entry_elsewhere m (Sent k text false) _ (ap (λ (b : Bool). if b then text else []) (ne_eqb k n other)) (quiet_sent n k m text false items other)
          (subst (λ (f : Phase). IsAway n f) (sym phase) other) (away_after n k None close more other) (λ f. f))
    ]
    move_said told (failed m k j text close more phase after e none is) few = elim (cases_eq k n) [
      | inl same ↦
          let here = s.sends text close more (phase_by k (λ (i : ℕ). sending i text close more) same phase) in
          let deal = Sent k (take j text) true in
          let parts : s.rest ≡ sent_by n deal ++ drop j text = here.1 ∙ sym (take-append-drop j text) ∙ sym (ap (λ (l : List ℕ). l ++ drop j text) (sent_here k (take j text) same)) in
          with_entry m deal _ e none is
          (said_shutting n (items ++ at m deal) ss _ (drop j text) (ap (λ (i : ℕ). shutting i) same) (told_entry n m items ss deal s.rest (drop j text) parts s.told) (opens_still m deal here.0)
          (λ zero_. absurd (omega (arith, zero_))))
      | inr other ↦ with_entry m (Sent k (take j text) true) _ e none is
          (entry_elsewhere m (Sent k (take j text) true) _ (ap (λ (b : Bool). if b then take j text else []) (ne_eqb k n other)) (quiet_sent n k m (take j text) true items other)
          (subst (λ (f : Phase). IsAway n f) (sym phase) other) other (λ zero_. absurd (omega (arith, zero_))))
    ]
    move_said told (unsent k text close more phase e none is) few = elim (cases_eq k n) [
      | inl same ↦
          let here = s.sends text close more (phase_by k (λ (i : ℕ). sending i text close more) same phase) in
          with_none _ e none is (said_shutting n items ss _ s.rest (ap (λ (i : ℕ). shutting i) same) s.told here.0 (λ zero_. absurd (omega (arith, zero_))))
      | inr other ↦ with_none _ e none is (none_elsewhere _ (subst (λ (f : Phase). IsAway n f) (sym phase) other) other (λ zero_. absurd (omega (arith, zero_))))
    ]
    move_said told (shut m k phase e none is) few = elim (cases_eq k n) [
      | inl same ↦
          let here = s.shuts (phase_by k (λ (i : ℕ). shutting i) same phase) in
          with_entry m (Shut k) _ e none is
          (said_away n (items ++ at m (Shut k)) ss _ s.rest tt (told_entry n m items ss (Shut k) s.rest s.rest refl s.told)
          (record {
            unopened = λ zero_. absurd (let some = opens_still m (Shut k) here.0 in omega (arith, some, zero_));
            is_live = λ now. absurd (let gone = not_live n k m items same in cc);
            unfailed = here.1;
          }))
      | inr other ↦ with_entry m (Shut k) _ e none is (entry_elsewhere m (Shut k) _ refl (quiet_shut n k m items) (subst (λ (f : Phase). IsAway n f) (sym phase) other) tt (λ f. f))
    ]
    move_said told (declared header x phase conn step e one is) few = with_step x _ e one is
        (step_elsewhere x _ (λ c. let both : None ≡ Some n = sym conn ∙ c in cc) (away_idle n p.phase phase) tt refl)
    move_said told (recalled a x phase conn step e one is) few = with_step x _ e one is
        (step_elsewhere x _ (λ c. let both : None ≡ Some n = sym conn ∙ c in cc) (away_idle n p.phase phase) tt refl)

-- ---- a run

openings_both : (n : ℕ) (xs ys : List Item) → openings n (xs ++ ys) ≡ openings n xs + openings n ys
unfolding openings
openings_both n [] ys = omega arith
openings_both n (x ∷ xs) ys = let rest = openings_both n xs ys in omega (arith, rest)

run_said : (told : Bool) (first : Machine) (begin faults : ℕ) (items : List Item) (steps : List Stepped) (p : Point) → Run told first begin faults items steps p → (n : ℕ) → openings n items ≤ 1 → Said n items steps p
run_said told first begin faults [] [] p begins n few = said_away n [] [] p [] tt ([], nothing, refl) (none_rests n [] 0)
run_said told first begin faults items steps q (goes_on was es items' ss xs steps' p q' run move now all) n few =
    let few_now : openings n (was ++ es) ≤ 1 = subst (λ (l : List Item). openings n l ≤ 1) now few in
    let few_was : openings n was ≤ 1 = let sum = openings_both n was es in omega (arith, sum, few_now) in
    subst (λ (l : List Item). Said n l steps q) (sym now) (subst (λ (ys : List Stepped). Said n (was ++ es) ys q) (sym all)
    (move_said n was ss p (run_said told first begin faults was ss p run n few_was) es xs q told move few_now))

pub runs_tell : (told : Bool) (first : Machine) (begin faults : ℕ) (items : List Item) (steps : List Stepped) (p : Point) → Run told first begin faults items steps p → (n : ℕ) → openings n items ≤ 1
    → IsFrontOfTexts n items steps p
runs_tell told first begin faults items steps p run n few =
    let s = run_said told first begin faults items steps p run n few in
    record {
      texts = s.told.0;
      are_texts = s.told.1;
      rest = s.rest;
      front = s.told.2;
      whole = λ phase. ⊎_elim (s.away (away_idle n p.phase phase)).unfailed (s.away (away_idle n p.phase phase)).is_live;
    }
