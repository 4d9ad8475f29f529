-- Along each run each connection stands.
use Rattle.std.proofs.Common.{◌≡◌, ◌⊎◌, inl, inr, ℕ, true, None, List, [], ◌∷◌, ◌++◌, refl, sym, ◌∙◌, ap, subst}
use Rattle.std.proofs.lemmas.List.{append-nil}
use Rattle.std.proofs.lemmas.Bool.{cases_eq}
use Rattle.sm_model.specs.declared.entry.Entry.{Entry}
use Rattle.sm_site.specs.Meanings.{Deal, Item}
use Rattle.sm_site.specs.Meanings.Deal.{Began, Came, Left, Over, Sent, Shut}
use Rattle.sm_origin.specs.Machine.{Machine}
use Rattle.sm_origin.specs.Shown.{Claim}
use Rattle.sm_serve.specs.Connections.{received}
use Rattle.sm_serve.specs.Run.{Phase, idle, at, start, sent_of, Point, Stepped, Moves, opened, crowded, came, unread, passed, left, over, continues, acts_on, wants, done, sent, failed, unsent, shut, declared, recalled, Run, begins, goes_on}
use Rattle.sm_serve.specs.Shown.{replies}
use Rattle.sm_serve.proofs.Answering.{HeldIn, TextsHold, HeldBy, Core, IsAway, Stood, WireLaws}
use Rattle.sm_serve.proofs.Adding.{Extends}
use Rattle.sm_serve.proofs.Growing.{itself, Stays, StepsOn}
use Rattle.sm_serve.proofs.Fronts.{steps_on, steps_grow}
use Rattle.sm_serve.proofs.Quiet.{IsQuiet, quiet_none, quiet_began, quiet_came, quiet_left, quiet_over, quiet_sent, quiet_shut}
use Rattle.sm_serve.proofs.Onward.{elsewhere_stood, continues_stood, wants_stood, anew, stands_idle}
use Rattle.sm_serve.proofs.Moving.{opened_own, crowded_own, came_own, unread_own, passed_own, done_stood, unsent_stood, shut_own, sent_own, failed_own}
use Rattle.sm_serve.proofs.Stepping.{away_after, acted}

away_idle : (n : ℕ) (f : Phase) → f ≡ idle → IsAway n f
away_idle n f is = subst (λ (g : Phase). IsAway n g) (sym is) tt

nothing_yet : (laws : WireLaws) (first : Machine) (begin faults n : ℕ) → Stood first [] [] (start first begin faults) n
unfolding received replies
nothing_yet laws first begin faults n =
    let new = anew laws (HeldBy first [] []) (start first begin faults) [] [] refl refl in
    stands_idle first [] [] (start first begin faults) n refl new.0 (λ among. new.1)

module _ (first : Machine) (items : List Item) (ss : List Stepped) (n : ℕ) (es : List Item) (xs : List Stepped) (q : Point) where
  -- a move with an entry and no step, one with neither, and one with a step alone
  with_entry : (m : ℕ) (deal : Deal) (r : Point) → es ≡ at m deal → xs ≡ [] → q ≡ r → Stood first (items ++ at m deal) ss r n → Stood first (items ++ es) (ss ++ xs) q n
  with_entry m deal r e none is s =
      subst (λ (l : List Item). Stood first (items ++ l) (ss ++ xs) q n) (sym e)
      (subst (λ (ys : List Stepped). Stood first (items ++ at m deal) ys q n) (sym (ap (λ (ys : List Stepped). ss ++ ys) none ∙ append-nil ss))
      (subst (λ (point : Point). Stood first (items ++ at m deal) ss point n) (sym is) s))

  with_none : (r : Point) → es ≡ [] → xs ≡ [] → q ≡ r → Stood first items ss r n → Stood first (items ++ es) (ss ++ xs) q n
  with_none r e none is s =
      subst (λ (l : List Item). Stood first l (ss ++ xs) q n) (sym (ap (λ (l : List Item). items ++ l) e ∙ append-nil items))
      (subst (λ (ys : List Stepped). Stood first items ys q n) (sym (ap (λ (ys : List Stepped). ss ++ ys) none ∙ append-nil ss))
      (subst (λ (point : Point). Stood first items ss point n) (sym is) s))

  with_step : (x : Stepped) (r : Point) → es ≡ [] → xs ≡ x ∷ [] → q ≡ r → Stood first items (ss ++ x ∷ []) r n → Stood first (items ++ es) (ss ++ xs) q n
  with_step x r e one is s =
      subst (λ (l : List Item). Stood first l (ss ++ xs) q n) (sym (ap (λ (l : List Item). items ++ l) e ∙ append-nil items))
      (subst (λ (ys : List Stepped). Stood first items (ss ++ ys) q n) (sym one)
      (subst (λ (point : Point). Stood first items (ss ++ x ∷ []) point n) (sym is) s))

module _ (longer : (log more : List Entry) (claim : Claim) → HeldIn log claim → HeldIn (log ++ more) claim)
    (laws : WireLaws) (texts : TextsHold) where
  module _ (first : Machine) (begin faults : ℕ) (items : List Item) (ss : List Stepped) (p : Point) (run : Run true first begin faults items ss p) (n : ℕ) (s : Stood first items ss p n) where
    on : (xs : List Stepped) (q : Point) → Stays p xs q ⊎ StepsOn p xs q → Extends p.machine q.machine
    on xs q (inl (none, same)) = subst (λ (m : Machine). Extends p.machine m) (sym same) (itself p.machine)
    on xs q (inr (x, one, from, step, to)) = subst (λ (m : Machine). Extends p.machine m) (sym to) (steps_on p x from step)

    module _ (es : List Item) (xs : List Stepped) (q : Point) where
      -- a move of another connection, or of none
      elsewhere : Stays p xs q ⊎ StepsOn p xs q → IsQuiet n items es → IsAway n p.phase → IsAway n q.phase → Stood first (items ++ es) (ss ++ xs) q n
      elsewhere kind quiet was now = elsewhere_stood longer first items es ss xs p q n s (steps_grow first begin faults items ss p run xs q kind) (on xs q kind) quiet.0 quiet.1 quiet.2 was now

      entry_elsewhere : (m : ℕ) (deal : Deal) (r : Point) → es ≡ at m deal → xs ≡ [] → q ≡ r → r.machine ≡ p.machine → IsQuiet n items (at m deal) → IsAway n p.phase → IsAway n r.phase
          → Stood first (items ++ es) (ss ++ xs) q n
      entry_elsewhere m deal r e none is same quiet was now =
          elsewhere (inl (none, ap (λ (point : Point). point.machine) is ∙ same)) (subst (λ (l : List Item). IsQuiet n items l) (sym e) quiet) was (subst (λ (point : Point). IsAway n point.phase) (sym is) now)

      move_stood : Moves true items p es xs q → Stood first (items ++ es) (ss ++ xs) q n
      move_stood (opened m k phase few e none is) =
          elim (cases_eq k n) [
            | inl same ↦ with_entry first items ss n es xs q m (Began k) _ e none is (opened_own laws texts first items ss p n s m k _ same refl)
            | inr other ↦ entry_elsewhere m (Began k) _ e none is refl (quiet_began n k m items other) (away_idle n p.phase phase) other
          ]
      move_stood (crowded m k phase many e none is) =
          elim (cases_eq k n) [
            | inl same ↦ with_entry first items ss n es xs q m (Began k) _ e none is (crowded_own laws texts first items ss p n s m k _ same refl)
            | inr other ↦ entry_elsewhere m (Began k) _ e none is refl (quiet_began n k m items other) (away_idle n p.phase phase) other
          ]
      move_stood (came m k bytes given more phase among e none one two is) =
          elim (cases_eq k n) [
            | inl same ↦ with_entry first items ss n es xs q m (Came k bytes) _ e none is (came_own laws texts first items ss p n s m k bytes given more same phase among one two)
            | inr other ↦ entry_elsewhere m (Came k bytes) _ e none is refl (quiet_came n k m bytes items other) (away_idle n p.phase phase) other
          ]
      move_stood (unread m k bytes phase among e none is) =
          elim (cases_eq k n) [
            | inl same ↦ with_entry first items ss n es xs q m (Came k bytes) _ e none is (unread_own laws texts first items ss p n s m k bytes same phase among)
            | inr other ↦ entry_elsewhere m (Came k bytes) _ e none is refl (quiet_came n k m bytes items other) (away_idle n p.phase phase) other
          ]
      move_stood (passed m k bytes phase gone e none is) =
          elim (cases_eq k n) [
            | inl same ↦ with_entry first items ss n es xs q m (Came k bytes) _ e none is (passed_own laws texts first items ss p n s m k bytes same gone)
            | inr other ↦ entry_elsewhere m (Came k bytes) _ e none is refl (quiet_came n k m bytes items other) (away_idle n p.phase phase) tt
          ]
      move_stood (left m k phase e none is) = entry_elsewhere m (Left k) _ e none is refl (quiet_left n k m items) (away_idle n p.phase phase) tt
      move_stood (over m phase e none is) = entry_elsewhere m Over _ e none is refl (quiet_over n m items) (away_idle n p.phase phase) tt
      move_stood (continues k more phase e none is) = with_none first items ss n es xs q _ e none is (continues_stood first items ss p n k more s phase)
      move_stood (acts_on k item more act x phase does conn step e one is) =
          let kind : Stays p (x ∷ []) q ⊎ StepsOn p (x ∷ []) q = inr (x, refl, step.before_is, (step.machine refl).step, ap (λ (r : Point). r.machine) is) in
          elim (cases_eq k n) [
            | inl same ↦ with_step first items ss n es xs q x _ e one is
                (acted longer texts first items ss p n s k same act x step (steps_grow first begin faults items ss p run (x ∷ []) q kind) (steps_on p x step.before_is (step.machine refl).step) item more phase does)
            | inr other ↦ elsewhere (inr (x, one, step.before_is, (step.machine refl).step, ap (λ (r : Point). r.machine) is)) (subst (λ (l : List Item). IsQuiet n items l) (sym e) (quiet_none n items))
                (subst (λ (f : Phase). IsAway n f) (sym phase) other) (subst (λ (r : Point). IsAway n r.phase) (sym is) (away_after n k (sent_of x.reply) _ more other))
          ]
      move_stood (wants k more phase e none is) = with_none first items ss n es xs q _ e none is (wants_stood texts first items ss p n k more s phase)
      move_stood (done k phase e none is) = with_none first items ss n es xs q _ e none is (done_stood laws texts first items ss p n s k phase)
      move_stood (sent m k text close more phase after e none is) =
          elim (cases_eq k n) [
            | inl same ↦ with_entry first items ss n es xs q m (Sent k text _) _ e none is (sent_own laws texts first items ss p n s m k text close more same phase (after refl))
            | inr other ↦ entry_elsewhere m (Sent k text _) _ e none is refl (quiet_sent n k m text _ items other) (subst (λ (f : Phase). IsAway n f) (sym phase) other) (away_after n k None close more other)
          ]
      move_stood (failed m k j text close more phase after e none is) =
          elim (cases_eq k n) [
            | inl same ↦ with_entry first items ss n es xs q m (Sent k _ true) _ e none is (failed_own laws texts first items ss p n s m k j text close more same phase (after refl))
            | inr other ↦ entry_elsewhere m (Sent k _ true) _ e none is refl (quiet_sent n k m _ true items other) (subst (λ (f : Phase). IsAway n f) (sym phase) other) other
          ]
      move_stood (unsent k text close more phase e none is) = with_none first items ss n es xs q _ e none is (unsent_stood laws texts first items ss p n s k text close more phase)
      move_stood (shut m k phase e none is) =
          let quiet = quiet_shut n k m items in
          elim (cases_eq k n) [
            | inl same ↦ with_entry first items ss n es xs q m (Shut k) _ e none is (shut_own laws texts first items ss p n s m k same quiet.0 quiet.1)
            | inr other ↦ entry_elsewhere m (Shut k) _ e none is refl quiet (subst (λ (f : Phase). IsAway n f) (sym phase) other) tt
          ]
      move_stood (declared header x phase conn step e one is) =
          elsewhere (inr (x, one, step.before_is, (step.machine refl).step, ap (λ (r : Point). r.machine) is)) (subst (λ (l : List Item). IsQuiet n items l) (sym e) (quiet_none n items)) (away_idle n p.phase phase)
          (subst (λ (r : Point). IsAway n r.phase) (sym is) tt)
      move_stood (recalled a x phase conn step e one is) =
          elsewhere (inr (x, one, step.before_is, (step.machine refl).step, ap (λ (r : Point). r.machine) is)) (subst (λ (l : List Item). IsQuiet n items l) (sym e) (quiet_none n items)) (away_idle n p.phase phase)
          (subst (λ (r : Point). IsAway n r.phase) (sym is) tt)

  pub all_stood : (first : Machine) (begin faults : ℕ) (items : List Item) (steps : List Stepped) (p : Point) → Run true first begin faults items steps p → (n : ℕ) → Stood first items steps p n
  all_stood first begin faults [] [] p begins n = nothing_yet laws first begin faults n
  all_stood first begin faults items steps q (goes_on was es items' ss xs steps' p q' run move now all) n =
      subst (λ (l : List Item). Stood first l steps q n) (sym now) (subst (λ (ys : List Stepped). Stood first (was ++ es) ys q n) (sym all)
      (move_stood first begin faults was ss p run n (all_stood first begin faults was ss p run n) es xs q move))

  pub connections_stand : (first : Machine) (begin faults : ℕ) (items : List Item) (steps : List Stepped) (point : Point) → Run true first begin faults items steps point → (n : ℕ)
      → Core (HeldBy first items steps) point.machine.log (received n items) (replies n items)
  connections_stand first begin faults items steps point run n = (all_stood first begin faults items steps point run n).core
