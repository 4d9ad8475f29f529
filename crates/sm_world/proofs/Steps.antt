-- The steps of a run, and the disk's counts of faults along a path.
use Rattle.std.proofs.Common.{◌≡◌, ◌⊎◌, inl, inr, ℕ, ◌≤◌, ◌-◌, true, false, List, [], ◌∷◌, ◌++◌, refl, sym, ◌∙◌, ap, subst, arith, append_assoc}
use Rattle.std.specs.List.{AllByRecursion}
use Rattle.std.proofs.lemmas.List.{append-nil}
use Rattle.sm_model.specs.declared.act.Act.{Act}
use Rattle.sm_site.specs.Clauses.{Rose}
use Rattle.sm_site.specs.Meanings.{Item}
use Rattle.sm_origin.specs.Machine.{Machine, Step}
use Rattle.sm_serve.specs.Run.{Point, Stepped, Moves, Run, begins, goes_on, LeadsTo, rests, moves_on, IsStep}
use Rattle.sm_serve.specs.Run.{opened, crowded, came, unread, passed, left, over, continues, acts_on, wants, done, sent, failed, unsent, shut, declared, recalled}
use Rattle.sm_serve.proofs.Growing.{Stays, StepsOn, kind_of}
use Rattle.sm_world.specs.Wider.{rose_wider}

-- ---- steps

abbrev pub IsAct : Stepped → Type 0
IsAct x = Step (Rose x.faults x.faults_after) x.before x.act x.after x.reply

abbrev pub AreActs : List Stepped → Type 0
AreActs steps = AllByRecursion IsAct steps

acts_both : (xs ys : List Stepped) → AreActs xs → AreActs ys → AreActs (xs ++ ys)
acts_both [] ys one two = two
acts_both (x ∷ xs) ys one two = (one.0, acts_both xs ys one.1 two)

pub acts_front : (xs ys : List Stepped) → AreActs (xs ++ ys) → AreActs xs
acts_front [] ys all = tt
acts_front (x ∷ xs) ys all = (all.0, acts_front xs ys all.1)

pub acts_last : (xs ys : List Stepped) → AreActs (xs ++ ys) → AreActs ys
acts_last [] ys all = all
acts_last (x ∷ xs) ys all = acts_last xs ys all.1

-- each step of a run is one of the machine
pub run_acts : (first : Machine) (begin faults : ℕ) (items : List Item) (steps : List Stepped) (p : Point) → Run true first begin faults items steps p → AreActs steps
run_acts first begin faults [] [] p begins = tt
run_acts first begin faults items steps q (goes_on was es items' ss xs steps' p q' run move now all) =
    subst (λ (ys : List Stepped). AreActs ys) (sym all) (acts_both ss xs (run_acts first begin faults was ss p run) (of_kind (kind_of was p es xs q move)))
  where
    of_kind : Stays p xs q ⊎ StepsOn p xs q → AreActs xs
    of_kind (inl (none, same)) = subst (λ (ys : List Stepped). AreActs ys) (sym none) tt
    of_kind (inr (x, one, from, step, to)) = subst (λ (ys : List Stepped). AreActs ys) (sym one) (step, tt)

-- ---- counts

-- the steps of a path begin and end between these counts
abbrev pub AreBetween : ℕ → ℕ → List Stepped → Type 0
AreBetween low high xs = AllByRecursion (λ (x : Stepped). (low ≤ x.faults) × (x.faults_after ≤ high)) xs

pub record Counted (p q : Point) (xs : List Stepped) : Type 0 where
  pub later : p.faults ≤ q.faults
  pub between : AreBetween p.faults q.faults xs

stays_counted : (p q r : Point) (xs : List Stepped) → xs ≡ [] → q ≡ r → r.faults ≡ p.faults → Counted p q xs
stays_counted p q r xs none is same =
    let faults : q.faults ≡ p.faults = ap (λ (s : Point). s.faults) is ∙ same in
    record { later = omega (arith, faults); between = subst (λ (ys : List Stepped). AreBetween p.faults q.faults ys) (sym none) tt }

step_counted : (p q r : Point) (act : Act) (x : Stepped) (xs : List Stepped) → IsStep false p act x → xs ≡ x ∷ [] → q ≡ r → r.faults ≡ x.faults_after → Counted p q xs
step_counted p q r act x xs step one is same =
    let faults : q.faults ≡ x.faults_after = ap (λ (s : Point). s.faults) is ∙ same in
    let low = step.faults_is in
    let up = step.no_fewer in
    record { later = omega (arith, faults, low, up); between = subst (λ (ys : List Stepped). AreBetween p.faults q.faults ys) (sym one) ((omega (arith, low), omega (arith, faults)), tt) }

counted_by : (items : List Item) (p : Point) (es : List Item) (xs : List Stepped) (q : Point) → Moves false items p es xs q → Counted p q xs
counted_by items p es xs q (opened m n phase few e none is) = stays_counted p q _ xs none is refl
counted_by items p es xs q (crowded m n phase many e none is) = stays_counted p q _ xs none is refl
counted_by items p es xs q (came m n bytes given more phase among e none one two is) = stays_counted p q _ xs none is refl
counted_by items p es xs q (unread m n bytes phase among e none is) = stays_counted p q _ xs none is refl
counted_by items p es xs q (passed m n bytes phase among e none is) = stays_counted p q _ xs none is refl
counted_by items p es xs q (left m n phase e none is) = stays_counted p q _ xs none is refl
counted_by items p es xs q (over m phase e none is) = stays_counted p q _ xs none is refl
counted_by items p es xs q (continues n more phase e none is) = stays_counted p q _ xs none is refl
counted_by items p es xs q (acts_on n item more act x phase does conn_is step e one is) = step_counted p q _ act x xs step one is refl
counted_by items p es xs q (wants n more phase e none is) = stays_counted p q _ xs none is refl
counted_by items p es xs q (done n phase e none is) = stays_counted p q _ xs none is refl
counted_by items p es xs q (sent m n bytes close more phase after e none is) = stays_counted p q _ xs none is refl
counted_by items p es xs q (failed m n k bytes close more phase after e none is) = stays_counted p q _ xs none is refl
counted_by items p es xs q (unsent n bytes close more phase e none is) = stays_counted p q _ xs none is refl
counted_by items p es xs q (shut m n phase e none is) = stays_counted p q _ xs none is refl
counted_by items p es xs q (declared header x phase conn_is step e one is) = step_counted p q _ _ x xs step one is refl
counted_by items p es xs q (recalled address x phase conn_is step e one is) = step_counted p q _ _ x xs step one is refl

between_both : (low high : ℕ) (xs ys : List Stepped) → AreBetween low high xs → AreBetween low high ys → AreBetween low high (xs ++ ys)
between_both low high [] ys one two = two
between_both low high (x ∷ xs) ys one two = (one.0, between_both low high xs ys one.1 two)

between_wider : (low low' high high' : ℕ) (xs : List Stepped) → low' ≤ low → high ≤ high' → AreBetween low high xs → AreBetween low' high' xs
between_wider low low' high high' [] l h b = tt
between_wider low low' high high' (x ∷ xs) l h b = ((let from = b.0.0 in omega (arith, l, from), let to = b.0.1 in omega (arith, h, to)), between_wider low low' high high' xs l h b.1)

-- the further steps of a path, and their counts
pub path_counted : (base : List Item) (steps : List Stepped) (p : Point) (items : List Item) (ss : List Stepped) (q : Point) → LeadsTo base steps p items ss q
    → (further : List Stepped) × (ss ≡ steps ++ further) × Counted p q further
path_counted base steps p items ss q (rests now all q' a b c) =
    let same : q.faults ≡ p.faults = ap (λ (s : Point). s.faults) c in ([], b ∙ sym (append-nil steps), record { later = omega (arith, same); between = tt })
path_counted base steps p items ss q (moves_on was ns now ys xs all r q' path move a b) =
    let before = path_counted base steps p was ys r path in
    let here = counted_by was r ns xs q move in
    let low = before.2.later in
    let high = here.later in (
      before.0 ++ xs,
      b ∙ ap (λ (l : List Stepped). l ++ xs) before.1 ∙ append_assoc steps before.0 xs,
      record {
        later = omega (arith, low, high);
        between = between_both p.faults q.faults before.0 xs (between_wider p.faults p.faults r.faults q.faults before.0 (omega arith) high before.2.between)
            (between_wider r.faults p.faults q.faults q.faults xs low (omega arith) here.between);
      },
    )

-- a step that has its cause in what holds
abbrev pub Causes : Type 0 → Stepped → Type 0
Causes fails x = Rose x.faults x.faults_after → fails

abbrev pub AllCause : Type 0 → List Stepped → Type 0
AllCause fails xs = AllByRecursion (Causes fails) xs

pub all_cause : (low high : ℕ) (xs : List Stepped) → AreBetween low high xs → AllCause (Rose low high) xs
all_cause low high [] b = tt
all_cause low high (x ∷ xs) b = (λ rose. rose_wider low x.faults x.faults_after high b.0.0 b.0.1 rose, all_cause low high xs b.1)

pub cause_front : (fails : Type 0) (xs ys : List Stepped) → AllCause fails (xs ++ ys) → AllCause fails xs
cause_front fails [] ys all = tt
cause_front fails (x ∷ xs) ys all = (all.0, cause_front fails xs ys all.1)

pub cause_last : (fails : Type 0) (xs ys : List Stepped) → AllCause fails (xs ++ ys) → AllCause fails ys
cause_last fails [] ys all = all
cause_last fails (x ∷ xs) ys all = cause_last fails xs ys all.1
