-- The logs of a run only grow.
use Rattle.std.proofs.Common.{◌≡◌, ◌⊎◌, inl, inr, ⊎_elim, ℕ, ◌<◌, ◌≤◌, true, nat_le, if◌then◌else◌, List, [], ◌∷◌, ◌++◌, refl, sym, ◌∙◌, ap, subst, arith}
use Rattle.std.proofs.lemmas.List.{append-nil}
use Rattle.std.proofs.lemmas.Bool.{cases_lt}
use Rattle.std.proofs.lemmas.Bool.Decides.{nat_tests}
use Rattle.sm_site.specs.Meanings.{Item}
use Rattle.sm_site.specs.Clauses.{Rose}
use Rattle.sm_origin.specs.Machine.{Machine, Step}
use Rattle.sm_serve.specs.Run.{Point, Stepped, Moves, opened, crowded, came, unread, passed, left, over, continues, acts_on, wants, done, sent, failed, unsent, shut, declared, recalled, Run, begins, goes_on}
use Rattle.sm_serve.specs.Moments.{machine_at}
use Rattle.sm_serve.proofs.Going.{machine_push}
use Rattle.sm_serve.proofs.Adding.{Extends, and_then, step_adds}

pub itself : (m : Machine) → Extends m m
itself m = ([], sym (append-nil m.log))

-- a move makes no step, or one from the machine of its point
abbrev pub Stays : Point → List Stepped → Point → Type 0
Stays p xs q = (xs ≡ []) × (q.machine ≡ p.machine)

abbrev pub StepsOn : Point → List Stepped → Point → Type 0
StepsOn p xs q = (x : Stepped) × (xs ≡ x ∷ []) × (x.before ≡ p.machine) × Step (Rose x.faults x.faults_after) x.before x.act x.after x.reply × (q.machine ≡ x.after)

pub kind_of : (items : List Item) (p : Point) (es : List Item) (xs : List Stepped) (q : Point) → Moves true items p es xs q → Stays p xs q ⊎ StepsOn p xs q
kind_of items p es xs q (opened m n phase few e none is) = inl (none, ap (λ (r : Point). r.machine) is)
kind_of items p es xs q (crowded m n phase many e none is) = inl (none, ap (λ (r : Point). r.machine) is)
kind_of items p es xs q (came m n bytes given more phase live e none one two is) = inl (none, ap (λ (r : Point). r.machine) is)
kind_of items p es xs q (unread m n bytes phase live e none is) = inl (none, ap (λ (r : Point). r.machine) is)
kind_of items p es xs q (passed m n bytes phase live e none is) = inl (none, ap (λ (r : Point). r.machine) is)
kind_of items p es xs q (left m n phase e none is) = inl (none, ap (λ (r : Point). r.machine) is)
kind_of items p es xs q (over m phase e none is) = inl (none, ap (λ (r : Point). r.machine) is)
kind_of items p es xs q (continues n more phase e none is) = inl (none, ap (λ (r : Point). r.machine) is)
kind_of items p es xs q (acts_on n item more act x phase does conn step e one is) = inr (x, one, step.before_is, (step.machine refl).step, ap (λ (r : Point). r.machine) is)
kind_of items p es xs q (wants n more phase e none is) = inl (none, ap (λ (r : Point). r.machine) is)
kind_of items p es xs q (done n phase e none is) = inl (none, ap (λ (r : Point). r.machine) is)
kind_of items p es xs q (sent m n bytes close more phase after e none is) = inl (none, ap (λ (r : Point). r.machine) is)
kind_of items p es xs q (failed m n k bytes close more phase after e none is) = inl (none, ap (λ (r : Point). r.machine) is)
kind_of items p es xs q (unsent n bytes close more phase e none is) = inl (none, ap (λ (r : Point). r.machine) is)
kind_of items p es xs q (shut m n phase e none is) = inl (none, ap (λ (r : Point). r.machine) is)
kind_of items p es xs q (declared act x phase conn step e one is) = inr (x, one, step.before_is, (step.machine refl).step, ap (λ (r : Point). r.machine) is)
kind_of items p es xs q (recalled a x phase conn step e one is) = inr (x, one, step.before_is, (step.machine refl).step, ap (λ (r : Point). r.machine) is)

pub reached_by : (m n : Machine) (e t : ℕ) → e ≤ t → (if nat_le e t then m else n) ≡ m
reached_by m n e t le = grind (arith, nat_tests)

pub not_reached : (m n : Machine) (e t : ℕ) → t < e → (if nat_le e t then m else n) ≡ n
not_reached m n e t lt = grind (arith, nat_tests)

-- the log at a moment is a front of the last one
pub below : (first : Machine) (begin faults : ℕ) (items : List Item) (steps : List Stepped) (p : Point) → Run true first begin faults items steps p → (t : ℕ) → Extends (machine_at first steps t) p.machine
below first begin faults [] [] p begins t = itself first
below first begin faults items steps q (goes_on was es items' ss xs steps' p q' run move now all) t = go (below first begin faults was ss p run t) (kind_of was p es xs q move)
  where
    go : Extends (machine_at first ss t) p.machine → Stays p xs q ⊎ StepsOn p xs q → Extends (machine_at first steps t) q.machine
    go before (inl (none, same)) =
        let is : steps ≡ ss = all ∙ ap (λ (ys : List Stepped). ss ++ ys) none ∙ append-nil ss in
        subst (λ (n : Machine). Extends (machine_at first steps t) n) (sym same) (subst (λ (ys : List Stepped). Extends (machine_at first ys t) p.machine) (sym is) before)
    go before (inr (x, one, from, step, to)) =
        let is : steps ≡ ss ++ x ∷ [] = all ∙ ap (λ (ys : List Stepped). ss ++ ys) one in
        let at : machine_at first steps t ≡ (if nat_le x.ends t then x.after else machine_at first ss t) = ap (λ (ys : List Stepped). machine_at first ys t) is ∙ machine_push first ss x t in
        subst (λ (n : Machine). Extends (machine_at first steps t) n) (sym to)
        (⊎_elim
        (λ (early : t < x.ends). subst (λ (m : Machine). Extends m x.after) (sym (at ∙ not_reached x.after (machine_at first ss t) x.ends t early))
        (and_then (machine_at first ss t) p.machine x.after before (subst (λ (m : Machine). Extends m x.after) from (step_adds (Rose x.faults x.faults_after) x.before x.after x.act x.reply step))))
        (λ (late : x.ends ≤ t). subst (λ (m : Machine). Extends m x.after) (sym (at ∙ reached_by x.after (machine_at first ss t) x.ends t late)) (itself x.after))
        (cases_lt t x.ends))

pub grows : (first : Machine) (begin faults : ℕ) (items : List Item) (steps : List Stepped) (p : Point) → Run true first begin faults items steps p → (t u : ℕ)
    → t ≤ u → Extends (machine_at first steps t) (machine_at first steps u)
grows first begin faults [] [] p begins t u le = itself first
grows first begin faults items steps q (goes_on was es items' ss xs steps' p q' run move now all) t u le = go (grows first begin faults was ss p run t u le) (kind_of was p es xs q move)
  where
    go : Extends (machine_at first ss t) (machine_at first ss u) → Stays p xs q ⊎ StepsOn p xs q → Extends (machine_at first steps t) (machine_at first steps u)
    go before (inl (none, same)) =
        let is : steps ≡ ss = all ∙ ap (λ (ys : List Stepped). ss ++ ys) none ∙ append-nil ss in
        subst (λ (ys : List Stepped). Extends (machine_at first ys t) (machine_at first ys u)) (sym is) before
    go before (inr (x, one, from, step, to)) =
        let is : steps ≡ ss ++ x ∷ [] = all ∙ ap (λ (ys : List Stepped). ss ++ ys) one in
        let at : (v : ℕ) → machine_at first steps v ≡ (if nat_le x.ends v then x.after else machine_at first ss v) = λ v. ap (λ (ys : List Stepped). machine_at first ys v) is ∙ machine_push first ss x v in
        let ends = λ (v : ℕ) (late : x.ends ≤ v). at v ∙ reached_by x.after (machine_at first ss v) x.ends v late in
        let open_ = λ (v : ℕ) (early : v < x.ends). at v ∙ not_reached x.after (machine_at first ss v) x.ends v early in
        ⊎_elim
        (λ (early : u < x.ends). subst (λ (m : Machine). Extends m (machine_at first steps u)) (sym (open_ t (omega (arith, early, le)))) (subst (λ (n : Machine). Extends (machine_at first ss t) n) (sym (open_ u early)) before))
        (λ (late : x.ends ≤ u). subst (λ (n : Machine). Extends (machine_at first steps t) n) (sym (ends u late))
        (⊎_elim
        (λ (inside : t < x.ends). subst (λ (m : Machine). Extends m x.after) (sym (open_ t inside))
        (and_then (machine_at first ss t) p.machine x.after (below first begin faults was ss p run t) (subst (λ (m : Machine). Extends m x.after) from (step_adds (Rose x.faults x.faults_after) x.before x.after x.act x.reply step))))
        (λ (behind : x.ends ≤ t). subst (λ (m : Machine). Extends m x.after) (sym (ends t behind)) (itself x.after))
        (cases_lt t x.ends)))
        (cases_lt u x.ends)

pub from_first : (first : Machine) (begin faults : ℕ) (items : List Item) (steps : List Stepped) (p : Point) → Run true first begin faults items steps p → (t : ℕ) → Extends first (machine_at first steps t)
from_first first begin faults [] [] p begins t = itself first
from_first first begin faults items steps q (goes_on was es items' ss xs steps' p q' run move now all) t = go (from_first first begin faults was ss p run t) (kind_of was p es xs q move)
  where
    go : Extends first (machine_at first ss t) → Stays p xs q ⊎ StepsOn p xs q → Extends first (machine_at first steps t)
    go before (inl (none, same)) =
        let is : steps ≡ ss = all ∙ ap (λ (ys : List Stepped). ss ++ ys) none ∙ append-nil ss in
        subst (λ (ys : List Stepped). Extends first (machine_at first ys t)) (sym is) before
    go before (inr (x, one, from, step, to)) =
        let is : steps ≡ ss ++ x ∷ [] = all ∙ ap (λ (ys : List Stepped). ss ++ ys) one in
        let at : machine_at first steps t ≡ (if nat_le x.ends t then x.after else machine_at first ss t) = ap (λ (ys : List Stepped). machine_at first ys t) is ∙ machine_push first ss x t in
        ⊎_elim
        (λ (early : t < x.ends). subst (λ (n : Machine). Extends first n) (sym (at ∙ not_reached x.after (machine_at first ss t) x.ends t early)) before)
        (λ (late : x.ends ≤ t). subst (λ (n : Machine). Extends first n) (sym (at ∙ reached_by x.after (machine_at first ss t) x.ends t late))
        (and_then first (machine_at first ss t) x.after before
        (and_then (machine_at first ss t) p.machine x.after (below first begin faults was ss p run t) (subst (λ (m : Machine). Extends m x.after) from (step_adds (Rose x.faults x.faults_after) x.before x.after x.act x.reply step)))))
        (cases_lt t x.ends)
