-- The log behind a later history.
use Rattle.std.proofs.Common.{◌≡◌, ◌⊎◌, inl, inr, ℕ, true, List, [], ◌∷◌, ◌++◌, refl, sym, ◌∙◌, ap, subst}
use Rattle.std.proofs.lemmas.List.{append-nil}
use Rattle.sm_site.specs.Meanings.{Item}
use Rattle.sm_site.specs.Clauses.{Rose}
use Rattle.sm_origin.specs.Machine.{Machine, Step}
use Rattle.sm_serve.specs.Run.{Point, Stepped, Run, begins, goes_on}
use Rattle.sm_serve.specs.Standing.{History}
use Rattle.sm_serve.specs.Serving.{Since}
use Rattle.sm_serve.proofs.Adding.{Extends, and_then, step_adds}
use Rattle.sm_serve.proofs.Growing.{itself, Stays, StepsOn, kind_of}

-- the machine behind the last of these steps
abbrev last_of : Machine → List Stepped → Machine
last_of m [] = m
last_of m (x ∷ xs) = last_of x.after xs

-- each of these steps is one of the machine behind the one before it
abbrev AreLinked : Machine → List Stepped → Type 0
AreLinked m [] = Unit {0}
AreLinked m (x ∷ xs) = (x.before ≡ m) × Step (Rose x.faults x.faults_after) x.before x.act x.after x.reply × AreLinked x.after xs

last_push : (m : Machine) (xs : List Stepped) (x : Stepped) → last_of m (xs ++ x ∷ []) ≡ x.after
last_push m [] x = refl
last_push m (y ∷ xs) x = last_push y.after xs x

last_both : (m : Machine) (xs ys : List Stepped) → last_of m (xs ++ ys) ≡ last_of (last_of m xs) ys
last_both m [] ys = refl
last_both m (x ∷ xs) ys = last_both x.after xs ys

linked_push : (m : Machine) (xs : List Stepped) (x : Stepped) → AreLinked m xs → x.before ≡ last_of m xs → Step (Rose x.faults x.faults_after) x.before x.act x.after x.reply
    → AreLinked m (xs ++ x ∷ [])
linked_push m [] x linked from step = (from, step, tt)
linked_push m (y ∷ xs) x linked from step = (linked.0, linked.1, linked_push y.after xs x linked.2 from step)

-- the steps of a run are linked, and lead to its machine
record Leads (first : Machine) (steps : List Stepped) (p : Point) : Type 0 where
  pub linked : AreLinked first steps
  pub machine : p.machine ≡ last_of first steps

leads : (first : Machine) (begin faults : ℕ) (items : List Item) (steps : List Stepped) (p : Point) → Run true first begin faults items steps p → Leads first steps p
leads first begin faults [] [] p begins = record { linked = tt; machine = refl }
leads first begin faults items steps q (goes_on was es items' ss xs steps' p q' run move now all) = go (leads first begin faults was ss p run) (kind_of was p es xs q move)
  where
    go : Leads first ss p → Stays p xs q ⊎ StepsOn p xs q → Leads first steps q
    go before (inl (none, same)) =
        let is : steps ≡ ss = all ∙ ap (λ (ys : List Stepped). ss ++ ys) none ∙ append-nil ss in
        subst (λ (ys : List Stepped). Leads first ys q) (sym is) (record { linked = before.linked; machine = same ∙ before.machine })
    go before (inr (x, one, from, step, to)) =
        let is : steps ≡ ss ++ x ∷ [] = all ∙ ap (λ (ys : List Stepped). ss ++ ys) one in
        subst (λ (ys : List Stepped). Leads first ys q) (sym is)
        (record { linked = linked_push first ss x before.linked (from ∙ before.machine) step; machine = to ∙ sym (last_push first ss x) })

-- steps that are linked only add to the log
adds : (m : Machine) (xs : List Stepped) → AreLinked m xs → Extends m (last_of m xs)
adds m [] linked = itself m
adds m (x ∷ xs) linked =
    and_then m x.after (last_of x.after xs)
    (subst (λ (n : Machine). Extends n x.after) linked.0 (step_adds (Rose x.faults x.faults_after) x.before x.after x.act x.reply linked.1))
    (adds x.after xs linked.2)

linked_behind : (m : Machine) (xs ys : List Stepped) → AreLinked m (xs ++ ys) → AreLinked (last_of m xs) ys
linked_behind m [] ys linked = linked
linked_behind m (x ∷ xs) ys linked = linked_behind x.after xs ys linked.2

pub grown : (h k : History) → Run true h.first h.begin h.found.disk_faults h.items h.steps h.point → Run true k.first k.begin k.found.disk_faults k.items k.steps k.point → Since h k
    → Extends h.point.machine k.point.machine
grown h k run later since =
    let one = leads h.first h.begin h.found.disk_faults h.items h.steps h.point run in
    let all = leads k.first k.begin k.found.disk_faults k.items k.steps k.point later in
    let linked : AreLinked h.first (h.steps ++ since.on.further) =
    subst (λ (m : Machine). AreLinked m (h.steps ++ since.on.further)) since.first (subst (λ (ys : List Stepped). AreLinked k.first ys) since.on.steps all.linked) in
    let to : k.point.machine ≡ last_of (last_of h.first h.steps) since.on.further =
    all.machine ∙ ap (λ (ys : List Stepped). last_of k.first ys) since.on.steps ∙ ap (λ (m : Machine). last_of m (h.steps ++ since.on.further)) since.first ∙ last_both h.first h.steps since.on.further in
    subst (λ (n : Machine). Extends h.point.machine n) (sym to)
    (subst (λ (m : Machine). Extends m (last_of (last_of h.first h.steps) since.on.further)) (sym one.machine)
    (adds (last_of h.first h.steps) since.on.further (linked_behind h.first h.steps since.on.further linked)))
