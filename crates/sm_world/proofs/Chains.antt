-- The log of a later run begins with that of the earlier one.
use Rattle.std.proofs.Common.{◌≡◌, ◌⊎◌, inl, inr, ℕ, true, List, [], ◌∷◌, ◌++◌, refl, sym, ◌∙◌, ap, subst}
use Rattle.std.proofs.lemmas.List.{append-nil}
use Rattle.sm_site.specs.Meanings.{Item}
use Rattle.sm_site.specs.Clauses.{Rose}
use Rattle.sm_origin.specs.Machine.{Machine}
use Rattle.sm_serve.specs.Run.{Point, Stepped, Run, begins, goes_on}
use Rattle.sm_serve.proofs.Adding.{Extends, and_then, step_adds}
use Rattle.sm_serve.proofs.Growing.{Stays, StepsOn, itself, kind_of}

-- the machine behind the last step
abbrev behind : Machine → List Stepped → Machine
behind m [] = m
behind m (x ∷ xs) = behind x.after xs

behind_push : (m : Machine) (xs : List Stepped) (x : Stepped) → behind m (xs ++ x ∷ []) ≡ x.after
behind_push m [] x = refl
behind_push m (y ∷ xs) x = behind_push y.after xs x

-- each step adds to the log that it found
abbrev Chain : Machine → List Stepped → Type 0
Chain m [] = Unit {0}
Chain m (x ∷ xs) = Extends m x.after × Chain x.after xs

chain_push : (m : Machine) (xs : List Stepped) (x : Stepped) → Chain m xs → Extends (behind m xs) x.after → Chain m (xs ++ x ∷ [])
chain_push m [] x chain adds = (adds, tt)
chain_push m (y ∷ xs) x chain adds = (chain.0, chain_push y.after xs x chain.1 adds)

chain_all : (m : Machine) (xs : List Stepped) → Chain m xs → Extends m (behind m xs)
chain_all m [] chain = itself m
chain_all m (x ∷ xs) chain = and_then m x.after (behind x.after xs) chain.0 (chain_all x.after xs chain.1)

chain_front : (m : Machine) (xs more : List Stepped) → Chain m (xs ++ more) → Extends (behind m xs) (behind m (xs ++ more))
chain_front m [] more chain = chain_all m more chain
chain_front m (x ∷ xs) more chain = chain_front x.after xs more chain.1

-- the steps of a run are such
record Chained (first : Machine) (steps : List Stepped) (m : Machine) : Type 0 where
  last : m ≡ behind first steps
  chain : Chain first steps

chained : (first : Machine) (begin faults : ℕ) (items : List Item) (steps : List Stepped) (p : Point) → Run true first begin faults items steps p → Chained first steps p.machine
chained first begin faults [] [] p begins = record { last = refl; chain = tt }
chained first begin faults items steps q (goes_on was es items' ss xs steps' p q' run move now all) = go (chained first begin faults was ss p run) (kind_of was p es xs q move)
  where
    go : Chained first ss p.machine → Stays p xs q ⊎ StepsOn p xs q → Chained first steps q.machine
    go before (inl (none, same)) =
        let is : steps ≡ ss = all ∙ ap (λ (ys : List Stepped). ss ++ ys) none ∙ append-nil ss in
        subst (λ (ys : List Stepped). Chained first ys q.machine) (sym is) (record { last = same ∙ before.last; chain = before.chain })
    go before (inr (x, one, from, step, to)) =
        let is : steps ≡ ss ++ x ∷ [] = all ∙ ap (λ (ys : List Stepped). ss ++ ys) one in
        let adds : Extends p.machine x.after =
        subst (λ (m : Machine). Extends m x.after) from (step_adds (Rose x.faults x.faults_after) x.before x.after x.act x.reply step)
        in
        subst (λ (ys : List Stepped). Chained first ys q.machine) (sym is) (record {
          last = to ∙ sym (behind_push first ss x);
          chain = chain_push first ss x before.chain (subst (λ (m : Machine). Extends m x.after) before.last adds);
        })

pub later_extends : (first : Machine) (begin faults began counted : ℕ) (items now : List Item) (steps more all : List Stepped) (p q : Point)
    → Run true first begin faults items steps p → Run true first began counted now all q → all ≡ steps ++ more → Extends p.machine q.machine
later_extends first begin faults began counted items now steps more all p q run later is =
    let one = chained first begin faults items steps p run in
    let two = chained first began counted now all q later in
    let front : Extends (behind first steps) (behind first (steps ++ more)) = chain_front first steps more (subst (Chain first) is two.chain) in
    subst (λ (m : Machine). Extends m q.machine) (sym one.last)
    (subst (λ (m : Machine). Extends (behind first steps) m) (sym (two.last ∙ ap (behind first) is)) front)
