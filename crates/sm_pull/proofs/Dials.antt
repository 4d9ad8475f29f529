-- Exchanges of a dial, one call after another.
use Rattle.std.proofs.Common.{◌≡◌, ◌≤◌, ◌+◌, ℕ, min, List, [], ◌∷◌, ◌++◌, Option, Some, None, refl, ap, sym, ◌∙◌, ⊎_elim, append_assoc, append-nil, arith}
use Rattle.std.specs.Prelude.{Contains}
use Rattle.std.proofs.lemmas.List.Elements.{Contains-append_cases, Contains-push_cases}
use Rattle.sm_model.specs.declared.entry.Entry.{Entry}
use Rattle.sm_fetch.specs.declared.dial.Answer.{Answer}
use Rattle.sm_fetch.specs.declared.dial.Answer.TheVariants as answers
use Rattle.sm_fetch.specs.declared.dial.Exchange.{Exchange}
use Rattle.sm_fetch.specs.Exchanges.{Peer, Rose, logged, with_one, with_all}
use Rattle.sm_fetch.specs.Origins.{Grows, DialAlone}
use Rattle.sm_fetch.proofs.Alone.{Passes, alone_none, alone_then}
use Rattle.sm_fetch.proofs.Origin.{stays_grown}
use Rattle.sm_pull.specs.Asks.{Asks}

-- ---- lists of exchanges

with_none : (told : Option (List Exchange)) → told ≡ with_all told []
with_none None = refl
with_none (Some ws) = ap (λ (xs : List Exchange). Some xs) (sym (append-nil ws))

with_just : (told : Option (List Exchange)) (x : Exchange) → with_one told x ≡ with_all told (x ∷ [])
with_just None x = refl
with_just (Some ws) x = refl

with_both : (told : Option (List Exchange)) (xs ys : List Exchange) → with_all (with_all told xs) ys ≡ with_all told (xs ++ ys)
with_both None xs ys = refl
with_both (Some ws) xs ys = ap (λ (zs : List Exchange). Some zs) (append_assoc ws xs ys)

-- ---- counts

at_most : (x b c : ℕ) → x ≤ b → b ≤ c → x ≤ c
at_most x b c h k = omega (arith, h, k)

at_most-before : (a b c most : ℕ) → a ≤ b → min (b + 1) most ≤ c → min (a + 1) most ≤ c
at_most-before a b c most h k = omega (arith, h, k)

pub rose_later : (a b c : ℕ) → Rose a b → b ≤ c → Rose a c
rose_later a b c r h = at_most _ b c r h

pub rose_before : (a b c : ℕ) → a ≤ b → Rose b c → Rose a c
rose_before a b c h r = at_most-before a b c _ h r

-- ---- calls

nothing : {A : Type 0} (x : A) → Contains [] x → ⊥
nothing x h = omega (arith, h.1)

-- no exchange was made
pub asks_none : {C : Type 0} {log : C → Option (List Exchange)} {store : C → List Entry → Type 0} {later : C → C → Type 0} {faults : C → ℕ} {chosen : C → Option Peer} {d e : C}
    → log e ≡ log d → Grows (store d) (store e) → later d e → chosen e ≡ chosen d → faults d ≤ faults e → Asks log store later faults chosen d e []
asks_none {log = log} {d = d} same grows goes_on turned fewer = record {
  told_is = same ∙ with_none (log d);
  alone = alone_none (record { goes_on = goes_on; no_fewer = fewer; grows = grows }) turned same;
  lost = λ x there is. absurd (nothing x there);
}

-- nothing was done
pub asks_same : {C : Type 0} {log : C → Option (List Exchange)} {store : C → List Entry → Type 0} {later : C → C → Type 0} {faults : C → ℕ} {chosen : C → Option Peer}
    → ((d : C) → later d d) → (d : C) → Asks log store later faults chosen d d []
asks_same {store = store} same d = asks_none refl (stays_grown (store d)) (same d) refl (omega arith)

-- one call, and then another
pub asks_then : {C : Type 0} {log : C → Option (List Exchange)} {store : C → List Entry → Type 0} {later : C → C → Type 0} {faults : C → ℕ} {chosen : C → Option Peer} {d e f : C} {xs ys : List Exchange}
    → Passes later → Asks log store later faults chosen d e xs → Asks log store later faults chosen e f ys → Asks log store later faults chosen d f (xs ++ ys)
asks_then {log = log} {faults = faults} {d = d} {e = e} {f = f} {xs = xs} {ys = ys} then p q = record {
  told_is = q.told_is ∙ (ap (λ (w : Option (List Exchange)). with_all w ys) p.told_is ∙ with_both (log d) xs ys);
  alone = alone_then then p.alone q.alone;
  lost = λ x there is.
      ⊎_elim (λ before. rose_later (faults d) (faults e) (faults f) (p.lost x before is) q.alone.on.no_fewer)
      (λ behind. rose_before (faults d) (faults e) (faults f) p.alone.on.no_fewer (q.lost x behind is))
      (Contains-append_cases xs ys x there);
}

-- ---- one exchange

-- the exchange of a call: none where it wanted memory
abbrev pub made_by : List ℕ → ℕ → Answer → List Exchange
made_by request limit (answers.Bytes bytes) = (record { request = request; limit = limit; answer = answers.Bytes bytes }) ∷ []
made_by request limit answers.Lost = (record { request = request; limit = limit; answer = answers.Lost }) ∷ []
made_by request limit answers.NoMemory = []

logged_is : (told : Option (List Exchange)) (request : List ℕ) (limit : ℕ) (answer : Answer) → logged told request limit answer ≡ with_all told (made_by request limit answer)
logged_is told request limit (answers.Bytes bytes) = with_just told _
logged_is told request limit answers.Lost = with_just told _
logged_is told request limit answers.NoMemory = with_none told

one_there : (x y : Exchange) → Contains (y ∷ []) x → y ≡ x
one_there x y there = ⊎_elim (λ none. absurd (nothing x none)) (λ is. is) (Contains-push_cases [] y x there)

made_answer : (request : List ℕ) (limit : ℕ) (answer : Answer) (x : Exchange) → Contains (made_by request limit answer) x → answer ≡ x.answer
made_answer request limit (answers.Bytes bytes) x there = ap (λ (y : Exchange). y.answer) (one_there x (record { request = request; limit = limit; answer = answers.Bytes bytes }) there)
made_answer request limit answers.Lost x there = ap (λ (y : Exchange). y.answer) (one_there x (record { request = request; limit = limit; answer = answers.Lost }) there)
made_answer request limit answers.NoMemory x there = absurd (nothing x there)

-- one exchange was made, or memory was wanted
pub asks_one : {C : Type 0} {log : C → Option (List Exchange)} {store : C → List Entry → Type 0} {later : C → C → Type 0} {faults : C → ℕ} {chosen : C → Option Peer} {d e : C}
    (request : List ℕ) (limit : ℕ) (answer : Answer) → log e ≡ logged (log d) request limit answer → DialAlone log store later faults chosen d e
    → (answer ≡ answers.Lost → Rose (faults d) (faults e)) → Asks log store later faults chosen d e (made_by request limit answer)
asks_one {log = log} {d = d} request limit answer is alone lost = record {
  told_is = is ∙ logged_is (log d) request limit answer;
  alone = alone;
  lost = λ x there so. lost (made_answer request limit answer x there ∙ so);
}
