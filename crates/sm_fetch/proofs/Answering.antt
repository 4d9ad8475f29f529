-- Exchanges that logs answered, one call after another.
use Rattle.std.proofs.Common.{◌≡◌, ℕ, List, [], ◌∷◌, ◌++◌, Option, Some, None, refl, ap, sym, ◌∙◌, subst, append_assoc, append-nil}
use Rattle.sm_model.specs.declared.entry.Entry.{Entry}
use Rattle.sm_fetch.specs.declared.dial.Answer.{Answer}
use Rattle.sm_fetch.specs.declared.dial.Answer.TheVariants as answers
use Rattle.sm_fetch.specs.declared.dial.Exchange.{Exchange}
use Rattle.sm_fetch.specs.Exchanges.{with_one, with_all, logged}
use Rattle.sm_fetch.specs.Origins.{FromOrigin, Grows, AnswersFrom, AnsweredFrom, Answered}

-- ---- lists of exchanges

with_none : (told : Option (List Exchange)) → told ≡ with_all told []
with_none None = refl
with_none (Some ws) = ap (λ (xs : List Exchange). Some xs) (sym (append-nil ws))

with_just : (told : Option (List Exchange)) (x : Exchange) → with_one told x ≡ with_all told (x ∷ [])
with_just None x = refl
with_just (Some ws) x = refl

with_both : (told : Option (List Exchange)) (xs ys : List Exchange) → with_all (with_all told xs) ys ≡ with_all told (xs ++ ys)
with_both None xs ys = refl
with_both (Some ws) xs ys = ap (λ (zs : List Exchange). Some zs) (append_assoc ws xs ys)

-- ---- logs

answered_before : (log more later : List Entry) (xs : List Exchange) → AnsweredFrom (log ++ more) xs later → AnsweredFrom log xs later
answered_before log more later [] a = (more ++ a.0, a.1 ∙ append_assoc log more a.0)
answered_before log more later (x ∷ xs) a =
    let e = append_assoc log more a.0 in
    (more ++ a.0, subst (λ (l : List Entry). FromOrigin l x.request x.answer) e a.1, subst (λ (l : List Entry). AnsweredFrom l xs later) e a.2)

answered_on : (log mid later : List Entry) (xs ys : List Exchange) → AnsweredFrom log xs mid → AnsweredFrom mid ys later → AnsweredFrom log (xs ++ ys) later
answered_on log mid later [] ys a b = answered_before log a.0 later ys (subst (λ (l : List Entry). AnsweredFrom l ys later) a.1 b)
answered_on log mid later (x ∷ xs) ys a b = (a.0, a.1, answered_on (log ++ a.0) mid later xs ys a.2 b)

-- ---- calls

-- no exchange was made
pub answered_none : {told told' : Option (List Exchange)} {s t : List Entry → Type 0} → told' ≡ told → Grows s t → Answered told told' s t
answered_none {told = told} e grows = record {
  made = [];
  told_is = e ∙ with_none told;
  on = λ log is. let a = grows log is in (a.0, a.1, (a.0, refl));
}

pub answered_same : (told : Option (List Exchange)) (s : List Entry → Type 0) → Answered told told s s
answered_same told s = answered_none refl (λ log is. ([], subst s (sym (append-nil log)) is))

one : (told : Option (List Exchange)) (s t : List Entry → Type 0) (request : List ℕ) (limit : ℕ) (x : Exchange) → with_one told x ≡ logged told request limit x.answer → AnswersFrom s t x.request x.answer
    → Answered told (logged told request limit x.answer) s t
one told s t request limit x e from = record {
  made = x ∷ [];
  told_is = sym e ∙ with_just told x;
  on = λ log is.
      let (until, since, now, origin) = from log is in
      let joined = append_assoc log until since in
      (until ++ since, subst t joined now, (until, origin, (since, sym joined)));
}

-- one was made
pub answered_one : (told : Option (List Exchange)) (s t : List Entry → Type 0) (request : List ℕ) (limit : ℕ) (answer : Answer) → AnswersFrom s t request answer
    → Answered told (logged told request limit answer) s t
answered_one told s t request limit (answers.Bytes bytes) from = one told s t request limit (record { request = request; limit = limit; answer = answers.Bytes bytes }) refl from
answered_one told s t request limit answers.Lost from = one told s t request limit (record { request = request; limit = limit; answer = answers.Lost }) refl from
answered_one told s t request limit answers.NoMemory from = answered_none refl (λ log is. let (until, since, now, origin) = from log is in (until ++ since, subst t (append_assoc log until since) now))

pub answered_by : {told told' : Option (List Exchange)} (s t : List Entry → Type 0) (request : List ℕ) (limit : ℕ) (answer : Answer) → told' ≡ logged told request limit answer
    → AnswersFrom s t request answer → Answered told told' s t
answered_by {told = told} {told' = told'} s t request limit answer e from =
    subst (λ (w : Option (List Exchange)). Answered told w s t) (sym e) (answered_one told s t request limit answer from)

-- one call after another
pub answered_then : {a b c : Option (List Exchange)} {s t u : List Entry → Type 0} → Answered a b s t → Answered b c t u → Answered a c s u
answered_then {a = a} {s = s} {t = t} {u = u} p q = record {
  made = p.made ++ q.made;
  told_is = q.told_is ∙ (ap (λ (w : Option (List Exchange)). with_all w q.made) p.told_is ∙ with_both a p.made q.made);
  on = λ log is.
      let x = p.on log is in
      let y = q.on (log ++ x.0) x.1 in
      let joined = append_assoc log x.0 y.0 in (
        x.0 ++ y.0,
        subst u joined y.1,
        subst (λ (l : List Entry). AnsweredFrom log (p.made ++ q.made) l) joined (answered_on log (log ++ x.0) ((log ++ x.0) ++ y.0) p.made q.made x.2 y.2),
      );
}
