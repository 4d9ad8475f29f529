-- An exchange that is answered by its number.
use Rattle.std.proofs.Common.{◌≡◌, ◌⊎◌, ⊎_elim, ℕ, ◌≤◌, Bool, true, false, List, [], ◌∷◌, ◌++◌, Some, length, refl, ap, ◌∙◌, subst, arith, append_assoc}
use Rattle.std.proofs.lemmas.List.{length-append, length-take}
use Rattle.sm_model.specs.declared.entry.Entry.{Entry}
use Rattle.sm_fetch.specs.declared.dial.Answer.{Answer}
use Rattle.sm_fetch.specs.declared.dial.Answer.TheVariants as answers
use Rattle.sm_fetch.specs.declared.dial.Exchange.{Exchange}
use Rattle.sm_fetch.specs.Exchanges.{logged, IsWithin}
use Rattle.sm_site.specs.Faults.{is_listed}
use Rattle.sm_site.specs.Meanings.{Seen}
use Rattle.sm_world.specs.Answering.{answer_for, halved}
use Rattle.sm_world.specs.Dialing.{Dialing, next_number}
use Rattle.sm_world.specs.Later.{HasMade, IsLater}
use Rattle.sm_world.specs.LaterLaws.{made_not}
use Rattle.sm_world.specs.Numbered.{IsAnswered}
use Rattle.sm_world.specs.Saying.{IsSaidBetween, SaysOn, TellsOn}
use Rattle.sm_world.specs.Went.{CameOf}
use Rattle.sm_world.specs.Worlds.{GoesOn}
use Rattle.sm_world.specs.declared.acted.Acted.{Acted}
use Rattle.sm_world.specs.declared.acted.Acted.TheVariants as acted

-- the answer where the exchange has this number
abbrev pub by_number : Dialing → ℕ → Acted → Answer
by_number s limit came = answer_for (is_listed (next_number s) s.lost) (is_listed (next_number s) s.cut) limit came

module _ {D : Type 0} (site : Seen D) (d e : D × Dialing) (request : List ℕ) (limit : ℕ) (came : Acted)
    (says : SaysOn site d.1.state d.0 request came e.1.state e.0) (went : CameOf (site.view d.0) (site.view e.0) request came) where
  one_more : (answer : Answer) → e.1.made ≡ d.1.made ++ (record { request = request; limit = limit; answer = answer }) ∷ [] → answer ≡ by_number d.1 limit came → HasMade site d e
  one_more answer is by = record {
    more = x ∷ [];
    made = is;
    answered = (answered, tt);
    on = λ within log at.
        let s = says at.world at.stands in
        let same : s.now.log ≡ (log ++ s.until) ++ s.since = s.log_is ∙ ap (λ (l : List Entry). (l ++ s.until) ++ s.since) at.log_is in (
          (log ++ s.until) ++ s.since,
          record { world = s.now; stands = s.stands; log_is = same },
          (
            s.until,
            record { answered = answered; said = subst (λ (l : List Entry). IsSaidBetween (site.view d.0) (site.view e.0) (l ++ s.until) request came) at.log_is s.said },
            (s.since, refl),
          ),
        );
  }
    where
      x : Exchange
      x = record { request = request; limit = limit; answer = answer }

      answered : IsAnswered (site.view d.0) (site.view e.0) d.1.lost d.1.cut (next_number d.1) x
      answered = record { came = came; went = went; answer = by }

  none_more : e.1.made ≡ d.1.made → HasMade site d e
  none_more is = made_not site d e is (λ log at.
      let s = says at.world at.stands in
      let same : s.now.log ≡ log ++ (s.until ++ s.since) =
      s.log_is ∙ ap (λ (l : List Entry). (l ++ s.until) ++ s.since) at.log_is ∙ append_assoc log s.until s.since
      in (s.until ++ s.since, record { world = s.now; stands = s.stands; log_is = same }))

  made : (result : Answer) → Some e.1.made ≡ logged (Some d.1.made) request limit result → (result ≡ answers.NoMemory) ⊎ (result ≡ by_number d.1 limit came)
      → HasMade site d e
  made (answers.Bytes bytes) log by =
      one_more (answers.Bytes bytes) (cc) (⊎_elim (λ wants. absurd (cc)) (λ same. same) by)
  made answers.Lost log by = one_more answers.Lost (cc) (⊎_elim (λ wants. absurd (cc)) (λ same. same) by)
  made answers.NoMemory log by = none_more (cc)

  pub later_exchange : (result : Answer) → Some e.1.made ≡ logged (Some d.1.made) request limit result → (result ≡ answers.NoMemory) ⊎ (result ≡ by_number d.1 limit came)
      → e.1.limits ≡ d.1.limits → e.1.lost ≡ d.1.lost → e.1.cut ≡ d.1.cut → e.1.since ≡ d.1.since → e.1.crashes ≡ d.1.crashes
      → TellsOn (site.view d.0) (site.view e.0) → GoesOn site d.1.state d.0 e.1.state e.0 → IsLater site d e
  later_exchange result log by limits lost cut since crashes tells goes = record {
    limits = limits;
    lost = lost;
    cut = cut;
    since = since;
    crashes = crashes;
    tells = tells;
    exchanges = made result log by;
    goes_on = goes;
  }

-- more were told, and they are counted from where they were
pub since_within : (since : ℕ) (made made' : List Exchange) (request : List ℕ) (limit : ℕ) (result : Answer) → since ≤ length made → Some made' ≡ logged (Some made) request limit result
    → since ≤ length made'
since_within since made made' request limit (answers.Bytes bytes) within log =
    let x : Exchange = record { request = request; limit = limit; answer = answers.Bytes bytes } in
    let is : made' ≡ made ++ x ∷ [] = cc in
    let len = ap (λ (l : List Exchange). length l) is ∙ length-append made (x ∷ []) in omega (arith, len, within)
since_within since made made' request limit answers.Lost within log =
    let x : Exchange = record { request = request; limit = limit; answer = answers.Lost } in
    let is : made' ≡ made ++ x ∷ [] = cc in
    let len = ap (λ (l : List Exchange). length l) is ∙ length-append made (x ∷ []) in omega (arith, len, within)
since_within since made made' request limit answers.NoMemory within log =
    let is : made' ≡ made = cc in let len = ap (λ (l : List Exchange). length l) is in omega (arith, len, within)

pub answer_within : (lost cut : Bool) (limit : ℕ) (came : Acted) → IsWithin limit (answer_for lost cut limit came)
answer_within lost cut limit acted.Unopened = omega arith
answer_within lost cut limit acted.Broken = omega arith
answer_within lost cut limit acted.NoMemory = omega arith
answer_within true cut limit (acted.Sent bytes) = omega arith
answer_within false cut limit (acted.Sent bytes) = let len = length-take limit (halved cut bytes) in omega (arith, len)
