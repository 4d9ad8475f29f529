-- What calls leave of a dial, one after another.
use Rattle.std.proofs.Common.{◌≡◌, ◌≤◌, ℕ, List, ◌++◌, Option, refl, ◌∙◌, subst, append_assoc, arith}
use Rattle.sm_model.specs.declared.entry.Entry.{Entry}
use Rattle.sm_fetch.specs.declared.dial.Answer.{Answer}
use Rattle.sm_fetch.specs.declared.dial.Exchange.{Exchange}
use Rattle.sm_fetch.specs.Exchanges.{Peer, logged}
use Rattle.sm_fetch.specs.Origins.{Grows, AnswersFrom, DialGoesOn, DialAlone}
use Rattle.sm_fetch.proofs.Answering.{answered_same, answered_none, answered_by, answered_then}
use Rattle.sm_fetch.proofs.Origin.{stays_grown, grown}

-- what is later than a later one is later
abbrev pub Passes : {C : Type 0} → (C → C → Type 0) → Type 0
Passes {C} later = (d e f : C) → later d e → later e f → later d f

pub grown_then : (s t u : List Entry → Type 0) → Grows s t → Grows t u → Grows s u
grown_then s t u g h log told =
    let a = g log told in
    let b = h (log ++ a.0) a.1 in
    (a.0 ++ b.0, subst u (append_assoc log a.0 b.0) b.1)

-- ---- it goes on

module _ {C : Type 0} {store : C → List Entry → Type 0} {later : C → C → Type 0} {faults : C → ℕ} where
  pub on_same : {d : C} → later d d → DialGoesOn store later faults d d
  on_same {d = d} same = record { goes_on = same; no_fewer = omega arith; grows = stays_grown (store d) }

  pub on_then : {d e f : C} → Passes later
      → DialGoesOn store later faults d e → DialGoesOn store later faults e f → DialGoesOn store later faults d f
  on_then {d = d} {e = e} {f = f} passes a b = record {
    goes_on = passes d e f a.goes_on b.goes_on;
    no_fewer = omega (arith, a.no_fewer, b.no_fewer);
    grows = grown_then (store d) (store e) (store f) a.grows b.grows;
  }

-- ---- exchanges and nothing else

module _ {C : Type 0} {log : C → Option (List Exchange)} {store : C → List Entry → Type 0} {later : C → C → Type 0} {faults : C → ℕ} {chosen : C → Option Peer} where
  -- nothing was done
  pub alone_same : {d : C} → later d d → DialAlone log store later faults chosen d d
  alone_same {d = d} same = record { on = on_same same; turned = refl; answered = answered_same (log d) (store d) }

  -- no exchange was made
  pub alone_none : {d e : C} → DialGoesOn store later faults d e → chosen e ≡ chosen d → log e ≡ log d → DialAlone log store later faults chosen d e
  alone_none on turned same = record { on = on; turned = turned; answered = answered_none same on.grows }

  -- one was made
  pub alone_one : {d e : C} (request : List ℕ) (limit : ℕ) (answer : Answer) → later d e → faults d ≤ faults e → chosen e ≡ chosen d → log e ≡ logged (log d) request limit answer
      → AnswersFrom (store d) (store e) request answer → DialAlone log store later faults chosen d e
  alone_one {d = d} {e = e} request limit answer goes_on no_fewer turned told from = record {
    on = record { goes_on = goes_on; no_fewer = no_fewer; grows = grown (store d) (store e) request answer from };
    turned = turned;
    answered = answered_by (store d) (store e) request limit answer told from;
  }

  -- one call after another
  pub alone_then : {d e f : C} → Passes later → DialAlone log store later faults chosen d e → DialAlone log store later faults chosen e f → DialAlone log store later faults chosen d f
  alone_then passes a b = record { on = on_then passes a.on b.on; turned = b.turned ∙ a.turned; answered = answered_then a.answered b.answered }
