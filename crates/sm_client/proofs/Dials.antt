-- What a play leaves of the dial.
use Rattle.std.proofs.Common.{◌≡◌, ◌≤◌, ◌+◌, ◌⊎◌, ℕ, List, [], ◌∷◌, ◌++◌, min, Option, Some, refl, ap, ◌∙◌, arith, inl, inr}
use Rattle.std.specs.Prelude.{Contains}
use Rattle.std.proofs.lemmas.List.Elements.{Contains-push_cases}
use Rattle.sm_model.specs.declared.entry.Entry.{Entry}
use Rattle.sm_fetch.specs.declared.got.Got.{Got}
use Rattle.sm_fetch.specs.declared.got.Got.TheVariants as got
use Rattle.sm_fetch.specs.declared.dial.Exchange.{Exchange}
use Rattle.sm_fetch.specs.Exchanges.{Peer, Rose}
use Rattle.sm_fetch.specs.Origins.{Grows, Answered, DialAlone}
use Rattle.sm_fetch.proofs.Alone.{Passes, grown_then, alone_none}
use Rattle.sm_fetch.proofs.Answering.{answered_same, answered_none, answered_then}
use Rattle.sm_fetch.proofs.Origin.{stays_grown}
use Rattle.sm_client.specs.declared.report.Miss.{Miss}
use Rattle.sm_client.specs.declared.report.Miss.TheVariants as miss
use Rattle.sm_client.specs.declared.list.Listed.{Listed}
use Rattle.sm_client.specs.declared.list.Listed.TheVariants as listed_once
use Rattle.sm_client.specs.declared.piece.Asked.{Asked}
use Rattle.sm_client.specs.declared.piece.Asked.TheVariants as asked
use Rattle.sm_client.specs.Stands.{miss_of}
use Rattle.sm_client.specs.Calls.{IsListedOf, IsAskedOf}
use Rattle.sm_client.specs.Dials.{Dialed, LeavesDial, carried_listed, carried_asked}

-- ---- counts

at_most : (x b c : ℕ) → x ≤ b → b ≤ c → x ≤ c
at_most x b c h k = omega (arith, h, k)

at_most-before : (a b c most : ℕ) → a ≤ b → min (b + 1) most ≤ c → min (a + 1) most ≤ c
at_most-before a b c most h k = omega (arith, h, k)

rose-later : (a b c : ℕ) → Rose a b → b ≤ c → Rose a c
rose-later a b c r h = at_most _ b c r h

rose-before : (a b c : ℕ) → a ≤ b → Rose b c → Rose a c
rose-before a b c h r = at_most-before a b c _ h r

-- ---- one call after another

none-lost : (m : Miss) → Contains [] m → ⊥
none-lost m h = omega (arith, h.1)

pub dialed-start : (l : Option (List Exchange)) (f : ℕ) (s : List Entry → Type 0) → Dialed l l f f s s []
dialed-start l f s = record { later = omega arith; lost = λ h. absurd (none-lost miss.Lost h); grows = stays_grown s; answered = answered_same l s }

none-carried : {l l' : Option (List Exchange)} {f f' : ℕ} {s s' : List Entry → Type 0} → f ≤ f' → Grows s s' → Answered l l' s s' → Dialed l l' f f' s s' []
none-carried later grows answered = record { later = later; lost = λ h. absurd (none-lost miss.Lost h); grows = grows; answered = answered }

-- no exchange was made
pub dialed-none : {l l' : Option (List Exchange)} {f f' : ℕ} {s s' : List Entry → Type 0} → l' ≡ l → f ≤ f' → Grows s s' → Dialed l l' f f' s s' []
dialed-none same later grows = none-carried later grows (answered_none same grows)

-- what was carried before is forgotten
pub dialed-then : {k l m : Option (List Exchange)} {f g h : ℕ} {s t u : List Entry → Type 0} {xs ys : List Miss} → Dialed k l f g s t xs → Dialed l m g h t u ys → Dialed k m f h s u ys
dialed-then {f = f} {g = g} {h = h} {s = s} {t = t} {u = u} a b = record {
  later = omega (arith, a.later, b.later);
  lost = λ l. rose-before f g h a.later (b.lost l);
  grows = grown_then s t u a.grows b.grows;
  answered = answered_then a.answered b.answered;
}

-- one outcome more is carried
dialed-more : {j k l : Option (List Exchange)} {f g h : ℕ} {s t u : List Entry → Type 0} {xs : List Miss} {m : Miss} (ys : List Miss) → Dialed j k f g s t xs
    → Dialed k l g h t u (m ∷ []) → ys ≡ xs ++ m ∷ [] → Dialed j l f h s u ys
dialed-more {f = f} {g = g} {h = h} {s = s} {t = t} {u = u} {xs = xs} {m = m} ys a b is = record {
  later = omega (arith, a.later, b.later);
  lost = λ l. by (Contains-push_cases xs m miss.Lost (rw is at l));
  grows = grown_then s t u a.grows b.grows;
  answered = answered_then a.answered b.answered;
}
  where
    by : Contains xs miss.Lost ⊎ (m ≡ miss.Lost) → Rose f h
    by (inl l) = rose-later f g h (a.lost l) b.later
    by (inr e) = rose-before f g h a.later (b.lost (0, omega arith, e))

-- ---- what calls leave

module _ {C : Type 0} {log : C → Option (List Exchange)} {store : C → List Entry → Type 0} {later : C → C → Type 0} {faults : C → ℕ} {chosen : C → Option Peer} where
  -- nothing was done
  pub left-same : {d : C} → later d d → LeavesDial log store later faults chosen d d []
  left-same {d = d} same =
      record { goes_on = same; turned = refl; dialed = dialed-start (log d) (faults d) (store d) }

  -- nothing is carried
  pub left-none : {d e : C} → DialAlone log store later faults chosen d e → LeavesDial log store later faults chosen d e []
  left-none a = record { goes_on = a.on.goes_on; turned = a.turned; dialed = none-carried a.on.no_fewer a.on.grows a.answered }

  pub left-dropped : {d e : C} {xs : List Miss} → LeavesDial log store later faults chosen d e xs → LeavesDial log store later faults chosen d e []
  left-dropped a = record { goes_on = a.goes_on; turned = a.turned; dialed = none-carried a.dialed.later a.dialed.grows a.dialed.answered }

  -- what was carried before is forgotten
  pub left-then : {d e f : C} {xs ys : List Miss} → Passes later
      → LeavesDial log store later faults chosen d e xs → LeavesDial log store later faults chosen e f ys → LeavesDial log store later faults chosen d f ys
  left-then {d = d} {e = e} {f = f} passes a b = record {
    goes_on = passes d e f a.goes_on b.goes_on;
    turned = b.turned ∙ a.turned;
    dialed = dialed-then a.dialed b.dialed;
  }

  -- no exchange was made before
  pub left-behind : {d e f : C} {ys : List Miss} → Passes later → later d e → faults d ≤ faults e → chosen e ≡ chosen d → log e ≡ log d → Grows (store d) (store e)
      → LeavesDial log store later faults chosen e f ys → LeavesDial log store later faults chosen d f ys
  left-behind passes goes_on no_fewer turned same grows b =
      left-then passes (left-none (alone_none (record { goes_on = goes_on; no_fewer = no_fewer; grows = grows }) turned same)) b

  -- one outcome more is carried
  pub left-more : {d e f : C} {xs : List Miss} {m : Miss} (ys : List Miss) → Passes later
      → LeavesDial log store later faults chosen d e xs → LeavesDial log store later faults chosen e f (m ∷ []) → ys ≡ xs ++ m ∷ [] → LeavesDial log store later faults chosen d f ys
  left-more {d = d} {e = e} {f = f} ys passes a b is = record {
    goes_on = passes d e f a.goes_on b.goes_on;
    turned = b.turned ∙ a.turned;
    dialed = dialed-more ys a.dialed b.dialed is;
  }

  pub left-carried : {d e : C} {xs : List Miss} (ys : List Miss) → LeavesDial log store later faults chosen d e xs → ys ≡ xs → LeavesDial log store later faults chosen d e ys
  left-carried ys a is = rw is a

-- ---- as calls tell it

lost-got : (g : Got) → miss_of g ≡ Some miss.Lost → g ≡ got.Lost
lost-got (got.Manifest l) e = absurd (cc)
lost-got (got.Fragment raw) e = absurd (cc)
lost-got (got.Status status) e = absurd (cc)
lost-got got.Cut e = absurd (cc)
lost-got (got.Unreadable at) e = absurd (cc)
lost-got got.Lost e = refl
lost-got got.NoMemory e = absurd (cc)

module _ {C : Type 0} {log : C → Option (List Exchange)} {store : C → List Entry → Type 0} {later : C → C → Type 0} {faults : C → ℕ} {chosen : C → Option Peer} where
  missed-left : {d e : C} (g : Got) (m : Miss) → DialAlone log store later faults chosen d e → (g ≡ got.Lost → Rose (faults d) (faults e))
      → miss_of g ≡ Some m → LeavesDial log store later faults chosen d e (m ∷ [])
  missed-left {d = d} {e = e} g m a lost is = record {
    goes_on = a.on.goes_on;
    turned = a.turned;
    dialed = record {
      later = a.on.no_fewer;
      lost = λ l. by (Contains-push_cases [] m miss.Lost l);
      grows = a.on.grows;
      answered = a.answered;
    };
  }
    where
      by : Contains [] miss.Lost ⊎ (m ≡ miss.Lost) → Rose (faults d) (faults e)
      by (inl l) = absurd (none-lost miss.Lost l)
      by (inr same) = lost (lost-got g (is ∙ ap (λ (n : Miss). Some n) same))

  pub listed-left : {d e : C} {g : Got} (name : List ℕ) (r : Listed) → DialAlone log store later faults chosen d e → (g ≡ got.Lost → Rose (faults d) (faults e))
      → IsListedOf g name r → LeavesDial log store later faults chosen d e (carried_listed r)
  listed-left name (listed_once.Found found) a lost is = left-none a
  listed-left {g = g} name (listed_once.Missed m) a lost is = missed-left g m a lost is
  listed-left name listed_once.NoMemory a lost is = left-none a

  pub asked-left : {d e : C} {g : Got} (level : ℕ) (r : Asked) → DialAlone log store later faults chosen d e → (g ≡ got.Lost → Rose (faults d) (faults e))
      → IsAskedOf g level r → LeavesDial log store later faults chosen d e (carried_asked r)
  asked-left level (asked.Took raw place) a lost is = left-none a
  asked-left {g = g} level (asked.Missed m) a lost is = missed-left g m a lost is
  asked-left level asked.NoMemory a lost is = left-none a
