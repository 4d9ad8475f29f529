-- Policies in turn: the first one acts, until it has retired by what it has heard; then the next one acts, and the last one stays.
use Rattle.std.specs.Prelude.{◌≡◌, ℕ, Bool, List, [], ◌∷◌, ◌++◌, if◌then◌else◌}
use Rattle.sm_policy.specs.declared.policy.Heard.{Heard}

-- what a policy chooses and whether it has retired, by what it has heard
pub record Meaning (P : Type 0) : Type 0 where
  pub pick : P → List Heard → List ℕ → ℕ → ℕ
  pub retired : P → List Heard → Bool

abbrev pub meant : {P : Type 0} → (P → List Heard → List ℕ → ℕ → ℕ) → (P → List Heard → Bool) → Meaning P
meant pick retired = record { pick = pick; retired = retired }

-- the policy that acts, what it has heard, and those after it
pub record Turn (P : Type 0) : Type 0 where
  pub who : P
  pub heard : List Heard
  pub next : List P

-- a policy that has heard nothing, and those after it
abbrev pub fresh : {P : Type 0} → P → List P → Turn P
fresh p ps = record { who = p; heard = []; next = ps }

-- the policy that acts once this one has heard this
abbrev pub settle : {P : Type 0} → Meaning P → P → List Heard → List P → Turn P
settle m p hs [] = record { who = p; heard = hs; next = [] }
settle m p hs (q ∷ qs) = if m.retired p hs then settle m q [] qs else record { who = p; heard = hs; next = q ∷ qs }

-- the turn after the one that acts has heard this
abbrev pub hears : {P : Type 0} → Meaning P → Turn P → Heard → Turn P
hears m t h = settle m t.who (t.heard ++ h ∷ []) t.next

-- Once it has heard this, it is as one that has this in front of what it hears.
pub record Continues {P : Type 0} (m : Meaning P) (old new : P) (h : Heard) : Type 0 where
  pub picks : (hs : List Heard) (ladder : List ℕ) (ahead : ℕ) → m.pick new hs ladder ahead ≡ m.pick old (h ∷ hs) ladder ahead
  pub retires : (hs : List Heard) → m.retired new hs ≡ m.retired old (h ∷ hs)

-- two policies that will do the same, each with what it has heard
pub record Alike {P : Type 0} (m : Meaning P) (p : P) (hs : List Heard) (q : P) (gs : List Heard) : Type 0 where
  pub picks : (more : List Heard) (ladder : List ℕ) (ahead : ℕ) → m.pick p (hs ++ more) ladder ahead ≡ m.pick q (gs ++ more) ladder ahead
  pub retires : (more : List Heard) → m.retired p (hs ++ more) ≡ m.retired q (gs ++ more)

-- two turns of which all will do the same
pub record Behaves {P : Type 0} (m : Meaning P) (t u : Turn P) : Type 0 where
  pub next : t.next ≡ u.next
  pub alike : Alike m t.who t.heard u.who u.heard
