-- The bytes that were there stay in front over one call that appends after another.
use Rattle.std.proofs.Common.{◌≡◌, ℕ, List, [], ◌++◌, sym, ap, ◌∙◌, append_assoc}
use Rattle.std.proofs.lemmas.List.{append-nil}
use Rattle.sm_box.specs.Appended.{StaysInFront}

pub stays_same : (old new : List ℕ) → new ≡ old → StaysInFront old new
stays_same old new e = record { behind = []; joined = e ∙ sym (append-nil old) }

pub stays_behind : (old more mid new : List ℕ) → mid ≡ old ++ more → StaysInFront mid new → StaysInFront old new
stays_behind old more mid new e s = record {
  behind = more ++ s.behind;
  joined = s.joined ∙ ap (λ (xs : List ℕ). xs ++ s.behind) e ∙ append_assoc old more s.behind;
}
