-- The number that digits write, one digit more.
use Rattle.std.proofs.Common.{◌≡◌, ℕ, ◌+◌, ◌*◌, ◌-◌, List, [], ◌∷◌, ◌++◌, refl}
use Rattle.sm_model.specs.Digits.{decimal_from}

pub decimal_from-push : (n : ℕ) (ds : List ℕ) (d : ℕ) → decimal_from n (ds ++ d ∷ []) ≡ 10 * decimal_from n ds + (d - 48)
decimal_from-push n [] d = refl
decimal_from-push n (c ∷ ds) d = decimal_from-push (10 * n + (c - 48)) ds d
