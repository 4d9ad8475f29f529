-- Whether the contents are told.
use Rattle.std.proofs.Common.{◌≡◌, Option, None, Some, is_some, Result, Ok, Err, OnOk, OnErr, refl}
use Rattle.sm_site.specs.Clauses.{Both}

pub both_told : {A : Type 0} (a b : Option A) (R : A → A → Type 0) → Both a b R → is_some b ≡ is_some a
both_told None None R both = refl
both_told (Some x) (Some y) R both = refl
both_told (Some x) None R both = absurd both
both_told None (Some y) R both = absurd both

pub call_told : {A T E : Type 0} (r : Result T E) (a b : Option A) (R S : A → A → Type 0) → OnOk r (Both a b R) → OnErr r (Both a b S) → is_some b ≡ is_some a
call_told (Ok x) a b R S done failed = both_told a b R done
call_told (Err e) a b R S done failed = both_told a b S failed
