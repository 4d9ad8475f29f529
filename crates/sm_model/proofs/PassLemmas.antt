-- A list of lines of which none holds, and the answer where that is so.
use Rattle.std.proofs.Common.{◌≡◌, Bool, true, false, not, cond, List, [], ◌∷◌, ◌++◌, Option, Some, None, Result, Ok, Err, refl, sym, ap, ◌∙◌}
use Rattle.std.specs.Option.{option_map_or}
use Rattle.std.specs.List.{AllByRecursion}
use Rattle.sm_model.specs.declared.cause.Cause.{Cause}
use Rattle.sm_model.specs.Frag.{Line, first_cause}

abbrev pub NoneHolds : List Line → Type 0
NoneHolds xs = AllByRecursion (λ x. x.0 ≡ false) xs

pub none_holds : (xs : List Line) → NoneHolds xs → first_cause xs ≡ None
none_holds [] h = refl
none_holds (x ∷ xs) h = ap (λ (v : Bool). cond v (Some x.1) (first_cause xs)) h.0 ∙ none_holds xs h.1

pub none_holds-append : (xs ys : List Line) → NoneHolds xs → NoneHolds ys → NoneHolds (xs ++ ys)
none_holds-append [] ys p q = q
none_holds-append (x ∷ xs) ys p q = (p.0, none_holds-append xs ys p.1 q)

some_none : (c : Cause) (A : Type 0) → Some c ≡ None → A
some_none c A e = cc

-- a line that is passed, and those behind it
passed : (t : Bool) (c : Cause) (rest : Option Cause) → cond t (Some c) rest ≡ None → (t ≡ false) × (rest ≡ None)
passed true c rest e = some_none c ((true ≡ false) × (rest ≡ None)) e
passed false c rest e = (refl, e)

pub all_pass : (xs : List Line) → first_cause xs ≡ None → NoneHolds xs
all_pass [] e = tt
all_pass (x ∷ xs) e = let p = passed x.0 x.1 (first_cause xs) e in (p.0, all_pass xs p.1)

pub not_false : (t : Bool) → not t ≡ false → t ≡ true
not_false true e = refl
not_false false e = sym e

-- ---- an answer that is Ok

abbrev ok : {A : Type 0} → A → Result A Cause
ok x = Ok x

pub err_ok : {A : Type 0} → (c : Cause) (x : A) → Err c ≡ ok x → ⊥
err_ok c x e = cc

ok_is : {A : Type 0} → (x y : A) → ok x ≡ ok y → x ≡ y
ok_is x y e = cc

-- no cause holds, and the value is the one that is answered
pub record Says {A : Type 0} (o : Option Cause) (x y : A) : Type 0 where
  pub none : o ≡ None
  pub same : x ≡ y

pub says : {A : Type 0} → (o : Option Cause) (x y : A) → option_map_or (λ c. Err c) o (Ok x) ≡ ok y → Says o x y
says None x y e = record { none = refl; same = ok_is x y e }
says (Some c) x y e = absurd (err_ok c y e)
