-- What a call that passes bytes on answers.
use Rattle.std.proofs.Common.{◌≡◌, ◌≤◌, ◌+◌, min, ℕ, List, ◌++◌, Option, Result, Ok, Err, OnOk, OnErr, IfOk, ap, subst, arith, append_assoc}
use Rattle.std.specs.Prelude.{IsErrOf}
use Rattle.std.proofs.lemmas.Result.{on_ok_weaker, on_err_weaker}
use Rattle.sm_ends.specs.Faults.{Rose}
use Rattle.sm_export.specs.Gathering.{IsPassedOn, Leaves, LeavesFront}
use Rattle.sm_export.specs.declared.gathering.Broken.{Broken}
use Rattle.sm_export.specs.declared.gathering.Broken.TheVariants as broken
use Rattle.sm_export.proofs.Gathered.{leaves_more, front_more, front_of_longer}

-- ---- one call

pub passed : {T : Type 0} (a b : Option (List ℕ)) (m n : ℕ) (g h bytes : List ℕ) (t : T) → Leaves a b (g ++ bytes) h → m ≤ n → IsPassedOn a b m n g h bytes (Ok t)
passed a b m n g h bytes t p le = record {
  ok = p;
  err = tt;
  disk = λ e. absurd cc;
  damaged = λ e. absurd cc;
  fault = λ e. absurd cc;
  later = le;
}

pub no_room : {T : Type 0} (a b : Option (List ℕ)) (m n : ℕ) (g h bytes : List ℕ) → LeavesFront a b (g ++ bytes) h → m ≤ n → IsPassedOn {T = T} a b m n g h bytes (Err broken.NoMemory)
no_room a b m n g h bytes p le = record {
  ok = tt;
  err = p;
  disk = λ e. absurd cc;
  damaged = λ e. absurd cc;
  fault = λ e. absurd cc;
  later = le;
}

pub sink_failed : {T : Type 0} (a b : Option (List ℕ)) (m n : ℕ) (g h bytes : List ℕ) → LeavesFront a b (g ++ bytes) h → Rose m n → m ≤ n → IsPassedOn {T = T} a b m n g h bytes (Err broken.WriteFault)
sink_failed a b m n g h bytes p rose le = record {
  ok = tt;
  err = p;
  disk = λ e. absurd cc;
  damaged = λ e. absurd cc;
  fault = λ e. rose;
  later = le;
}

-- the same bytes, said in another way
pub passed_as : {T : Type 0} (a b : Option (List ℕ)) (m n : ℕ) (g h k xs ys : List ℕ) (r : Result T Broken) → h ++ ys ≡ g ++ xs → IsPassedOn a b m n h k ys r → IsPassedOn a b m n g k xs r
passed_as a b m n g h k xs ys r e p = record {
  ok = subst (λ (l : List ℕ). OnOk r (Leaves a b l k)) e p.ok;
  err = subst (λ (l : List ℕ). OnErr r (LeavesFront a b l k)) e p.err;
  disk = p.disk;
  damaged = p.damaged;
  fault = p.fault;
  later = p.later;
}

-- ---- two calls

at_most : (x b c : ℕ) → x ≤ b → b ≤ c → x ≤ c
at_most x b c h k = omega (arith, h, k)

at_most_before : (a b c most : ℕ) → a ≤ b → min (b + 1) most ≤ c → min (a + 1) most ≤ c
at_most_before a b c most h k = omega (arith, h, k)

pub rose_before : (a b c : ℕ) → a ≤ b → Rose b c → Rose a c
rose_before a b c le rose = at_most_before a b c _ le rose

pub rose_then : (a b c : ℕ) → Rose a b → b ≤ c → Rose a c
rose_then a b c rose le = at_most _ b c rose le

-- the second goes on behind what the first passed on
pub then_passed : {T : Type 0} (a b c : Option (List ℕ)) (l m n : ℕ) (g h k xs ys : List ℕ) (r : Result T Broken) → Leaves a b (g ++ xs) h → l ≤ m → IsPassedOn b c m n h k ys r
    → IsPassedOn a c l n g k (xs ++ ys) r
then_passed a b c l m n g h k xs ys r p le q =
    let later = q.later in
    record {
      ok = on_ok_weaker r (λ s. subst (λ (t : List ℕ). Leaves a c t k) (append_assoc g xs ys) (leaves_more a b c (g ++ xs) ys h k p s)) q.ok;
      err = on_err_weaker r (λ s. subst (λ (t : List ℕ). LeavesFront a c t k) (append_assoc g xs ys) (front_more a b c (g ++ xs) ys h k p s)) q.err;
      disk = q.disk;
      damaged = q.damaged;
      fault = λ e. rose_before l m n le (q.fault e);
      later = at_most l m n le later;
    }

-- an error is the same of whatever value there might have been
pub same_error : {T U : Type 0} (e f : Broken) → IsErrOf {T = T} (Err e) f → IsErrOf {T = U} (Err e) f
same_error e f is = let same : e ≡ f = cc in ap (λ (x : Broken). Err x) same

-- no second is made where the first failed
pub failed_first : {T U : Type 0} (a b : Option (List ℕ)) (m n : ℕ) (g h xs ys : List ℕ) (e : Broken) → IsPassedOn {T = T} a b m n g h xs (Err e) → IsPassedOn {T = U} a b m n g h (xs ++ ys) (Err e)
failed_first {T} {U} a b m n g h xs ys e p = record {
  ok = tt;
  err = subst (λ (t : List ℕ). LeavesFront a b t h) (append_assoc g xs ys) (front_of_longer a b (g ++ xs) ys h p.err);
  disk = λ is. p.disk (same_error {T = U} {U = T} e broken.DiskFault is);
  damaged = λ is. p.damaged (same_error {T = U} {U = T} e broken.Damaged is);
  fault = λ is. p.fault (same_error {T = U} {U = T} e broken.WriteFault is);
  later = p.later;
}

-- whatever came of a call, by what came of it at each
pub either : {T : Type 0} (r : Result T Broken) (F G : Type 0) (P : T → Type 0) → ((t : T) → P t → F) → (G → F) → IfOk r P → OnErr r G → F
either (Ok t) F G P f h p q = f t p
either (Err e) F G P f h p q = h q
