-- What readings of a store leave together, and why a file that is read from it ends too early, of what came of its parts.
use Rattle.std.proofs.Common.{◌≡◌, ◌≤◌, ℕ, List, Option, Result, Ok, Err, IsSome, ◌∙◌, arith, le_refl}
use Rattle.std.specs.Prelude.{is_some}
use Rattle.sm_site.specs.Clauses.{Rose}
use Rattle.sm_site.specs.Image.{Image}
use Rattle.sm_site.specs.Meanings.{View, Seen}
use Rattle.sm_site.proofs.Moments.{alone_here, alone_then, no_call}
use Rattle.sm_archive.specs.declared.archive.Archive.{Archive}
use Rattle.sm_command.proofs.Lasting.{no_other}
use Rattle.sm_ends.specs.Faults.{Rose as FaultsRose}
use Rattle.sm_export.specs.Gathering.{IsPassedOn}
use Rattle.sm_export.specs.Reading.{IsOnlyRead, WhyBroken}
use Rattle.sm_export.specs.declared.gathering.Broken.{Broken}
use Rattle.sm_export.specs.declared.gathering.Broken.TheVariants as broken
use Rattle.sm_export.proofs.Passing.{rose_before, rose_then, same_error}

-- ---- readings

module _ {D : Type 0} (site : Seen D) where
  -- none
  pub not_read : ((d : D) (t : ℕ) (c : Image) → site.left_at d t c → t ≤ (site.view d).moment) → (archive : Archive) (d : D) → IsOnlyRead site archive d d
  not_read no_later archive d = record {
    stands = λ log doubt s. s;
    any_moment = no_call site d (λ t c. site.may_leave d c) (no_later d);
    disk_alone = alone_here (site.view d);
  }

  -- one, and then another
  pub read_then : ((d : D) (c : Image) → site.left_at d (site.view d).moment c → site.may_leave d c) → ((d : D) (c : Image) → site.may_leave d c → site.left_at d (site.view d).moment c) → (archive : Archive) (old mid new : D)
      → IsOnlyRead site archive old mid → IsOnlyRead site archive mid new → IsOnlyRead site archive old new
  read_then at_now now_at archive old mid new first second = record {
    stands = λ log doubt s. second.stands log doubt (first.stands log doubt s);
    any_moment = no_other site at_now now_at old mid new first.any_moment second.any_moment;
    disk_alone = alone_then (site.view old) (site.view mid) (site.view new) first.disk_alone second.disk_alone;
  }

-- ---- one cause

-- nothing is wrong
pub well : {T : Type 0} (old new : View) (m n : ℕ) (t : T) → m ≤ n → WhyBroken old new m n (Ok t)
well old new m n t le = record {
  damaged = λ e. absurd cc;
  disk_fault = λ e. absurd cc;
  fault = λ e. absurd cc;
  later = le;
}

pub no_memory : {T : Type 0} (old new : View) (m : ℕ) → WhyBroken {T = T} old new m m (Err broken.NoMemory)
no_memory old new m = record {
  damaged = λ e. absurd cc;
  disk_fault = λ e. absurd cc;
  fault = λ e. absurd cc;
  later = le_refl m;
}

pub disk_failed : {T : Type 0} (old new : View) (m : ℕ) → Rose old.disk_faults new.disk_faults → WhyBroken {T = T} old new m m (Err broken.DiskFault)
disk_failed old new m rose = record {
  damaged = λ e. absurd cc;
  disk_fault = λ e. rose;
  fault = λ e. absurd cc;
  later = le_refl m;
}

pub was_damaged : {T : Type 0} (old new : View) (m : ℕ) → (IsSome old.contents → ⊥) → WhyBroken {T = T} old new m m (Err broken.Damaged)
was_damaged old new m untold = record {
  damaged = λ e. untold;
  disk_fault = λ e. absurd cc;
  fault = λ e. absurd cc;
  later = le_refl m;
}

pub sink_broke : {T : Type 0} (old new : View) (m n : ℕ) → FaultsRose m n → m ≤ n → WhyBroken {T = T} old new m n (Err broken.WriteFault)
sink_broke old new m n rose le = record {
  damaged = λ e. absurd cc;
  disk_fault = λ e. absurd cc;
  fault = λ e. rose;
  later = le;
}

-- bytes were not passed on, whatever the disk did before
pub not_passed : {T U : Type 0} (old new : View) (a b : Option (List ℕ)) (m n : ℕ) (g h bytes : List ℕ) (e : Broken) → IsPassedOn {T = T} a b m n g h bytes (Err e)
    → WhyBroken {T = U} old new m n (Err e)
not_passed {T} {U} old new a b m n g h bytes e p = record {
  damaged = λ is. absurd (p.damaged (same_error {T = U} {U = T} e broken.Damaged is));
  disk_fault = λ is. absurd (p.disk (same_error {T = U} {U = T} e broken.DiskFault is));
  fault = λ is. p.fault (same_error {T = U} {U = T} e broken.WriteFault is);
  later = p.later;
}

-- ---- causes before and behind

pub rose_later : (a b c : ℕ) → a ≤ b → Rose b c → Rose a c
rose_later a b c le rose =
    let later = rose.later in
    record { later = omega (arith, le, later); rose = λ last. (let now = rose.rose last in omega (arith, le, now)) }

-- the sink was asked before
pub cause_since : {T : Type 0} (old new : View) (l m n : ℕ) (r : Result T Broken) → l ≤ m → WhyBroken old new m n r → WhyBroken old new l n r
cause_since old new l m n r le why =
    let later = why.later in
    record {
      damaged = why.damaged;
      disk_fault = why.disk_fault;
      fault = λ e. rose_before l m n le (why.fault e);
      later = omega (arith, le, later);
    }

-- both were asked before
pub cause_behind : {T : Type 0} (old mid new : View) (l m n : ℕ) (r : Result T Broken) → is_some mid.contents ≡ is_some old.contents → old.disk_faults ≤ mid.disk_faults → l ≤ m
    → WhyBroken mid new m n r → WhyBroken old new l n r
cause_behind old mid new l m n r told fewer le why =
    let later = why.later in
    record {
      damaged = λ e some. why.damaged e (told ∙ some);
      disk_fault = λ e. rose_later old.disk_faults mid.disk_faults new.disk_faults fewer (why.disk_fault e);
      fault = λ e. rose_before l m n le (why.fault e);
      later = omega (arith, le, later);
    }

-- the sink was asked again
pub cause_then : {T : Type 0} (old new : View) (l m n : ℕ) (r : Result T Broken) → WhyBroken old new l m r → m ≤ n → WhyBroken old new l n r
cause_then old new l m n r why le =
    let later = why.later in
    record {
      damaged = why.damaged;
      disk_fault = why.disk_fault;
      fault = λ e. rose_then l m n (why.fault e) le;
      later = omega (arith, le, later);
    }

-- an error is the same of whatever value there might have been
pub same_cause : {T U : Type 0} (old new : View) (m n : ℕ) (e : Broken) → WhyBroken {T = T} old new m n (Err e) → WhyBroken {T = U} old new m n (Err e)
same_cause {T} {U} old new m n e why = record {
  damaged = λ is. why.damaged (same_error {T = U} {U = T} e broken.Damaged is);
  disk_fault = λ is. why.disk_fault (same_error {T = U} {U = T} e broken.DiskFault is);
  fault = λ is. why.fault (same_error {T = U} {U = T} e broken.WriteFault is);
  later = why.later;
}
