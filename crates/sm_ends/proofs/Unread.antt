-- Why an input was not read.
use Rattle.std.proofs.Common.{◌≡◌, ◌≤◌, ◌<◌, ◌+◌, ℕ, List, ◌++◌, length, Option, Some, None, Result, Ok, Err, ap, subst, sym, arith}
use Rattle.std.specs.Prelude.{IfErr, IfSome, IsErrAnd}
use Rattle.sm_ends.specs.Faults.{Rose}
use Rattle.std.specs.Io.KnownBytes.{Consumes}
use Rattle.std.proofs.KnownBytes.{Consumes-trans}
use Rattle.std.proofs.lemmas.List.{length-append}
use Rattle.sm_ends.specs.Ended.{End, WhyUnread}
use Rattle.sm_ends.specs.Moves.{TakesAtMost, TakesCount}
use Rattle.sm_ends.specs.declared.input.InputFault.{InputFault}
use Rattle.sm_ends.specs.declared.input.InputFault.TheVariants as input
use Rattle.sm_ends.proofs.Known.{TakesCount-more}

-- what an error is that was passed on by `?`
pub passed_on : {T E : Type 0} (r : Result T E) (P : E → Type 0) (why : E) → IsErrAnd r (λ y. y ≡ why) → P why → IfErr r P
passed_on (Ok x) P why same p = tt
passed_on (Err y) P why same p = subst P (sym same) p

-- a count that rose since a moment rose since one before it
pub rose_since : (first then now : ℕ) → first ≤ then → Rose then now → Rose first now
rose_since first then now later rose = omega (arith, later, rose)

pub at_most : (old new : Option (List ℕ)) (n most : ℕ) → TakesCount old new n → n ≤ most → TakesAtMost old new most
at_most old new n most h le = (h.0, h.1, omega (arith, h.2))

-- more bytes came than that
pub long : (most : ℕ) (old new : Option (List ℕ)) (bytes : List ℕ) → Consumes old new bytes → most < length bytes → IfSome old (λ all. most < length all)
long most None new bytes h lt = tt
long most (Some xs) None bytes h lt = absurd h
long most (Some xs) (Some ys) bytes h lt = omega (arith, ap length h, length-append bytes ys)

-- behind what was read, nothing more was wanted
pub unread_behind : (most : ℕ) (front : List ℕ) (old mid new : End) (fault : InputFault) → length front ≡ most → Consumes old.told mid.told front
    → old.faults ≤ mid.faults → WhyUnread 0 mid new fault → WhyUnread most old new fault
unread_behind most front old mid new input.Failed len taken later why =
    let bytes = why.1 in (
      omega (arith, later, why.0),
      (front ++ bytes.0, Consumes-trans old.told mid.told new.told front bytes.0 taken bytes.1, omega (arith, len, bytes.2, length-append front bytes.0)),
    )
unread_behind most front old mid new input.TooLong len taken later why =
    let all : TakesCount old.told new.told (most + 1) = TakesCount-more old.told mid.told new.told front most 1 len taken why.1 in
    (long most old.told new.told all.0 all.1 (omega (arith, all.2)), all)
unread_behind most front old mid new input.NoMemory len taken later why =
    (front ++ why.0, Consumes-trans old.told mid.told new.told front why.0 taken why.1, omega (arith, len, why.2, length-append front why.0))
