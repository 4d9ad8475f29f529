-- Which calls of a site in memory fail.
use Rattle.std.specs.Prelude.{ℕ, suc, zero, ◌+◌, ◌-◌, ◌^◌, ◌==◌, min, Bool, true, false, ◌||◌, ◌≡◌, ◌⊎◌, List, Option, None, Some}
use Rattle.std.specs.Prelude.{Result, IsErr, OnErr, IsTrue}
use Rattle.std.specs.List.{list_any}

-- The numbers, from 1, of the disk calls and of the link calls that are to fail, and how many there were; whether a failed write reaches
-- the contents; how many writes and syncs still pass, where that is bounded; whether memory has run out.
pub record Faults : Type 0 where
  pub disk_failing : List ℕ
  pub disk_calls : ℕ
  pub link_failing : List ℕ
  pub link_calls : ℕ
  pub reaches : Bool
  pub stop : Option ℕ
  pub starved : Bool

-- one more, up to the last value of 64 bits
abbrev pub one_more : ℕ → ℕ
one_more n = min (n + 1) (2 ^ 64 - 1)

abbrev pub is_listed : ℕ → List ℕ → Bool
is_listed n xs = list_any (λ x. x == n) xs

-- no write or sync passes any more
abbrev pub is_stopped : Option ℕ → Bool
is_stopped None = false
is_stopped (Some zero) = true
is_stopped (Some (suc n)) = false

abbrev pub one_less : Option ℕ → Option ℕ
one_less None = None
one_less (Some zero) = Some zero
one_less (Some (suc n)) = Some n

-- whether the next size or read, the next write or sync, the next event or send is to fail
abbrev pub disk_fails : Faults → Bool
disk_fails f = is_listed (one_more f.disk_calls) f.disk_failing

abbrev pub write_fails : Faults → Bool
write_fails f = disk_fails f || is_stopped f.stop

abbrev pub link_fails : Faults → Bool
link_fails f = is_listed (one_more f.link_calls) f.link_failing

-- and after it, where memory may have run out
abbrev pub after_disk : Faults → Bool → Faults
after_disk f starved = record f { disk_calls = one_more f.disk_calls; starved = starved }

abbrev pub after_write : Faults → Bool → Faults
after_write f starved = record f { disk_calls = one_more f.disk_calls; stop = one_less f.stop; starved = starved }

abbrev pub after_link : Faults → Bool → Faults
after_link f starved = record f { link_calls = one_more f.link_calls; starved = starved }

-- A call is counted, and memory that has run out stays so. It fails where it is to fail, and otherwise where memory has run out alone.
pub record FailsAs {T E : Type 0} (is_due : Faults → Bool) (after : Faults → Bool → Faults) (old new : Faults) (result : Result T E) : Type 0 where
  pub counted : new ≡ after old new.starved
  pub listed : IsTrue (is_due old) → IsErr result
  pub fails : OnErr result (IsTrue (is_due old) ⊎ IsTrue new.starved)
  pub starved : IsTrue old.starved → IsTrue new.starved
