-- The times that the elements `c` of a stream stand for.
use Rattle.std.specs.Prelude.{ℕ, zero, suc, ◌+◌, ◌-◌, ◌*◌, ◌==◌, ◌&&◌, ◌||◌, Bool, true, false, List, []}
use Rattle.std.specs.Prelude.{◌∷◌, ◌++◌, Option, option_map, Some, None, is_some, Result, Ok, Err, nat_lt, nat_le, if◌then◌else◌, unwrap_or}
use Rattle.sm_manin.specs.declared.raw.RawTime.{RawTime}
use Rattle.sm_model.specs.Digits.{number_of}
use Rattle.sm_model.specs.Digits.{wide_number_of}
use Rattle.sm_manin.specs.Values.{wide_in}

-- where it starts: as it says, else where the run before it ended
abbrev pub start_in : ℕ → Option (List ℕ) → Option ℕ
start_in end None = Some end
start_in end (Some text) = wide_number_of text

-- how long it lasts without saying it: up to the start that the next one says
abbrev pub until : ℕ → List RawTime → Option ℕ
until start [] = None
until start (c ∷ cs) = option_map (λ next. next - start) (wide_in c.t)

abbrev pub duration_in : ℕ → Option (List ℕ) → List RawTime → Option ℕ
duration_in start None behind = until start behind
duration_in start (Some text) behind = wide_number_of text

-- how many times it stands for; more than one wants a duration
abbrev pub checked_count : Bool → Option ℕ → Option ℕ
checked_count lasts None = None
checked_count lasts (Some r) = if nat_le 1 r && (nat_le r 262144 && (r == 1 || lasts)) then Some r else None

abbrev pub count_in : Bool → Option (List ℕ) → Option ℕ
count_in lasts None = Some 1
count_in lasts (Some text) = checked_count lasts (number_of text)

abbrev pub fits : ℕ → ℕ → ℕ → ℕ → ℕ → Bool
fits end count start duration r =
    nat_lt 0 duration && (nat_le end start && (nat_lt (start + duration * r) 9223372036854775808 && nat_le (count + r) 262144))

abbrev pub checked_time : ℕ → ℕ → Option ℕ → Option ℕ → Option ℕ → Option (ℕ × ℕ × ℕ)
checked_time end count (Some start) (Some duration) (Some r) = if fits end count start duration r then Some (start, duration, r) else None
checked_time end count None d r = None
checked_time end count (Some start) None r = None
checked_time end count (Some start) (Some d) None = None

abbrev pub is_before : ℕ → Option ℕ → Bool
is_before start None = true
is_before start (Some next) = nat_lt next start

-- A `c` without `d` of which nothing is known: its stream hasn't ended and it is the last one, or the next one's start is
-- misread or lies before its own. Then the next one is at fault.
abbrev pub is_unsettled : Bool → ℕ → Option (List ℕ) → List RawTime → Bool
is_unsettled open' start (Some text) behind = false
is_unsettled open' start None [] = open'
is_unsettled open' start None (c ∷ cs) = is_some c.t && is_before start (wide_in c.t)

abbrev pub unsettled_time : ℕ → Option ℕ → Option ℕ → Option (ℕ × ℕ × ℕ)
unsettled_time end (Some start) (Some r) = if nat_le end start then Some (start, 0, 0) else None
unsettled_time end None r = None
unsettled_time end (Some start) None = None

-- The start, the duration and the count of a `c` behind times that end there; None where it is at fault. One of which nothing
-- is known stands for no time, and the next one may not start before it.
abbrev pub time_in : Bool → ℕ → ℕ → RawTime → List RawTime → Option (ℕ × ℕ × ℕ)
time_in open' end count c behind =
    let start = start_in end c.t in
    let r = count_in (is_some c.d) c.r in
    if is_unsettled open' (unwrap_or start 0) c.d behind then unsettled_time end start r
    else checked_time end count start (duration_in (unwrap_or start 0) c.d behind) r

abbrev pub expand : ℕ → ℕ → ℕ → List (ℕ × ℕ)
expand start duration zero = []
expand start duration (suc r) = (start, duration) ∷ expand (start + duration) duration r

abbrev pub with_times : List (ℕ × ℕ) → Result (List (ℕ × ℕ)) ℕ → Result (List (ℕ × ℕ)) ℕ
with_times times (Ok more) = Ok (times ++ more)
with_times times (Err at) = Err at

abbrev pub or_fault : ℕ → Option (ℕ × ℕ × ℕ) → (ℕ × ℕ × ℕ → Result (List (ℕ × ℕ)) ℕ) → Result (List (ℕ × ℕ)) ℕ
or_fault at None more = Err at
or_fault at (Some x) more = more x

-- the times that these stand for, behind so many that end there; or the place of the first at fault
abbrev pub times_in : Bool → ℕ → ℕ → List RawTime → Result (List (ℕ × ℕ)) ℕ
times_in open' end count [] = Ok []
times_in open' end count (c ∷ cs) =
    or_fault c.at (time_in open' end count c cs) (λ x. with_times (expand x.0 x.1 x.2) (times_in open' (x.0 + x.1 * x.2) (count + x.2) cs))

abbrev pub fault_in : Result (List (ℕ × ℕ)) ℕ → List ℕ
fault_in (Ok times) = []
fault_in (Err at) = at ∷ []

abbrev pub times_or_none : Result (List (ℕ × ℕ)) ℕ → List (ℕ × ℕ)
times_or_none (Ok times) = times
times_or_none (Err at) = []
