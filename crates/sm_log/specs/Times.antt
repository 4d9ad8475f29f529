-- The times of one stream, and what they say of a further one. A time is a pair of its start and its duration, in ticks.
use Rattle.std.specs.Prelude.{◌≤◌, ◌<◌, ◌^◌, ◌+◌, ◌==◌, ◌&&◌, ℕ, Bool, nat_lt, List, [], ◌∷◌, Option, Some, None, if◌then◌else◌}
use Rattle.std.specs.List.{AllByRecursion}
use Rattle.sm_log.specs.declared.verdict.Decision.{Decision}
use Rattle.sm_log.specs.declared.verdict.Decision.TheVariants.{New, There, Clash, Overlap}

-- what stands at that start
abbrev pub entry_at : ℕ → List (ℕ × ℕ) → Option ℕ
entry_at start [] = None
entry_at start (x ∷ xs) = if x.0 == start then Some x.1 else entry_at start xs

-- an entry more, in order of the starts; one that stands there stays
abbrev pub with_entry : ℕ → ℕ → List (ℕ × ℕ) → List (ℕ × ℕ)
with_entry start value [] = (start, value) ∷ []
with_entry start value (x ∷ xs) =
    if nat_lt start x.0 then (start, value) ∷ x ∷ xs
    else if x.0 == start then x ∷ xs
    else x ∷ with_entry start value xs

-- each start is below those behind it
abbrev pub AreSorted : List (ℕ × ℕ) → Type 0
AreSorted [] = Unit {0}
AreSorted (x ∷ xs) = AllByRecursion (λ y. x.0 < y.0) xs × AreSorted xs

-- where a time ends
abbrev pub ends : ℕ × ℕ → ℕ
ends x = x.0 + x.1

-- a duration of at least 1, and an end below 2^63
abbrev pub IsSpan : ℕ × ℕ → Type 0
IsSpan x = (0 < x.1) × (x.0 + x.1 < 2 ^ 63)

-- each time is a span, and ends before those behind it start
abbrev pub AreTimes : List (ℕ × ℕ) → Type 0
AreTimes [] = Unit {0}
AreTimes (x ∷ xs) = IsSpan x × AllByRecursion (λ y. x.0 + x.1 ≤ y.0) xs × AreTimes xs

-- each starts before the other's end
abbrev pub do_overlap : ℕ × ℕ → ℕ × ℕ → Bool
do_overlap a b = nat_lt a.0 (b.0 + b.1) && nat_lt b.0 (a.0 + a.1)

-- the end of the first time that overlaps the span
abbrev pub overlapped_end : ℕ × ℕ → List (ℕ × ℕ) → Option ℕ
overlapped_end span [] = None
overlapped_end span (x ∷ xs) = if do_overlap x span then Some (x.0 + x.1) else overlapped_end span xs

abbrev pub free_or : Option ℕ → Decision
free_or None = New
free_or (Some end) = Overlap end

abbrev pub decided : ℕ → Option ℕ → Option ℕ → Decision
decided duration (Some kept) overlapped = if kept == duration then There else Clash kept
decided duration None overlapped = free_or overlapped

-- the first that holds: another duration stands at that start, this one does, no time overlaps, the first that does
abbrev pub decision : List (ℕ × ℕ) → ℕ → ℕ → Decision
decision times start duration =
    decided duration (entry_at start times) (overlapped_end (start, duration) times)
