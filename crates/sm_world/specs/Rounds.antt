-- What is drawn for the rounds of a rehearsal.
use Rattle.std.specs.Prelude.{ℕ, zero, suc, ◌+◌, ◌*◌, ◌/◌, ◌%◌, ◌^◌, ◌==◌, Bool, true, false, if◌then◌else◌}
use Rattle.sm_world.specs.declared.kind.Kind.{Kind}
use Rattle.sm_world.specs.declared.kind.Kind.TheVariants.{Known, Clash, Overlap, Crash, Same, Alone}

-- ---- draws

-- the state behind a draw, by the state before it
abbrev pub stirred : ℕ → ℕ
stirred x = (x * 1103515245 + 12345) % 2 ^ 31

-- what is drawn, by the state behind
abbrev pub drawn : ℕ → ℕ
drawn x = x / 65536

-- ---- rounds

abbrev pub kind_of : ℕ → Kind
kind_of d = if d == 0 then Known else if d == 1 then Clash else if d == 2 then Overlap else if d == 3 then Crash else if d == 4 then Same else Alone

-- what else happens in a round, by the state before it
abbrev pub kind_by : ℕ → Kind
kind_by x = kind_of (drawn (stirred x) % 8)

abbrev pub state_by : ℕ → ℕ
state_by x = stirred x

-- for a crash one number more is drawn
abbrev pub behind : Kind → ℕ → ℕ
behind Known x = x
behind Clash x = x
behind Overlap x = x
behind Crash x = stirred x
behind Same x = x
behind Alone x = x

-- the state before the round of this number, from 0
abbrev pub state_at : ℕ → ℕ → ℕ
state_at zero x = x
state_at (suc i) x = behind (kind_by (state_at i x)) (state_by (state_at i x))

-- what else happens in it
abbrev pub kind_at : ℕ → ℕ → Kind
kind_at i x = kind_by (state_at i x)

-- ---- how many of the first rounds

abbrev pub is_refused : Kind → Bool
is_refused Known = false
is_refused Clash = true
is_refused Overlap = true
is_refused Crash = false
is_refused Same = false
is_refused Alone = false

abbrev pub is_crash : Kind → Bool
is_crash Known = false
is_crash Clash = false
is_crash Overlap = false
is_crash Crash = true
is_crash Same = false
is_crash Alone = false

-- those in which a push is refused
abbrev pub refusals : ℕ → ℕ → ℕ
refusals zero x = 0
refusals (suc i) x = if is_refused (kind_at i x) then refusals i x + 1 else refusals i x

-- those in which the site crashes
abbrev pub crashes : ℕ → ℕ → ℕ
crashes zero x = 0
crashes (suc i) x = if is_crash (kind_at i x) then crashes i x + 1 else crashes i x
