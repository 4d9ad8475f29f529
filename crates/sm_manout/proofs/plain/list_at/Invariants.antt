use Rattle.std.proofs.Common.{◌≡◌, ℕ, ◌++◌, take, map}
use Rattle.sm_manout.specs.Plain.{address}
use Rattle.sm_manout.proofs.plain.list_at.Given as goal

abbrev pub invariant-loop-bitrate : goal.invariant-loop-bitrate
invariant-loop-bitrate l =
    map address l.out.items ≡ map address l.initial.out.items ++ map (λ (b : ℕ). record { stream = l.opened.stream; bitrate = b; time = l.start }) (take l.bitrate-index l.opened.bitrates)
