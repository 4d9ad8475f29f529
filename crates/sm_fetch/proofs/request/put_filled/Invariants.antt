use Rattle.std.proofs.Common.{◌≡◌, ◌++◌, drop}
use Rattle.sm_fetch.specs.Patterns.{filled_behind, filled}
use Rattle.sm_fetch.proofs.request.put_filled.Given as goal

abbrev pub invariant-loop-i : goal.invariant-loop-i
invariant-loop-i l =
    l.out.items ++ filled_behind l.skip l.address.bitrate l.address.time (drop l.i l.url)
    ≡ l.initial.out.items ++ filled l.address.bitrate l.address.time l.url
