use Rattle.std.proofs.Common.{List, ℕ, [], append-nil, le_refl}
use Rattle.sm_export.proofs.Gathered.{all_gathered}
use Rattle.sm_export.proofs.Passing.{passed}
use Rattle.sm_export.proofs.gathering.write_if_full.Goals as goal

pub returns-then-len-lt-FULL : goal.returns-then-len-lt-FULL
returns-then-len-lt-FULL g c =
    let a = g.O.Sink.held c.args.out.now in
    let n = g.O.Sink.faults c.args.out.now in
    let before : List ℕ = c.args.gathered.now.items in
    passed a a n n before before [] _ (all_gathered a _ before (append-nil before)) (le_refl n)
