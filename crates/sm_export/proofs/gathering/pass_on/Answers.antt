use Rattle.std.proofs.Common.{List, ℕ, ◌++◌, sym, le_refl}
use Rattle.sm_export.proofs.Gathered.{all_gathered, front_of_more}
use Rattle.sm_export.proofs.Passing.{passed, no_room}
use Rattle.sm_export.proofs.gathering.pass_on.Goals as goal

pub returns-in-Ok : goal.returns-in-Ok
returns-in-Ok g c =
    let a = g.O.Sink.held c.args.out.now in
    let n = g.O.Sink.faults c.args.out.now in
    let before : List ℕ = c.args.gathered.now.items in
    passed a a n n before c.extend_from_slice.new.self.items c.args.bytes.now _ (all_gathered a (before ++ c.args.bytes.now) c.extend_from_slice.new.self.items (sym c.in-Ok.ensures.items)) (le_refl n)

pub returns-in-Err : goal.returns-in-Err
returns-in-Err g c =
    let a = g.O.Sink.held c.args.out.now in
    let n = g.O.Sink.faults c.args.out.now in
    let before : List ℕ = c.args.gathered.now.items in
    let after : List ℕ = c.extend_from_slice.new.self.items in
    no_room a a n n before after c.args.bytes.now (front_of_more a a before c.args.bytes.now after (all_gathered a before after (sym c.in-Err.ensures.items))) (le_refl n)
