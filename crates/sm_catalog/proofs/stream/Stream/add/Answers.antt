use Rattle.std.proofs.Common.{◌≡◌, ◌≤◌, ◌+◌, ◌-◌, ℕ, Bool, true, false, cond, is_some, arith}
use Rattle.sm_log.specs.Times.{IsSpan, entry_at}
use Rattle.sm_log.proofs.Entries.{all_with}
use Rattle.sm_catalog.proofs.stream.Stream.add.Goals as goal

at_most_one_less : (b : Bool) (m n : ℕ) → n ≡ cond b m (m - 1) → m ≤ n + 1
at_most_one_less true m n e = omega arith
at_most_one_less false m n e = omega arith

pub invariant_of-self : goal.invariant_of-self
invariant_of-self c =
    let line = at_most_one_less (is_some (entry_at c.args.time c.self.inside.timeline.times)) c.self.inside.timeline.spare c.add.new.self.spare c.add.ensures.spare in
    let list = at_most_one_less (is_some (entry_at c.args.time c.self.inside.listed.entries)) c.self.inside.listed.room c.put.new.self.room c.put.ensures.room in
    record {
      backed = omega (arith, line, list, c.self.invariant.backed);
      spans = rw c.put.ensures.entries (all_with IsSpan c.args.time c.args.duration _ c.requires.span c.self.invariant.spans);
    }
