use Rattle.sm_client.proofs.Rows.{cut_has, cut_falls}
use Rattle.sm_client.proofs.known.Known.forget.Goals as goal

pub invariant_of-self : goal.invariant_of-self
invariant_of-self c = cut_falls _ c.self.inside.starts.items _ c.self.invariant c.truncate.ensures.items

pub returns-then-before-gt0-clause-has : goal.returns-then-before-gt0-clause-has
returns-then-before-gt0-clause-has c k =
    rw (← c.self.view_is) (cut_has c.args.before _ c.self.inside.starts.items c.deref.result.now _ c.if-before-gt0.true c.deref.ensures.value c.self.invariant
    c.place_of-kept.ensures c.truncate.ensures.items k)

pub returns-then-before-gt0-clause-falls : goal.returns-then-before-gt0-clause-falls
returns-then-before-gt0-clause-falls c = cut_falls _ c.self.inside.starts.items _ c.self.invariant c.truncate.ensures.items
