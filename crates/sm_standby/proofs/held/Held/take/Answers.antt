use Rattle.sm_standby.proofs.Waits.{taken-due, taken-rest, nothing-due}
use Rattle.sm_standby.proofs.held.Held.take.Goals as goal

pub returns-in-Some-clause-due : goal.returns-in-Some-clause-due
returns-in-Some-clause-due c = rw (← c.self.view_is) (taken-due c.args.place c.in-Some.at c.deref.result.now c.self.inside.items.items c.remove.result c.deref.ensures.value c.in-Some.ensures c.remove.ensures.value)

pub returns-in-Some-clause-rest : goal.returns-in-Some-clause-rest
returns-in-Some-clause-rest c = rw (← c.self.view_is) (taken-rest c.args.place c.in-Some.at c.deref.result.now c.self.inside.items.items c.remove.new.self.items c.deref.ensures.value c.in-Some.ensures c.remove.ensures.items)

pub returns-in-None-clause-due : goal.returns-in-None-clause-due
returns-in-None-clause-due c = rw (← c.self.view_is) (nothing-due c.args.place c.deref.result.now c.self.inside.items.items c.deref.ensures.value c.in-None.ensures).0

pub returns-in-None-clause-rest : goal.returns-in-None-clause-rest
returns-in-None-clause-rest c = rw (← c.self.view_is) (nothing-due c.args.place c.deref.result.now c.self.inside.items.items c.deref.ensures.value c.in-None.ensures).1
