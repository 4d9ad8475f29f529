use Rattle.std.proofs.Common.{IsTrue, List, drop, sym, subst}
use Rattle.sm_site.specs.declared.event.Event.{Event}
use Rattle.sm_site.specs.Past.{numbers_of}
use Rattle.sm_site.specs.Scripts.{is_script, deals_of, numbers_after}
use Rattle.sm_site.proofs.Given.{script_extended}
use Rattle.sm_site.proofs.memory_crash.MemorySiteCrashing.extend.Goals as goal

pub invariant_of-self-clause-scripted : goal.invariant_of-self-clause-scripted
invariant_of-self-clause-scripted c =
    let self = c.args.self.now in
    let n = numbers_of self.past.items in
    let behind : IsTrue (is_script (numbers_after n (deals_of (drop self.taken self.script.items))) c.into_vec.result.items) =
    subst (λ (l : List Event). IsTrue (is_script (numbers_after n (deals_of (drop self.taken self.script.items))) l)) (sym c.into_vec.ensures) c.requires.script in
    script_extended c.add_events.result n self.taken self.script.items c.add_events.new.script.items c.into_vec.result.items c.add_events.ensures.added c.add_events.ensures.refused self.within self.scripted behind
