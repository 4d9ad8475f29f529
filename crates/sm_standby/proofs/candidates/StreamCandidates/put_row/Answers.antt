use Rattle.std.proofs.Common.{◌++◌, ap, sym, ◌∙◌, append-nil}
use Rattle.sm_standby.specs.Candidates.{addresses_at}
use Rattle.sm_standby.proofs.Waits.{row-none}
use Rattle.sm_standby.proofs.candidates.StreamCandidates.put_row.Goals as goal

pub returns-in-None : goal.returns-in-None
returns-in-None c =
    rw (← c.self.view_is)
    (sym (ap (λ o. c.args.addresses.now.items ++ addresses_at c.args.channel.now c.self.inside.name o) (row-none c.deref.result.now c.self.inside.times.items c.args.place c.deref.ensures.value c.in-None.ensures.lookup.0)
    ∙ append-nil c.args.addresses.now.items))
