use Rattle.std.proofs.Common.{◌≡◌, ◌∙◌, None, Some, sym}
use Rattle.sm_relay.proofs.Whole.{relayed_done, relayed_out, relayed_none}
use Rattle.sm_relay.proofs.call.relay_all.Goals as goal

pub channel_of-requires : goal.channel_of-requires
channel_of-requires g c = let r = c.requires.stands in (r.2.bodies, r.2.body, r.0, None, r.1, r.2.keeps, r.3)

pub returns-in-Ok-pull_rounds-clause-relayed : goal.returns-in-Ok-pull_rounds-clause-relayed
returns-in-Ok-pull_rounds-clause-relayed g c = λ log channel s is.
    let same : Some c.in-Ok.channel ≡ Some channel = sym (c.in-Ok.ensures.same s.bodies s.body log None s.keeps) ∙ is in
    relayed_done c.as_slice.result.now channel (c.as_slice.ensures ∙ cc) (c.in-Ok-pull_rounds.ensures.ok log s)

pub returns-in-Ok-clause-relayed : goal.returns-in-Ok-clause-relayed
returns-in-Ok-clause-relayed g c = λ log channel s is.
    let same : Some c.in-Ok.channel ≡ Some channel = sym (c.in-Ok.ensures.same s.bodies s.body log None s.keeps) ∙ is in
    relayed_out c.as_slice.result.now channel c.in-Err-pull_rounds.stop c.from.result (c.as_slice.ensures ∙ cc) c.from.ensures (c.in-Err-pull_rounds.ensures.err log s)

pub returns-clause-relayed : goal.returns-clause-relayed
returns-clause-relayed g c = λ log channel s is. relayed_none channel g.met.D.Disk.no_later g.met.C.Dial.later_same c.args.disk.now c.args.dial.now c.args.archive.now log c.requires.rounds s
