use Rattle.std.proofs.Common.{◌++◌, OnOk, subst, sym}
use Rattle.sm_real.specs.Numbers.{SentAmong}
use Rattle.sm_real.specs.declared.peers.Peers.{Peers}
use Rattle.sm_real.proofs.Giving.{sent_among}
use Rattle.sm_real.proofs.sockets.Sockets.send.Goals as goal

pub returns-clause-sent : goal.returns-clause-sent
returns-clause-sent g c =
    subst (λ (peers : Peers). OnOk c.send-sent.result (SentAmong c.args.number (c.args.head.now ++ c.args.tail.now) c.args.self.now.peers.list.items peers.list.items)) (sym c.tell_sent.ensures.peers)
    (sent_among c.send-sent.result c.args.number _ _ _ _ c.send-sent.ensures.sent c.relieve.ensures.gives_up)
