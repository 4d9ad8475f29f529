use Rattle.sm_world.proofs.Trio.{played_first}
use Rattle.sm_world.proofs.clients.play_first.Goals as goal

pub returns : goal.returns
returns g c = played_first _ c.args.size c.args.policy c.args.dial.now c.client.new.dial c.crash_by.new.self c.reads_back.new.self c.in_ok-client.client
    c.in_ok-client.ensures.played c.in_ok-client.ensures.entries c.crash_by.ensures.crashes c.crash_by.ensures.crash c.in_ok-reads_back.ensures.dialing c.in_ok-reads_back.ensures.stays
    (c.in_ok-reads_back.ensures.kept c.if-not-branch.false) c.in_ok-reads_back.ensures.disk_alone.no_fewer c.in_ok-reads_back.ensures.disk_alone.link
