use Rattle.sm_world.proofs.Trio.{played_all}
use Rattle.sm_world.proofs.clients.play_all.Goals as goal

pub returns : goal.returns
returns g c = played_all _ c.args.size c.args.first c.args.second c.args.third c.args.dial.now c.play_first.new.dial c.client.new.dial c.client-2.new.dial
    c.in_ok-first.first c.in_ok-second.second c.in_ok-third.third c.in_ok-first.ensures c.in_ok-second.ensures.played c.in_ok-second.ensures.entries
    c.in_ok-third.ensures.played c.in_ok-third.ensures.entries
