use Rattle.std.proofs.Common.{◌≡◌, take}
use Rattle.sm_model.proofs.channel.Channel.copy.Given as goal

abbrev pub invariant-loop-track : goal.invariant-loop-track
invariant-loop-track l = l.copies.items ≡ take l.track-index l.track-items
