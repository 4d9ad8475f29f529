use Rattle.std.proofs.Common.{◌≡◌, ◌+◌, take}
use Rattle.sm_players.specs.Ends.{ends_of}
use Rattle.sm_players.specs.Starting.{count_of}
use Rattle.sm_players.proofs.joined.count.Given as goal

abbrev pub invariant-loop-end : goal.invariant-loop-end
invariant-loop-end g l = record {
  all : l.finished.done + l.finished.faulted + l.finished.starved ≡ l.end-index;
  counted : l.finished ≡ count_of (ends_of g.W.Link.seen.view g.F.Forward.asked (take l.end-index l.ends));
}
