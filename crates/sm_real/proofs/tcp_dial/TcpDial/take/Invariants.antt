use Rattle.std.proofs.Common.{◌≤◌, vec_len}
use Rattle.sm_real.proofs.tcp_dial.TcpDial.take.Given as goal

abbrev pub invariant-reading : goal.invariant-reading
invariant-reading g l = vec_len l.taken ≤ l.limit
