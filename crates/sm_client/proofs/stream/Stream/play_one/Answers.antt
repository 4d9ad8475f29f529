use Rattle.std.proofs.Common.{◌∙◌}
use Rattle.sm_client.proofs.Dials.{left-then}
use Rattle.sm_client.proofs.Streaming.{sought-on, ends-lists}
use Rattle.sm_client.proofs.stream.Stream.play_one.Goals as goal

pub returns-clause-added : goal.returns-clause-added
returns-clause-added g c p h more = sought-on _ c.args.self.now _ _ _ g.C.Dial.log g.C.Dial.store _ _ _ g.T.Tracks.held _ _ _ p c.in_default.ensures.dial.dialed.grows more
    (c.in_default.ensures.sought p c.args.self.now.number h more) c.add_piece.ensures.added

pub returns-in-Some-clause-added : goal.returns-in-Some-clause-added
returns-in-Some-clause-added g c p h more = ends-lists _ _ c.in-Some.ensures.dial.dialed.grows (c.in-Some.ensures.sought p c.args.self.now.number h more) (c.in-Some.ensures.written ∙ h.written)

pub returns-clause-dial : goal.returns-clause-dial
returns-clause-dial g c = left-then g.met.C.Dial.later_then c.in_default.ensures.dial c.add_piece.ensures.dial
