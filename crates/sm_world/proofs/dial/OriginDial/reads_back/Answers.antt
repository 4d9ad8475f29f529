use Rattle.std.proofs.Common.{◌≡◌, Bool, subst}
use Rattle.std.specs.Prelude.{IfOk, IsTrue}
use Rattle.sm_world.specs.Encoders.{log_of}
use Rattle.sm_world.specs.Worlds.{World, IsClosed}
use Rattle.sm_world.proofs.dial.OriginDial.reads_back.Goals as goal

pub returns-clause-kept : goal.returns-clause-kept
returns-clause-kept g c =
    subst (λ (v : _). IfOk c.read_all.result (λ (same : Bool). IsTrue same → (w : World) → IsClosed g.S.Disk.seen w v.0 → w.log ≡ log_of c.args.rounds))
    c.self.view_is c.read_all.ensures.kept
