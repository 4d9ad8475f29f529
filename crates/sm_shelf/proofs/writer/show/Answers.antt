use Rattle.std.proofs.Common.{drop, sym, subst}
use Rattle.sm_log.specs.Digests.{Digest, Extends}
use Rattle.sm_shelf.proofs.Grows.{extends_applied}
use Rattle.sm_shelf.proofs.Steps.{turns}
use Rattle.sm_shelf.proofs.writer.show.Goals as goal

pub publish_as-core-requires : goal.publish_as-core-requires
publish_as-core-requires g c next is =
    let now = c.args.core.desk.shown.value in
    turns _ _ now next (subst (λ (z : Digest). Extends z now) (sym is) (extends_applied (drop c.args.core.behind c.args.core.log.items) now))
