use Rattle.std.proofs.Common.{◌∙◌, ℕ, sym, ap, subst}
use Rattle.sm_shelf.specs.Laying.{op_at}
use Rattle.sm_shelf.specs.Shelf.{IsOf, height_of}
use Rattle.sm_shelf.proofs.Fronts.{entry_of}
use Rattle.sm_shelf.proofs.writer.ShelfWriter.put.Goals as goal

pub returns-clause-log : goal.returns-clause-log
returns-clause-log g c log sound belongs at =
    let here = entry_of log (height_of c.args.self.now.published) c.args.entry.now sound at in
    c.lay.ensures.log log sound belongs
    (subst (IsOf log) (sym (c.in_ok-what.ensures.op ∙ ap (λ (n : ℕ). op_at n c.args.entry.now) c.height.ensures)) here)
