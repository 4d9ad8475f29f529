use Rattle.std.proofs.Common.{◌∙◌, ap, sym, Option, List, ℕ, [], ◌++◌}
use Rattle.std.proofs.lemmas.List.{append-nil}
use Rattle.sm_wire.specs.Wire.{wire}
use Rattle.sm_wire.proofs.plain.finish.Goals as goal

pub returns-in-None : goal.returns-in-None
unfolding wire
returns-in-None c = sym (append-nil c.args.out.now.items) ∙ ap (λ (o : Option (List ℕ)). c.args.out.now.items ++ wire o []) (sym c.in-None.is)
