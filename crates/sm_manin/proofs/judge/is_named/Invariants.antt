use Rattle.std.proofs.Common.{◌≡◌, drop}
use Rattle.std.specs.List.{list_any}
use Rattle.sm_model.specs.Same.{is_same}
use Rattle.sm_manin.specs.ManifestFaults.{name_of}
use Rattle.sm_manin.proofs.judge.is_named.Given as goal

abbrev pub invariant-loop-e : goal.invariant-loop-e
invariant-loop-e l =
    list_any (λ e. is_same (name_of e) l.name) (drop l.e-index l.earlier) ≡ list_any (λ e. is_same (name_of e) l.name) l.earlier
