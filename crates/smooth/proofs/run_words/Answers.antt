use Rattle.std.proofs.Common.{◌∙◌, ap, sym, map, string_bytes, String, Global, Vec, Some, List}
use Rattle.std.specs.Option.{option_map}
use Rattle.std.specs.Result.{result_ok}
use Rattle.smooth.proofs.Ending.{ended}
use Rattle.smooth.proofs.run_words.Goals as goal

pub returns-in-Ok-clause-ends : goal.returns-in-Ok-clause-ends
returns-in-Ok-clause-ends g c =
    ended _ _ _ _ _ _ _ _ _ _ _ _ _ _ _ _ _ _
    (ap (λ r. option_map (λ (list : Vec (String Global) Global). map string_bytes list.items) (result_ok r)) c.in-Ok.is ∙ ap (λ (l : List (String Global)). Some (map string_bytes l)) (sym c.deref.ensures.value))
    c.from.ensures c.promised-status.ensures.run
