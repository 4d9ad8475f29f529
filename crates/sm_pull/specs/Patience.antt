-- An origin that answers whatever it is asked.
use Rattle.std.specs.Prelude.{List}
use Rattle.std.specs.List.{AllByRecursion}
use Rattle.sm_fetch.specs.declared.dial.Exchange.{Exchange}
use Rattle.sm_client.specs.Served.{IsWhole, IsUnrefused}

-- each answer is a whole reply that is no 500 and no 503
abbrev pub IsPatient : List Exchange → Type 0
IsPatient xs = AllByRecursion (λ x. IsWhole x.answer × IsUnrefused x.answer) xs
