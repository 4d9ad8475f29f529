-- How a run of the program ends.
use Rattle.std.proofs.Common.{◌≡◌, ℕ, List, Option, Some, sym, subst}
use Rattle.sm_client.specs.Turns.{Meaning}
use Rattle.sm_site.specs.Meanings.{Seen}
use Rattle.sm_tool.specs.Edges.{Dialing}
use Rattle.sm_tool.specs.Ran.{Around}
use Rattle.sm_run.specs.Runs.{EndsAs, Runs}
use Rattle.sm_run.specs.Staff.{Staff}
use Rattle.sm_ends.specs.Ended.{End}

pub ended : {D C P : Type 0} (site : Seen D) (t : Dialing C) (m : Meaning P) (policies : List P)
    (words : Option (List (List ℕ))) (list : List (List ℕ)) (old new : Around) (out out' : End) (d d' : D) (c c' : C) (staff staff' : Staff) (status status' : ℕ)
    → words ≡ Some list → status' ≡ status → Runs site t m policies list old new out out' d d' c c' staff staff' status
    → EndsAs site t m policies words old new out out' d d' c c' staff staff' status'
ended site t m policies words list old new out out' d d' c c' staff staff' status status' is same run =
    subst (λ w. EndsAs site t m policies w old new out out' d d' c c' staff staff' status') (sym is)
    (subst (λ s. Runs site t m policies list old new out out' d d' c c' staff staff' s) (sym same) run)
