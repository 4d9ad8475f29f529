use Rattle.std.proofs.Common.{◌≡◌, arith, ◌∙◌}
use Rattle.std.proofs.lemmas.List.{get_or_default}
use Rattle.sm_client.specs.Starts.{place_in}
use Rattle.sm_client.proofs.Rows.{has_at, absent_at, place_within}
use Rattle.sm_client.proofs.known.find.Goals as goal
use Rattle.sm_client.proofs.known.find.Goals.{else-place-starts-via-then-place-starts+else-starts-place, else-place-starts-via-else-place-starts}

pub returns-then-starts-place-clause-found : goal.returns-then-starts-place-clause-found
returns-then-starts-place-clause-found c _ = has_at c.args.start c.args.starts.now c.place_of-place.result 0 c.if-place-starts.true c.if-starts-place.true

pub returns-else-place-starts-clause-absent : goal.returns-else-place-starts-clause-absent
returns-else-place-starts-clause-absent c =
    let xs = c.args.starts.now in
    let start = c.args.start in
    let at : c.place_of-place.result ≡ place_in start xs = c.place_of-place.ensures in (
      at,
      omega (arith, place_within start xs, at),
      absent_at start xs c.requires
          (elim c.else-place-starts.branch [
            | else-place-starts-via-then-place-starts+else-starts-place w ↦ λ d h e. w.if-starts-place.false (rw at (get_or_default xs (place_in start xs) 0 d h ∙ e))
            | else-place-starts-via-else-place-starts w ↦ λ d h e. absurd (omega (arith, w.if-place-starts.false, at, h))
          ]),
    )
