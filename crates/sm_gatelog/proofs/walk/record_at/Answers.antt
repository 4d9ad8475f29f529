use Rattle.std.proofs.Common.{rules, arith, ◌≡◌, ℕ, ◌≤◌, ◌-◌, List, length, length-drop, drop, IfSome}
use Rattle.sm_site.specs.Image.{bytes_of}
use Rattle.sm_site.specs.Clauses.{read}
use Rattle.sm_gatelog.specs.Logs.{Begins}
use Rattle.sm_gatelog.specs.declared.walk.Found.TheVariants as found
use Rattle.sm_gatelog.proofs.FreshOutcomes.{some_both}
use Rattle.sm_gatelog.proofs.Walks.{begins_closed, begins_short, begins_zero, begins_cut, begins_open}
use Rattle.sm_gatelog.proofs.walk.record_at.Goals as goal
use Rattle.sm_gatelog.proofs.walk.record_at.Goals.{then-size-at-lt5-via-then-size-at-lt5, then-size-at-lt5-via-else-size-at-lt5+then-length-eq0, then-size-at-lt5-via-else-size-at-lt5+else-length-eq0+then-size-at}

pub returns-then-front-eq0-clause-found : goal.returns-then-front-eq0-clause-found
returns-then-front-eq0-clause-found g c =
    let bytes : IfSome (g.D.Disk.seen.view c.args.disk.now).contents (λ x. c.in_ok-front.front ≡ read (bytes_of x c.args.file) c.args.at 5) = search rules in
    some_both _ (λ x. c.in_ok-front.front ≡ read (bytes_of x c.args.file) c.args.at 5) (λ x. c.args.size ≡ length (bytes_of x c.args.file)) (λ x. Begins found.Closed (drop c.args.at (bytes_of x c.args.file)))
    (λ x is long. begins_closed (drop c.args.at (bytes_of x c.args.file)) c.in_ok-front.front is (omega (arith, length-drop c.args.at (bytes_of x c.args.file))) c.if-front-eq0.true) bytes c.requires.size

pub returns-then-size-at-lt5-clause-found : goal.returns-then-size-at-lt5-clause-found
returns-then-size-at-lt5-clause-found g c =
    let bytes : IfSome (g.D.Disk.seen.view c.args.disk.now).contents (λ x. c.in_ok-front.front ≡ read (bytes_of x c.args.file) c.args.at 5) = search rules in
    some_both _ (λ x. c.in_ok-front.front ≡ read (bytes_of x c.args.file) c.args.at 5) (λ x. c.args.size ≡ length (bytes_of x c.args.file)) (λ x. Begins found.Bad (drop c.args.at (bytes_of x c.args.file)))
    (λ x is long.
    let rest : List ℕ = drop c.args.at (bytes_of x c.args.file) in
    let left : length rest ≡ length (bytes_of x c.args.file) - c.args.at = length-drop c.args.at (bytes_of x c.args.file) in
    let some : 1 ≤ length rest = omega arith in
    elim c.then-size-at-lt5.branch [
      | then-size-at-lt5-via-then-size-at-lt5 w ↦ begins_short rest c.in_ok-front.front is some c.if-front-eq0.false (omega arith)
      | then-size-at-lt5-via-else-size-at-lt5+then-length-eq0 w ↦ begins_zero rest c.in_ok-front.front is some c.if-front-eq0.false (omega arith) (search rules)
      | then-size-at-lt5-via-else-size-at-lt5+else-length-eq0+then-size-at w ↦ begins_cut rest c.in_ok-front.front is some c.if-front-eq0.false (omega arith) (omega (arith, c.length_in-length.ensures.number))
    ]) bytes c.requires.size

pub returns-clause-found : goal.returns-clause-found
returns-clause-found g c =
    let bytes : IfSome (g.D.Disk.seen.view c.args.disk.now).contents (λ x. c.in_ok-front.front ≡ read (bytes_of x c.args.file) c.args.at 5) = search rules in
    some_both _ (λ x. c.in_ok-front.front ≡ read (bytes_of x c.args.file) c.args.at 5) (λ x. c.args.size ≡ length (bytes_of x c.args.file))
    (λ x. Begins (found.Open c.length_in-length.result) (drop c.args.at (bytes_of x c.args.file)))
    (λ x is long.
    let rest : List ℕ = drop c.args.at (bytes_of x c.args.file) in
    let left : length rest ≡ length (bytes_of x c.args.file) - c.args.at = length-drop c.args.at (bytes_of x c.args.file) in
    begins_open rest c.in_ok-front.front is (omega arith) c.length_in-length.result c.if-front-eq0.false c.length_in-length.ensures.text (omega (arith, c.if-length-eq0.false)) (search rules) (omega arith)) bytes c.requires.size
