use Rattle.std.proofs.Common.{rules, ◌≡◌, ◌≤◌, ◌+◌, ◌-◌, ℕ, List, length, take, drop, IfSome}
use Rattle.sm_site.specs.Image.{bytes_of}
use Rattle.sm_site.specs.Clauses.{read}
use Rattle.sm_gatelog.proofs.FreshOutcomes.{some_weaker}
use Rattle.sm_gatelog.proofs.Windows.{five_read}
use Rattle.sm_gatelog.proofs.window.front_at.Goals as goal

pub returns-clause-front : goal.returns-clause-front
returns-clause-front g c =
    let window = c.reach.new.window in
    let bytes : List ℕ = window.bytes.items in
    let at : ℕ = c.args.at in
    let seen : IfSome (g.D.Disk.seen.view c.args.disk.now).contents (λ x. bytes ≡ read (bytes_of x c.args.file) window.start (length bytes)) = search rules in
    let below : window.start ≤ at = search rules in
    let covers : at - window.start + 5 ≤ length bytes = search rules in
    let five : c.five_at.result ≡ take 5 (drop (at - window.start) bytes) = search rules in
    some_weaker _ (λ x. bytes ≡ read (bytes_of x c.args.file) window.start (length bytes)) _ (λ x is. five_read (bytes_of x c.args.file) bytes c.five_at.result window.start at is below covers five) seen
