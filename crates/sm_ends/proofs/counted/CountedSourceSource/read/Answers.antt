use Rattle.std.proofs.Common.{rules, arith, ◌≡◌, ◌≤◌, ◌-◌, length, take, replicate, ap, ◌∙◌}
use Rattle.std.proofs.lemmas.Grind.{common_steps}
use Rattle.sm_ends.proofs.Copies.{copies_of-front, copies_of-end}
use Rattle.sm_ends.proofs.counted.CountedSourceSource.read.Goals as goal

pub returns-clause-bytes : goal.returns-clause-bytes
returns-clause-bytes c =
    let fits : c.min-count.result ≤ c.args.self.now.left = omega arith in
    let room : length (take c.min-count.result c.args.into.now) ≡ c.min-count.result = grind (arith, common_steps) in
    let filled : c.fill.new.self ≡ replicate c.min-count.result c.args.self.now.byte
    = c.fill.ensures.after (λ y e. search rules) ∙ ap (λ n. replicate n c.args.self.now.byte) room in (
      copies_of-front c.args.self.now.left c.args.self.now.byte c.min-count.result c.fill.new.self _ fits filled,
      λ none some. copies_of-end (c.args.self.now.left - c.min-count.result) c.args.self.now.byte (grind (arith, common_steps)),
    )
