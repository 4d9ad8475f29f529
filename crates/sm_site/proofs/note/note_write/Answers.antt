use Rattle.std.proofs.Common.{rules, ◌≡◌, ◌++◌, ◌∷◌, [], length, take, drop}
use Rattle.sm_site.specs.declared.step.Pending.{Pending}
use Rattle.sm_site.specs.declared.step.Step.TheVariants.{Wrote}
use Rattle.sm_site.specs.Image.{bytes_of}
use Rattle.sm_site.specs.Past.{image_of}
use Rattle.sm_site.proofs.note.note_write.Goals as goal

pub returns-clause-past : goal.returns-clause-past
returns-clause-past c =
    let copied : c.in_ok-own.own.items ≡ c.args.bytes.now = search rules in
    let pushed : c.push-2.new.self.items ≡ c.args.past.now.items ++ Wrote c.args.file c.args.at c.in_ok-own.own c.args.fails c.args.reached ∷ [] = search rules in
    (c.in_ok-own.own, copied, pushed)

pub returns-clause-pending : goal.returns-clause-pending
returns-clause-pending c =
    let p : Pending = c.in_ok-range.range in
    let pushed : c.push.new.self.items ≡ c.args.pending.now.items ++ p ∷ [] = search rules in
    let file : p.file ≡ c.args.file = search rules in
    let at : p.at ≡ c.args.at = search rules in
    let count : p.count ≡ length c.args.bytes.now = search rules in
    let long : p.length ≡ length (bytes_of (image_of c.args.files.now.items) c.args.file) = search rules in
    let old : p.old.items ≡ take (length c.args.bytes.now) (drop c.args.at (bytes_of (image_of c.args.files.now.items) c.args.file)) = search rules in
    (p, pushed, file, at, count, long, old)
