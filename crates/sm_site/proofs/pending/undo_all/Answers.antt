use Rattle.std.proofs.Common.{rules, ◌≡◌, ◌++◌, ◌∷◌, [], List, ap, sym, ◌∙◌}
use Rattle.sm_site.specs.declared.step.Pending.{Pending}
use Rattle.sm_site.specs.Image.{bytes_of}
use Rattle.sm_site.specs.Past.{image_of, undone}
use Rattle.sm_site.proofs.Kept.{undone_step}
use Rattle.sm_site.proofs.pending.undo_all.Goals as goal

pub loop-range-preserved : goal.loop-range-preserved
loop-range-preserved c = λ file.
    let popped : c.loop-range.pending.items ≡ c.pop.new.self.items ++ c.in-Some.range ∷ [] = search rules in
    undone_step c.pop.new.self.items c.in-Some.range file (image_of c.loop-range.files.items) (image_of c.undo_bytes.new.files.items) c.undo_bytes.ensures.file c.undo_bytes.ensures.others
    ∙ ap (λ (l : List Pending). undone file l (bytes_of (image_of c.loop-range.files.items) file)) (sym popped) ∙ c.loop-range.invariant file
