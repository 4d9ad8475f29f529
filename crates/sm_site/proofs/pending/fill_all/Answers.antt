use Rattle.std.proofs.Common.{rules, ◌≡◌, ◌++◌, ◌∷◌, [], List, ap, sym, ◌∙◌}
use Rattle.sm_site.specs.declared.step.Pending.{Pending}
use Rattle.sm_site.specs.Image.{bytes_of}
use Rattle.sm_site.specs.Past.{Range, image_of, filled, ranges_from}
use Rattle.sm_site.proofs.Kept.{filled_step, ranges_push}
use Rattle.sm_site.proofs.pending.fill_all.Goals as goal

pub loop-range-preserved : goal.loop-range-preserved
loop-range-preserved c = λ file.
    let p : Pending = c.in-Some.range in
    let r : Range = record { file = p.file; at = p.at; n = p.count } in
    let popped : c.loop-range.pending.items ≡ c.pop.new.self.items ++ p ∷ [] = search rules in
    let ranges : ranges_from [] c.loop-range.pending.items ≡ r ∷ ranges_from [] c.pop.new.self.items = ap (λ (l : List Pending). ranges_from [] l) popped ∙ ranges_push [] c.pop.new.self.items p in
    filled_step c.args.byte (ranges_from [] c.pop.new.self.items) r (image_of c.loop-range.files.items) (image_of c.fill_bytes.new.files.items) c.fill_bytes.ensures.file c.fill_bytes.ensures.others file
    ∙ ap (λ (rs : List Range). bytes_of (filled c.args.byte (image_of c.loop-range.files.items) rs) file) (sym ranges) ∙ c.loop-range.invariant file
