use Rattle.std.proofs.Common.{◌≡◌, ◌++◌, ◌∷◌, [], ◌∙◌, ap, sym, subst, take, List, append_assoc, ℕ, ◌+◌}
use Rattle.std.specs.List.{flat_map, All}
use Rattle.std.proofs.lemmas.List.Elements.{All-push}
use Rattle.sm_model.specs.declared.sample.Sample.{Sample}
use Rattle.sm_model.specs.Fragments.{IsNarrow}
use Rattle.sm_record.specs.Texts.{row_text}
use Rattle.sm_record.proofs.PutLaws.{one_more, texts_push}
use Rattle.sm_record.proofs.put.append_rows.Goals as goal

pub loop-sample-preserved : goal.loop-sample-preserved
loop-sample-preserved c =
    let xs = c.args.samples.now in
    let i = c.loop-sample.sample-index in
    let x = c.sample-item.result in
    let more : take (i + 1) xs ≡ take i xs ++ x ∷ [] = one_more xs i x c.loop-sample-test.true c.sample-item.is in (
      c.in_ok-append_row.ensures.text ∙ ap (λ (l : List ℕ). l ++ row_text x) c.loop-sample.invariant.0 ∙ append_assoc c.args.out.now.items (flat_map row_text (take i xs)) (row_text x) ∙ ap
          (λ (l : List ℕ). c.args.out.now.items ++ l) (sym (texts_push row_text (take i xs) x)) ∙ ap (λ (l : List Sample). c.args.out.now.items ++ flat_map row_text l) (sym more),
      subst (λ (l : List Sample). All IsNarrow l) (sym more) (All-push IsNarrow (take i xs) x c.loop-sample.invariant.1 c.in_ok-append_row.ensures.narrow),
    )
