use Rattle.std.proofs.Common.{◌≡◌, ◌++◌, take}
use Rattle.std.specs.List.{flat_map, All}
use Rattle.sm_model.specs.Fragments.{IsNarrow}
use Rattle.sm_record.specs.Texts.{row_text}
use Rattle.sm_record.proofs.put.append_rows.Given as goal

abbrev pub invariant-loop-sample : goal.invariant-loop-sample
invariant-loop-sample l = (l.out.items ≡ l.initial.out.items ++ flat_map row_text (take l.sample-index l.samples)) × All IsNarrow (take l.sample-index l.samples)
