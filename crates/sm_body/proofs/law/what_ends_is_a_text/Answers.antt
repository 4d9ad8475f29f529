use Rattle.std.proofs.Common.{◌∙◌}
use Rattle.sm_body.specs.declared.place.Place.TheVariants.{Digits}
use Rattle.sm_body.proofs.ReadLaw.{end_is_text, cut_anywhere, failed_is_none}
use Rattle.sm_body.proofs.law.what_ends_is_a_text.Goals as goal

pub returns : goal.returns
returns c = record {
  text = end_is_text;
  cut = λ passed handed ends. let run = cut_anywhere (Digits 0 0) passed handed ends in let t = end_is_text passed run.0 in (t.0, t.1, t.2, run.1 ∙ t.3);
  refused = failed_is_none;
}
