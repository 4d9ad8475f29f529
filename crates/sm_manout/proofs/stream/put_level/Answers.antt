use Rattle.std.proofs.lemmas.Result.{IfOk-equal}
use Rattle.sm_manout.specs.ManifestText.{level_line}
use Rattle.sm_manout.proofs.Joined.{seven}
use Rattle.sm_manout.proofs.stream.put_level.Goals as goal

pub returns : goal.returns
unfolding level_line
returns c =
    IfOk-equal c.put-2.result _ _ _ c.put-2.ensures
    (rw (
      c.in_ok-put_numbers.ensures,
      c.in_ok-put_attribute.ensures,
      c.in_ok-put_text.ensures,
      c.in_ok-put_number-2.ensures,
      c.in_ok-put_number.ensures,
      c.in_ok-put.ensures,
      c.as_bytes.ensures.value,
      c.in_ok-private.ensures,
      c.as_slice.ensures,
      c.as_slice-2.ensures,
    ) (seven c.args.out.now.items _ _ _ _ _ _ _))
